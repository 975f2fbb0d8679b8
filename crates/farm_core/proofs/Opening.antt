-- A farm that is opened stands for the empty run.
use Rattle.std.proofs.Common.{◌≡◌, ℕ, zero, suc, ◌≤◌, max, List, [], ◌∷◌, length, map, take, drop, Option, Some, None, IfSome, refl, sym, ap, subst, ◌∙◌, arith}
use Rattle.wiki_model.specs.History.{Entry}
use Rattle.wiki_model.specs.Positions.{young_commits}
use Rattle.replica_apply.specs.Replica.{IsPrefix}
use Rattle.std.specs.FinMap.{get-empty}
use Rattle.std.specs.Ordering.{nat_cmp}
use Rattle.wiki_model.specs.declared.Region.{Region}
use Rattle.wiki_model.specs.declared.Region.TheVariants.{Home, West}
use Rattle.wiki_model.specs.declared.Readings.{Readings}
use Rattle.wiki_model.specs.Bytes.{Bytes}
use Rattle.wiki_model.specs.Titles.{Title}
use Rattle.wiki_model.specs.Limits.{Bounds, hold_off}
use Rattle.wiki_model.specs.History.{IsHistory, stamp_at}
use Rattle.wiki_model.specs.Cache.{CacheMap, IsCache, IsEmptyCache}
use Rattle.wiki_model.specs.Caches.{CacheStands}
use Rattle.wiki_model.specs.World.{World, Setting, site, moment, cut, request_at}
use Rattle.wiki_model.specs.Positions.{RowsStand}
use Rattle.wiki_model.specs.Consistent.{IsOpened}
use Rattle.wiki_model.specs.Runs.{opening}
use Rattle.wiki_model.proofs.RowsLaws.{opening-rows}
use Rattle.wiki_model.proofs.JobLaws.{empty-stands}
use Rattle.purge_relay.specs.LedgerRow.{receipt_at}
use Rattle.purge_relay.specs.Ledger.{row_at}
use Rattle.region_state.specs.AsModel.{IsPlanOf}
use Rattle.purge_relay.specs.AsModel.{row_message}
use Rattle.farm_steps.specs.RequestMap.{Entries, open_at, AgreeAt}
use Rattle.farm_core.specs.FarmParts.{FarmParts}
use Rattle.region_state.specs.RegionState.{RegionParts, RegionConfig}
use Rattle.farm_core.specs.Agreement.{RegionStands, config_of, receipt_in, last_beat_in}
use Rattle.farm_core.specs.Runs.{Stands}
use Rattle.farm_core.specs.NewFarm.{IsOpenedRegion, OpensCache}

-- the first world

drop-all : (h : List Entry) → drop (length h) h ≡ []
drop-all [] = refl
drop-all (e ∷ h) = drop-all h

opened_site : {S : Type 0} (cache_of : S → CacheMap Bytes) (parts : RegionParts S) (cache : S) (setting : Setting) (history : List Entry) (count : ℕ) (at : Readings) (r : Region) (weights : List ℕ) (epoch read_lag : ℕ)
    → IsHistory history → (let c : RegionConfig = record { weights = weights; epoch = epoch; read_lag = read_lag } in c) ≡ config_of setting r → map (λ weight. 0) weights ≡ (site r (opening setting history count at)).applied
    → moment r (opening setting history count at) ≡ moment r (opening setting history count at) → (site r (opening setting history count at)).events ≡ [] → IsOpenedRegion weights epoch read_lag cache (young_commits (moment Home (opening setting history count at)) history) parts
    → IsEmptyCache (cache_of cache) → IsCache (cache_of cache) → ((a b : Title) → (cache_of cache).together a b ≡ setting.together r a b) → (cache_of cache).hold_off ≡ hold_off setting.bounds
    → RegionStands cache_of parts (opening setting history count at) r
opened_site {S} cache_of parts cache setting history count at r weights epoch read_lag is config applied same events o empty is_cache together held = record {
  config = o.config ∙ config;
  markup = o.markup;
  applied = o.replicas.applied ∙ applied;
  prefixes = λ i kept there. let f = o.replicas.prefixes i kept there in subst (λ (n : ℕ). IsPrefix (take n history) kept) (sym f.applied) f;
  positions = subst (RowsStand (opening setting history count at) r) (sym o.rows) (opening-rows setting history count at r is);
  there = ap (Rattle.std.specs.Prelude.is_some) o.cache_is;
  cache = subst (λ (x : Option S). IfSome x (λ c. CacheStands (opening setting history count at) r (cache_of c))) (sym o.cache_is) (empty-stands (opening setting history count at) r (cache_of cache) empty is_cache together held events);
}

pub opened_stands : {K S : Type 0} (content : K → Option (List Entry)) (faults : K → ℕ) (cache_of : S → CacheMap Bytes) (farm : FarmParts K S) (home west : S) (setting : Setting) (history : List Entry) (count : ℕ) (at : Readings)
    → IsOpened setting history → IsPlanOf setting farm.plan → content farm.keeper ≡ Some history → count ≤ faults farm.keeper → farm.ledger.rows ≡ [] → farm.requests ≡ [] → farm.last_beat ≡ None
    → farm.moments ≡ (let m : Readings = record { home = max (cut at.home) (stamp_at history (length history)); west = cut at.west } in m)
    → IsOpenedRegion farm.plan.home.weights farm.plan.epoch farm.plan.bounds.read_lag home (young_commits farm.moments.home history) farm.home → IsOpenedRegion farm.plan.west.weights farm.plan.epoch farm.plan.bounds.read_lag west (young_commits farm.moments.home history) farm.west
    → OpensCache cache_of setting Home home → OpensCache cache_of setting West west
    → Stands content faults cache_of farm (opening setting history count at) [] (opening setting history (faults farm.keeper) at)
opened_stands {K} {S} content faults cache_of farm home west setting history count at opened plan told counted ledger_now requests beat moments home_parts west_parts home_cache west_cache = record {
  opened = (setting, history, count, at, opened, refl);
  run = (refl, counted);
  agrees = record {
    plan = record { home = plan.home; west = plan.west; epoch = plan.epoch; workers = plan.workers; bounds = plan.bounds };
    opened = omega arith;
    history = told;
    counted = omega arith;
    messages = ap (map row_message) ledger_now;
    receipts = receipts;
    requests = λ id. subst (λ (es : Entries). AgreeAt w (open_at es id) (request_at w id)) (sym requests) (subst (λ q. AgreeAt w None q) (sym (get-empty nat_cmp id)) tt);
    home_moment = ap (λ (m : Readings). m.home) moments;
    west_moment = ap (λ (m : Readings). m.west) moments;
    beat = beat ∙ sym (ap (λ h. last_beat_in h None) (drop-all history));
    home = opened_site cache_of farm.home home setting history (faults farm.keeper) at Home farm.plan.home.weights farm.plan.epoch farm.plan.bounds.read_lag opened.entries
        (ap (λ ws. let c : RegionConfig = record { weights = ws; epoch = farm.plan.epoch; read_lag = farm.plan.bounds.read_lag } in c) plan.home ∙ ap (λ n. let c : RegionConfig = record { weights = setting.home_weights; epoch = n; read_lag = farm.plan.bounds.read_lag } in c) plan.epoch
        ∙ ap (λ (b : Bounds). let c : RegionConfig = record { weights = setting.home_weights; epoch = setting.epoch; read_lag = b.read_lag } in c) plan.bounds)
        (ap (map (λ weight. 0)) plan.home) refl refl (subst (λ n. IsOpenedRegion farm.plan.home.weights farm.plan.epoch farm.plan.bounds.read_lag home (young_commits n history) farm.home) (ap (λ (m : Readings). m.home) moments) home_parts)
        home_cache.empty home_cache.is_cache home_cache.together home_cache.held;
    west = opened_site cache_of farm.west west setting history (faults farm.keeper) at West farm.plan.west.weights farm.plan.epoch farm.plan.bounds.read_lag opened.entries
        (ap (λ ws. let c : RegionConfig = record { weights = ws; epoch = farm.plan.epoch; read_lag = farm.plan.bounds.read_lag } in c) plan.west ∙ ap (λ n. let c : RegionConfig = record { weights = setting.west_weights; epoch = n; read_lag = farm.plan.bounds.read_lag } in c) plan.epoch
        ∙ ap (λ (b : Bounds). let c : RegionConfig = record { weights = setting.west_weights; epoch = setting.epoch; read_lag = b.read_lag } in c) plan.bounds)
        (ap (map (λ weight. 0)) plan.west) refl refl (subst (λ n. IsOpenedRegion farm.plan.west.weights farm.plan.epoch farm.plan.bounds.read_lag west (young_commits n history) farm.west) (ap (λ (m : Readings). m.home) moments) west_parts)
        west_cache.empty west_cache.is_cache west_cache.together west_cache.held;
  };
}
  where
    w : World
    w = opening setting history (faults farm.keeper) at

    receipts : (r : Region) (n : ℕ) → receipt_at r (row_at farm.ledger.rows n) ≡ receipt_in (site r (opening setting history (faults farm.keeper) at)).events n
    receipts r n = ap (λ rows. receipt_at r (row_at rows n)) ledger_now ∙ none r n
      where
        none : (r : Region) (n : ℕ) → receipt_at r (row_at [] n) ≡ receipt_in (site r (opening setting history (faults farm.keeper) at)).events n
        none Home zero = refl
        none Home (suc n) = refl
        none West zero = refl
        none West (suc n) = refl
