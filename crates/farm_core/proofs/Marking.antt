-- Setting the markup goes on with every run.
use Rattle.std.proofs.Common.{◌≡◌, ℕ, ◌≤◌, List, [], Option, None, refl, sym, ◌∙◌, arith, append-nil}
use Rattle.wiki_model.specs.declared.Region.{Region}
use Rattle.wiki_model.specs.declared.Region.TheVariants.{Home, West}
use Rattle.wiki_model.specs.Bytes.{Bytes}
use Rattle.wiki_model.specs.History.{Entry}
use Rattle.wiki_model.specs.Cache.{CacheMap}
use Rattle.wiki_model.specs.World.{World, site, moment, request_at}
use Rattle.wiki_model.specs.Steps.{Step}
use Rattle.wiki_model.specs.Runs.{One, with_faults}
use Rattle.wiki_model.specs.Caches.{CacheStands}
use Rattle.wiki_model.proofs.FrameLaws.{stands-grown, if_map}
use Rattle.purge_relay.specs.LedgerRow.{receipt_at}
use Rattle.purge_relay.specs.Ledger.{row_at}
use Rattle.chronology_store.specs.AsModel.{rows_in}
use Rattle.farm_core.proofs.Standing.{rows_moments}
use Rattle.farm_steps.specs.RequestMap.{open_at}
use Rattle.farm_core.specs.FarmParts.{FarmParts}
use Rattle.region_state.specs.RegionState.{RegionParts}
use Rattle.farm_core.specs.Agreement.{RegionStands, receipt_in}
use Rattle.farm_core.specs.Runs.{GoesFrom}
use Rattle.farm_core.proofs.Following.{Follows, agree-later}

marked_site : {S : Type 0} (cache_of : S → CacheMap Bytes) (parts : RegionParts S) (v : World) (markup n : ℕ) (r : Region) → (moment r v ≤ moment r (with_faults n (record v { markup = markup })))
    → (site r (with_faults n (record v { markup = markup }))).events ≡ (site r v).events → (site r (with_faults n (record v { markup = markup }))).heard ≡ (site r v).heard → (site r (with_faults n (record v { markup = markup }))).applied ≡ (site r v).applied
    → RegionStands cache_of parts v r → RegionStands cache_of (record parts { markup = markup }) (with_faults n (record v { markup = markup })) r
marked_site cache_of parts v markup n r up events heard applied s =
    let w : World = with_faults n (record v { markup = markup }) in
    record {
      config = s.config;
      markup = refl;
      applied = s.applied ∙ sym applied;
      prefixes = s.prefixes;
      positions = rows_moments v w r (rows_in parts.positions) refl heard up s.positions;
      there = s.there;
      cache = if_map (λ c. CacheStands v r (cache_of c)) (λ c. CacheStands w r (cache_of c)) parts.cache
          (λ c. stands-grown v w r (cache_of c) (record { more = []; history = sym (append-nil v.history); setting = refl; events = events; moment = up })) s.cache;
    }

pub markup_goes : {K S : Type 0} (content : K → Option (List Entry)) (faults : K → ℕ) (cache_of : S → CacheMap Bytes) (old : FarmParts K S) (markup : ℕ)
    → GoesFrom content faults cache_of old (record old { home = record old.home { markup = markup }; west = record old.west { markup = markup } }) (Step.SetMarkup markup) (One None)
markup_goes content faults cache_of old markup v fits a =
    let w : World = with_faults (faults old.keeper) (record v { markup = markup }) in
    let follows : Follows v w = record { more = []; history = sym (append-nil v.history); setting = refl; issued = λ purge t q i. i } in (
      w,
      record {
        takes = (refl, refl);
        counts = a.counted;
        later = omega arith;
        agrees = record {
          plan = a.plan;
          opened = a.opened;
          history = a.history;
          counted = omega arith;
          messages = a.messages;
          receipts = receipts;
          requests = λ id. agree-later v w follows (open_at old.requests id) (request_at v id) (a.requests id);
          home_moment = a.home_moment;
          west_moment = a.west_moment;
          beat = a.beat;
          home = marked_site cache_of old.home v markup (faults old.keeper) Home (omega arith) refl refl refl a.home;
          west = marked_site cache_of old.west v markup (faults old.keeper) West (omega arith) refl refl refl a.west;
        };
      },
    )
  where
    receipts : (r : Region) (purge : ℕ) → receipt_at r (row_at old.ledger.rows purge) ≡ receipt_in (site r (with_faults (faults old.keeper) (record v { markup = markup }))).events purge
    receipts Home purge = a.receipts Home purge
    receipts West purge = a.receipts West purge
