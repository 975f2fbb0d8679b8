-- A farm agrees with the world after something happened to a region's cache.
use Rattle.std.proofs.Common.{◌≡◌, ℕ, ◌≤◌, List, length, map, drop, Option, Some, None, refl, sym, ap, subst, ◌∙◌, arith}
use Rattle.wiki_model.specs.declared.Region.{Region}
use Rattle.wiki_model.specs.declared.Region.TheVariants.{Home, West}
use Rattle.wiki_model.specs.Bytes.{Bytes}
use Rattle.wiki_model.specs.History.{Entry}
use Rattle.wiki_model.specs.Cache.{CacheMap}
use Rattle.wiki_model.specs.World.{World, Setting, Site, Event, site, at_home, at_west, event_in}
use Rattle.wiki_model.specs.Changes.{IsEvent}
use Rattle.wiki_model.specs.Caches.{CacheStands}
use Rattle.purge_relay.specs.LedgerRow.{receipt_at}
use Rattle.purge_relay.specs.Ledger.{LedgerState, row_at}
use Rattle.chronology_store.specs.AsModel.{rows_in}
use Rattle.purge_relay.specs.AsModel.{row_message}
use Rattle.region_state.specs.AsModel.{IsPlanOf}
use Rattle.farm_steps.specs.RequestMap.{Entries}
use Rattle.farm_core.specs.FarmParts.{FarmParts, with_region_cache}
use Rattle.region_state.specs.RegionState.{RegionParts}
use Rattle.farm_core.specs.Agreement.{Agrees, RegionStands, ArePrefixes, config_of, receipt_in, last_beat_in}
use Rattle.farm_core.proofs.Standing.{IsStill, stands-still, rows_moments}
use Rattle.farm_core.proofs.Points.{AllAgree}

-- from v to w this event happened in the region; messages, requests and the count of faults may have changed
pub record Happens (v w : World) (r : Region) (event : Event) : Type 0 where
  pub history : w.history ≡ v.history
  pub setting : w.setting ≡ v.setting
  pub markup : w.markup ≡ v.markup
  pub home : w.home ≡ at_home r (event_in event (site r v)) v.home
  pub west : w.west ≡ at_west r (event_in event (site r v)) v.west

pub happens-event : (v w : World) (r : Region) (event : Event) → Happens v w r event → IsEvent v w r event
happens-event v w Home event h = record { history = h.history; setting = h.setting; events = ap (λ (s : Site). s.events) h.home; moment = ap (λ (s : Site). s.moment) h.home }
happens-event v w West event h = record { history = h.history; setting = h.setting; events = ap (λ (s : Site). s.events) h.west; moment = ap (λ (s : Site). s.moment) h.west }

-- the region where it happened
pub site-happened : {S : Type 0} (cache_of : S → CacheMap Bytes) (parts : RegionParts S) (after : S) (v w : World) (r : Region) (event : Event) → w.history ≡ v.history → w.setting ≡ v.setting → w.markup ≡ v.markup
    → site r w ≡ event_in event (site r v) → CacheStands w r (cache_of after) → RegionStands cache_of parts v r → RegionStands cache_of (record parts { cache = Some after }) w r
site-happened cache_of parts after v w r event history setting markup here cache s = record {
  config = s.config ∙ ap (λ (t : Setting). config_of t r) (sym setting);
  markup = s.markup ∙ sym markup;
  applied = s.applied ∙ sym (ap (λ (t : Site). t.applied) here);
  prefixes = subst (λ (h : List Entry). ArePrefixes h parts.replicas) (sym history) s.prefixes;
  positions = rows_moments v w r (rows_in parts.positions) history (ap (λ (t : Site). t.heard) here) (let e = ap (λ (t : Site). t.moment) here in omega (arith, e)) s.positions;
  there = refl;
  cache = cache;
}

still-elsewhere : (v w : World) (r : Region) → w.history ≡ v.history → w.setting ≡ v.setting → w.markup ≡ v.markup → site r w ≡ site r v → IsStill v w r
still-elsewhere v w r history setting markup same = record { history = history; setting = setting; markup = markup; up = let e = ap (λ (t : Site). t.moment) same in omega (arith, e); applied = ap (λ (t : Site). t.applied) same; heard = ap (λ (t : Site). t.heard) same; events = ap (λ (t : Site). t.events) same }

pub agrees-happened : {K S : Type 0} (content : K → Option (List Entry)) (faults : K → ℕ) (cache_of : S → CacheMap Bytes) (farm : FarmParts K S) (keeper : K) (ledger_now : LedgerState) (requests : Entries) (after : S) (v w : World) (r : Region) (event : Event)
    → Happens v w r event → content keeper ≡ content farm.keeper → w.faults ≤ faults keeper → map row_message ledger_now.rows ≡ w.messages
    → ((q : Region) (purge : ℕ) → receipt_at q (row_at ledger_now.rows purge) ≡ receipt_in (site q w).events purge)
    → AllAgree w requests → CacheStands w r (cache_of after) → Agrees content faults cache_of farm v
    → Agrees content faults cache_of (record (with_region_cache r after farm) { keeper = keeper; ledger = ledger_now; requests = requests }) w
agrees-happened content faults cache_of farm keeper ledger_now requests after v w r event h told counted messages receipts all cache a = record {
  plan = subst (λ (s : Setting). IsPlanOf s farm.plan) (sym h.setting) a.plan;
  opened = let o = a.opened in subst (λ (s : Setting). s.opened ≤ length w.history) (sym h.setting) (subst (λ (x : List Entry). v.setting.opened ≤ length x) (sym h.history) o);
  history = told ∙ a.history ∙ ap Some (sym h.history);
  counted = counted;
  messages = messages;
  receipts = receipts;
  requests = all;
  home_moment = a.home_moment ∙ sym (home-moment r h.home);
  west_moment = a.west_moment ∙ sym (west-moment r h.west);
  beat = a.beat ∙ ap (λ (x : List Entry). last_beat_in (drop v.setting.opened x) None) (sym h.history) ∙ ap (λ (s : Setting). last_beat_in (drop s.opened w.history) None) (sym h.setting);
  home = home-site r h.home cache;
  west = west-site r h.west cache;
}
  where
    home-moment : (q : Region) → w.home ≡ at_home q (event_in event (site q v)) v.home → w.home.moment ≡ v.home.moment
    home-moment Home e = ap (λ (t : Site). t.moment) e
    home-moment West e = ap (λ (t : Site). t.moment) e

    west-moment : (q : Region) → w.west ≡ at_west q (event_in event (site q v)) v.west → w.west.moment ≡ v.west.moment
    west-moment Home e = ap (λ (t : Site). t.moment) e
    west-moment West e = ap (λ (t : Site). t.moment) e

    home-site : (q : Region) → w.home ≡ at_home q (event_in event (site q v)) v.home → CacheStands w q (cache_of after) → RegionStands cache_of (with_region_cache q after farm).home w Home
    home-site Home e c = site-happened cache_of farm.home after v w Home event h.history h.setting h.markup e c a.home
    home-site West e c = stands-still cache_of farm.home v w Home (still-elsewhere v w Home h.history h.setting h.markup e) a.home

    west-site : (q : Region) → w.west ≡ at_west q (event_in event (site q v)) v.west → CacheStands w q (cache_of after) → RegionStands cache_of (with_region_cache q after farm).west w West
    west-site Home e c = stands-still cache_of farm.west v w West (still-elsewhere v w West h.history h.setting h.markup e) a.west
    west-site West e c = site-happened cache_of farm.west after v w West event h.history h.setting h.markup e c a.west
