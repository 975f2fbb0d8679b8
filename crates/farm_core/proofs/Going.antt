-- A step goes on with every run for which the farm stood, where it does so from each world after the readings.
use Rattle.std.proofs.Common.{◌≡◌, ℕ, List, [], Option, refl, sym, ap, subst, arith, max, append-nil}
use Rattle.wiki_model.specs.declared.Region.{Region}
use Rattle.wiki_model.specs.declared.Region.TheVariants.{Home, West}
use Rattle.wiki_model.specs.declared.Readings.{Readings}
use Rattle.wiki_model.specs.Bytes.{Bytes}
use Rattle.wiki_model.specs.History.{Entry}
use Rattle.wiki_model.specs.Cache.{CacheMap}
use Rattle.wiki_model.specs.World.{World, at_readings, cut, request_at}
use Rattle.wiki_model.specs.Consistent.{IsConsistent}
use Rattle.wiki_model.specs.Steps.{Step}
use Rattle.wiki_model.specs.Runs.{Turn, Reply, IsRun, Leads}
use Rattle.wiki_model.proofs.ConsistentLaws.{readings-keep}
use Rattle.wiki_model.proofs.StepLaws.{opened-run-keeps}
use Rattle.farm_steps.specs.RequestMap.{Entries, open_at}
use Rattle.farm_core.specs.FarmParts.{FarmParts}
use Rattle.farm_core.specs.Agreement.{Agrees}
use Rattle.farm_core.specs.Runs.{Stands, GoesOnBy, GoesFrom, Steps, StepsFrom, advanced}
use Rattle.farm_core.proofs.Following.{Follows, agree-later}
use Rattle.farm_core.proofs.Standing.{IsStill, stands-still}

read-follows : (at : Readings) (v : World) → Follows v (at_readings at v)
read-follows at v = record { more = []; history = sym (append-nil v.history); setting = refl; issued = λ purge t q i. i }

read-still : (at : Readings) (v : World) (r : Region) → IsStill v (at_readings at v) r
read-still at v Home = record { history = refl; setting = refl; markup = refl; up = omega arith; applied = refl; heard = refl; events = refl }
read-still at v West = record { history = refl; setting = refl; markup = refl; up = omega arith; applied = refl; heard = refl; events = refl }

pub agrees-read : {K S : Type 0} (content : K → Option (List Entry)) (faults : K → ℕ) (cache_of : S → CacheMap Bytes) (farm : FarmParts K S) (at : Readings) (v : World)
    → Agrees content faults cache_of farm v → Agrees content faults cache_of (advanced at farm) (at_readings at v)
agrees-read content faults cache_of farm at v a = record {
  plan = a.plan;
  opened = a.opened;
  history = a.history;
  counted = a.counted;
  messages = a.messages;
  receipts = receipts;
  requests = λ id. agree-later v (at_readings at v) (read-follows at v) (open_at farm.requests id) (request_at v id) (a.requests id);
  home_moment = ap (λ n. max n (cut at.home)) a.home_moment;
  west_moment = ap (λ n. max n (cut at.west)) a.west_moment;
  beat = a.beat;
  home = stands-still cache_of farm.home v (at_readings at v) Home (read-still at v Home) a.home;
  west = stands-still cache_of farm.west v (at_readings at v) West (read-still at v West) a.west;
}
  where
    receipts : (r : Region) (purge : ℕ) → Rattle.purge_relay.specs.LedgerRow.receipt_at r (Rattle.purge_relay.specs.Ledger.row_at farm.ledger.rows purge) ≡ Rattle.farm_core.specs.Agreement.receipt_in (Rattle.wiki_model.specs.World.site r (at_readings at v)).events purge
    receipts Home purge = a.receipts Home purge
    receipts West purge = a.receipts West purge

pub stands-consistent : {K S : Type 0} (content : K → Option (List Entry)) (faults : K → ℕ) (cache_of : S → CacheMap Bytes) (farm : FarmParts K S) (start : World) (turns : List Turn) (v : World)
    → Stands content faults cache_of farm start turns v → IsConsistent v
stands-consistent content faults cache_of farm start turns v s =
    opened-run-keeps s.opened.0 s.opened.1 s.opened.2 s.opened.3 turns v s.opened.4 (subst (λ (b : World). IsRun b turns v) s.opened.5 s.run)

pub goes_on : {K S : Type 0} (content : K → Option (List Entry)) (faults : K → ℕ) (cache_of : S → CacheMap Bytes) (old new : FarmParts K S) (at : Readings) (step : Step) (reply : Reply)
    → GoesFrom content faults cache_of (advanced at old) new step reply → GoesOnBy content faults cache_of old new (record { at = at; step = step; reply = reply })
goes_on content faults cache_of old new at step reply goes start turns v s =
    let fits = readings-keep at v (stands-consistent content faults cache_of old start turns v s) in
    let next = goes (at_readings at v) fits (agrees-read content faults cache_of old at v s.agrees) in
    let leads : Leads v (let turn : Turn = record { at = at; step = step; reply = reply } in turn) next.0 = record { takes = next.1.takes; faults = next.1.counts } in
    (next.0, record { opened = s.opened; run = (v, s.run, leads); agrees = next.1.agrees }, leads, next.1.later)

-- and so for all that is known of a step
pub steps_on : {K S : Type 0} (content : K → Option (List Entry)) (faults : K → ℕ) (cache_of : S → CacheMap Bytes) (old new : FarmParts K S) (at : Readings) (step : Step) (reply : Reply) (Moves : (old new : Entries) → Type 0)
    → StepsFrom content faults cache_of (advanced at old) new step reply Moves → Steps content faults cache_of old new (record { at = at; step = step; reply = reply }) Moves
steps_on content faults cache_of old new at step reply Moves s = record {
  goes_on = goes_on content faults cache_of old new at step reply s.goes;
  requests = s.requests;
  shape = record { plan = s.shape.plan; whole = s.shape.whole; home = s.shape.home; west = s.shape.west };
  counts = s.counts;
}
