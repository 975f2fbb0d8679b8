-- A sweep forgets positions that have expired, and keeps the rows of begun edits: the farm agrees with the same worlds as before.
use Rattle.std.proofs.Common.{ℕ, ◌≤◌, inl, inr, List, Option, IsTrue, refl, sym, subst, ◌∙◌, arith}
use Rattle.wiki_model.specs.declared.Region.{Region}
use Rattle.wiki_model.specs.declared.Region.TheVariants.{Home, West}
use Rattle.wiki_model.specs.Bytes.{Bytes}
use Rattle.wiki_model.specs.History.{Entry}
use Rattle.wiki_model.specs.Cache.{CacheMap}
use Rattle.wiki_model.specs.World.{World, moment}
use Rattle.wiki_model.specs.Steps.{Step}
use Rattle.wiki_model.specs.Runs.{Reply}
use Rattle.wiki_model.specs.Positions.{RowsStand}
use Rattle.wiki_model.proofs.RowsLaws.{rows-swept}
use Rattle.chronology_store.specs.declared.position_row.PositionRow.{PositionRow as Row}
use Rattle.chronology_store.specs.ChronologyStore.{Positions, is_reserved}
use Rattle.chronology_store.specs.AsModel.{rows_in}
use Rattle.chronology_store.proofs.ModelRows.{sweeps_rows}
use Rattle.region_state.specs.RegionState.{RegionParts, SweepsDoubled, SweepsRegion, with_swept}
use Rattle.farm_steps.specs.RequestMap.{Entries}
use Rattle.farm_core.specs.FarmParts.{FarmParts, IsFarm}
use Rattle.farm_core.specs.Agreement.{RegionStands}
use Rattle.farm_core.specs.Runs.{StepsFrom, Resumes}

swept_rows : (v : World) (r : Region) (now swept rows : ℕ) (old new : Positions) → now ≤ moment r v → SweepsDoubled now swept old rows new → RowsStand v r (rows_in old) → RowsStand v r (rows_in new)
swept_rows v r now swept rows old new le (inl (few, same, kept)) stands = subst (λ (p : Positions). RowsStand v r (rows_in p)) (sym same) stands
swept_rows v r now swept rows old new le (inr (many, sweeps, left)) stands =
    rows-swept v v r now (rows_in old) (rows_in new) refl refl (omega arith) le (sweeps_rows now old new sweeps) stands

swept_region : {S : Type 0} (cache_of : S → CacheMap Bytes) (parts : RegionParts S) (positions : Positions) (v : World) (r : Region) (now rows : ℕ) → now ≤ moment r v → SweepsDoubled now parts.swept parts.positions rows positions
    → RegionStands cache_of parts v r → RegionStands cache_of (with_swept positions rows parts) v r
swept_region cache_of parts positions v r now rows le sweeps s = record {
  config = s.config;
  markup = s.markup;
  applied = s.applied;
  prefixes = s.prefixes;
  positions = swept_rows v r now parts.swept rows parts.positions positions le sweeps s.positions;
  there = s.there;
  cache = s.cache;
}

still_reserved : (now swept rows : ℕ) (old new : Positions) (client : List ℕ) → SweepsDoubled now swept old rows new → IsTrue (is_reserved old client) → IsTrue (is_reserved new client)
still_reserved now swept rows old new client (inl (few, same, kept)) is = subst (λ (p : Positions). IsTrue (is_reserved p client)) (sym same) is
still_reserved now swept rows old new client (inr (many, sweeps, left)) is = subst (λ (row : Row). IsTrue row.reserved) (sym (sweeps.each client)) is

-- home

pub home_resumes : {K S : Type 0} (content : K → Option (List Entry)) (faults : K → ℕ) (cache_of : S → CacheMap Bytes) (old : FarmParts K S) (home : RegionParts S) → SweepsRegion old.moments.home old.home home
    → Resumes content faults cache_of old (record old { home = home })
home_resumes {K} {S} content faults cache_of old home on = subst (λ (h : RegionParts S). Resumes content faults cache_of old (record old { home = h })) (sym on.rest) (record {
  agrees = λ w a. record {
    plan = a.plan;
    opened = a.opened;
    history = a.history;
    counted = a.counted;
    messages = a.messages;
    receipts = a.receipts;
    requests = a.requests;
    home_moment = a.home_moment;
    west_moment = a.west_moment;
    beat = a.beat;
    home = swept_region cache_of old.home on.after w Home old.moments.home on.rows (let e = a.home_moment in omega (arith, e)) on.sweeps a.home;
    west = a.west;
  };
  requests = refl;
  shape = record { plan = refl; whole = λ whole. whole; home = refl; west = refl };
  counts = omega arith;
})

pub home_kept : {K S : Type 0} (content : K → Option (List Entry)) (cache_of : S → CacheMap Bytes) (old : FarmParts K S) (home : RegionParts S) → SweepsRegion old.moments.home old.home home
    → IsFarm content cache_of old → IsFarm content cache_of (record old { home = home })
home_kept {K} {S} content cache_of old home on k = subst (λ (h : RegionParts S). IsFarm content cache_of (record old { home = h })) (sym on.rest) (record {
  home_small = k.home_small;
  west_small = k.west_small;
  delay = k.delay;
  stamps = k.stamps;
  home_before = k.home_before;
  west_before = k.west_before;
  room = k.room;
  reserved = λ id begun at. still_reserved old.moments.home old.home.swept on.rows old.home.positions on.after begun.ask.client on.sweeps (k.reserved id begun at);
})

-- west

pub west_resumes : {K S : Type 0} (content : K → Option (List Entry)) (faults : K → ℕ) (cache_of : S → CacheMap Bytes) (old : FarmParts K S) (west : RegionParts S) → SweepsRegion old.moments.west old.west west
    → Resumes content faults cache_of old (record old { west = west })
west_resumes {K} {S} content faults cache_of old west on = subst (λ (h : RegionParts S). Resumes content faults cache_of old (record old { west = h })) (sym on.rest) (record {
  agrees = λ w a. record {
    plan = a.plan;
    opened = a.opened;
    history = a.history;
    counted = a.counted;
    messages = a.messages;
    receipts = a.receipts;
    requests = a.requests;
    home_moment = a.home_moment;
    west_moment = a.west_moment;
    beat = a.beat;
    home = a.home;
    west = swept_region cache_of old.west on.after w West old.moments.west on.rows (let e = a.west_moment in omega (arith, e)) on.sweeps a.west;
  };
  requests = refl;
  shape = record { plan = refl; whole = λ whole. whole; home = refl; west = refl };
  counts = omega arith;
})

pub west_kept : {K S : Type 0} (content : K → Option (List Entry)) (cache_of : S → CacheMap Bytes) (old : FarmParts K S) (west : RegionParts S) → SweepsRegion old.moments.west old.west west
    → IsFarm content cache_of old → IsFarm content cache_of (record old { west = west })
west_kept {K} {S} content cache_of old west on k = subst (λ (h : RegionParts S). IsFarm content cache_of (record old { west = h })) (sym on.rest) (record {
  home_small = k.home_small;
  west_small = k.west_small;
  delay = k.delay;
  stamps = k.stamps;
  home_before = k.home_before;
  west_before = k.west_before;
  room = k.room;
  reserved = k.reserved;
})

-- a step, and then a sweep
pub steps_then : {K S : Type 0} (content : K → Option (List Entry)) (faults : K → ℕ) (cache_of : S → CacheMap Bytes) (old mid new : FarmParts K S) (step : Step) (reply : Reply) (Moves : (old new : Entries) → Type 0)
    → StepsFrom content faults cache_of old mid step reply Moves → Resumes content faults cache_of mid new → StepsFrom content faults cache_of old new step reply Moves
steps_then content faults cache_of old mid new step reply Moves s r = record {
  goes = λ v fits a. let next = s.goes v fits a in (next.0, record { takes = next.1.takes; counts = next.1.counts; agrees = r.agrees next.0 next.1.agrees; later = next.1.later });
  requests = subst (Moves old.requests) (sym r.requests) s.requests;
  shape = record { plan = r.shape.plan ∙ s.shape.plan; whole = λ whole. r.shape.whole (s.shape.whole whole); home = r.shape.home ∙ s.shape.home; west = r.shape.west ∙ s.shape.west };
  counts = let up = s.counts in let on = r.counts in omega (arith, up, on);
}
