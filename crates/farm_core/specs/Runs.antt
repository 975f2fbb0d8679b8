-- Which runs a farm stands for, and how a step goes on with them.
use Rattle.std.specs.Prelude.{ℕ, ◌≡◌, ◌≤◌, List, ◌∷◌, Option, option_map}
use Rattle.wiki_model.specs.declared.Readings.{Readings}
use Rattle.wiki_model.specs.Bytes.{Bytes}
use Rattle.wiki_model.specs.History.{Entry}
use Rattle.wiki_model.specs.Cache.{CacheMap}
use Rattle.wiki_model.specs.World.{World, Setting}
use Rattle.wiki_model.specs.Consistent.{IsConsistent, IsOpened}
use Rattle.wiki_model.specs.Steps.{Step}
use Rattle.region_state.specs.declared.answer.Answer.{Answer}
use Rattle.region_state.specs.AsModel.{answer_of}
use Rattle.wiki_model.specs.Runs.{Turn, Reply, One, Takes, CountsFaults, Leads, IsRun, opening, with_faults}
use Rattle.farm_steps.specs.Moments.{moments_at}
use Rattle.farm_steps.specs.RequestMap.{Entries}
use Rattle.farm_core.specs.FarmParts.{FarmParts, SameShape}
use Rattle.farm_core.specs.Agreement.{Agrees}

-- The farm stands for this run, which began at an opening and led to w.
pub record Stands {K S : Type 0} (content : K → Option (List Entry)) (faults : K → ℕ) (cache_of : S → CacheMap Bytes)
    (farm : FarmParts K S) (start : World) (turns : List Turn) (w : World) : Type 0 where
  pub opened : (setting : Setting) × (history : List Entry) × (count : ℕ) × (at : Readings) × IsOpened setting history
      × (start ≡ opening setting history count at)
  pub run : IsRun start turns w
  pub agrees : Agrees content faults cache_of farm w

-- Each run for which the farm stood goes on by this turn, which leads from its last world to the one for which it
-- stands then.
abbrev pub GoesOnBy : {K S : Type 0} → (K → Option (List Entry)) → (K → ℕ) → (S → CacheMap Bytes)
    → (old new : FarmParts K S) → Turn → Type 0
GoesOnBy content faults cache_of old new turn =
    (start : World) (turns : List Turn) (v : World) → Stands content faults cache_of old start turns v
    → (w : World) × Stands content faults cache_of new start (turn ∷ turns) w × Leads v turn w
    × (faults old.keeper ≤ w.faults)

-- It stays as it is, but for the keeper's count.
abbrev pub StandsOn : {K S : Type 0} → (K → Option (List Entry)) → (K → ℕ) → (S → CacheMap Bytes)
    → (old new : FarmParts K S) → Type 0
StandsOn content faults cache_of old new =
    (start : World) (turns : List Turn) (w : World) → Stands content faults cache_of old start turns w
    → Stands content faults cache_of new start turns w

-- the world that a step leaves
pub record LeadsTo {K S : Type 0} (content : K → Option (List Entry)) (faults : K → ℕ) (cache_of : S → CacheMap Bytes)
    (old new : FarmParts K S) (step : Step) (reply : Reply) (v w : World) : Type 0 where
  pub takes : Takes step v reply (with_faults v.faults w)
  pub counts : CountsFaults v.faults w.faults reply
  pub agrees : Agrees content faults cache_of new w
  pub later : faults old.keeper ≤ w.faults

-- After the readings: from each consistent world with which the farm agrees, the step leads to one with which it
-- agrees.
abbrev pub GoesFrom : {K S : Type 0} → (K → Option (List Entry)) → (K → ℕ) → (S → CacheMap Bytes)
    → (old new : FarmParts K S) → Step → Reply → Type 0
GoesFrom content faults cache_of old new step reply =
    (v : World) → IsConsistent v → Agrees content faults cache_of old v → (w : World)
    × LeadsTo content faults cache_of old new step reply v w

-- the farm after readings
abbrev pub advanced : {K S : Type 0} → Readings → FarmParts K S → FarmParts K S
advanced at farm = record farm { moments = moments_at at farm.moments }

-- a turn by its readings, its step and what the farm answers
abbrev pub turn_of : Readings → Step → Option Answer → Turn
turn_of at step result = record { at = at; step = step; reply = One (option_map answer_of result) }

-- What is known of a step: of each run, and over any keeper of the requests and of the farm's shape.
pub record Steps {K S : Type 0} (content : K → Option (List Entry)) (faults : K → ℕ) (cache_of : S → CacheMap Bytes)
    (old new : FarmParts K S) (turn : Turn) (Moves : (old new : Entries) → Type 0) : Type 0 where
  -- each run for which the farm stood goes on by this turn
  pub goes_on : GoesOnBy content faults cache_of old new turn
  -- a request moves to its next point, or is closed
  pub requests : Moves old.requests new.requests
  pub shape : SameShape old new
  -- the keeper's count of faults does not fall
  pub counts : faults old.keeper ≤ faults new.keeper

-- the same after the readings were taken
pub record StepsFrom {K S : Type 0} (content : K → Option (List Entry)) (faults : K → ℕ) (cache_of : S → CacheMap Bytes)
    (old new : FarmParts K S) (step : Step) (reply : Reply) (Moves : (old new : Entries) → Type 0) : Type 0 where
  pub goes : GoesFrom content faults cache_of old new step reply
  pub requests : Moves old.requests new.requests
  pub shape : SameShape old new
  pub counts : faults old.keeper ≤ faults new.keeper

-- What the farm does between two steps changes nothing that it stands for: it forgets what has expired.
pub record Resumes {K S : Type 0} (content : K → Option (List Entry)) (faults : K → ℕ) (cache_of : S → CacheMap Bytes)
    (old new : FarmParts K S) : Type 0 where
  pub agrees : (w : World) → Agrees content faults cache_of old w → Agrees content faults cache_of new w
  pub requests : new.requests ≡ old.requests
  pub shape : SameShape old new
  pub counts : faults old.keeper ≤ faults new.keeper
