-- A region's cache that is lent, and given back.
use Rattle.std.specs.Prelude.{ℕ, ◌≡◌, ◌≤◌, Bool, true, false, List, [], ◌∷◌, Option, Some, None}
use Rattle.wiki_model.specs.declared.Region.{Region}
use Rattle.wiki_model.specs.declared.Readings.{Readings}
use Rattle.wiki_model.specs.Bytes.{Bytes}
use Rattle.wiki_model.specs.History.{Entry}
use Rattle.wiki_model.specs.Cache.{CacheMap}
use Rattle.wiki_model.specs.World.{World, Job, at_readings}
use Rattle.wiki_model.specs.Answers.{Answer}
use Rattle.wiki_model.specs.Steps.Step.{Round}
use Rattle.wiki_model.specs.Rounds.{MakesRound, rounded}
use Rattle.wiki_model.specs.Caches.{CacheStands}
use Rattle.wiki_model.specs.Runs.{Turn, Leads, Many}
use Rattle.farm_steps.specs.ViewSteps.{region_at}
use Rattle.farm_steps.specs.RelaySteps.{received_all}
use Rattle.farm_core.specs.Runs.{Stands, advanced}
use Rattle.wiki_model.specs.World.Job.{ViewJob, ReceiptJob}
use Rattle.farm_core.specs.FarmParts.{FarmParts, pick_home, pick_west}
use Rattle.region_state.specs.RegionState.{with_cache}

abbrev pub without_cache : {K S : Type 0} → Region → FarmParts K S → FarmParts K S
without_cache r farm = record farm {
  home = pick_home r (with_cache None farm.home) farm.home;
  west = pick_west r (with_cache None farm.west) farm.west;
}

abbrev pub with_given : {K S : Type 0} → Region → S → (at : ℕ) → List ℕ → FarmParts K S → FarmParts K S
with_given r cache at purges farm = record farm {
  ledger = received_all r at purges farm.ledger;
  home = pick_home r (with_cache (Some cache) farm.home) farm.home;
  west = pick_west r (with_cache (Some cache) farm.west) farm.west;
}

-- the purges that the jobs of a round receive
abbrev pub purges_of : List Job → List ℕ
purges_of [] = []
purges_of (ViewJob title need word ∷ jobs) = purges_of jobs
purges_of (ReceiptJob purge ∷ jobs) = purge ∷ purges_of jobs

-- a round without answers was refused
abbrev pub was_lost : Option (List Answer) → Bool
was_lost None = true
was_lost (Some answers) = false

abbrev pub answers_of : Option (List Answer) → List Answer
answers_of None = []
answers_of (Some answers) = answers

abbrev pub round_turn : Readings → Region → List Job → Option (List Answer) → Turn
round_turn at r jobs answers = record { at = at; step = Round r jobs; reply = Many answers }

-- Whatever run the farm stood for when the cache was lent, each round after it that receives these purges, is lost or
-- not, and leaves a world for which the cache stands makes a run for which the farm stands.
abbrev pub GivesBack : {K S : Type 0} → (K → Option (List Entry)) → (K → ℕ) → (S → CacheMap Bytes)
    → (old new : FarmParts K S) → Region → (after : S) → (purges : List ℕ) → (lost : Bool) → Type 0
GivesBack {K} {S} content faults cache_of old new r after purges lost =
    (lent : FarmParts K S) (at : Readings) (start : World) (turns : List Turn) (v : World)
    (jobs : List Job) (answers : Option (List Answer))
    → old ≡ without_cache r (advanced at lent)
    → purges_of jobs ≡ purges → was_lost answers ≡ lost → Stands content faults cache_of lent start turns v
    → MakesRound r jobs (at_readings at v) answers
    (rounded r jobs (was_lost answers) (answers_of answers) (at_readings at v))
    → CacheStands (rounded r jobs (was_lost answers) (answers_of answers) (at_readings at v)) r (cache_of after)
    → (w : World) × Stands content faults cache_of new start (round_turn at r jobs answers ∷ turns) w
    × Leads v (round_turn at r jobs answers) w × (faults lent.keeper ≤ w.faults)
