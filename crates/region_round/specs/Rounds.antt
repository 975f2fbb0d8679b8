-- What a round does with the farm.
use Rattle.std.specs.Prelude.{ℕ, ◌≡◌, List, Option}
use Rattle.wiki_model.specs.declared.Region.{Region}
use Rattle.wiki_model.specs.declared.Readings.{Readings}
use Rattle.wiki_model.specs.History.{Entry}
use Rattle.wiki_model.specs.Answers as model
use Rattle.slot_cache.specs.AsModel.{map_of}
use Rattle.farm_steps.specs.Moments.{moment_of}
use Rattle.farm_core.specs.FarmParts.{FarmParts}
use Rattle.farm_core.specs.LendCache.{purges_of, round_turn, with_given}
use Rattle.farm_core.specs.RequestLife.{LeavesRequests}
use Rattle.farm_core.specs.Runs.{Steps, advanced}
use Rattle.region_round.specs.declared.job.Job.{Job}
use Rattle.region_round.specs.AsModel.{jobs_of}
use Rattle.region_round.specs.Alone.{Kept}

-- A round of these jobs with these answers, or with none if it was out of memory.
pub record RoundsOn {K : Type 0} (content : K → Option (List Entry)) (faults : K → ℕ) (old new : FarmParts K Kept)
    (at : Readings) (r : Region) (jobs : List Job) (answers : Option (List model.Answer)) : Type 0 where
  -- It is a step: each run for which the farm stood goes on by it.
  pub steps : Steps content faults map_of old new (round_turn at r (jobs_of jobs) answers) LeavesRequests
  -- But for the readings, the region's cache and the receipts of its purges, nothing of the farm changes.
  pub after : Kept
  pub rest :
      new
      ≡ with_given r after (moment_of r (advanced at old).moments) (purges_of (jobs_of jobs)) (advanced at old)
