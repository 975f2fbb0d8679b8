use Rattle.std.proofs.Common.{◌≡◌, ◌≤◌, length, take}
use Rattle.std.specs.Prelude.{All}
use Rattle.farm_steps.specs.ViewSteps.{region_at}
use Rattle.region_round.specs.Ahead.{IsAhead}
use Rattle.region_round.specs.Alone.{IsReady}
use Rattle.region_round.specs.AsModel.{answers_of}
use Rattle.region_round.specs.Jobs.{DoesAll, sight_of}
use Rattle.region_round.proofs.do_jobs.do_all.Given as goal

abbrev pub invariant-loop-job : goal.invariant-loop-job
invariant-loop-job g l =
    (l.number ≡ l.job-index)
    × (length l.views.answers.items ≤ l.job-index)
    × (length l.jobs ≤ l.views.answers.cap)
    × IsReady l.lent.cache l.initial.lent.terms.at
    × (l.lent.region ≡ l.initial.lent.region)
    × (l.lent.terms ≡ l.initial.lent.terms)
    × All (IsAhead (region_at l.initial.lent.region l.farm.home l.farm.west) l.initial.lent.terms l.jobs) l.views.places.items
    × DoesAll l.initial.lent.region (sight_of l.initial.lent.region l.farm) l.initial.lent.terms (take l.job-index l.jobs) (answers_of l.views.answers.items) l.initial.lent.cache l.lent.cache
