use Rattle.std.proofs.Common.{◌≡◌, ◌≤◌, length, take}
use Rattle.farm_core.specs.LendCache.{purges_of}
use Rattle.region_round.specs.AsModel.{jobs_of}
use Rattle.region_round.proofs.run_round.purges_in.Given as goal

abbrev pub invariant-loop-job : goal.invariant-loop-job
invariant-loop-job l = (l.purges.items ≡ purges_of (jobs_of (take l.job-index l.jobs))) × (length l.purges.items ≤ l.job-index)
