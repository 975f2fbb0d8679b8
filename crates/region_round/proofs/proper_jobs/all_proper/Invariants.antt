use Rattle.std.proofs.Common.{◌≡◌, true, take}
use Rattle.std.specs.List.{list_all}
use Rattle.region_round.specs.Jobs.{is_proper_job}
use Rattle.region_round.proofs.proper_jobs.all_proper.Given as goal

abbrev pub invariant-loop-job : goal.invariant-loop-job
invariant-loop-job g l = list_all (is_proper_job l.region l.farm.ledger.rows) (take l.job-index l.jobs) ≡ true
