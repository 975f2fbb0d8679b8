use Rattle.std.proofs.Common.{◌≡◌, take}
use Rattle.region_round.specs.Alone.{IsReady}
use Rattle.region_round.specs.Jobs.{ReceivesAll}
use Rattle.region_round.proofs.do_jobs.receive_all.Given as goal

abbrev pub invariant-loop-job : goal.invariant-loop-job
invariant-loop-job g l =
    IsReady l.lent.cache l.initial.lent.terms.at
    × (l.lent.region ≡ l.initial.lent.region)
    × (l.lent.terms ≡ l.initial.lent.terms)
    × ReceivesAll l.farm.ledger.rows l.initial.lent.terms.at (take l.job-index l.jobs) l.initial.lent.cache l.lent.cache
