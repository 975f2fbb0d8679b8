use Rattle.farm_base.specs.Causes.{counted}
use Rattle.revision_keeper.proofs.Failing.{fails_by_number}
use Rattle.revision_keeper.proofs.mem_keeper.next_fails.Goals as goal

pub returns-clause-fails : goal.returns-clause-fails
returns-clause-fails c =
    fails_by_number c.next_fails.result c.args.appends.now.numbers (counted c.args.appends.now.made) c.next_fails.ensures.fails
