use Rattle.replica_apply.proofs.Of.{of_grows}
use Rattle.replica_apply.proofs.replica.snapshots_last.Goals as goal

pub returns : goal.returns
returns c = of_grows
