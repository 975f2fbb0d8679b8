use Rattle.replica_apply.specs.Snapshot.{IsSnapshot}
use Rattle.replica_apply.proofs.Of.{of_each}
use Rattle.replica_apply.proofs.replica.Replica.snapshot.Goals as goal

pub returns-clause-of : goal.returns-clause-of
returns-clause-of c =
    let exact : IsSnapshot c.args.self.now c.args.title.now c.args.reading c.in_ok-made.made = rw (← c.self.view_is) c.in_ok-made.ensures in
    of_each c.args.self.now c.args.title.now c.args.reading c.in_ok-made.made exact
