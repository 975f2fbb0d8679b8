use Rattle.std.proofs.Common.{take}
use Rattle.region_state.specs.NewRegion.{AreNew}
use Rattle.region_state.proofs.new_region.replicas_for.Given as goal

abbrev pub invariant-loop-weight : goal.invariant-loop-weight
invariant-loop-weight l = AreNew (take l._weight-index l.weights) l.replicas.items
