use Rattle.std.proofs.Common.{◌<◌, ◌+◌, take, length, sym, subst, arith}
use Rattle.std.proofs.lemmas.Bool.Decides.{nat_tests}
use Rattle.region_state.specs.NewRegion.{AreNew}
use Rattle.region_state.proofs.NewReplicas.{one_new}
use Rattle.region_state.proofs.new_region.replicas_for.Goals as goal

pub loop-weight-preserved : goal.loop-weight-preserved
loop-weight-preserved c =
    let i = c.loop-weight._weight-index in
    let weights = c.args.weights.now in
    let less : i < length weights = grind (arith, nat_tests, c.loop-weight-test.true) in
    subst (AreNew (take (i + 1) weights)) (sym c.in_ok-push.ensures.items) (one_new weights i c.loop-weight.replicas.items c.new.result less c.loop-weight.invariant c.new.ensures)
