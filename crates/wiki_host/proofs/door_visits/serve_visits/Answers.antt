use Rattle.std.proofs.Common.{◌∙◌, ap, Ok, arith, refl}
use Rattle.region_state.specs.declared.plan.FarmPlan.{FarmPlan}
use Rattle.wiki_host.proofs.OneMoreVisit.{visits_begin, visits_turn, visits_out, visits_fail, same_shape, shape_again}
use Rattle.wiki_host.proofs.door_visits.serve_visits.Goals as goal

pub loop-connections-init : goal.loop-connections-init
loop-connections-init g c = (
  visits_begin _ _ _ _ _ _,
  refl,
  c.requires.whole,
  c.requires.free,
  same_shape c.args.host.now.served.farm,
  omega arith,
  refl,
)

pub returns-in-Ok-NoneLeft-clause-visits : goal.returns-in-Ok-NoneLeft-clause-visits
returns-in-Ok-NoneLeft-clause-visits g c =
    let (visited, still, whole, free, shape, counts, wanted) = c.loop-connections.invariant in
    visits_out _ _ _ _ _ _ _ _ _ _ _ _ _ _ _ c.loop-connections.connections c.loop-connections.host.served.farm.plan.pace
    c.serve_next.result (c.in-Ok-NoneLeft.is ∙ ap (λ f. Ok f) c.in-Ok-NoneLeft.field-0-is)
    (ap (λ (p : FarmPlan). p.pace) shape.plan) visited still c.loop-connections-test.true c.serve_next.ensures.visits

pub returns-in-Err-clause-visits : goal.returns-in-Err-clause-visits
returns-in-Err-clause-visits g c =
    let (visited, still, whole, free, shape, counts, wanted) = c.loop-connections.invariant in
    visits_fail _ _ _ _ _ _ _ _ _ _ _ _ _ _ _ c.loop-connections.connections c.loop-connections.host.served.farm.plan.pace
    c.serve_next.result c.in-Err.fault c.in-Err.is
    (ap (λ (p : FarmPlan). p.pace) shape.plan) visited c.loop-connections-test.true c.serve_next.ensures.visits

pub loop-connections-preserved : goal.loop-connections-preserved
loop-connections-preserved g c =
    let (visited, still, whole, free, shape, counts, wanted) = c.loop-connections.invariant in
    let (more, nones) = visits_turn _ _ _ _ _ _ _ _ _ _ _ _ _ _ c.loop-connections.connections
    c.loop-connections.host.served.farm.plan.pace c.serve_next.result
    (c.in-Ok-Served.is ∙ ap (λ f. Ok f) c.in-Ok-Served.field-0-is)
    (ap (λ (p : FarmPlan). p.pace) shape.plan) visited still c.serve_next.ensures.visits in
    let later = c.serve_next.ensures.counts in (
      more,
      nones,
      c.serve_next.ensures.whole,
      c.serve_next.ensures.free,
      shape_again _ _ _ shape c.serve_next.ensures.shape,
      omega (arith, counts, later),
      wanted,
    )
