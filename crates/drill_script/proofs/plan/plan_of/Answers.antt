use Rattle.std.proofs.Common.{refl, ◌∙◌}
use Rattle.drill_script.proofs.Plans.{plan_is}
use Rattle.drill_script.proofs.plan.plan_of.Goals as goal

pub returns-clause-plan : goal.returns-clause-plan
returns-clause-plan c =
    plan_is c.args.lines.now _ _ _ c.line_at-first.ensures c.line_at-second.ensures (c.region_plan.ensures.weights ∙ c.in_ok-home.ensures) (c.region_plan-2.ensures.weights ∙ c.in_ok-west.ensures) c.epoch_told.ensures refl c.bounds_told.ensures
