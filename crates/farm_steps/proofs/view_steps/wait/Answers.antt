use Rattle.std.proofs.Common.{Option, option_map, sym, subst, ◌∙◌}
use Rattle.region_state.specs.declared.wait_view.Wait.{Wait}
use Rattle.region_state.specs.declared.open_view.OpenView.{OpenView}
use Rattle.region_state.specs.AsModel.{answer_of}
use Rattle.farm_steps.specs.ViewSteps.{Waits, WaitsTo}
use Rattle.farm_steps.proofs.Twice.{waits_twice}
use Rattle.farm_steps.proofs.view_steps.wait.Goals as goal

pub returns : goal.returns
returns g c =
    let said = option_map answer_of c.waited.result in
    let old = c.args.requests.now.entries in
    let new = c.waited.new.requests.entries in
    let told = waits_twice c.wait_in-outcome.result c.args.id c.in-Some.view old c.take_arrived_view.new.requests.entries new said c.in-Some.ensures.taken c.waited.ensures in
    subst (λ (o : Option OpenView). Waits c.args.home.now c.args.west.now c.args.at c.args.id c.args.last old new said o) (sym c.in-Some.is ∙ c.take_arrived_view.ensures.value)
    (subst (λ (o : Wait). WaitsTo o c.args.id c.in-Some.view old new said) c.wait_in-outcome.ensures told)
