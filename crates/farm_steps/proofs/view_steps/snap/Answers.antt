use Rattle.std.proofs.Common.{ℕ, Option, option_map, sym, subst, ◌∙◌}
use Rattle.region_state.specs.declared.open_view.OpenView.{OpenView}
use Rattle.region_state.specs.AsModel.{answer_of}
use Rattle.farm_steps.specs.ViewSteps.{SnapsTo}
use Rattle.farm_steps.proofs.Twice.{snaps_twice}
use Rattle.farm_steps.proofs.Pending.{pending_taken}
use Rattle.farm_steps.proofs.view_steps.snap.Goals as goal

pub returns : goal.returns
returns g c =
    let said = option_map answer_of c.snapped.result in
    let old = c.args.requests.now.entries in
    let mid = c.take_looked_view.new.requests.entries in
    let new = c.snapped.new.requests.entries in
    let view = c.in-Some.view in
    let is = sym c.in-Some.is ∙ c.take_looked_view.ensures.value in
    subst (λ (o : Option (OpenView × ℕ)). SnapsTo c.args.home.now c.args.west.now c.args.at c.args.id old new said o) is
    (record {
      made = c.snap_in-made.result;
      ends = snaps_twice c.args.id view old mid new said c.snap_in-made.result c.in-Some.ensures.taken c.snapped.ensures;
      pending = c.is_pending-pending.result;
      is_pending = pending_taken old mid c.args.id (view, c.in-Some.need) c.in-Some.ensures.taken (sym is) view.region view.ask.title c.is_pending-pending.result c.is_pending-pending.ensures;
      snaps = c.snap_in-made.ensures;
    })
