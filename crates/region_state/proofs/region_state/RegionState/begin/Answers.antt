use Rattle.edit_core.specs.AsModel.{edit_of}
use Rattle.edit_core.specs.EditState.{state_of}
use Rattle.edit_core.specs.BeginEdit.{Begins}
use Rattle.region_state.proofs.ChangingParts.{changed_positions}
use Rattle.region_state.proofs.region_state.RegionState.begin.Goals as goal

pub returns-clause-begins : goal.returns-clause-begins
returns-clause-begins g c =
    changed_positions _ _ c.begin.new.positions
    (λ old new. Begins (state_of (g.K.Keeper.content c.args.keeper.now) c.args.ledger.now old) (state_of (g.K.Keeper.content c.begin.new.keeper) c.begin.new.ledger new) (edit_of c.args.ask) c.args.now c.args.delay c.begin.result)
    c.self.view_is c.begin.ensures.begins
