use Rattle.edit_core.specs.EditState.{state_of}
use Rattle.edit_core.specs.CommitEdit.{CommitsWithOutcome}
use Rattle.region_state.proofs.ChangingParts.{changed_positions}
use Rattle.region_state.proofs.region_state.RegionState.commit.Goals as goal

pub returns-clause-commits : goal.returns-clause-commits
returns-clause-commits g c =
    changed_positions _ _ c.commit_with_outcome.new.positions
    (λ old new. CommitsWithOutcome (state_of (g.K.Keeper.content c.args.keeper.now) c.args.ledger.now old) (state_of (g.K.Keeper.content c.commit_with_outcome.new.keeper) c.commit_with_outcome.new.ledger new) c.args.edit c.args.now c.commit_with_outcome.result)
    c.self.view_is c.commit_with_outcome.ensures.commits
