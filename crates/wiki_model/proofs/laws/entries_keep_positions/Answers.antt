use Rattle.wiki_model.proofs.PositionLaws.{positions-entry}
use Rattle.wiki_model.proofs.laws.entries_keep_positions.Goals as goal

pub returns : goal.returns
returns c = positions-entry
