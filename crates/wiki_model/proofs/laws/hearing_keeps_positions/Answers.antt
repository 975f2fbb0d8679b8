use Rattle.wiki_model.proofs.PositionLaws.{positions-hear}
use Rattle.wiki_model.proofs.laws.hearing_keeps_positions.Goals as goal

pub returns : goal.returns
returns c = positions-hear
