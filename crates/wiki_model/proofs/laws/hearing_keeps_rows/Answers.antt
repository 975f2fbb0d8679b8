use Rattle.wiki_model.proofs.RowsLaws.{rows-hear}
use Rattle.wiki_model.proofs.laws.hearing_keeps_rows.Goals as goal

pub returns : goal.returns
returns c = rows-hear
