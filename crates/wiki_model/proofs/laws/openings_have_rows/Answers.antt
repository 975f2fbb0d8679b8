use Rattle.wiki_model.proofs.RowsLaws.{opening-rows}
use Rattle.wiki_model.proofs.laws.openings_have_rows.Goals as goal

pub returns : goal.returns
returns c = opening-rows
