use Rattle.wiki_model.proofs.RowsLaws.{rows-swept}
use Rattle.wiki_model.proofs.laws.sweeping_keeps_rows.Goals as goal

pub returns : goal.returns
returns c = rows-swept
