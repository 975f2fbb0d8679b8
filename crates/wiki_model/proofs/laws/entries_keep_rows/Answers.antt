use Rattle.wiki_model.proofs.RowsLaws.{rows-entry}
use Rattle.wiki_model.proofs.laws.entries_keep_rows.Goals as goal

pub returns : goal.returns
returns c = rows-entry
