use Rattle.wiki_model.proofs.RowsLaws.{rows-moments}
use Rattle.wiki_model.proofs.laws.moments_keep_rows.Goals as goal

pub returns : goal.returns
returns c = rows-moments
