use Rattle.wiki_model.proofs.HeadlineLaws.{hit-settled_not_stale}
use Rattle.wiki_model.proofs.laws.hits_are_not_stale.Goals as goal

pub returns : goal.returns
returns c = hit-settled_not_stale
