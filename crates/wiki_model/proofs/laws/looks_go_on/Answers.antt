use Rattle.wiki_model.proofs.HeadlineLaws.{look-goes_on}
use Rattle.wiki_model.proofs.laws.looks_go_on.Goals as goal

pub returns : goal.returns
returns c = look-goes_on
