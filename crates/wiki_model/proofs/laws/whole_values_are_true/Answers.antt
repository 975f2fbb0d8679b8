use Rattle.wiki_model.proofs.StoreLaws.{whole-true}
use Rattle.wiki_model.proofs.laws.whole_values_are_true.Goals as goal

pub returns : goal.returns
returns c = whole-true
