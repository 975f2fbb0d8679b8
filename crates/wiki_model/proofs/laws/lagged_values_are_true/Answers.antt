use Rattle.wiki_model.proofs.StoreLaws.{lagged-true}
use Rattle.wiki_model.proofs.laws.lagged_values_are_true.Goals as goal

pub returns : goal.returns
returns c = lagged-true
