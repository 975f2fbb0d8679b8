use Rattle.wiki_model.proofs.ChoiceLaws.{choice-one}
use Rattle.wiki_model.proofs.laws.choices_are_one.Goals as goal

pub returns : goal.returns
returns c = choice-one
