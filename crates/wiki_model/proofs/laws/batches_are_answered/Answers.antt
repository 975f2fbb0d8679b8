use Rattle.wiki_model.proofs.AnsweredLaws.{batches-answered}
use Rattle.wiki_model.proofs.laws.batches_are_answered.Goals as goal

pub returns : goal.returns
returns c = batches-answered
