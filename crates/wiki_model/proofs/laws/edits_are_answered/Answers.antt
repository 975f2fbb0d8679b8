use Rattle.wiki_model.proofs.AnsweredLaws.{edits-answered}
use Rattle.wiki_model.proofs.laws.edits_are_answered.Goals as goal

pub returns : goal.returns
returns c = edits-answered
