use Rattle.wiki_model.proofs.AnsweredLaws.{views-answered}
use Rattle.wiki_model.proofs.laws.views_are_answered.Goals as goal

pub returns : goal.returns
returns c = views-answered
