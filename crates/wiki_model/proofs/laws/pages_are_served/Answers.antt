use Rattle.wiki_model.proofs.AnsweredLaws.{pages-served}
use Rattle.wiki_model.proofs.laws.pages_are_served.Goals as goal

pub returns : goal.returns
returns c = pages-served
