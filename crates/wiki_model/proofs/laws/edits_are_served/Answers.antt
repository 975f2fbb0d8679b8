use Rattle.wiki_model.proofs.AnsweredLaws.{edits-served}
use Rattle.wiki_model.proofs.laws.edits_are_served.Goals as goal

pub returns : goal.returns
returns c = edits-served
