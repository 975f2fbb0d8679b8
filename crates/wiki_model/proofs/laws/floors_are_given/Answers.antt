use Rattle.wiki_model.proofs.FloorLaws.{floors-given}
use Rattle.wiki_model.proofs.laws.floors_are_given.Goals as goal

pub returns : goal.returns
returns c = floors-given
