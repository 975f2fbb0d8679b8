use Rattle.wiki_model.proofs.MissLaws.{look-allowed}
use Rattle.wiki_model.proofs.laws.looks_are_allowed.Goals as goal

pub returns : goal.returns
returns c = look-allowed
