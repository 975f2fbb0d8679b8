use Rattle.wiki_model.proofs.AppliedLaws.{need-reached}
use Rattle.wiki_model.proofs.laws.needs_are_reached.Goals as goal

pub returns : goal.returns
returns c = need-reached
