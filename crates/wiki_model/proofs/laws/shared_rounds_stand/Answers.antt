use Rattle.wiki_model.proofs.SharedRoundLaws.{shared-round}
use Rattle.wiki_model.proofs.laws.shared_rounds_stand.Goals as goal

pub returns : goal.returns
returns c = shared-round
