use Rattle.wiki_model.proofs.HeadlineLaws.{round-stands_of_proper}
use Rattle.wiki_model.proofs.laws.rounds_keep_caches.Goals as goal

pub returns : goal.returns
returns c = round-stands_of_proper
