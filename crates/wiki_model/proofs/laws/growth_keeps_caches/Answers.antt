use Rattle.wiki_model.proofs.FrameLaws.{stands-grown}
use Rattle.wiki_model.proofs.laws.growth_keeps_caches.Goals as goal

pub returns : goal.returns
returns c = stands-grown
