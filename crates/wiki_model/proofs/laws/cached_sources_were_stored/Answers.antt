use Rattle.wiki_model.proofs.MakerLaws.{cached-stored}
use Rattle.wiki_model.proofs.laws.cached_sources_were_stored.Goals as goal

pub returns : goal.returns
returns c = cached-stored
