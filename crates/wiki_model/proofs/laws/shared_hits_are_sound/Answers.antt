use Rattle.wiki_model.proofs.ShareLaws.{share-hit}
use Rattle.wiki_model.proofs.laws.shared_hits_are_sound.Goals as goal

pub returns : goal.returns
returns c = share-hit
