use Rattle.wiki_model.proofs.ShareLaws.{share-interim}
use Rattle.wiki_model.proofs.laws.shared_interim_answers_are_sound.Goals as goal

pub returns : goal.returns
returns c = share-interim
