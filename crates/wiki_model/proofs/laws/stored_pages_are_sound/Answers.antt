use Rattle.wiki_model.proofs.StoringLaws.{store-allowed}
use Rattle.wiki_model.proofs.laws.stored_pages_are_sound.Goals as goal

pub returns : goal.returns
returns c = store-allowed
