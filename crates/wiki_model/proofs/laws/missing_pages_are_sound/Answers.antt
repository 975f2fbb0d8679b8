use Rattle.wiki_model.proofs.StoringLaws.{no_page-allowed}
use Rattle.wiki_model.proofs.laws.missing_pages_are_sound.Goals as goal

pub returns : goal.returns
returns c = no_page-allowed
