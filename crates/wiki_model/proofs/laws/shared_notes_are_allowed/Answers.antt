use Rattle.wiki_model.proofs.ShareLaws.{share-not_quiet}
use Rattle.wiki_model.proofs.laws.shared_notes_are_allowed.Goals as goal

pub returns : goal.returns
returns c = share-not_quiet
