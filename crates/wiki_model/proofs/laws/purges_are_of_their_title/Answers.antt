use Rattle.wiki_model.proofs.Purged.{purge-title}
use Rattle.wiki_model.proofs.laws.purges_are_of_their_title.Goals as goal

pub returns : goal.returns
returns c = purge-title
