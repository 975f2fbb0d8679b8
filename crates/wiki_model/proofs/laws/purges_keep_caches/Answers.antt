use Rattle.wiki_model.proofs.PurgeLaws.{purge-stands}
use Rattle.wiki_model.proofs.laws.purges_keep_caches.Goals as goal

pub returns : goal.returns
returns c = purge-stands
