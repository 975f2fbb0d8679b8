use Rattle.wiki_model.proofs.StoreLaws.{no_put-stands}
use Rattle.wiki_model.proofs.laws.stores_keep_caches.Goals as goal

pub returns : goal.returns
returns c = no_put-stands
