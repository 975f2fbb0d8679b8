use Rattle.wiki_model.proofs.PutStandsLaws.{puts-stand}
use Rattle.wiki_model.proofs.laws.puts_keep_caches.Goals as goal

pub returns : goal.returns
returns c = puts-stand
