use Rattle.wiki_model.proofs.PromiseLaws.{round-promised}
use Rattle.wiki_model.proofs.laws.round_pages_are_promised.Goals as goal

pub returns : goal.returns
returns c = round-promised
