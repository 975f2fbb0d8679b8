use Rattle.wiki_model.proofs.PromiseLaws.{page-promised}
use Rattle.wiki_model.proofs.laws.pages_are_promised.Goals as goal

pub returns : goal.returns
returns c = page-promised
