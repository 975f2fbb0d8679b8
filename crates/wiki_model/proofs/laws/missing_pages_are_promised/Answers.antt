use Rattle.wiki_model.proofs.PromiseLaws.{no_page-promised}
use Rattle.wiki_model.proofs.laws.missing_pages_are_promised.Goals as goal

pub returns : goal.returns
returns c = no_page-promised
