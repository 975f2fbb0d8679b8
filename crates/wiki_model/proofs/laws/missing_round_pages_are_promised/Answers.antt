use Rattle.wiki_model.proofs.PromiseLaws.{no_page-round}
use Rattle.wiki_model.proofs.laws.missing_round_pages_are_promised.Goals as goal

pub returns : goal.returns
returns c = no_page-round
