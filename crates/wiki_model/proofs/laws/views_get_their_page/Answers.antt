use Rattle.wiki_model.proofs.OutcomeLaws.{views-get_page}
use Rattle.wiki_model.proofs.laws.views_get_their_page.Goals as goal

pub returns : goal.returns
returns c = views-get_page
