use Rattle.wiki_model.proofs.HistoryGrowth.{html-grows}
use Rattle.wiki_model.proofs.laws.pages_of_prefixes_stay.Goals as goal

pub returns : goal.returns
returns c = html-grows
