use Rattle.wiki_model.proofs.HistoryGrowth.{current-counted}
use Rattle.wiki_model.proofs.laws.revisions_are_counted.Goals as goal

pub returns : goal.returns
returns c = current-counted
