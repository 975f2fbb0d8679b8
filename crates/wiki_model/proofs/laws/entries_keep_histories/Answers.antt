use Rattle.wiki_model.proofs.HistoryGrowth.{history-push}
use Rattle.wiki_model.proofs.laws.entries_keep_histories.Goals as goal

pub returns : goal.returns
returns c = history-push
