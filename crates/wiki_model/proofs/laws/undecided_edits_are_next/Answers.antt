use Rattle.wiki_model.proofs.HistoryGrowth.{commit-next}
use Rattle.wiki_model.proofs.laws.undecided_edits_are_next.Goals as goal

pub returns : goal.returns
returns c = commit-next
