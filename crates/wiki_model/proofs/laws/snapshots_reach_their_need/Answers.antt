use Rattle.wiki_model.proofs.ChoiceLaws.{snapshot-reaches}
use Rattle.wiki_model.proofs.laws.snapshots_reach_their_need.Goals as goal

pub returns : goal.returns
returns c = snapshot-reaches
