use Rattle.wiki_model.proofs.PartLaws.{rounded-same}
use Rattle.wiki_model.proofs.laws.rounds_change_events.Goals as goal

pub returns : goal.returns
returns c = rounded-same
