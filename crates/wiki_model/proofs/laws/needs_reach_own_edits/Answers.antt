use Rattle.wiki_model.proofs.SessionLaws.{floor-fits}
use Rattle.wiki_model.proofs.laws.needs_reach_own_edits.Goals as goal

pub returns : goal.returns
returns c = floor-fits
