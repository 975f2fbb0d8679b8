use Rattle.wiki_model.proofs.GrowthLaws.{run-goes}
use Rattle.wiki_model.proofs.laws.runs_only_grow.Goals as goal

pub returns : goal.returns
returns c = run-goes
