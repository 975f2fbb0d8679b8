use Rattle.wiki_model.proofs.StepLaws.{opened-run-keeps}
use Rattle.wiki_model.proofs.laws.runs_stay_consistent.Goals as goal

pub returns : goal.returns
returns c = opened-run-keeps
