use Rattle.wiki_model.proofs.OneWorkerLaws.{one_worker-round}
use Rattle.wiki_model.proofs.laws.one_worker_rounds_stand.Goals as goal

pub returns : goal.returns
returns c = one_worker-round
