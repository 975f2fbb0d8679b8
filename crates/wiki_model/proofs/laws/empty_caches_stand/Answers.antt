use Rattle.wiki_model.proofs.JobLaws.{empty-stands}
use Rattle.wiki_model.proofs.laws.empty_caches_stand.Goals as goal

pub returns : goal.returns
returns c = empty-stands
