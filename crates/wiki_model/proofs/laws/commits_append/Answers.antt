use Rattle.wiki_model.proofs.PartLaws.{commit-appends}
use Rattle.wiki_model.proofs.laws.commits_append.Goals as goal

pub returns : goal.returns
returns c = commit-appends
