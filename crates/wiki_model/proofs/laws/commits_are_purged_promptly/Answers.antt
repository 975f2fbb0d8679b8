use Rattle.wiki_model.proofs.PromptLaws.{prompt-purged}
use Rattle.wiki_model.proofs.laws.commits_are_purged_promptly.Goals as goal

pub returns : goal.returns
returns c = prompt-purged
