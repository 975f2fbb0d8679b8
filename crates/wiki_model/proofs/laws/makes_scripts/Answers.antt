use Rattle.wiki_model.proofs.GeneratorLaws.{makes-scripts}
use Rattle.wiki_model.proofs.laws.makes_scripts.Goals as goal

pub returns : goal.returns
returns c = makes-scripts
