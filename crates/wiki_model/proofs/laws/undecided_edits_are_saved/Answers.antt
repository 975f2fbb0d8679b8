use Rattle.wiki_model.proofs.OutcomeLaws.{edits-saved}
use Rattle.wiki_model.proofs.laws.undecided_edits_are_saved.Goals as goal

pub returns : goal.returns
returns c = edits-saved
