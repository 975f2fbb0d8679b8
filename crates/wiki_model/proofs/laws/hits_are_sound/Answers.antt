use Rattle.wiki_model.proofs.LookLaws.{hit-sound}
use Rattle.wiki_model.proofs.laws.hits_are_sound.Goals as goal

pub returns : goal.returns
returns c = hit-sound
