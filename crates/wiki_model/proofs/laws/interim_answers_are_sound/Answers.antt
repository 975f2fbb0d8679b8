use Rattle.wiki_model.proofs.LookLaws.{interim-sound}
use Rattle.wiki_model.proofs.laws.interim_answers_are_sound.Goals as goal

pub returns : goal.returns
returns c = interim-sound
