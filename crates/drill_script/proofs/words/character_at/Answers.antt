use lib.Utf8.{encode}
use Rattle.drill_script.proofs.Escapes.{no_character_at}
use Rattle.drill_script.proofs.words.character_at.Goals as goal

pub returns-clause-character : goal.returns-clause-character
unfolding encode
returns-clause-character c = no_character_at c.args.text.now c.in_default.ensures.cases c.in_default-strip_prefix.ensures.cases
