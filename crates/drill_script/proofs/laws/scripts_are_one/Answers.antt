use Rattle.drill_script.proofs.OneReading.{scripts-are-one}
use Rattle.drill_script.proofs.laws.scripts_are_one.Goals as goal

pub returns : goal.returns
returns c = scripts-are-one
