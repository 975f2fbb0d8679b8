use Rattle.drill_script.proofs.OneReading.{scripts-have-no-fault}
use Rattle.drill_script.proofs.laws.scripts_have_no_fault.Goals as goal

pub returns : goal.returns
returns c = scripts-have-no-fault
