use Rattle.drill_script.specs.ReadScript.{lines_of}
use Rattle.script_runner.specs.Openings.{script_start}
use Rattle.wiki_cli.specs.Ends.{together}
use Rattle.wiki_cli.proofs.run_script.drill_on.Goals as goal

pub report_farm-requires : goal.report_farm-requires
report_farm-requires g c = record { runnable = (c.in-Ok.ensures.starts (lines_of c.args.script.lines) c.requires.script).runnable }

pub returns-in-Ok-clause-ends : goal.returns-in-Ok-clause-ends
returns-in-Ok-clause-ends g c = λ empty.
    let lines = lines_of c.args.script.lines in
    let faults = g.K.Keeper.faults in
    c.report_farm.ensures.ends (script_start together lines (faults c.args.keeper)) (script_start together lines (faults c.in-Ok.farm.keeper))
    ((c.in-Ok.ensures.starts lines c.requires.script).stands empty)
