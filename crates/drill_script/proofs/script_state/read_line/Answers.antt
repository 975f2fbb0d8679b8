use Rattle.drill_script.proofs.NextLine.{line_read_so}
use Rattle.drill_script.proofs.script_state.read_line.Goals as goal

pub returns : goal.returns
returns c = line_read_so c.args.state.now c.noted.result c.args.line.now c.in_ok-read.read c.in_ok-read.ensures c.noted.ensures
