use Rattle.std.proofs.Common.{◌+◌, string_bytes}
use Rattle.script_generator.proofs.Stirs.{step_lines_are}
use Rattle.script_generator.proofs.make_script.step_lines.Goals as goal

pub returns : goal.returns
returns c = step_lines_are (c.args.done + 1) c.args.state.now c.args.draws.now (string_bytes c.in_ok-text.text) c.requires.drawn c.in_ok-text.ensures
