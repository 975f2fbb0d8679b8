use Rattle.std.proofs.Common.{◌≡◌, ◌++◌, rules}
use Rattle.drill_script.specs.Summary.{first_text, second_text}
use Rattle.drill_script.proofs.Summaries.{summary_is}
use Rattle.drill_script.proofs.count_answers.summary_line.Goals as goal

pub returns : goal.returns
returns c =
    let e : c.extend_from_slice.new.self.items ≡ first_text c.args.steps c.args.entries c.args.summary.now ++ second_text c.args.summary.now = search rules in
    summary_is c.args.steps c.args.entries c.args.summary.now c.extend_from_slice.new.self.items e
