use Rattle.std.proofs.Common.{List, subst, sym, ◌∙◌}
use Rattle.wiki_model.specs.Script.{IsScript}
use Rattle.drill_script.specs.ReadScript.{lines_of, IsPlan}
use Rattle.drill_script.specs.declared.script_line.ScriptLine.{ScriptLine}
use Rattle.drill_script.proofs.whole_script.read_script.Goals as goal

pub returns-clause-read : goal.returns-clause-read
returns-clause-read c = record {
  lines = subst (λ (l : List ScriptLine). IsScript (lines_of l) c.args.bytes.now) (sym c.new.ensures) c.in_ok-lines.ensures;
  plan = subst (λ (l : List ScriptLine). IsPlan l c.in_ok-plan.plan) (c.as_slice.ensures.value ∙ sym c.new.ensures) c.in_ok-plan.ensures.plan;
}
