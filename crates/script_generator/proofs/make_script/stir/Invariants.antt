use Rattle.std.proofs.Common.{◌≡◌, ◌+◌, ◌-◌, ◌++◌}
use Rattle.wiki_model.specs.Generator.{stirred, stirred_from}
use Rattle.script_generator.specs.Stir.{IsWithin, stirred_of}
use Rattle.script_generator.proofs.make_script.stir.Given as goal

abbrev pub invariant-loop-i : goal.invariant-loop-i
invariant-loop-i l = record {
  within : IsWithin l.i (stirred_of l.state);
  lines : l.text.items ++ stirred_from (l.i + 1) (l.steps - l.i) (stirred_of l.state) ≡ stirred l.seed l.steps;
}
