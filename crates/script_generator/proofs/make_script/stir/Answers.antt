use Rattle.std.proofs.Common.{◌≡◌, ◌<◌, ◌+◌, ◌++◌, ℕ, sym, subst, rules, string_bytes}
use Rattle.std.proofs.lemmas.Bool.Decides.{nat_tests}
use Rattle.wiki_model.specs.Generator.{stirred}
use Rattle.script_generator.specs.Stir.{IsWithin, stirred_of}
use Rattle.script_generator.proofs.Stirs.{no_ok, turn}
use Rattle.script_generator.proofs.make_script.stir.Goals as goal

pub returns-in_err-extend_from_slice-2 : goal.returns-in_err-extend_from_slice-2
returns-in_err-extend_from_slice-2 c = no_ok _ c.from_residual-in_err-extend_from_slice-2.result c.from_residual-in_err-extend_from_slice-2.ensures.0

pub after_step-state-requires-clause-within : goal.after_step-state-requires-clause-within
after_step-state-requires-clause-within c = subst (λ (n : ℕ). IsWithin n (stirred_of c.loop-i.state)) (sym c.from-done.ensures) c.loop-i.invariant.within

pub loop-i-preserved : goal.loop-i-preserved
loop-i-preserved c =
    let less : c.loop-i.i < c.args.steps = search (rules, nat_tests) in
    let new : c.extend_from_slice-in-loop-i.new.self.items ≡ c.loop-i.text.items ++ string_bytes c.in_ok-lines.lines = search rules in
    record {
      within = subst (λ (n : ℕ). IsWithin (n + 1) (stirred_of c.after_step-state.result)) c.from-done.ensures c.after_step-state.ensures.within;
      lines = turn c.loop-i.text.items c.extend_from_slice-in-loop-i.new.self.items (string_bytes c.in_ok-lines.lines) (stirred c.args.seed c.args.steps) c.loop-i.i c.args.steps c.from-done.result (stirred_of c.loop-i.state) (stirred_of c.after_step-state.result)
          less c.from-done.ensures c.loop-i.invariant.lines new c.in_ok-lines.ensures c.after_step-state.ensures.value;
    }
