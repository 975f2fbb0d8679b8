-- What is written of a run: the answers so far, and after them the last line or that of a keeper that failed.
use Rattle.std.proofs.Common.{◌≡◌, ℕ, ◌+◌, inl, inr, List, ◌++◌, length, Option, None, Some, Ok, refl, sym, subst, arith}
use Rattle.wiki_model.specs.Bytes.{Bytes}
use Rattle.wiki_model.specs.Answers.{Answer}
use Rattle.wiki_model.specs.Steps.{Rose}
use Rattle.wiki_model.specs.Generator.{summary_of}
use Rattle.farm_base.specs.Exposed.{Adds, AddsPrefix, Stays}
use Rattle.farm_base.proofs.Chains.{adds_then}
use Rattle.revision_keeper.specs.declared.keeper.KeepFault.TheVariants as keep
use Rattle.drill_script.specs.Summary.{IsSummaryOf}
use Rattle.drill_script.specs.declared.count_answers.Summary.{Summary}
use Rattle.script_runner.specs.RunScript.{IsReported}
use Rattle.script_runner.specs.declared.report_state.ReportState.{ReportState}
use Rattle.script_runner.specs.declared.report_state.ReportState.TheVariants as state
use Rattle.script_runner.proofs.Reported.{prefix_then, prefix_more, rose_after}
use Rattle.wiki_cli.specs.Command.{store_fault_line}
use Rattle.wiki_cli.specs.Ends.{EndsReport}
use Rattle.wiki_cli.specs.RunFarm.{WritesLast, FailsReport, WritesText, WritesCounts}
use Rattle.wiki_cli.specs.declared.status.Status.{Status}
use Rattle.wiki_cli.specs.declared.status.Status.TheVariants as status

pub stays_same : (a : Option Bytes) → Stays a a
stays_same None = tt
stays_same (Some xs) = refl

-- how a text that is written so far ends, by what is written after it
module _ (failed : Type 0) (old : Option Bytes) (Whole Cut : Bytes → Type 0) where
  -- the whole text ends with the last line
  pub last_written : (state : ReportState) (b c : Option Bytes) (f g h : ℕ) (text last : Bytes) (said : Status) → (Rose f h → failed) → IsReported state old b f g text → WritesLast state b c g h last said
      → Whole (text ++ last) → EndsReport Whole Cut failed old c said
  last_written state.Whole b c f g h text last status.Ok risen (adds, up) (more, on) whole = (text ++ last, whole, adds_then old b c text last adds more)
  last_written state.Whole b c f g h text last status.WriteFault risen (adds, up) (more, rose) whole = (text ++ last, whole, prefix_then old b c text last adds more)
  last_written state.Whole b c f g h text last status.Memory risen (adds, up) (more, on) whole = inr (text ++ last, whole, prefix_then old b c text last adds more)
  last_written state.Whole b c f g h text last status.Usage risen is wrong whole = absurd wrong
  last_written state.Whole b c f g h text last (status.Script n) risen is wrong whole = absurd wrong
  last_written state.Whole b c f g h text last status.ReadFault risen is wrong whole = absurd wrong
  last_written state.Whole b c f g h text last status.StoreFault risen is wrong whole = absurd wrong
  last_written state.Whole b c f g h text last (status.NotEmpty n) risen is wrong whole = absurd wrong
  last_written state.Whole b c f g h text last status.DoorFault risen is wrong whole = absurd wrong
  last_written state.Whole b c f g h text last (status.Layout n) risen is wrong whole = absurd wrong
  last_written state.Failed b c f g h text last status.WriteFault risen (part, rose) (same, still) whole = (text ++ last, whole, subst (λ (w : Option Bytes). AddsPrefix old w (text ++ last)) (sym same) (prefix_more old b text last part))
  last_written state.Failed b c f g h text last status.Ok risen is wrong whole = absurd wrong
  last_written state.Failed b c f g h text last status.Memory risen is wrong whole = absurd wrong
  last_written state.Failed b c f g h text last status.Usage risen is wrong whole = absurd wrong
  last_written state.Failed b c f g h text last (status.Script n) risen is wrong whole = absurd wrong
  last_written state.Failed b c f g h text last status.ReadFault risen is wrong whole = absurd wrong
  last_written state.Failed b c f g h text last status.StoreFault risen is wrong whole = absurd wrong
  last_written state.Failed b c f g h text last (status.NotEmpty n) risen is wrong whole = absurd wrong
  last_written state.Failed b c f g h text last status.DoorFault risen is wrong whole = absurd wrong
  last_written state.Failed b c f g h text last (status.Layout n) risen is wrong whole = absurd wrong
  last_written state.Memory b c f g h text last status.Memory risen (part, up) (same, still) whole = inr (text ++ last, whole, subst (λ (w : Option Bytes). AddsPrefix old w (text ++ last)) (sym same) (prefix_more old b text last part))
  last_written state.Memory b c f g h text last status.Ok risen is wrong whole = absurd wrong
  last_written state.Memory b c f g h text last status.WriteFault risen is wrong whole = absurd wrong
  last_written state.Memory b c f g h text last status.Usage risen is wrong whole = absurd wrong
  last_written state.Memory b c f g h text last (status.Script n) risen is wrong whole = absurd wrong
  last_written state.Memory b c f g h text last status.ReadFault risen is wrong whole = absurd wrong
  last_written state.Memory b c f g h text last status.StoreFault risen is wrong whole = absurd wrong
  last_written state.Memory b c f g h text last (status.NotEmpty n) risen is wrong whole = absurd wrong
  last_written state.Memory b c f g h text last status.DoorFault risen is wrong whole = absurd wrong
  last_written state.Memory b c f g h text last (status.Layout n) risen is wrong whole = absurd wrong

  -- the line of a keeper that failed
  pub fault_written : (state : ReportState) (b c : Option Bytes) (f g h : ℕ) (text last : Bytes) (said : Status) → (Rose f h → failed) → IsReported state old b f g text → FailsReport state b c g h said
      → Cut text → Whole (text ++ last) → EndsReport Whole Cut failed old c said
  fault_written state.Whole b c f g h text last status.StoreFault risen (adds, up) (inl more, on) cut whole = inr (text, cut, inl (adds_then old b c text store_fault_line adds more))
  fault_written state.Whole b c f g h text last status.StoreFault risen (adds, up) (inr (rose, more), on) cut whole = inr (text, cut, inr (risen (rose_after f g h up rose), prefix_then old b c text store_fault_line adds more))
  fault_written state.Whole b c f g h text last status.Ok risen is wrong cut whole = absurd wrong
  fault_written state.Whole b c f g h text last status.WriteFault risen is wrong cut whole = absurd wrong
  fault_written state.Whole b c f g h text last status.Memory risen is wrong cut whole = absurd wrong
  fault_written state.Whole b c f g h text last status.Usage risen is wrong cut whole = absurd wrong
  fault_written state.Whole b c f g h text last (status.Script n) risen is wrong cut whole = absurd wrong
  fault_written state.Whole b c f g h text last status.ReadFault risen is wrong cut whole = absurd wrong
  fault_written state.Whole b c f g h text last (status.NotEmpty n) risen is wrong cut whole = absurd wrong
  fault_written state.Whole b c f g h text last status.DoorFault risen is wrong cut whole = absurd wrong
  fault_written state.Whole b c f g h text last (status.Layout n) risen is wrong cut whole = absurd wrong
  fault_written state.Failed b c f g h text last status.StoreFault risen (part, rose) (same, still) cut whole =
      inr (text, cut, inr (risen (subst (λ n. Rose f n) (sym still) rose), subst (λ (w : Option Bytes). AddsPrefix old w (text ++ store_fault_line)) (sym same) (prefix_more old b text store_fault_line part)))
  fault_written state.Failed b c f g h text last status.Ok risen is wrong cut whole = absurd wrong
  fault_written state.Failed b c f g h text last status.WriteFault risen is wrong cut whole = absurd wrong
  fault_written state.Failed b c f g h text last status.Memory risen is wrong cut whole = absurd wrong
  fault_written state.Failed b c f g h text last status.Usage risen is wrong cut whole = absurd wrong
  fault_written state.Failed b c f g h text last (status.Script n) risen is wrong cut whole = absurd wrong
  fault_written state.Failed b c f g h text last status.ReadFault risen is wrong cut whole = absurd wrong
  fault_written state.Failed b c f g h text last (status.NotEmpty n) risen is wrong cut whole = absurd wrong
  fault_written state.Failed b c f g h text last status.DoorFault risen is wrong cut whole = absurd wrong
  fault_written state.Failed b c f g h text last (status.Layout n) risen is wrong cut whole = absurd wrong
  fault_written state.Memory b c f g h text last status.Memory risen (part, up) (same, still) cut whole = inr (text ++ last, whole, subst (λ (w : Option Bytes). AddsPrefix old w (text ++ last)) (sym same) (prefix_more old b text last part))
  fault_written state.Memory b c f g h text last status.Ok risen is wrong cut whole = absurd wrong
  fault_written state.Memory b c f g h text last status.WriteFault risen is wrong cut whole = absurd wrong
  fault_written state.Memory b c f g h text last status.StoreFault risen is wrong cut whole = absurd wrong
  fault_written state.Memory b c f g h text last status.Usage risen is wrong cut whole = absurd wrong
  fault_written state.Memory b c f g h text last (status.Script n) risen is wrong cut whole = absurd wrong
  fault_written state.Memory b c f g h text last status.ReadFault risen is wrong cut whole = absurd wrong
  fault_written state.Memory b c f g h text last (status.NotEmpty n) risen is wrong cut whole = absurd wrong
  fault_written state.Memory b c f g h text last status.DoorFault risen is wrong cut whole = absurd wrong
  fault_written state.Memory b c f g h text last (status.Layout n) risen is wrong cut whole = absurd wrong

  -- memory ran out when the keeper was asked
  pub memory_written : (state : ReportState) (b c : Option Bytes) (f g h : ℕ) (text last : Bytes) → IsReported state old b f g text → c ≡ b → Whole (text ++ last) → EndsReport Whole Cut failed old c status.Memory
  memory_written state.Whole b c f g h text last (adds, up) same whole = inr (text ++ last, whole, subst (λ (w : Option Bytes). AddsPrefix old w (text ++ last)) (sym same) (length text, omega (arith, Rattle.std.proofs.Common.length-append text last), subst (Adds old b) (sym (Rattle.std.proofs.Math.Seq.take-append_seam text last)) adds))
  memory_written state.Failed b c f g h text last (part, rose) same whole = inr (text ++ last, whole, subst (λ (w : Option Bytes). AddsPrefix old w (text ++ last)) (sym same) (prefix_more old b text last part))
  memory_written state.Memory b c f g h text last (part, up) same whole = inr (text ++ last, whole, subst (λ (w : Option Bytes). AddsPrefix old w (text ++ last)) (sym same) (prefix_more old b text last part))

-- what was written of a last text
pub text_last : (s : ReportState) (b c : Option Bytes) (g h : ℕ) (text : Bytes) (said : Status) → s ≡ state.Whole → WritesText b c g h text said → WritesLast s b c g h text said
text_last s b c g h text status.Ok is w = subst (λ (q : ReportState). WritesLast q b c g h text status.Ok) (sym is) w
text_last s b c g h text status.WriteFault is w = subst (λ (q : ReportState). WritesLast q b c g h text status.WriteFault) (sym is) w
text_last s b c g h text status.Memory is wrong = absurd wrong
text_last s b c g h text status.StoreFault is wrong = absurd wrong
text_last s b c g h text status.Usage is wrong = absurd wrong
text_last s b c g h text (status.Script n) is wrong = absurd wrong
text_last s b c g h text status.ReadFault is wrong = absurd wrong
text_last s b c g h text (status.NotEmpty n) is wrong = absurd wrong
text_last s b c g h text status.DoorFault is wrong = absurd wrong
text_last s b c g h text (status.Layout n) is wrong = absurd wrong

pub text_counts : (b c : Option Bytes) (g h steps n : ℕ) (summary_now : Summary) (text : Bytes) (said : Status) → ((answers : List Answer) → IsSummaryOf summary_now answers → text ≡ summary_of steps n answers) → WritesText b c g h text said → WritesCounts b c g h steps n summary_now said
text_counts b c g h steps n summary_now text status.Ok is w = λ answers of. subst (Adds b c) (is answers of) w.0
text_counts b c g h steps n summary_now text status.WriteFault is w = (λ answers of. subst (AddsPrefix b c) (is answers of) w.0, w.1)
text_counts b c g h steps n summary_now text status.Memory is wrong = absurd wrong
text_counts b c g h steps n summary_now text status.StoreFault is wrong = absurd wrong
text_counts b c g h steps n summary_now text status.Usage is wrong = absurd wrong
text_counts b c g h steps n summary_now text (status.Script k) is wrong = absurd wrong
text_counts b c g h steps n summary_now text status.ReadFault is wrong = absurd wrong
text_counts b c g h steps n summary_now text (status.NotEmpty k) is wrong = absurd wrong
text_counts b c g h steps n summary_now text status.DoorFault is wrong = absurd wrong
text_counts b c g h steps n summary_now text (status.Layout k) is wrong = absurd wrong
