-- What the reader of lines answers, from what is known between two lines.
use Rattle.std.proofs.Common.{◌≡◌, ℕ, ◌<◌, ◌≤◌, ◌+◌, Bool, true, false, ◌==◌, List, [], ◌∷◌, ◌++◌, length, Some, None, Ok, Err, sym, ap, subst, ◌∙◌, arith}
use Rattle.std.proofs.lemmas.List.{length-append}
use Rattle.wiki_model.specs.Bytes.{Bytes}
use Rattle.wiki_model.specs.Script.{Line, IsScript, IsFirstFault}
use Rattle.drill_script.specs.AsModel.{line_of}
use Rattle.drill_script.specs.ScriptState.{ReadsLine}
use Rattle.drill_script.specs.ReadScript.{lines_of, IsFaultOf}
use Rattle.drill_script.specs.ReadSoFar.{IsLineCut, IsReadSoFar}
use Rattle.drill_script.specs.declared.script_line.ScriptLine.{ScriptLine}
use Rattle.drill_script.specs.declared.script_state.ScriptState.{ScriptState}
use Rattle.drill_script.specs.declared.whole_script.ScriptFault.{ScriptFault}
use Rattle.drill_script.specs.declared.whole_script.ScriptFault.TheVariants.{Line as FaultyLine}
use Rattle.drill_script.specs.declared.words.LineFault.{LineFault}
use Rattle.drill_script.specs.declared.words.LineFault.TheVariants.{Form}
use Rattle.drill_script.proofs.Faults.{faulty_line, long_line, missing_line, whole_script, line_on}

module _ (bytes rest text after : Bytes) (lines : List ScriptLine) (state : ScriptState) (room : ℕ) where
  fault_reads : (e : ScriptFault) (n : ℕ) → e ≡ FaultyLine n → IsFirstFault bytes n → IsFaultOf e bytes
  fault_reads e n is fault = subst (λ f. IsFaultOf f bytes) (sym is) fault

  pub long_reads : (e : ScriptFault) → IsReadSoFar bytes rest (lines_of lines) state room → IsLineCut rest (Some (text, after)) → room ≤ length text → e ≡ FaultyLine (length (lines_of lines) + 1) → IsFaultOf e bytes
  long_reads e r cut long is = fault_reads e (length (lines_of lines) + 1) is (long_line bytes (lines_of lines) state room rest text after r cut.0 cut.1 long)

  pub form_reads : (e : ScriptFault) (new : ScriptState) (fault : LineFault) → fault ≡ Form → IsReadSoFar bytes rest (lines_of lines) state room → IsLineCut rest (Some (text, after)) → ReadsLine state text (Err fault) new → e ≡ FaultyLine (length (lines_of lines) + 1) → IsFaultOf e bytes
  form_reads e new fault form r cut read is =
      let refused = subst (λ f. ReadsLine state text (Err f) new) form read in
      fault_reads e (length (lines_of lines) + 1) is (faulty_line bytes (lines_of lines) state room rest text after r cut.0 cut.1 refused.1)

  pub open_reads : (e : ScriptFault) → IsReadSoFar bytes rest (lines_of lines) state room → IsLineCut rest None → (rest ≡ [] → state.ended ≡ false) → e ≡ FaultyLine (length (lines_of lines) + 1) → IsFaultOf e bytes
  open_reads e r cut open_end is = fault_reads e (length (lines_of lines) + 1) is (missing_line bytes (lines_of lines) state room rest r cut open_end)

pub whole_reads : (bytes rest : Bytes) (lines : List ScriptLine) (state : ScriptState) (room : ℕ) → IsReadSoFar bytes rest (lines_of lines) state room → rest ≡ [] → state.ended ≡ true → IsScript (lines_of lines) bytes
whole_reads bytes rest lines state room r empty is = whole_script bytes (lines_of lines) state room (subst (λ (x : Bytes). IsReadSoFar bytes x (lines_of lines) state room) empty r) is

pub reads_on : (bytes rest text after : Bytes) (lines new_lines : List ScriptLine) (line : ScriptLine) (state new : ScriptState) (room left : ℕ) → IsReadSoFar bytes rest (lines_of lines) state room → IsLineCut rest (Some (text, after)) → ReadsLine state text (Ok line) new
    → lines_of new_lines ≡ lines_of lines ++ line_of line ∷ [] → left + (length text + 1) ≡ room → IsReadSoFar bytes after (lines_of new_lines) new left
reads_on bytes rest text after lines new_lines line state new room left r cut read pushed fewer =
    let next = read (lines_of lines) r.state_is in
    subst (λ (l : List Line). IsReadSoFar bytes after l new left) (sym pushed) (line_on bytes (lines_of lines) state room rest text after (line_of line) new left r cut.0 cut.1 next.0 next.1 fewer)

pub shorter : (rest text after : Bytes) → IsLineCut rest (Some (text, after)) → length after < length rest
shorter rest text after cut = let long : length rest ≡ length (text ++ 10 ∷ after) = ap (λ (l : Bytes). length l) cut.0 in let all = length-append text (10 ∷ after) in omega (arith, long, all)

pub empty_not : (rest : Bytes) (b : Bool) → b ≡ (length rest == 0) → b ≡ false → rest ≡ [] → ⊥
empty_not rest b is not_so e = clash (sym (is ∙ ap (λ (l : Bytes). length l == 0) e) ∙ not_so)
  where
    clash : true ≡ false → ⊥
    clash e = cc
