-- The next line is read as `ReadsLine` says.
use Rattle.std.proofs.Common.{◌≡◌, Bool, true, false, cond, List, Option, None, Some, Ok, Err, refl, sym, ap, ◌∙◌}
use Rattle.std.proofs.lemmas.Option.{none-some, same_Some}
use Rattle.wiki_model.specs.Bytes.{Bytes}
use Rattle.wiki_model.specs.Script.{Line}
use Rattle.drill_script.specs.AsModel.{line_of}
use Rattle.drill_script.specs.Words.{◌>>=◌}
use Rattle.drill_script.specs.Forms.{replica_most, line_in}
use Rattle.drill_script.specs.ScriptState.{noted, fits, next_line, IsStateOf, IsNextLine, ReadsLine}
use Rattle.drill_script.specs.declared.script_line.ScriptLine.{ScriptLine}
use Rattle.drill_script.specs.declared.script_state.ScriptState.{ScriptState}
use Rattle.drill_script.specs.declared.words.LineFault.TheVariants.{Form}
use Rattle.drill_script.proofs.States.{next_read, state_on, none_next, none_fits}

abbrev if_fits : ScriptState → Line → Option Line
if_fits state line = cond (fits state line) (Some line) None

none_here : (state : ScriptState) (bytes : Bytes) → next_line state bytes ≡ None → (lines : List Line) (line : Line) → IsStateOf state lines → IsNextLine lines line bytes → ⊥
unfolding next_line
none_here state bytes e = by_line (line_in replica_most bytes) refl e
  where
    by_line : (o : Option Line) → line_in replica_most bytes ≡ o → (o >>= if_fits state) ≡ None → (lines : List Line) (line : Line) → IsStateOf state lines → IsNextLine lines line bytes → ⊥
    by_line None q k = none_next state bytes q
    by_line (Some read) q k = by_test (fits state read) refl k
      where
        by_test : (t : Bool) → fits state read ≡ t → cond t (Some read) None ≡ None → (lines : List Line) (line : Line) → IsStateOf state lines → IsNextLine lines line bytes → ⊥
        by_test true r j = absurd (none-some read (sym j))
        by_test false r j = none_fits state bytes read q r

line_here : (state : ScriptState) (bytes : Bytes) (line : Line) → next_line state bytes ≡ Some line → (line_in replica_most bytes ≡ Some line) × (fits state line ≡ true)
unfolding next_line
line_here state bytes line e = by_line (line_in replica_most bytes) refl e
  where
    by_line : (o : Option Line) → line_in replica_most bytes ≡ o → (o >>= if_fits state) ≡ Some line → (line_in replica_most bytes ≡ Some line) × (fits state line ≡ true)
    by_line None q k = absurd (none-some line k)
    by_line (Some read) q k = by_test (fits state read) refl k
      where
        by_test : (t : Bool) → fits state read ≡ t → cond t (Some read) None ≡ Some line → (line_in replica_most bytes ≡ Some line) × (fits state line ≡ true)
        by_test true r j = let same : read ≡ line = same_Some read line j in (q ∙ ap Some same, sym (ap (fits state) same) ∙ r)
        by_test false r j = absurd (none-some line j)

pub none_read : (old new : ScriptState) (bytes : Bytes) → next_line old bytes ≡ None → new ≡ old → ReadsLine old bytes (Err Form) new
none_read old new bytes e same = (same, none_here old bytes e)

pub line_read_so : (old new : ScriptState) (bytes : Bytes) (read : ScriptLine) → next_line old bytes ≡ Some (line_of read) → new ≡ noted old (line_of read) → ReadsLine old bytes (Ok read) new
line_read_so old new bytes read e is earlier state_is =
    let here = line_here old bytes (line_of read) e in
    (next_read old (line_of read) bytes earlier here.0 here.1 state_is, state_on old new (line_of read) bytes earlier here.0 is state_is)
