-- What is known between two lines of a script that is read.
use Rattle.std.specs.Prelude.{ℕ, ◌≡◌, ◌≢◌, ◌+◌, true, List, [], ◌∷◌, ◌++◌, length, All, Option, None, Some}
use Rattle.wiki_model.specs.Bytes.{Bytes, line_feed}
use Rattle.wiki_model.specs.Limits.{script_max}
use Rattle.wiki_model.specs.Script.{Line, AreLines}
use Rattle.wiki_model.specs.Script.Line.{End}
use Rattle.drill_script.specs.ScriptState.{IsStateOf}
use Rattle.drill_script.specs.declared.script_state.ScriptState.{ScriptState}

abbrev pub IsLineOfBytes : Bytes → Type 0
IsLineOfBytes text = All (λ c. c ≢ line_feed) text

-- the first line, without its line feed, and what stands after it; None if there is no line feed
abbrev pub IsLineCut : Bytes → Option (Bytes × Bytes) → Type 0
IsLineCut bytes None = IsLineOfBytes bytes
IsLineCut bytes (Some cut) = (bytes ≡ cut.0 ++ line_feed ∷ cut.1) × IsLineOfBytes cut.0

-- These lines were read of the bytes, the rest is left, and there is room for so many bytes more.
pub record IsReadSoFar (bytes rest : Bytes) (lines : List Line) (state : ScriptState) (room : ℕ) : Type 0 where
  pub prefix : Bytes
  pub whole : bytes ≡ prefix ++ rest
  pub lines_read : AreLines [] lines prefix
  pub state_is : IsStateOf state lines
  pub ended : state.ended ≡ true → (before : List Line) × (lines ≡ before ++ End ∷ [])
  pub left : room + length prefix ≡ script_max
