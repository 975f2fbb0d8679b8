-- What holds of scripts, in a reader's words.
use Rattle.std.specs.Prelude.{ℕ, ◌≡◌, List}
use Rattle.wiki_model.specs.Bytes.{Bytes}
use Rattle.wiki_model.specs.Script.{Line, IsScript, IsFirstFault}

-- the same bytes are never two scripts
abbrev pub ScriptsAreOne : Type 0
ScriptsAreOne =
    (lines others : List Line) (bytes : Bytes) → IsScript lines bytes → IsScript others bytes → lines ≡ others

-- a script is never refused by one of its lines
abbrev pub ScriptsHaveNoFault : Type 0
ScriptsHaveNoFault = (lines : List Line) (bytes : Bytes) (n : ℕ) → IsScript lines bytes → IsFirstFault bytes n → ⊥
