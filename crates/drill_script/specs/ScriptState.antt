-- What is known of a script's earlier lines, and what a further line says after them.
-- A script is read line by line; of the lines before, a line's place hangs on five facts only.
use Rattle.std.specs.Prelude.{ℕ, ◌≡◌, ◌≤◌, max, Bool, true, false, not, ◌&&◌, ◌||◌, if◌then◌else◌, List, [], ◌∷◌, ◌++◌, length, Option, None, Some, Result, Ok, Err, IsUtf8, nat_lt}
use Rattle.wiki_model.specs.declared.Region.{Region}
use Rattle.wiki_model.specs.declared.Region.TheVariants.{Home, West}
use Rattle.wiki_model.specs.Bytes.{Bytes}
use Rattle.wiki_model.specs.Limits.{replicas_max}
use Rattle.wiki_model.specs.Script.{Line, Spells, MayFollow}
use Rattle.wiki_model.specs.Script.Line.{FarmLine, BoundsLine, ApplyLine, Open, End}
use Rattle.drill_script.specs.AsModel.{line_of}
use Rattle.drill_script.specs.Words.{◌>>=◌}
use Rattle.drill_script.specs.Forms.{replica_most, line_in}
use Rattle.drill_script.specs.declared.script_line.ScriptLine.{ScriptLine}
use Rattle.drill_script.specs.declared.script_state.ScriptState.{ScriptState}
use Rattle.drill_script.specs.declared.words.LineFault.{LineFault}
use Rattle.drill_script.specs.declared.words.LineFault.TheVariants as faults

abbrev pub is_end : Line → Bool
is_end End = true
is_end _ = false

abbrev pub is_farm : Line → Bool
is_farm (FarmLine home west epoch) = true
is_farm _ = false

-- the id that a line opens, or 0
abbrev pub opened_id : Line → ℕ
opened_id (Open id asked) = id
opened_id _ = 0

-- how many replicas a region has, by the first line
abbrev pub replicas_by : Region → Line → ℕ
replicas_by Home (FarmLine home west epoch) = length home
replicas_by West (FarmLine home west epoch) = length west
replicas_by r _ = 1

abbrev pub has_none : List Line → Bool
has_none [] = true
has_none (line ∷ lines) = false

abbrev pub has_farm_alone : List Line → Bool
has_farm_alone (line ∷ []) = is_farm line
has_farm_alone _ = false

abbrev pub replicas_told : Region → List Line → ℕ
replicas_told r [] = 1
replicas_told r (line ∷ lines) = replicas_by r line

abbrev pub greatest_id : List Line → ℕ
greatest_id [] = 0
greatest_id (line ∷ lines) = max (opened_id line) (greatest_id lines)

abbrev pub has_end : List Line → Bool
has_end [] = false
has_end (line ∷ lines) = is_end line || has_end lines

-- the state after these lines
abbrev pub state_after : List Line → ScriptState
state_after lines = record {
  empty = has_none lines;
  farm_alone = has_farm_alone lines;
  home = replicas_told Home lines;
  west = replicas_told West lines;
  greatest_id = greatest_id lines;
  ended = has_end lines;
}

-- the state after one more line
abbrev pub noted : ScriptState → Line → ScriptState
noted s line = record {
  empty = false;
  farm_alone = s.empty && is_farm line;
  home = if s.empty then replicas_by Home line else s.home;
  west = if s.empty then replicas_by West line else s.west;
  greatest_id = max s.greatest_id (opened_id line);
  ended = s.ended || is_end line;
}

abbrev pub replicas_in : Region → ScriptState → ℕ
replicas_in Home s = s.home
replicas_in West s = s.west

abbrev pub in_place : ScriptState → Line → Bool
in_place s (FarmLine home west epoch) = s.empty
in_place s (BoundsLine b) = s.empty || s.farm_alone
in_place s (ApplyLine r replica count) = nat_lt replica (replicas_in r s)
in_place s (Open id asked) = nat_lt s.greatest_id id
in_place s _ = true

-- whether the line may follow, if its form allows it
abbrev pub fits : ScriptState → Line → Bool
fits s line = not s.ended && in_place s line

-- what the bytes say, if it may stand after the earlier lines
unfoldable pub next_line : ScriptState → Bytes → Option Line
next_line state bytes = do
  line ← line_in replica_most bytes
  if fits state line then Some line else None

-- The state is that of these lines, which are those of a script as far as it was read.
pub record IsStateOf (state : ScriptState) (earlier : List Line) : Type 0 where
  pub same : state ≡ state_after earlier
  pub few_home : state.home ≤ replicas_max
  pub few_west : state.west ≤ replicas_max

-- The bytes are this line, and it may stand after the earlier ones.
pub record IsNextLine (earlier : List Line) (line : Line) (bytes : Bytes) : Type 0 where
  pub utf8 : IsUtf8 bytes
  pub spelled : Spells line bytes
  pub follows : MayFollow earlier line

-- What reading a line answers: the next line; or that no line of these bytes may stand here, or out of memory, with
-- the state as before.
abbrev pub ReadsLine : ScriptState → Bytes → Result ScriptLine LineFault → ScriptState → Type 0
ReadsLine old bytes (Ok line) new =
    (earlier : List Line) → IsStateOf old earlier → IsNextLine earlier (line_of line) bytes
    × IsStateOf new (earlier ++ line_of line ∷ [])
ReadsLine old bytes (Err faults.Form) new =
    (new ≡ old) × ((earlier : List Line) (line : Line) → IsStateOf old earlier → IsNextLine earlier line bytes → ⊥)
ReadsLine old bytes (Err faults.Memory) new = new ≡ old
