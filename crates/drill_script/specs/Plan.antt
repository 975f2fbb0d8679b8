-- What the first two lines of a script say of the farm's layout: the line `farm`, and the line `bounds` first or after
-- it.
use Rattle.std.specs.Prelude.{ℕ, if◌then◌else◌, List, [], ◌∷◌, Option, None, Some}
use Rattle.wiki_model.specs.declared.Region.{Region}
use Rattle.wiki_model.specs.declared.Region.TheVariants.{Home, West}
use Rattle.wiki_model.specs.Limits.{Bounds, default_bounds}
use Rattle.wiki_model.specs.Script.{Line}
use Rattle.wiki_model.specs.Script.Line.{FarmLine, BoundsLine}
use Rattle.drill_script.specs.ScriptState.{is_farm}

abbrev pub weights_by : Region → Line → List ℕ
weights_by Home (FarmLine home west epoch) = home
weights_by West (FarmLine home west epoch) = west
weights_by r _ = 1 ∷ []

abbrev pub epoch_by : Line → ℕ
epoch_by (FarmLine home west epoch) = epoch
epoch_by _ = 0

abbrev pub bounds_by : Line → Bounds
bounds_by (BoundsLine b) = b
bounds_by _ = default_bounds

abbrev pub weights_told : Region → (first : Option Line) → List ℕ
weights_told r None = 1 ∷ []
weights_told r (Some line) = weights_by r line

abbrev pub epoch_told : (first : Option Line) → ℕ
epoch_told None = 0
epoch_told (Some line) = epoch_by line

abbrev pub bounds_at : Option Line → Bounds
bounds_at None = default_bounds
bounds_at (Some line) = bounds_by line

abbrev pub bounds_told : (first second : Option Line) → Bounds
bounds_told None second = default_bounds
bounds_told (Some line) second = if is_farm line then bounds_at second else bounds_by line
