-- What the steps of one line do to a farm, and what the report shows of them.
use Rattle.std.specs.Prelude.{ℕ, ◌≡◌, ◌≤◌, ◌<◌, Bool, false, nat_eq, List, [], ◌∷◌, ◌++◌, length, reverse, Option, Some, None}
use Rattle.wiki_model.specs.declared.Readings.{Readings}
use Rattle.wiki_model.specs.Bytes.{Bytes}
use Rattle.wiki_model.specs.History.{Entry}
use Rattle.wiki_model.specs.Cache.{CacheMap}
use Rattle.wiki_model.specs.World.{World}
use Rattle.wiki_model.specs.Answers.{Answer, Miss}
use Rattle.wiki_model.specs.Runs.{Turn}
use Rattle.wiki_model.specs.Sequences.{Makes}
use Rattle.wiki_model.specs.Script.{Line, Open, steps_of}
use Rattle.wiki_model.specs.Report.{answers_of}
use Rattle.drill_script.specs.declared.script_line.ScriptLine.{ScriptLine}
use Rattle.drill_script.specs.declared.script_line.ScriptLine.TheVariants as line
use Rattle.farm_core.specs.FarmParts.{FarmParts, SameShape}
use Rattle.farm_steps.specs.RequestMap.{open_at}
use Rattle.farm_core.specs.Runs.{Stands}
use Rattle.farm_steps.specs.ViewSteps.{region_at}

-- what a line may be made on: its replica is there, and no request is open under an id that it opens
abbrev pub IsReadyFor : {K S : Type 0} → FarmParts K S → ScriptLine → Type 0
IsReadyFor farm (line.Apply r replica count) = replica < length (region_at r farm.home farm.west).replicas
IsReadyFor farm (line.Arrive id asked) = open_at farm.requests id ≡ None
IsReadyFor farm _ = Unit {0}

-- whether a line opens this request, and leaves it open
abbrev pub opens : Line → (id : ℕ) → Bool
opens (Open other asked) id = nat_eq other id
opens _ id = false

abbrev pub shown_once : Option Answer → List Answer
shown_once None = []
shown_once (Some answer) = answer ∷ []

-- the view looked, and has to snap
abbrev pub IsMissed : Option Answer → Type 0
IsMissed (Some (Miss why)) = Unit {0}
IsMissed _ = ⊥

-- the run goes on by the turns of a line, of which this is shown
pub record GoesOnByLine {K S : Type 0} (content : K → Option (List Entry)) (faults : K → ℕ)
    (cache_of : S → CacheMap Bytes) (old new : FarmParts K S)
    (at : Readings) (line : Line) (said : Option Answer) (start : World) (turns : List Turn) : Type 0 where
  -- the first one first
  pub made : List Turn
  pub world : World
  pub stands : Stands content faults cache_of new start (reverse made ++ turns) world
  pub makes : Makes at (steps_of line) made
  pub shows : answers_of line made ≡ shown_once said

-- What making a line does.
pub record MakesLine {K S : Type 0} (content : K → Option (List Entry)) (faults : K → ℕ) (cache_of : S → CacheMap Bytes)
    (old new : FarmParts K S)
    (at : Readings) (line : Line) (said : Option Answer) : Type 0 where
  -- each run for which the farm stood goes on by the line
  pub runs : (start : World) (turns : List Turn) (v : World) → Stands content faults cache_of old start turns v
      → GoesOnByLine content faults cache_of old new at line said start turns
  -- what was closed is closed, but for the request that the line opens
  pub closed : (id : ℕ) → opens line id ≡ false → open_at old.requests id ≡ None → open_at new.requests id ≡ None
  pub shape : SameShape old new
  -- the keeper's count of faults does not fall
  pub counts : faults old.keeper ≤ faults new.keeper
