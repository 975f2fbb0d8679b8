-- A farm that is opened for a script over an empty history.
use Rattle.std.specs.Prelude.{ℕ, ◌≡◌, Bool, List, [], Option, Some}
use Rattle.wiki_model.specs.declared.Region.{Region}
use Rattle.wiki_model.specs.Bytes.{Bytes}
use Rattle.wiki_model.specs.Titles.{Title}
use Rattle.wiki_model.specs.History.{Entry}
use Rattle.wiki_model.specs.Limits.{hold_off}
use Rattle.wiki_model.specs.Cache.{CacheMap, IsEmptyCache}
use Rattle.wiki_model.specs.World.{World}
use Rattle.wiki_model.specs.Runs.{opening}
use Rattle.wiki_model.specs.Script.{Line, IsScript}
use Rattle.wiki_model.specs.Report.{script_setting, no_readings}
use Rattle.farm_base.specs.AsModel.{bounds_of}
use Rattle.region_state.specs.AsModel.{IsPlanOf}
use Rattle.region_state.specs.declared.plan.FarmPlan.{FarmPlan}
use Rattle.farm_core.specs.FarmParts.{FarmParts}
use Rattle.farm_core.specs.Runs.{Stands}
use Rattle.script_runner.specs.RunScript.{IsRunnable}

-- how titles go together in the caches of each region
abbrev pub Together : Type 0
Together = Region → Title → Title → Bool

-- The plan is that of a script's lines, however titles go together.
pub record IsScriptPlan (plan : FarmPlan) (lines : List Line) : Type 0 where
  pub input : Bytes
  pub is_script : IsScript lines input
  pub fits : (together : Together) → IsPlanOf (script_setting together lines) plan

-- an empty cache of the region, for the plan's bounds
pub record IsScriptCache {S : Type 0} (cache_of : S → CacheMap Bytes) (together : Together) (r : Region)
    (plan : FarmPlan) (cache : S) : Type 0 where
  pub empty : IsEmptyCache (cache_of cache)
  pub together_is : (a b : Title) → (cache_of cache).together a b ≡ together r a b
  pub held : (cache_of cache).hold_off ≡ hold_off (bounds_of plan.bounds)

-- the world in which a script begins: nothing is there, and both moments are 0
abbrev pub script_start : Together → List Line → (faults : ℕ) → World
script_start together lines faults = opening (script_setting together lines) [] faults no_readings

-- The farm is ready for the lines, and stands for the run of no step, if the history is empty.
pub record StartsScript {K S : Type 0} (content : K → Option (List Entry)) (faults : K → ℕ)
    (cache_of : S → CacheMap Bytes)
    (together : Together) (lines : List Line) (before : K) (farm : FarmParts K S) : Type 0 where
  pub runnable : IsRunnable farm lines
  pub stands : content before ≡ Some []
      → Stands content faults cache_of farm (script_start together lines (faults before)) []
      (script_start together lines (faults farm.keeper))
