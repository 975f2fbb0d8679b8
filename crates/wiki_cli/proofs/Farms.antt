-- What a farm and its caches are opened with is a script's.
use Rattle.std.proofs.Common.{◌≡◌, ℕ, List, Option, Result, Ok, Err, ap, subst, ◌∙◌}
use Rattle.std.specs.Prelude.{Bool, IfOk}
use Rattle.wiki_model.specs.declared.Region.{Region}
use Rattle.wiki_model.specs.declared.Region.TheVariants.{Home, West}
use Rattle.wiki_model.specs.declared.Readings.{Readings}
use Rattle.wiki_model.specs.Bytes.{Bytes}
use Rattle.wiki_model.specs.Titles.{Title}
use Rattle.wiki_model.specs.History.{Entry}
use Rattle.wiki_model.specs.Limits.{hold_off, script_slots}
use Rattle.wiki_model.specs.Cache.{CacheMap, IsEmptyCache}
use Rattle.wiki_model.specs.Script.{Line}
use Rattle.wiki_model.specs.Report.{no_readings}
use Rattle.farm_base.specs.AsModel.{bounds_of}
use Rattle.slot_cache.specs.Slots.{same_slot}
use Rattle.region_state.specs.declared.plan.FarmPlan.{FarmPlan}
use Rattle.farm_core.specs.FarmParts.{FarmParts}
use Rattle.farm_core.specs.NewFarm.{IsFresh, Opens}
use Rattle.script_runner.specs.Openings.{IsScriptPlan, IsScriptCache, StartsScript}
use Rattle.script_runner.proofs.Opened.{starts}
use Rattle.wiki_cli.specs.Ends.{together}

pub opened : {K S E : Type 0} (content : K → Option (List Entry)) (faults : K → ℕ) (cache_of : S → CacheMap Bytes) (plan : FarmPlan) (before : K) (home west : S) (at : Readings) (result : Result (FarmParts K S) E) → at ≡ no_readings
    → IsScriptCache cache_of together Home plan home → IsScriptCache cache_of together West plan west
    → IfOk result (λ farm. IsFresh plan farm) → IfOk result (λ farm. Opens content faults cache_of before home west at farm)
    → IfOk result (λ farm. (lines : List Line) → IsScriptPlan plan lines → StartsScript content faults cache_of together lines before farm)
opened content faults cache_of plan before home west at (Err e) is h w fresh opens = tt
opened content faults cache_of plan before home west at (Ok farm) is h w fresh opens = λ lines p.
    starts plan lines p together content faults cache_of before home west farm h w fresh (subst (λ (now : Readings). Opens content faults cache_of before home west now farm) is opens)

pub slot_fits : {C E : Type 0} (cache_of : C → CacheMap Bytes) (plan : FarmPlan) (held slots : ℕ) (result : Result C E) → held ≡ hold_off (bounds_of plan.bounds) → slots ≡ script_slots
    → IfOk result (λ c. IsEmptyCache (cache_of c)) → IfOk result (λ c. (cache_of c).hold_off ≡ held) → IfOk result (λ c. (cache_of c).together ≡ same_slot slots)
    → IfOk result (λ c. (r : Region) → IsScriptCache cache_of together r plan c)
slot_fits cache_of plan held slots (Err e) is size empty holds same = tt
slot_fits cache_of plan held slots (Ok c) is size empty holds same = λ r. record {
  empty = empty;
  together_is = λ a b. ap (λ (t : Title → Title → Bool). t a b) (same ∙ ap same_slot size);
  held = holds ∙ is;
}
