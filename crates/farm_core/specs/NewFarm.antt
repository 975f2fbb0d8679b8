-- What a farm is opened with.
use Rattle.std.specs.Prelude.{ℕ, ◌≡◌, ◌<◌, ◌≤◌, max, List, [], length, Option, Some, None}
use Rattle.wiki_model.specs.History.{Entry, Numbered, stamp_at}
use Rattle.wiki_model.specs.declared.Region.{Region}
use Rattle.wiki_model.specs.Titles.{Title}
use Rattle.wiki_model.specs.Bytes.{Bytes}
use Rattle.wiki_model.specs.Limits.{hold_off}
use Rattle.wiki_model.specs.World.{Setting, cut}
use Rattle.wiki_model.specs.Cache.{CacheMap, IsCache, IsEmptyCache}
use Rattle.wiki_model.specs.Positions.{told_all, young_commits, no_rows}
use Rattle.chronology_store.specs.AsModel.{rows_in}
use Rattle.region_state.specs.NewRegion.{AreNew}
use Rattle.wiki_model.specs.declared.Region.TheVariants.{Home, West}
use Rattle.wiki_model.specs.declared.Readings.{Readings}
use Rattle.wiki_model.specs.Runs.{opening}
use Rattle.region_state.specs.declared.plan.FarmPlan.{FarmPlan}
use Rattle.region_state.specs.AsModel.{IsPlanOf}
use Rattle.wiki_model.specs.Steps.{Rose}
use Rattle.revision_keeper.specs.declared.keeper.KeepFault.{KeepFault}
use Rattle.revision_keeper.specs.declared.keeper.KeepFault.TheVariants as keep
use Rattle.farm_core.specs.declared.farm.NewFault.{NewFault}
use Rattle.farm_core.specs.declared.farm.NewFault.TheVariants as new
use Rattle.farm_core.specs.Runs.{Stands}
use Rattle.region_state.specs.RegionState.{RegionParts}
use Rattle.farm_core.specs.FarmParts.{FarmParts, IsWhole}

-- a region of an opened farm, with the positions of these commits
pub record IsOpenedRegion {S : Type 0} (weights : List ℕ) (epoch read_lag : ℕ) (cache : S) (ns : List Numbered)
    (parts : RegionParts S) : Type 0 where
  pub config : parts.config ≡ record { weights = weights; epoch = epoch; read_lag = read_lag }
  pub markup : parts.markup ≡ 1
  pub replicas : AreNew weights parts.replicas
  pub rows : rows_in parts.positions ≡ told_all ns no_rows
  pub cache_is : parts.cache ≡ Some cache

-- a cache of the setting
pub record IsCacheOf {S : Type 0} (cache_of : S → CacheMap Bytes) (setting : Setting) (r : Region)
    (cache : S) : Type 0 where
  pub together : (a b : Title) → (cache_of cache).together a b ≡ setting.together r a b
  pub held : (cache_of cache).hold_off ≡ hold_off setting.bounds

-- a cache with which a farm may be opened
pub record OpensCache {S : Type 0} (cache_of : S → CacheMap Bytes) (setting : Setting) (r : Region)
    (cache : S) : Type 0 where
  pub empty : IsEmptyCache (cache_of cache)
  pub is_cache : IsCache (cache_of cache)
  pub together : (a b : Title) → (cache_of cache).together a b ≡ setting.together r a b
  pub held : (cache_of cache).hold_off ≡ hold_off setting.bounds

-- The farm stands for the run of no step, over the history that its keeper exposes.
abbrev pub Opens : {K S : Type 0} → (K → Option (List Entry)) → (K → ℕ) → (S → CacheMap Bytes) → (before : K)
    → (home west : S) → Readings → FarmParts K S → Type 0
Opens content faults cache_of before home west at farm =
    (setting : Setting) (history : List Entry) → content before ≡ Some history → IsPlanOf setting farm.plan
    → 0 < setting.bounds.skew → IsCacheOf cache_of setting Home home → IsCacheOf cache_of setting West west
    → Stands content faults cache_of farm (opening setting history (faults before) at) []
    (opening setting history (faults farm.keeper) at)

-- A farm that was opened by this plan: nothing is open, issued or lent.
pub record IsFresh {K S : Type 0} (plan : FarmPlan) (farm : FarmParts K S) : Type 0 where
  pub plan_is : farm.plan ≡ plan
  pub none_open : farm.requests ≡ []
  pub none_issued : farm.ledger.rows ≡ []
  pub no_beat : farm.last_beat ≡ None
  pub whole : IsWhole farm
  pub home : length farm.home.replicas ≡ length plan.home.weights
  pub west : length farm.west.replicas ≡ length plan.west.weights

abbrev pub new_fault_of : KeepFault → NewFault
new_fault_of keep.Fault = new.Fault
new_fault_of keep.Memory = new.Memory

-- a fault of the keeper is told only if its count rose
abbrev pub HasNewFault : (before now : ℕ) → NewFault → Type 0
HasNewFault before now new.Fault = Rose before now
HasNewFault before now new.Memory = before ≤ now

-- what the regions and the moments of an opened farm are
pub record IsStarted {S : Type 0} (cache_of : S → CacheMap Bytes) (plan : FarmPlan) (home_cache west_cache : S)
    (at : Readings) (history : List Entry) (home_parts west_parts : RegionParts S) (moments : Readings) : Type 0 where
  pub moments_are : moments
      ≡ record { home = max (cut at.home) (stamp_at history (length history)); west = cut at.west }
  pub home : IsOpenedRegion plan.home.weights plan.epoch plan.bounds.read_lag home_cache
      (young_commits moments.home history) home_parts
  pub west : IsOpenedRegion plan.west.weights plan.epoch plan.bounds.read_lag west_cache
      (young_commits moments.home history) west_parts
