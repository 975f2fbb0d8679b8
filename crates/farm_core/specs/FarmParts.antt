-- The parts of a farm, and what holds of them at every moment, whatever runs the farm stands for.
use Rattle.std.specs.Prelude.{ℕ, ◌≡◌, ◌≤◌, IsTrue, List, length, Option, Some, IfSome, IsSome}
use Rattle.wiki_model.specs.declared.Region.{Region}
use Rattle.wiki_model.specs.declared.Region.TheVariants.{Home, West}
use Rattle.wiki_model.specs.declared.Readings.{Readings}
use Rattle.wiki_model.specs.Bytes.{Bytes}
use Rattle.wiki_model.specs.History.{Entry, stamp_at}
use Rattle.wiki_model.specs.Limits.{greatest_moment, bound_max}
use Rattle.wiki_model.specs.Cache.{CacheMap}
use Rattle.chronology_store.specs.ChronologyStore.{is_reserved}
use Rattle.purge_relay.specs.Ledger.{LedgerState}
use Rattle.edit_core.specs.declared.begun_edit.BegunEdit.{BegunEdit}
use Rattle.region_state.specs.declared.plan.FarmPlan.{FarmPlan}
use Rattle.region_state.specs.RegionState.{RegionParts, IsBefore, with_cache}
use Rattle.farm_steps.specs.declared.open_request.OpenRequest.TheVariants as point
use Rattle.farm_steps.specs.RequestMap.{Entries, open_at, room}

pub record FarmParts (K S : Type 0) : Type 0 where
  pub plan : FarmPlan
  pub keeper : K
  pub ledger : LedgerState
  pub home : RegionParts S
  pub west : RegionParts S
  pub requests : Entries
  pub moments : Readings
  -- the stamp of the last beat that this farm appended
  pub last_beat : Option ℕ

abbrev pub region_parts : {K S : Type 0} → Region → FarmParts K S → RegionParts S
region_parts Home farm = farm.home
region_parts West farm = farm.west

-- the new parts if the region is home, and if it is west
abbrev pub pick_home : {S : Type 0} → Region → (new old : RegionParts S) → RegionParts S
pick_home Home new old = new
pick_home West new old = old

abbrev pub pick_west : {S : Type 0} → Region → (new old : RegionParts S) → RegionParts S
pick_west Home new old = old
pick_west West new old = new

abbrev pub with_region_cache : {K S : Type 0} → Region → S → FarmParts K S → FarmParts K S
with_region_cache r cache farm = record farm {
  home = pick_home r (with_cache (Some cache) farm.home) farm.home;
  west = pick_west r (with_cache (Some cache) farm.west) farm.west;
}

-- both caches are there: none is lent
abbrev pub IsWhole : {K S : Type 0} → FarmParts K S → Type 0
IsWhole farm = IsSome farm.home.cache × IsSome farm.west.cache

-- The farm has its plan, its caches and as many replicas as before: whatever may be asked of it after a step is asked
-- of the same shape.
pub record SameShape {K S : Type 0} (old new : FarmParts K S) : Type 0 where
  pub plan : new.plan ≡ old.plan
  pub whole : IsWhole old → IsWhole new
  pub home : length new.home.replicas ≡ length old.home.replicas
  pub west : length new.west.replicas ≡ length old.west.replicas

-- What always holds of a farm.
pub record IsFarm {K S : Type 0} (content : K → Option (List Entry)) (cache_of : S → CacheMap Bytes)
    (farm : FarmParts K S) : Type 0 where
  -- (1) moments are within the limit
  pub home_small : farm.moments.home ≤ greatest_moment
  pub west_small : farm.moments.west ≤ greatest_moment
  -- (2) so is the commit delay
  pub delay : farm.plan.bounds.commit_delay ≤ bound_max
  -- (3) nothing was appended after home's moment
  pub stamps : IfSome (content farm.keeper) (λ h. stamp_at h (length h) ≤ farm.moments.home)
  -- (4) no call of a cache was given a moment after its region's
  pub home_before : IsBefore cache_of farm.home farm.moments.home
  pub west_before : IsBefore cache_of farm.west farm.moments.west
  -- (5) the ledger has room for the messages of each begun edit
  pub room : room farm.requests ≤ farm.ledger.spare
  -- (6) home has a row for the client of each begun edit
  pub reserved : (id : ℕ) (begun : BegunEdit) → open_at farm.requests id ≡ Some (point.EditBegun begun)
      → IsTrue (is_reserved farm.home.positions begun.ask.client)
