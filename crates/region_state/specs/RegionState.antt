-- The parts of a region, what holds of them at every moment, and how a call changes one of them.
use Rattle.std.specs.Prelude.{ℕ, ◌≡◌, ◌⊎◌, ◌≤◌, ◌<◌, ◌/◌, max, false, List, length, Option, Some, IfSome, slice_get, slice_set}
use Rattle.wiki_model.specs.Bytes.{Bytes}
use Rattle.wiki_model.specs.Limits.{replicas_max}
use Rattle.wiki_model.specs.Cache.{CacheMap, IsCache}
use Rattle.replica_apply.specs.Replica.{ReplicaState}
use Rattle.chronology_store.specs.ChronologyStore.{Positions, Sweeps}

-- what stays the same of a region
pub record RegionConfig : Type 0 where
  pub weights : List ℕ
  pub epoch : ℕ
  pub read_lag : ℕ

-- the cache is away while it is lent
pub record RegionParts (S : Type 0) : Type 0 where
  pub config : RegionConfig
  pub markup : ℕ
  pub replicas : List ReplicaState
  pub positions : Positions
  -- how many rows the positions had after the last sweep, or the least number that a sweep is for
  pub swept : ℕ
  pub cache : Option S

-- What always holds of a region.
pub record IsRegion {S : Type 0} (cache_of : S → CacheMap Bytes) (parts : RegionParts S) : Type 0 where
  -- (1) each replica has its weight
  pub weights : length parts.config.weights ≡ length parts.replicas
  -- (2) there is a replica to draw
  pub some : 0 < length parts.replicas
  -- (3) the number of a replica is small
  pub few : length parts.replicas ≤ replicas_max
  -- (4) nobody else works on the cache
  pub unshared : IfSome parts.cache (λ c. (cache_of c).shared ≡ false)

-- no call of the cache was given a later moment
abbrev pub IsBefore : {S : Type 0} → (S → CacheMap Bytes) → RegionParts S → (now : ℕ) → Type 0
IsBefore cache_of parts now = IfSome parts.cache (λ c. (cache_of c).greatest ≤ now)

abbrev pub with_cache : {S : Type 0} → Option S → RegionParts S → RegionParts S
with_cache cache parts = record parts { cache = cache }

abbrev pub with_positions : {S : Type 0} → Positions → RegionParts S → RegionParts S
with_positions positions parts = record parts { positions = positions }

abbrev pub with_replica : {S : Type 0} → (i : ℕ) → ReplicaState → RegionParts S → RegionParts S
with_replica i kept parts = record parts { replicas = slice_set parts.replicas i kept }

-- the cache changes so, which is there and is a cache again, and nothing else of the region
pub record OnCache {S : Type 0} (cache_of : S → CacheMap Bytes) (old new : RegionParts S)
    (Changes : CacheMap Bytes → CacheMap Bytes → Type 0) : Type 0 where
  pub before : S
  pub after : S
  pub there : old.cache ≡ Some before
  pub rest : new ≡ with_cache (Some after) old
  pub is_cache : IsCache (cache_of after)
  pub changes : Changes (cache_of before) (cache_of after)

-- the positions change so, and nothing else
pub record OnPositions {S : Type 0} (old new : RegionParts S) (Changes : Positions → Positions → Type 0) : Type 0 where
  pub after : Positions
  pub rest : new ≡ with_positions after old
  pub changes : Changes old.positions after

-- this replica changes so, and nothing else
pub record OnReplica {S : Type 0} (i : ℕ) (old new : RegionParts S)
    (Changes : ReplicaState → ReplicaState → Type 0) : Type 0 where
  pub before : ReplicaState
  pub after : ReplicaState
  pub there : slice_get old.replicas i ≡ Some before
  pub rest : new ≡ with_replica i after old
  pub changes : Changes before after

-- fewer rows of positions than these are not swept
abbrev pub swept_rows_least : ℕ
swept_rows_least = 64

-- The positions stay while they have less than twice the rows that the last sweep left; else they are swept, and what
-- is left counts for the next time.
abbrev pub SweepsDoubled : (now : ℕ) → (swept : ℕ) (old : Positions) → (rows : ℕ) (new : Positions) → Type 0
SweepsDoubled now swept old rows new =
    ((length old / 2 < swept) × (new ≡ old) × (rows ≡ swept))
    ⊎ ((swept ≤ length old / 2) × Sweeps now old new × (rows ≡ max (length new) swept_rows_least))

abbrev pub with_swept : {S : Type 0} → Positions → (rows : ℕ) → RegionParts S → RegionParts S
with_swept positions rows parts = record parts { positions = positions; swept = rows }

-- the region's positions are swept if they have doubled, and nothing else changes
pub record SweepsRegion {S : Type 0} (now : ℕ) (old new : RegionParts S) : Type 0 where
  pub after : Positions
  pub rows : ℕ
  pub rest : new ≡ with_swept after rows old
  pub sweeps : SweepsDoubled now old.swept old.positions rows after
