-- When a farm agrees with a world.
use Rattle.std.specs.Prelude.{ℕ, ◌≡◌, ◌==◌, ◌≤◌, if◌then◌else◌, List, [], ◌∷◌, length, map, drop, Option, Some, None, IsSome, IfSome, slice_get}
use Rattle.wiki_model.specs.declared.Region.{Region}
use Rattle.wiki_model.specs.declared.Region.TheVariants.{Home, West}
use Rattle.wiki_model.specs.Bytes.{Bytes}
use Rattle.wiki_model.specs.History.{Entry, Beat, Committed}
use Rattle.wiki_model.specs.Cache.{CacheMap}
use Rattle.wiki_model.specs.World.{World, site, Setting, Event, request_at}
use Rattle.wiki_model.specs.World.Event.{Received, Kept as KeptEvent, Rounded}
use Rattle.wiki_model.specs.Positions.{RowsStand}
use Rattle.wiki_model.specs.Caches.{CacheStands}
use Rattle.replica_apply.specs.Replica.{ReplicaState, IsPrefixOf}
use Rattle.chronology_store.specs.AsModel.{rows_in}
use Rattle.purge_relay.specs.declared.ledger_row.Receipt.{Receipt}
use Rattle.purge_relay.specs.LedgerRow.{receipt_at, received_at}
use Rattle.purge_relay.specs.Ledger.{row_at}
use Rattle.region_state.specs.AsModel.{IsPlanOf}
use Rattle.purge_relay.specs.AsModel.{row_message}
use Rattle.farm_steps.specs.RequestMap.{open_at, AgreeAt}
use Rattle.region_state.specs.RegionState.{RegionConfig, RegionParts}
use Rattle.farm_core.specs.FarmParts.{FarmParts}

abbrev pub weights_of : Setting → Region → List ℕ
weights_of s Home = s.home_weights
weights_of s West = s.west_weights

abbrev pub config_of : Setting → Region → RegionConfig
config_of s r = record { weights = weights_of s r; epoch = s.epoch; read_lag = s.bounds.read_lag }

-- each replica is a prefix of the history
abbrev pub ArePrefixes : List Entry → List ReplicaState → Type 0
ArePrefixes history replicas =
    (i : ℕ) (kept : ReplicaState) → slice_get replicas i ≡ Some kept → IsPrefixOf history kept

-- A region agrees with a world's:
-- 1. it is weighed and bounded as the world's setting says, and reads by the world's markup;
-- 2. its replicas have applied as many entries as the world's, and each keeps just what those entries say;
-- 3. its rows of positions stand for what is known of the world's clients;
-- 4. its cache is there, and stands for the world's run.
pub record RegionStands {S : Type 0} (cache_of : S → CacheMap Bytes) (parts : RegionParts S) (w : World)
    (r : Region) : Type 0 where
  pub config : parts.config ≡ config_of w.setting r
  pub markup : parts.markup ≡ w.markup
  pub applied : map (λ k. k.applied) parts.replicas ≡ (site r w).applied
  pub prefixes : ArePrefixes w.history parts.replicas
  pub positions : RowsStand w r (rows_in parts.positions)
  pub there : IsSome parts.cache
  pub cache : IfSome parts.cache (λ c. CacheStands w r (cache_of c))

-- when a region received a purge, by its events, of which the newest is first
abbrev pub receipt_in : List Event → (purge : ℕ) → Option Receipt
receipt_in [] purge = None
receipt_in (Received number title at ∷ events) purge =
    if number == purge then Some (received_at (receipt_in events purge) at) else receipt_in events purge
receipt_in (KeptEvent stored ∷ events) purge = receipt_in events purge
receipt_in (Rounded batch ∷ events) purge = receipt_in events purge

-- the stamp of the last beat
abbrev pub last_beat_in : List Entry → Option ℕ → Option ℕ
last_beat_in [] last = last
last_beat_in (Beat stamp ∷ entries) last = last_beat_in entries (Some stamp)
last_beat_in (Committed commit ∷ entries) last = last_beat_in entries last

-- The farm agrees with the last world of a run:
-- 1. its plan is the world's setting, and the history had at most as many entries when it was opened;
-- 2. its keeper has the world's history, and has counted every fault of the run;
-- 3. its ledger has the messages that were issued, with when each region received them;
-- 4. by each id it has the request that is open in the world, at the same point;
-- 5. its moments are the world's, and its last beat is the last since it was opened;
-- 6. both regions agree.
pub record Agrees {K S : Type 0} (content : K → Option (List Entry)) (faults : K → ℕ) (cache_of : S → CacheMap Bytes)
    (farm : FarmParts K S) (w : World) : Type 0 where
  pub plan : IsPlanOf w.setting farm.plan
  pub opened : w.setting.opened ≤ length w.history
  pub history : content farm.keeper ≡ Some w.history
  pub counted : w.faults ≤ faults farm.keeper
  pub messages : map row_message farm.ledger.rows ≡ w.messages
  pub receipts : (r : Region) (purge : ℕ) → receipt_at r (row_at farm.ledger.rows purge)
      ≡ receipt_in (site r w).events purge
  pub requests : (id : ℕ) → AgreeAt w (open_at farm.requests id) (request_at w id)
  pub home_moment : farm.moments.home ≡ w.home.moment
  pub west_moment : farm.moments.west ≡ w.west.moment
  pub beat : farm.last_beat ≡ last_beat_in (drop w.setting.opened w.history) None
  pub home : RegionStands cache_of farm.home w Home
  pub west : RegionStands cache_of farm.west w West
