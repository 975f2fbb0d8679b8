-- No step changes the farm's shape: each one that works on a region puts a cache in the place of the cache, positions in the place
-- of positions, or a replica in the place of that replica.
use Rattle.std.proofs.Common.{◌≡◌, ◌≤◌, ℕ, zero, suc, List, [], ◌∷◌, length, Option, Some, None, Result, Ok, Err, refl, sym, ap, subst, ◌∙◌, inl, inr}
use Rattle.std.specs.Prelude.{IsSome, slice_set}
use Rattle.wiki_model.specs.declared.Region.{Region}
use Rattle.wiki_model.specs.declared.Region.TheVariants.{Home, West}
use Rattle.wiki_model.specs.declared.Readings.{Readings}
use Rattle.wiki_model.specs.Bytes.{Bytes}
use Rattle.wiki_model.specs.History.{Entry}
use Rattle.wiki_model.specs.Cache.{CacheMap}
use Rattle.wiki_model.specs.Answers.{Answer, Page, EditSaved, NoPage, Conflict, TokenUsed, Lagging, Miss, NotOpen, Unknown, Gone, StoreFault, NoMemory}
use Rattle.purge_relay.specs.declared.message.Body.{Body}
use Rattle.purge_relay.specs.declared.message.Body.TheVariants.{Purge, Position}
use Rattle.purge_relay.specs.declared.ledger_row.LedgerRow.{LedgerRow}
use Rattle.purge_relay.specs.declared.ledger.Issued.{Issued}
use Rattle.purge_relay.specs.Ledger.{LedgerState, row_at}
use Rattle.chronology_store.specs.ChronologyStore.{Positions}
use Rattle.replica_apply.specs.Replica.{ReplicaState}
use Rattle.edit_core.specs.declared.edit_ask.EditAsk.{EditAsk}
use Rattle.edit_core.specs.declared.edit_ask.EditRefusal.{EditRefusal}
use Rattle.edit_core.specs.declared.begun_edit.BegunEdit.{BegunEdit}
use Rattle.edit_core.specs.declared.begun_edit.Begun.{Begun}
use Rattle.edit_core.specs.declared.begun_edit.Begun.TheVariants.{Started, Already}
use Rattle.region_state.specs.declared.open_view.OpenView.{OpenView}
use Rattle.region_state.specs.declared.snap_view.Snapped.{Snapped}
use Rattle.region_state.specs.RegionState.{RegionParts, with_cache, with_positions, with_replica}
use Rattle.farm_steps.specs.declared.relay_steps.Carriage.{Carriage}
use Rattle.farm_steps.specs.declared.relay_steps.Carriage.TheVariants as carriage
use Rattle.farm_steps.specs.RequestMap.{Entries}
use Rattle.farm_core.specs.FarmParts.{FarmParts, SameShape}
use Rattle.farm_steps.specs.ViewSteps.{StoresTo, region_at, other_region}
use Rattle.farm_steps.specs.RelaySteps.{TakesRow, TakesBody, CarriesAs}
use Rattle.farm_steps.specs.EditSteps.{BeginsTo, EndsBegin, CommitsTo, ReceivesSecond, second_purge_in}
use Rattle.farm_steps.specs.ApplyStep.{AppliesIn}
use Rattle.farm_core.specs.AppendBeat.{Beats}

-- one region's shape
pub record SameRegion {S : Type 0} (old new : RegionParts S) : Type 0 where
  pub there : IsSome old.cache → IsSome new.cache
  pub replicas : length new.replicas ≡ length old.replicas

pub same_region : {S : Type 0} (old new : RegionParts S) → new ≡ old → SameRegion old new
same_region {S} old new same = record { there = λ some. subst (λ (p : RegionParts S). IsSome p.cache) (sym same) some; replicas = ap (λ (p : RegionParts S). length p.replicas) same }

cached : {S : Type 0} (old new : RegionParts S) (cache : S) → new ≡ with_cache (Some cache) old → SameRegion old new
cached {S} old new cache is = record { there = λ _. subst (λ (p : RegionParts S). IsSome p.cache) (sym is) refl; replicas = ap (λ (p : RegionParts S). length p.replicas) is }

positioned : {S : Type 0} (old new : RegionParts S) (positions : Positions) → new ≡ with_positions positions old → SameRegion old new
positioned {S} old new positions is = record { there = λ some. subst (λ (p : RegionParts S). IsSome p.cache) (sym is) some; replicas = ap (λ (p : RegionParts S). length p.replicas) is }

then : {S : Type 0} (old mid new : RegionParts S) → SameRegion old mid → SameRegion mid new → SameRegion old new
then old mid new a b = record { there = λ some. b.there (a.there some); replicas = b.replicas ∙ a.replicas }

set_length : (ks : List ReplicaState) (i : ℕ) (k : ReplicaState) → length (slice_set ks i k) ≡ length ks
set_length [] i k = refl
set_length (x ∷ ks) zero k = refl
set_length (x ∷ ks) (suc i) k = ap suc (set_length ks i k)

replaced : {S : Type 0} (old new : RegionParts S) (i : ℕ) (k : ReplicaState) → new ≡ with_replica i k old → SameRegion old new
replaced {S} old new i k is = record { there = λ some. subst (λ (p : RegionParts S). IsSome p.cache) (sym is) some; replicas = ap (λ (p : RegionParts S). length p.replicas) is ∙ set_length old.replicas i k }

received : {S : Type 0} (cache_of : S → CacheMap Bytes) (before after : RegionParts S) (now : ℕ) (found : Option LedgerRow) → TakesRow cache_of before after now found → SameRegion before after
received cache_of before after now None same = same_region before after same
received {S} cache_of before after now (Some row) took = by row.message.body took
  where
    by : (body : Body) → TakesBody cache_of before after now body → SameRegion before after
    by (Purge purge title issued) t = cached before after t.after t.rest
    by (Position client index entry stamp) same = same_region before after same

-- a region that is not touched
pub untouched : {S : Type 0} (parts : RegionParts S) → SameRegion parts parts
untouched parts = same_region parts parts refl

pub turned : {S : Type 0} (parts : RegionParts S) (markup : ℕ) → SameRegion parts (record parts { markup = markup })
turned parts markup = record { there = λ some. some; replicas = refl }

-- both regions

pub same_shape : {K S : Type 0} (old : FarmParts K S) (keeper : K) (ledger_now : LedgerState) (home west : RegionParts S) (requests : Entries) (last_beat : Option ℕ) → SameRegion old.home home → SameRegion old.west west
    → SameShape old (record old { keeper = keeper; ledger = ledger_now; home = home; west = west; requests = requests; last_beat = last_beat })
same_shape old keeper ledger_now home west requests last_beat h w = record { plan = refl; whole = λ whole. (h.there whole.0, w.there whole.1); home = h.replicas; west = w.replicas }

pub store_shape : {S : Type 0} (cache_of : S → CacheMap Bytes) (home west home_after west_after : RegionParts S) (at : Readings) (id : ℕ) (old new : Entries) (answer : Answer) (found : Option (OpenView × Snapped))
    → StoresTo cache_of home west home_after west_after at id old new answer found → SameRegion home home_after × SameRegion west west_after
store_shape cache_of home west home_after west_after at id old new answer None did = (same_region home home_after did.1, same_region west west_after did.2)
store_shape {S} cache_of home west home_after west_after at id old new answer (Some (view, snapped)) (places, stores, other) = by view.region (cached (region_at view.region home west) (region_at view.region home_after west_after) stores.1 stores.3) other
  where
    by : (r : Region) → SameRegion (region_at r home west) (region_at r home_after west_after) → region_at (other_region r) home_after west_after ≡ region_at (other_region r) home west → SameRegion home home_after × SameRegion west west_after
    by Home s o = (s, same_region west west_after o)
    by West s o = (same_region home home_after o, s)

pub carry_shape : {S : Type 0} (cache_of : S → CacheMap Bytes) (before after : RegionParts S) (old new : LedgerState) (number now : ℕ) (answer : Option Answer) (c : Carriage) → CarriesAs cache_of before after old new number now answer c → SameRegion before after
carry_shape cache_of before after old new number now answer carriage.Unknown d = same_region before after d.2
carry_shape cache_of before after old new number now answer carriage.Gone d = same_region before after d.2
carry_shape cache_of before after old new number now answer carriage.Purge d = received cache_of before after now (row_at old.rows number) d.1.1
carry_shape cache_of before after old new number now answer (carriage.Position client index entry stamp) (same, inl d) = positioned before after d.1.after d.1.rest
carry_shape cache_of before after old new number now answer (carriage.Position client index entry stamp) (same, inr d) = same_region before after d.1

pub begin_shape : {S : Type 0} (cache_of : S → CacheMap Bytes) (told after : Option (List Entry)) (before_faults after_faults : ℕ) (home home_after : RegionParts S) (old new : LedgerState) (now delay id : ℕ) (requests requests_after : Entries) (answer : Option Answer) (found : Option EditAsk)
    → BeginsTo cache_of told after before_faults after_faults home home_after old new now delay id requests requests_after answer found → SameRegion home home_after
begin_shape cache_of told after before_faults after_faults home home_after old new now delay id requests requests_after answer None (none, leave) = same_region home home_after leave.3
begin_shape {S} cache_of told after before_faults after_faults home home_after old new now delay id requests requests_after answer (Some ask) d =
    then home (with_positions d.positions home) home_after (positioned home (with_positions d.positions home) d.positions refl) (ends d.result d.ends)
  where
    ends : (result : Result Begun EditRefusal) → EndsBegin cache_of (with_positions d.positions home) home_after d.mid new now id requests requests_after answer result → SameRegion (with_positions d.positions home) home_after
    ends (Ok (Started b)) e = received cache_of (with_positions d.positions home) home_after now (row_at d.mid.rows b.issued.purge) e.1.1
    ends (Ok (Already note)) e = same_region (with_positions d.positions home) home_after e.2
    ends (Err why) e = same_region (with_positions d.positions home) home_after e.2

pub commit_shape : {S : Type 0} (cache_of : S → CacheMap Bytes) (told after : Option (List Entry)) (before_faults after_faults : ℕ) (home home_after : RegionParts S) (old new : LedgerState) (now id : ℕ) (requests requests_after : Entries) (answer : Answer) (found : Option BegunEdit)
    → CommitsTo cache_of told after before_faults after_faults home home_after old new now id requests requests_after answer found → SameRegion home home_after
commit_shape cache_of told after before_faults after_faults home home_after old new now id requests requests_after answer None (none, leave) = same_region home home_after leave.3
commit_shape {S} cache_of told after before_faults after_faults home home_after old new now id requests requests_after answer (Some begun) (places, given, d) =
    then home (with_positions d.positions home) home_after (positioned home (with_positions d.positions home) d.positions refl) (ends (second_purge_in d.result) d.receives)
  where
    ends : (second : Option Issued) → ReceivesSecond cache_of (with_positions d.positions home) home_after d.mid new now second → SameRegion (with_positions d.positions home) home_after
    ends None e = same_region (with_positions d.positions home) home_after e.1
    ends (Some issued) e = received cache_of (with_positions d.positions home) home_after now (row_at d.mid.rows issued.purge) e.1

pub apply_shape : {S : Type 0} (told now_told : Option (List Entry)) (before_faults after_faults : ℕ) (home west home_after west_after : RegionParts S) (r : Region) (replica count : ℕ) (answer : Option Answer)
    → AppliesIn told now_told before_faults after_faults home west home_after west_after r replica count answer → SameRegion home home_after × SameRegion west west_after
apply_shape {S} told now_told before_faults after_faults home west home_after west_after r replica count answer (made, said, d) = by r (replaced (region_at r home west) (region_at r home_after west_after) replica d.after d.now) d.other
  where
    by : (q : Region) → SameRegion (region_at q home west) (region_at q home_after west_after) → region_at (other_region q) home_after west_after ≡ region_at (other_region q) home west → SameRegion home home_after × SameRegion west west_after
    by Home s o = (s, same_region west west_after o)
    by West s o = (same_region home home_after o, s)

-- the keeper's count of faults, by the steps that ask it

pub beat_counts : (told now : Option (List Entry)) (before after : ℕ) (old_beat new_beat : Option ℕ) (stamp : ℕ) (answer : Option Answer) → Beats told now before after old_beat new_beat stamp answer → before ≤ after
beat_counts told now before after old_beat new_beat stamp None d = d.1
beat_counts told now before after old_beat new_beat stamp (Some StoreFault) d = d.2
beat_counts told now before after old_beat new_beat stamp (Some NoMemory) d = d.1
beat_counts told now before after old_beat new_beat stamp (Some (Page p)) d = absurd d
beat_counts told now before after old_beat new_beat stamp (Some (EditSaved s)) d = absurd d
beat_counts told now before after old_beat new_beat stamp (Some (NoPage source)) d = absurd d
beat_counts told now before after old_beat new_beat stamp (Some (Conflict base current)) d = absurd d
beat_counts told now before after old_beat new_beat stamp (Some (TokenUsed entry)) d = absurd d
beat_counts told now before after old_beat new_beat stamp (Some (Lagging by needed reached)) d = absurd d
beat_counts told now before after old_beat new_beat stamp (Some (Miss cause)) d = absurd d
beat_counts told now before after old_beat new_beat stamp (Some (NotOpen id)) d = absurd d
beat_counts told now before after old_beat new_beat stamp (Some (Unknown message)) d = absurd d
beat_counts told now before after old_beat new_beat stamp (Some (Gone message)) d = absurd d

pub apply_counts : {S : Type 0} (told now_told : Option (List Entry)) (before_faults after_faults : ℕ) (home west home_after west_after : RegionParts S) (r : Region) (replica count : ℕ) (answer : Option Answer)
    → AppliesIn told now_told before_faults after_faults home west home_after west_after r replica count answer → before_faults ≤ after_faults
apply_counts told now_told before_faults after_faults home west home_after west_after r replica count answer (made, said, d) = d.cause.later

pub begin_counts : {S : Type 0} (cache_of : S → CacheMap Bytes) (told after : Option (List Entry)) (before_faults after_faults : ℕ) (home home_after : RegionParts S) (old new : LedgerState) (now delay id : ℕ) (requests requests_after : Entries) (answer : Option Answer) (found : Option EditAsk)
    → BeginsTo cache_of told after before_faults after_faults home home_after old new now delay id requests requests_after answer found → before_faults ≤ after_faults
begin_counts cache_of told after before_faults after_faults home home_after old new now delay id requests requests_after answer None (none, leave) = leave.1
begin_counts cache_of told after before_faults after_faults home home_after old new now delay id requests requests_after answer (Some ask) d = d.cause.later

pub commit_counts : {S : Type 0} (cache_of : S → CacheMap Bytes) (told after : Option (List Entry)) (before_faults after_faults : ℕ) (home home_after : RegionParts S) (old new : LedgerState) (now id : ℕ) (requests requests_after : Entries) (answer : Answer) (found : Option BegunEdit)
    → CommitsTo cache_of told after before_faults after_faults home home_after old new now id requests requests_after answer found → before_faults ≤ after_faults
commit_counts cache_of told after before_faults after_faults home home_after old new now id requests requests_after answer None (none, leave) = leave.1
commit_counts cache_of told after before_faults after_faults home home_after old new now id requests requests_after answer (Some begun) (places, given, d) = d.cause.later
