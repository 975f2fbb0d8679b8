-- What a region's parts still agree with as the world goes on.
use Rattle.std.proofs.Common.{◌≡◌, ℕ, ◌≤◌, inl, List, [], ◌∷◌, ◌++◌, length, take, map, Option, Some, IfSome, refl, sym, ap, subst, ◌∙◌, arith, append-nil}
use Rattle.std.proofs.lemmas.List.{take-append-le}
use Rattle.std.specs.Prelude.{slice_get, IsSome}
use Rattle.wiki_model.specs.declared.Region.{Region}
use Rattle.wiki_model.specs.Bytes.{Bytes}
use Rattle.wiki_model.specs.History.{Entry}
use Rattle.wiki_model.specs.Cache.{CacheMap}
use Rattle.wiki_model.specs.World.{World, Setting, site, moment}
use Rattle.wiki_model.specs.Changes.{IsGrown}
use Rattle.wiki_model.specs.Consistent.{IsConsistent}
use Rattle.wiki_model.specs.Caches.{CacheStands}
use Rattle.wiki_model.proofs.FrameLaws.{stands-grown, if_map}
use Rattle.wiki_model.specs.Positions.{Rows, RowsStand}
use Rattle.wiki_model.proofs.RowsLaws.{rows-swept, rows-entry}
use Rattle.replica_apply.specs.Replica.{ReplicaState, IsPrefix}
use Rattle.chronology_store.specs.ChronologyStore.{Positions}
use Rattle.chronology_store.specs.AsModel.{rows_in}
use Rattle.region_state.specs.RegionState.{RegionParts}
use Rattle.farm_core.specs.Agreement.{RegionStands, ArePrefixes, config_of}

pub rows_moments : (v w : World) (r : Region) (rows : Rows) → w.history ≡ v.history → (site r w).heard ≡ (site r v).heard → moment r v ≤ moment r w → RowsStand v r rows → RowsStand w r rows
rows_moments v w r rows same heard up stands = rows-swept v w r 0 rows rows same heard up (omega arith) (λ client. inl refl) stands

-- nothing happens to the region, but for its moment
pub record IsStill (v w : World) (r : Region) : Type 0 where
  pub history : w.history ≡ v.history
  pub setting : w.setting ≡ v.setting
  pub markup : w.markup ≡ v.markup
  pub up : moment r v ≤ moment r w
  pub applied : (site r w).applied ≡ (site r v).applied
  pub heard : (site r w).heard ≡ (site r v).heard
  pub events : (site r w).events ≡ (site r v).events

still-grown : (v w : World) (r : Region) → IsStill v w r → IsGrown v w r
still-grown v w r s = record { more = []; history = s.history ∙ sym (append-nil v.history); setting = s.setting; events = s.events; moment = s.up }

pub stands-still : {S : Type 0} (cache_of : S → CacheMap Bytes) (parts : RegionParts S) (v w : World) (r : Region) → IsStill v w r → RegionStands cache_of parts v r → RegionStands cache_of parts w r
stands-still cache_of parts v w r s stands = record {
  config = stands.config ∙ ap (λ (t : Setting). config_of t r) (sym s.setting);
  markup = stands.markup ∙ sym s.markup;
  applied = stands.applied ∙ sym s.applied;
  prefixes = subst (λ (h : List Entry). ArePrefixes h parts.replicas) (sym s.history) stands.prefixes;
  positions = rows_moments v w r (rows_in parts.positions) s.history s.heard s.up stands.positions;
  there = stands.there;
  cache = if_map (λ c. CacheStands v r (cache_of c)) (λ c. CacheStands w r (cache_of c)) parts.cache (λ c. stands-grown v w r (cache_of c) (still-grown v w r s)) stands.cache;
}

-- one entry more, which the region has not heard
pub record IsEntry (v w : World) (r : Region) (entry : Entry) : Type 0 where
  pub history : w.history ≡ v.history ++ entry ∷ []
  pub setting : w.setting ≡ v.setting
  pub markup : w.markup ≡ v.markup
  pub up : moment r v ≤ moment r w
  pub applied : (site r w).applied ≡ (site r v).applied
  pub heard : (site r w).heard ≡ (site r v).heard
  pub events : (site r w).events ≡ (site r v).events

pub applied-within : (v : World) (r : Region) (replicas : List ReplicaState) → IsConsistent v → map (λ k. k.applied) replicas ≡ (site r v).applied → (i : ℕ) (k : ReplicaState) → slice_get replicas i ≡ Some k → k.applied ≤ length v.history
applied-within v r replicas fits same i k at =
    (fits.sites r).applied i k.applied (ap (λ xs. slice_get xs i) (sym same) ∙ Rattle.std.proofs.lemmas.Option.slice_get-map (λ (m : ReplicaState). m.applied) replicas i ∙ ap (Rattle.std.specs.Prelude.option_map (λ (m : ReplicaState). m.applied)) at)

pub stands-entry : {S : Type 0} (cache_of : S → CacheMap Bytes) (parts : RegionParts S) (v w : World) (r : Region) (entry : Entry) → IsConsistent v → IsEntry v w r entry → RegionStands cache_of parts v r → RegionStands cache_of parts w r
stands-entry cache_of parts v w r entry fits s stands = record {
  config = stands.config ∙ ap (λ (t : Setting). config_of t r) (sym s.setting);
  markup = stands.markup ∙ sym s.markup;
  applied = stands.applied ∙ sym s.applied;
  prefixes = λ i kept at. subst (λ (h : List Entry). IsPrefix (take kept.applied h) kept) (sym s.history)
      (subst (λ (h : List Entry). IsPrefix h kept) (sym (take-append-le kept.applied v.history (entry ∷ []) (applied-within v r parts.replicas fits stands.applied i kept at))) (stands.prefixes i kept at));
  positions = rows-entry v w r entry (rows_in parts.positions) fits s.history s.heard s.up stands.positions;
  there = stands.there;
  cache = if_map (λ c. CacheStands v r (cache_of c)) (λ c. CacheStands w r (cache_of c)) parts.cache
      (λ c. stands-grown v w r (cache_of c) (record { more = entry ∷ []; history = s.history; setting = s.setting; events = s.events; moment = s.up })) stands.cache;
}

-- the history grew, and the region's positions and cache stand for what happened
pub site_grown : {S : Type 0} (cache_of : S → CacheMap Bytes) (parts : RegionParts S) (rows : Positions) (cache : Option S) (v w : World) (r : Region) (more : List Entry) → IsConsistent v → w.history ≡ v.history ++ more → w.setting ≡ v.setting → w.markup ≡ v.markup
    → (site r w).applied ≡ (site r v).applied → RowsStand w r (rows_in rows) → IsSome cache → IfSome cache (λ c. CacheStands w r (cache_of c)) → RegionStands cache_of parts v r
    → RegionStands cache_of (let p : RegionParts S = record parts { positions = rows; cache = cache } in p) w r
site_grown cache_of parts rows cache v w r more fits history setting markup applied stands there cached s = record {
  config = s.config ∙ ap (λ (t : Setting). config_of t r) (sym setting);
  markup = s.markup ∙ sym markup;
  applied = s.applied ∙ sym applied;
  prefixes = λ i kept at. subst (λ (h : List Entry). IsPrefix (take kept.applied h) kept) (sym history)
      (subst (λ (h : List Entry). IsPrefix h kept) (sym (take-append-le kept.applied v.history more (applied-within v r parts.replicas fits s.applied i kept at))) (s.prefixes i kept at));
  positions = stands;
  there = there;
  cache = cached;
}
