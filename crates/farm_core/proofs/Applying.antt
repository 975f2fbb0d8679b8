-- Applying entries goes on with every run.
use Rattle.std.proofs.Common.{◌≡◌, ℕ, zero, suc, ◌+◌, ◌≤◌, min, List, [], ◌∷◌, length, map, take, Option, Some, None, IfSome, Result, Ok, Err, refl, sym, ap, subst, ◌∙◌, arith, append-nil}
use Rattle.std.specs.Prelude.{option_map, slice_get, slice_set, unwrap_or, OnOk, IsErrOf}
use Rattle.std.proofs.lemmas.Option.{slice_get-map}
use Rattle.wiki_model.specs.declared.Region.{Region}
use Rattle.wiki_model.specs.declared.Region.TheVariants.{Home, West}
use Rattle.wiki_model.specs.Bytes.{Bytes}
use Rattle.wiki_model.specs.History.{Entry}
use Rattle.wiki_model.specs.Cache.{CacheMap}
use Rattle.wiki_model.specs.World.{World, Setting, site, request_at, with_applied, applied_number}
use Rattle.wiki_model.specs.Answers.{Answer, NoMemory, StoreFault}
use Rattle.wiki_model.specs.Steps.{Step, Rose, Applies}
use Rattle.wiki_model.specs.Runs.{One, with_faults, CountsFaults}
use Rattle.wiki_model.specs.Caches.{CacheStands}
use Rattle.wiki_model.proofs.FrameLaws.{stands-grown, if_map}
use Rattle.revision_keeper.specs.declared.keeper.KeepFault.{KeepFault}
use Rattle.revision_keeper.specs.declared.keeper.KeepFault.TheVariants as fault
use Rattle.replica_apply.specs.Replica.{ReplicaState, IsPrefix}
use Rattle.chronology_store.specs.AsModel.{rows_in}
use Rattle.purge_relay.specs.LedgerRow.{receipt_at}
use Rattle.purge_relay.specs.Ledger.{row_at}
use Rattle.farm_steps.specs.RequestMap.{open_at}
use Rattle.farm_core.specs.FarmParts.{FarmParts, IsFarm}
use Rattle.region_state.specs.RegionState.{RegionParts, with_replica}
use Rattle.farm_core.specs.Agreement as agreed
use Rattle.farm_core.specs.Agreement.{Agrees, RegionStands, config_of, ArePrefixes}
use Rattle.region_state.specs.ApplyEntries.{HasApplied}
use Rattle.farm_steps.specs.ApplyStep.{AppliesIn, apply_answer}
use Rattle.farm_steps.specs.ViewSteps.{region_at, other_region}
use Rattle.farm_core.proofs.Waiting.{site_of}
use Rattle.farm_core.specs.Runs.{GoesFrom, LeadsTo}
use Rattle.farm_core.proofs.Following.{Follows as FollowsWorld, agree-later}
use Rattle.farm_core.proofs.Standing.{stands-still, rows_moments, applied-within}

-- the region

set_applied : (ks : List ReplicaState) (i : ℕ) (k : ReplicaState) → map (λ (x : ReplicaState). x.applied) (slice_set ks i k) ≡ slice_set (map (λ (x : ReplicaState). x.applied) ks) i k.applied
set_applied [] i k = refl
set_applied (x ∷ ks) zero k = refl
set_applied (x ∷ ks) (suc i) k = ap (λ ns. x.applied ∷ ns) (set_applied ks i k)

set_prefixes : (h : List Entry) (ks : List ReplicaState) (i : ℕ) (k : ReplicaState) → IsPrefix (take k.applied h) k → ArePrefixes h ks → ArePrefixes h (slice_set ks i k)
set_prefixes h [] i k prefix all j x at = let no : ⊥ = cc in absurd no
set_prefixes h (y ∷ ks) zero k prefix all zero x at = let same : k ≡ x = cc in subst (λ (z : ReplicaState). IsPrefix (take z.applied h) z) same prefix
set_prefixes h (y ∷ ks) zero k prefix all (suc j) x at = all (suc j) x at
set_prefixes h (y ∷ ks) (suc i) k prefix all zero x at = all zero x at
set_prefixes h (y ∷ ks) (suc i) k prefix all (suc j) x at = set_prefixes h ks i k prefix (λ n z there. all (suc n) z there) j x at

site_applied : {S : Type 0} (cache_of : S → CacheMap Bytes) (parts : RegionParts S) (i : ℕ) (k : ReplicaState) (v w : World) (r : Region) → w.history ≡ v.history → w.setting ≡ v.setting → w.markup ≡ v.markup → (site r w).applied ≡ slice_set (site r v).applied i k.applied
    → (site r w).heard ≡ (site r v).heard → (site r w).events ≡ (site r v).events → (site r w).moment ≡ (site r v).moment → IsPrefix (take k.applied v.history) k → RegionStands cache_of parts v r → RegionStands cache_of (with_replica i k parts) w r
site_applied cache_of parts i k v w r history setting markup applied heard events same prefix s = record {
  config = s.config ∙ ap (λ (t : Setting). config_of t r) (sym setting);
  markup = s.markup ∙ sym markup;
  applied = set_applied parts.replicas i k ∙ ap (λ ns. slice_set ns i k.applied) s.applied ∙ sym applied;
  prefixes = subst (λ (h : List Entry). ArePrefixes h (slice_set parts.replicas i k)) (sym history) (set_prefixes v.history parts.replicas i k prefix s.prefixes);
  positions = rows_moments v w r (rows_in parts.positions) history heard (let e = same in omega (arith, e)) s.positions;
  there = s.there;
  cache = if_map (λ c. CacheStands v r (cache_of c)) (λ c. CacheStands w r (cache_of c)) parts.cache
      (λ c. stands-grown v w r (cache_of c) (record { more = []; history = history ∙ sym (append-nil v.history); setting = setting; events = events; moment = let e = same in omega (arith, e) })) s.cache;
}

pub apply_goes : {K S : Type 0} (content : K → Option (List Entry)) (faults : K → ℕ) (cache_of : S → CacheMap Bytes) (old : FarmParts K S) (keeper : K) (home west : RegionParts S) (r : Region) (replica count : ℕ) (answer : Option Answer)
    → AppliesIn (content old.keeper) (content keeper) (faults old.keeper) (faults keeper) old.home old.west home west r replica count answer
    → GoesFrom content faults cache_of old (record old { keeper = keeper; home = home; west = west }) (Step.Apply r replica count) (One answer)
apply_goes {K} {S} content faults cache_of old keeper home west r replica count answer (made, said, d) v fits a = by made refl
  where
    parts : RegionParts S
    parts = region_at r old.home old.west

    stands : RegionStands cache_of (region_at r old.home old.west) v r
    stands = site_of content faults cache_of old v a r

    has : HasApplied v.history count d.before d.after made
    has = d.applies v.history a.history (stands.prefixes replica d.before d.there) (applied-within v r (region_at r old.home old.west).replicas fits stands.applied replica d.before d.there)

    number : applied_number v r replica ≡ d.before.applied
    number = ap (λ ns. unwrap_or (slice_get ns replica) 0) (sym stands.applied) ∙ ap (λ o. unwrap_or o 0) (slice_get-map (λ (k : ReplicaState). k.applied) (region_at r old.home old.west).replicas replica ∙ ap (option_map (λ (k : ReplicaState). k.applied)) d.there)

    u : World
    u = with_applied r replica d.after.applied v

    w : World
    w = with_faults (faults keeper) (with_applied r replica d.after.applied v)

    Goes : Option Answer → Type 0
    Goes now = (x : World) × LeadsTo content faults cache_of old (record old { keeper = keeper; home = home; west = west }) (Step.Apply r replica count) (One now) v x

    agrees : (q : Region) → region_at q home west ≡ with_replica replica d.after (region_at q old.home old.west) → region_at (other_region q) home west ≡ region_at (other_region q) old.home old.west → IsPrefix (take d.after.applied v.history) d.after
        → Agrees content faults cache_of (record old { keeper = keeper; home = home; west = west }) (with_faults (faults keeper) (with_applied q replica d.after.applied v))
    agrees Home now other prefix =
        let x : World = with_faults (faults keeper) (with_applied Home replica d.after.applied v) in
        let follows : FollowsWorld v x = record { more = []; history = sym (append-nil v.history); setting = refl; issued = λ p t q i. i } in
        subst (λ (f : FarmParts K S). Agrees content faults cache_of f x) (λ i. record old { keeper = keeper; home = sym now i; west = sym other i }) (record {
          plan = a.plan;
          opened = a.opened;
          history = d.same ∙ a.history;
          counted = omega arith;
          messages = a.messages;
          receipts = receipts_home;
          requests = λ id. agree-later v x follows (open_at old.requests id) (request_at v id) (a.requests id);
          home_moment = a.home_moment;
          west_moment = a.west_moment;
          beat = a.beat;
          home = site_applied cache_of old.home replica d.after v x Home refl refl refl refl refl refl refl prefix a.home;
          west = stands-still cache_of old.west v x West (record { history = refl; setting = refl; markup = refl; up = omega arith; applied = refl; heard = refl; events = refl }) a.west;
        })
      where
        receipts_home : (q : Region) (n : ℕ) → receipt_at q (row_at old.ledger.rows n) ≡ agreed.receipt_in (site q (with_faults (faults keeper) (with_applied Home replica d.after.applied v))).events n
        receipts_home Home n = a.receipts Home n
        receipts_home West n = a.receipts West n
    agrees West now other prefix =
        let x : World = with_faults (faults keeper) (with_applied West replica d.after.applied v) in
        let follows : FollowsWorld v x = record { more = []; history = sym (append-nil v.history); setting = refl; issued = λ p t q i. i } in
        subst (λ (f : FarmParts K S). Agrees content faults cache_of f x) (λ i. record old { keeper = keeper; home = sym other i; west = sym now i }) (record {
          plan = a.plan;
          opened = a.opened;
          history = d.same ∙ a.history;
          counted = omega arith;
          messages = a.messages;
          receipts = receipts_west;
          requests = λ id. agree-later v x follows (open_at old.requests id) (request_at v id) (a.requests id);
          home_moment = a.home_moment;
          west_moment = a.west_moment;
          beat = a.beat;
          home = stands-still cache_of old.home v x Home (record { history = refl; setting = refl; markup = refl; up = omega arith; applied = refl; heard = refl; events = refl }) a.home;
          west = site_applied cache_of old.west replica d.after v x West refl refl refl refl refl refl refl prefix a.west;
        })
      where
        receipts_west : (q : Region) (n : ℕ) → receipt_at q (row_at old.ledger.rows n) ≡ agreed.receipt_in (site q (with_faults (faults keeper) (with_applied West replica d.after.applied v))).events n
        receipts_west Home n = a.receipts Home n
        receipts_west West n = a.receipts West n

    leads : (now : Option Answer) → Applies r replica count v now (with_applied r replica d.after.applied v) → CountsFaults v.faults (faults keeper) (One now) → Goes now
    leads now row counts = (
      w,
      record {
        takes = row;
        counts = counts;
        later = d.cause.later;
        agrees = agrees r d.now d.other has.prefix;
      },
    )

    by : (m : Result (Unit {0}) KeepFault) → made ≡ m → Goes answer
    by (Ok x) is =
        let fewer = a.counted in let count_up = d.cause.later in
        let all : d.after.applied ≡ min (d.before.applied + count) (length v.history) = subst (λ m. OnOk m (d.after.applied ≡ min (d.before.applied + count) (length v.history))) is has.all in
        subst Goes (sym (said ∙ ap apply_answer is))
        (leads None (ap (λ n. with_applied r replica n v) (all ∙ ap (λ n. min (n + count) (length v.history)) (sym number))) (omega (arith, fewer, count_up)))
    by (Err fault.Fault) is =
        let fewer = a.counted in let rose = subst (λ m. IsErrOf m fault.Fault → Rose (faults old.keeper) (faults keeper)) is d.cause.fault refl in
        let up = has.up in let inside = has.within in let n = number in
        subst Goes (sym (said ∙ ap apply_answer is))
        (leads (Some StoreFault) (d.after.applied, omega (arith, up, n), omega (arith, inside, n), refl) (omega (arith, fewer, rose)))
    by (Err fault.Memory) is =
        let fewer = a.counted in let count_up = d.cause.later in
        let up = has.up in let inside = has.within in let n = number in
        subst Goes (sym (said ∙ ap apply_answer is))
        (leads (Some NoMemory) (d.after.applied, omega (arith, up, n), omega (arith, inside, n), refl) (omega (arith, fewer, count_up)))

pub apply_kept : {K S : Type 0} (content : K → Option (List Entry)) (faults : K → ℕ) (cache_of : S → CacheMap Bytes) (old : FarmParts K S) (keeper : K) (home west : RegionParts S) (r : Region) (replica count : ℕ) (answer : Option Answer)
    → AppliesIn (content old.keeper) (content keeper) (faults old.keeper) (faults keeper) old.home old.west home west r replica count answer → IsFarm content cache_of old → IsFarm content cache_of (record old { keeper = keeper; home = home; west = west })
apply_kept {K} {S} content faults cache_of old keeper home west r replica count answer (made, said, d) k = by r d.now d.other
  where
    kept : home.cache ≡ old.home.cache → home.positions ≡ old.home.positions → west.cache ≡ old.west.cache → IsFarm content cache_of (record old { keeper = keeper; home = home; west = west })
    kept home_cache rows west_cache = record {
      home_small = k.home_small;
      west_small = k.west_small;
      delay = k.delay;
      stamps = subst (λ o. IfSome o (λ h. Rattle.wiki_model.specs.History.stamp_at h (length h) ≤ old.moments.home)) (sym d.same) k.stamps;
      home_before = subst (λ o. IfSome o (λ c. (cache_of c).greatest ≤ old.moments.home)) (sym home_cache) k.home_before;
      west_before = subst (λ o. IfSome o (λ c. (cache_of c).greatest ≤ old.moments.west)) (sym west_cache) k.west_before;
      room = k.room;
      reserved = λ id b is. subst (λ ps. Rattle.std.specs.Prelude.IsTrue (Rattle.chronology_store.specs.ChronologyStore.is_reserved ps b.ask.client)) (sym rows) (k.reserved id b is);
    }

    by : (q : Region) → region_at q home west ≡ with_replica replica d.after (region_at q old.home old.west) → region_at (other_region q) home west ≡ region_at (other_region q) old.home old.west → IsFarm content cache_of (record old { keeper = keeper; home = home; west = west })
    by Home now other = kept (ap (λ (p : RegionParts S). p.cache) now) (ap (λ (p : RegionParts S). p.positions) now) (ap (λ (p : RegionParts S). p.cache) other)
    by West now other = kept (ap (λ (p : RegionParts S). p.cache) other) (ap (λ (p : RegionParts S). p.positions) other) (ap (λ (p : RegionParts S). p.cache) now)
