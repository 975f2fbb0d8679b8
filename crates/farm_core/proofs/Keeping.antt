-- What holds of a farm at every moment holds after its steps.
use Rattle.std.proofs.Common.{◌≡◌, ℕ, ◌+◌, ◌-◌, ◌≤◌, inl, inr, Bool, true, false, List, length, Option, Some, None, IfSome, IsTrue, refl, sym, ap, subst, ◌∙◌, arith, max, nat_eq}
use Rattle.std.specs.Prelude.{option_and_then, ◌||◌, nat_le, IsSome}
use Rattle.std.proofs.lemmas.Bool.Decides.{nat_tests}
use Rattle.wiki_model.specs.declared.Readings.{Readings}
use Rattle.wiki_model.specs.Bytes.{Bytes}
use Rattle.wiki_model.specs.History.{Entry, stamp_at}
use Rattle.wiki_model.specs.Cache.{CacheMap, Found, Hit, Interim, Missed, look, set_rule}
use Rattle.wiki_model.specs.World.{cut}
use Rattle.wiki_model.specs.Answers.{Answer}
use Rattle.wiki_model.proofs.FrameLaws.{if_map}
use Rattle.purge_relay.specs.Ledger.{LedgerState}
use Rattle.edit_core.specs.declared.begun_edit.BegunEdit.{BegunEdit}
use Rattle.region_state.specs.declared.wait_view.Wait.{Wait}
use Rattle.region_state.specs.declared.wait_view.Wait.TheVariants as wait
use Rattle.region_state.specs.declared.open_view.OpenView.{OpenView}
use Rattle.farm_steps.specs.declared.open_request.OpenRequest.{OpenRequest}
use Rattle.farm_steps.specs.declared.open_request.OpenRequest.TheVariants as point
use Rattle.farm_steps.specs.RequestMap.{Entries, open_at, unless_taken, room, room_at, Places}
use Rattle.region_state.specs.WaitView.{waits, known_in, lag_in}
use Rattle.region_state.specs.SnapView.{ask_for}
use Rattle.region_state.specs.StoreView.{StoresIn, StoresAt, StoresBy}
use Rattle.region_state.specs.StoreView.{rendered}
use Rattle.farm_core.specs.FarmParts.{FarmParts, IsFarm, IsWhole}
use Rattle.farm_steps.specs.Moments.{moment_of}
use Rattle.region_state.specs.RegionState.{RegionParts, IsBefore}
use Rattle.wiki_model.specs.declared.Region.{Region}
use Rattle.wiki_model.specs.declared.Region.TheVariants.{Home, West}
use Rattle.wiki_model.specs.declared.SetRule.{SetRule}
use Rattle.wiki_model.specs.declared.SetRule.TheVariants as rule
use Rattle.wiki_model.specs.declared.PutNote.{PutNote}
use Rattle.wiki_model.specs.Answers as model
use Rattle.replica_apply.specs.declared.snapshot.Snapshot.{Snapshot}
use Rattle.region_state.specs.declared.snap_view.Snapped.{Snapped}
use Rattle.chronology_store.specs.ChronologyStore.{is_reserved}
use Rattle.farm_steps.specs.ViewSteps.{Waits, WaitsTo, Looks, LooksTo, StoresTo, region_at, other_region}
use Rattle.farm_core.specs.Runs.{advanced}

up : (told : Option (List Entry)) (now later : ℕ) → now ≤ later → IfSome told (λ h. stamp_at h (length h) ≤ now) → IfSome told (λ h. stamp_at h (length h) ≤ later)
up None now later le is = tt
up (Some h) now later le is = omega (arith, le, is)

before-up : {S : Type 0} (cache_of : S → CacheMap Bytes) (parts : RegionParts S) (now later : ℕ) → now ≤ later → IsBefore cache_of parts now → IsBefore cache_of parts later
before-up cache_of parts now later le is = if_map (λ c. (cache_of c).greatest ≤ now) (λ c. (cache_of c).greatest ≤ later) parts.cache (λ c h. omega (arith, le, h)) is

pub advanced_kept : {K S : Type 0} (content : K → Option (List Entry)) (cache_of : S → CacheMap Bytes) (farm : FarmParts K S) (at : Readings) → IsFarm content cache_of farm → IsFarm content cache_of (advanced at farm)
advanced_kept content cache_of farm at k = record {
  home_small = let h = k.home_small in omega (arith, h);
  west_small = let h = k.west_small in omega (arith, h);
  delay = k.delay;
  stamps = up (content farm.keeper) farm.moments.home (max farm.moments.home (cut at.home)) (omega arith) k.stamps;
  home_before = before-up cache_of farm.home farm.moments.home (max farm.moments.home (cut at.home)) (omega arith) k.home_before;
  west_before = before-up cache_of farm.west farm.moments.west (max farm.moments.west (cut at.west)) (omega arith) k.west_before;
  room = k.room;
  reserved = k.reserved;
}

-- no edit is begun that was not, and no room is reserved
pub record NoMoreBegun (old new : Entries) : Type 0 where
  pub none : (id : ℕ) (begun : BegunEdit) → open_at new id ≡ Some (point.EditBegun begun) → open_at old id ≡ Some (point.EditBegun begun)
  pub room : room new ≤ room old

pub requests_kept : {K S : Type 0} (content : K → Option (List Entry)) (cache_of : S → CacheMap Bytes) (farm : FarmParts K S) (requests : Entries) → IsFarm content cache_of farm → NoMoreBegun farm.requests requests
    → IsFarm content cache_of (record farm { requests = requests })
requests_kept content cache_of farm requests k begun = record {
  home_small = k.home_small;
  west_small = k.west_small;
  delay = k.delay;
  stamps = k.stamps;
  home_before = k.home_before;
  west_before = k.west_before;
  room = let less = begun.room in let all = k.room in omega (arith, less, all);
  reserved = λ id b is. k.reserved id b (begun.none id b is);
}

abbrev pub NotBegun : Option OpenRequest → Type 0
NotBegun now = (begun : BegunEdit) → option_and_then unless_taken now ≡ Some (point.EditBegun begun) → ⊥

no_room : (now : Option OpenRequest) → NotBegun now → room_at now ≡ 0
no_room None none = refl
no_room (Some (point.EditArrived ask)) none = refl
no_room (Some (point.EditBegun begun)) none = absurd (none begun refl)
no_room (Some (point.ViewArrived view)) none = refl
no_room (Some (point.ViewWaited view need)) none = refl
no_room (Some (point.ViewLooked view need)) none = refl
no_room (Some (point.ViewSnapped view snapped)) none = refl
no_room (Some point.Taken) none = refl

pub no_more : (old new : Entries) (id : ℕ) (now : Option OpenRequest) → Places old new id now → NotBegun now → NoMoreBegun old new
no_more old new id now p not = record {
  none = λ other begun is. by other begun is (nat_eq other id) refl;
  room = let grown = p.room in let none = no_room now not in omega (arith, grown, none);
}
  where
    by : (other : ℕ) (begun : BegunEdit) → open_at new other ≡ Some (point.EditBegun begun) → (b : Bool) → nat_eq other id ≡ b → open_at old other ≡ Some (point.EditBegun begun)
    by other begun is true e = let same : other ≡ id = grind (arith, nat_tests, e) in absurd (not begun (ap (option_and_then unless_taken) (sym p.here) ∙ ap (open_at new) (sym same) ∙ is))
    by other begun is false e = ap (option_and_then unless_taken) (sym (p.others other e)) ∙ is

pub none_begun : (old new : Entries) (id : ℕ) → Places old new id None → NoMoreBegun old new
none_begun old new id p = no_more old new id None p (λ begun is. cc)

pub same_begun : (old new : Entries) → new ≡ old → NoMoreBegun old new
same_begun old new same = record { none = λ id begun is. ap (λ (es : Entries). open_at es id) (sym same) ∙ is; room = let e = ap room same in omega (arith, e) }

waited_to : (outcome : Wait) (id : ℕ) (view : OpenView) (old new : Entries) (answer : Option Answer) → WaitsTo outcome id view old new answer → NoMoreBegun old new
waited_to (wait.Go need) id view old new answer did = no_more old new id (Some (point.ViewWaited view need)) did.1 (λ begun is. cc)
waited_to wait.Stay id view old new answer did = no_more old new id (Some (point.ViewArrived view)) did.1 (λ begun is. cc)
waited_to (wait.Lag by needed reached) id view old new answer did = none_begun old new id did.1

pub wait_begun : {S : Type 0} (home west : RegionParts S) (at : Readings) (id : ℕ) (last : Bool) (old new : Entries) (answer : Option Answer) (found : Option OpenView) → Waits home west at id last old new answer found → NoMoreBegun old new
wait_begun home west at id last old new answer None did = same_begun old new did.1
wait_begun home west at id last old new answer (Some view) did =
    let parts = region_at view.region home west in
    let now = moment_of view.region at in
    waited_to (waits (last || nat_le (view.arrived + 5_000) now) (known_in parts.positions view.ask.client now).position (lag_in parts view.ask now)) id view old new answer did

looked_to : (id : ℕ) (view : OpenView) (need : ℕ) (old new : Entries) (answer : Option Answer) (found : Found Bytes) → LooksTo id view need old new answer found → NoMoreBegun old new
looked_to id view need old new answer found (inl none) = none_begun old new id none.1
looked_to id view need old new answer (Hit v) (inr did) = none_begun old new id did.1
looked_to id view need old new answer (Interim v) (inr did) = none_begun old new id did.1
looked_to id view need old new answer (Missed why) (inr did) = no_more old new id (Some (point.ViewLooked view need)) did.1 (λ begun is. cc)

in_cache : {S : Type 0} (cache_of : S → CacheMap Bytes) (cache : Option S) (seen : S → Found Bytes) (id : ℕ) (view : OpenView) (need : ℕ) (old new : Entries) (answer : Option Answer) → IsSome cache → IfSome cache (λ c. LooksTo id view need old new answer (seen c)) → NoMoreBegun old new
in_cache cache_of None seen id view need old new answer some did = let no : ⊥ = cc in absurd no
in_cache cache_of (Some c) seen id view need old new answer some did = looked_to id view need old new answer (seen c) did

pub look_begun : {S : Type 0} (cache_of : S → CacheMap Bytes) (home west : RegionParts S) (at : Readings) (id : ℕ) (old new : Entries) (answer : Option Answer) (found : Option (OpenView × ℕ))
    → ((r : Region) → IsSome (region_at r home west).cache) → Looks cache_of home west at id old new answer found → NoMoreBegun old new
look_begun cache_of home west at id old new answer None there did = same_begun old new did.1
look_begun cache_of home west at id old new answer (Some (view, need)) there did =
    let parts = region_at view.region home west in
    in_cache cache_of parts.cache (λ c. look (cache_of c) view.ask.title (moment_of view.region at) (ask_for parts need)) id view need old new answer (there view.region) did

pub whole_there : {K S : Type 0} (farm : FarmParts K S) → IsWhole farm → (r : Region) → IsSome (region_at r farm.home farm.west).cache
whole_there farm whole Home = whole.0
whole_there farm whole West = whole.1

-- after a store the cache was given the moment of its region, or none

stored_before : (of : SetRule) (old new : CacheMap Bytes) (key : Bytes) (s : Snapshot) (page : Bytes) (now markup : ℕ) (n : PutNote) → StoresBy of old new key s page now markup n → old.greatest ≤ now → new.greatest ≤ now
stored_before rule.Whole old new key s page now markup n by le = let g = by.1.greatest in omega (arith, g)
stored_before rule.Lagged old new key s page now markup n by le = let g = by.1.greatest in omega (arith, g)
stored_before rule.NoPending old new key s page now markup n by le = subst (λ (c : CacheMap Bytes). c.greatest ≤ now) (sym by.1) le
stored_before rule.NoOld old new key s page now markup n by le = subst (λ (c : CacheMap Bytes). c.greatest ≤ now) (sym by.1) le
stored_before rule.NoMedium old new key s page now markup n by le = subst (λ (c : CacheMap Bytes). c.greatest ≤ now) (sym by.1) le

-- a region after a store
store_cache : {S : Type 0} (cache_of : S → CacheMap Bytes) (before after : S) (title : Bytes) (snapped : Snapped) (now read_lag markup : ℕ) (answer : Answer) → StoresAt cache_of before after title snapped now read_lag markup answer
    → (cache_of before).greatest ≤ now → (cache_of after).greatest ≤ now
store_cache cache_of before after title snapped now read_lag markup (model.Page p) (text, text_is, n, p_is, is_cache, stores) le =
    stored_before (set_rule snapped.snapshot.lag (now - snapped.snapshot.since) snapped.pending read_lag) (cache_of before) (cache_of after) title snapped.snapshot (rendered markup title text snapped.snapshot) now markup n stores le
store_cache cache_of before after title snapped now read_lag markup (model.NoPage source) (none, source_is, same) le = subst (λ c. (cache_of c).greatest ≤ now) (sym same) le
store_cache cache_of before after title snapped now read_lag markup model.NoMemory same le = subst (λ c. (cache_of c).greatest ≤ now) (sym same) le
store_cache cache_of before after title snapped now read_lag markup _ no_such le = absurd no_such

store_region : {S : Type 0} (cache_of : S → CacheMap Bytes) (old new : RegionParts S) (title : Bytes) (snapped : Snapped) (now : ℕ) (answer : Answer) → StoresIn cache_of old new title snapped now answer → IsBefore cache_of old now
    → IsBefore cache_of new now × (new.positions ≡ old.positions)
store_region {S} cache_of old new title snapped now answer (before, after, before_is, after_is, stores) le =
    let was = subst (λ o. IfSome o (λ c. (cache_of c).greatest ≤ now)) before_is le in
    (subst (λ (p : RegionParts S). IsBefore cache_of p now) (sym after_is) (store_cache cache_of before after title snapped now old.config.read_lag old.markup answer stores was), ap (λ (p : RegionParts S). p.positions) after_is)

pub store_kept : {K S : Type 0} (content : K → Option (List Entry)) (cache_of : S → CacheMap Bytes) (old : FarmParts K S) (home west : RegionParts S) (requests : Entries) (id : ℕ) (answer : Answer) (found : Option (OpenView × Snapped))
    → StoresTo cache_of old.home old.west home west old.moments id old.requests requests answer found → IsFarm content cache_of old → IsFarm content cache_of (record old { home = home; west = west; requests = requests })
store_kept {K} {S} content cache_of old home west requests id answer found did k = by found did
  where
    kept : IsBefore cache_of home old.moments.home → IsBefore cache_of west old.moments.west → home.positions ≡ old.home.positions → NoMoreBegun old.requests requests
        → IsFarm content cache_of (record old { home = home; west = west; requests = requests })
    kept home_before west_before same begun = record {
      home_small = k.home_small;
      west_small = k.west_small;
      delay = k.delay;
      stamps = k.stamps;
      home_before = home_before;
      west_before = west_before;
      room = let less = begun.room in let all = k.room in omega (arith, less, all);
      reserved = λ i b is. subst (λ rows. IsTrue (is_reserved rows b.ask.client)) (sym same) (k.reserved i b (begun.none i b is));
    }

    at : (r : Region) (view : OpenView) (snapped : Snapped) → StoresIn cache_of (region_at r old.home old.west) (region_at r home west) view.ask.title snapped (moment_of r old.moments) answer
        → region_at (other_region r) home west ≡ region_at (other_region r) old.home old.west → NoMoreBegun old.requests requests → IsFarm content cache_of (record old { home = home; west = west; requests = requests })
    at Home view snapped stores other begun =
        let s = store_region cache_of old.home home view.ask.title snapped old.moments.home answer stores k.home_before in
        kept s.0 (subst (λ (p : RegionParts S). IsBefore cache_of p old.moments.west) (sym other) k.west_before) s.1 begun
    at West view snapped stores other begun =
        let s = store_region cache_of old.west west view.ask.title snapped old.moments.west answer stores k.west_before in
        kept (subst (λ (p : RegionParts S). IsBefore cache_of p old.moments.home) (sym other) k.home_before) s.0 (ap (λ (p : RegionParts S). p.positions) other) begun

    by : (o : Option (OpenView × Snapped)) → StoresTo cache_of old.home old.west home west old.moments id old.requests requests answer o → IsFarm content cache_of (record old { home = home; west = west; requests = requests })
    by None did =
        kept (subst (λ (p : RegionParts S). IsBefore cache_of p old.moments.home) (sym did.1) k.home_before) (subst (λ (p : RegionParts S). IsBefore cache_of p old.moments.west) (sym did.2) k.west_before) (ap (λ (p : RegionParts S). p.positions) did.1) (same_begun old.requests requests did.0.1)
    by (Some (view, snapped)) did = at view.region view snapped did.1 did.2 (none_begun old.requests requests id did.0)

-- the ledger changes, and the room that is reserved stays
pub ledger_kept : {K S : Type 0} (content : K → Option (List Entry)) (cache_of : S → CacheMap Bytes) (old : FarmParts K S) (ledger_now : LedgerState) → ledger_now.spare ≡ old.ledger.spare → IsFarm content cache_of old → IsFarm content cache_of (record old { ledger = ledger_now })
ledger_kept content cache_of old ledger_now spare k = record {
  home_small = k.home_small;
  west_small = k.west_small;
  delay = k.delay;
  stamps = k.stamps;
  home_before = k.home_before;
  west_before = k.west_before;
  room = let all = k.room in omega (arith, spare, all);
  reserved = k.reserved;
}
