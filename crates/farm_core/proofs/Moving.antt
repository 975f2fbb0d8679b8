-- A step takes the request at the point that it needs and puts it at the next, or closes it: each case of what the step does says
-- which. The other requests stand still, since one place was changed.
use Rattle.std.proofs.Common.{◌≡◌, ℕ, ◌+◌, inl, inr, Bool, true, false, List, Option, Some, None, IfSome, Result, Ok, Err, refl, sym, ap, subst, ◌∙◌, nat_eq}
use Rattle.std.specs.Prelude.{option_and_then, ◌||◌, nat_le, IsSome}
use Rattle.wiki_model.specs.declared.Region.{Region}
use Rattle.wiki_model.specs.declared.Readings.{Readings}
use Rattle.wiki_model.specs.Bytes.{Bytes}
use Rattle.wiki_model.specs.History.{Entry}
use Rattle.wiki_model.specs.Cache.{CacheMap, Found, Hit, Interim, Missed, look}
use Rattle.wiki_model.specs.Answers as model
use Rattle.wiki_model.specs.Answers.{Answer, NoMemory, Conflict}
use Rattle.farm_base.specs.declared.memory.Memory.{Memory}
use Rattle.purge_relay.specs.Ledger.{LedgerState}
use Rattle.edit_core.specs.declared.edit_ask.EditAsk.{EditAsk}
use Rattle.edit_core.specs.declared.edit_ask.CommitOutcome.{CommitOutcome}
use Rattle.edit_core.specs.declared.edit_ask.EditRefusal.{EditRefusal}
use Rattle.edit_core.specs.declared.edit_ask.EditRefusal.TheVariants as refusal
use Rattle.edit_core.specs.declared.begun_edit.BegunEdit as begun_edits
use Rattle.edit_core.specs.declared.begun_edit.Begun.{Begun}
use Rattle.edit_core.specs.declared.begun_edit.Begun.TheVariants.{Started, Already}
use Rattle.region_state.specs.declared.wait_view.Wait.{Wait}
use Rattle.region_state.specs.declared.wait_view.Wait.TheVariants as wait
use Rattle.region_state.specs.declared.open_view.OpenView.{OpenView}
use Rattle.region_state.specs.declared.snap_view.Snapped.{Snapped}
use Rattle.region_state.specs.declared.ask.Asked.{Asked}
use Rattle.region_state.specs.declared.ask.Asked.TheVariants as asked
use Rattle.region_state.specs.RegionState.{RegionParts}
use Rattle.region_state.specs.WaitView.{waits, known_in, lag_in}
use Rattle.region_state.specs.SnapView.{ask_for}
use Rattle.region_state.specs.StoreView.{StoresAt}
use Rattle.farm_steps.specs.declared.open_request.OpenRequest.{OpenRequest}
use Rattle.farm_steps.specs.declared.open_request.OpenRequest.TheVariants as point
use Rattle.farm_steps.specs.RequestMap.{Entries, Places, open_at, unless_taken, arrived_edit, begun_edit, arrived_view, waited_view, looked_view, snapped_view, need_of}
use Rattle.farm_core.specs.RequestLife.{Point, Closed, ArrivedEdit, BegunEdit, ArrivedView, WaitedView, LookedView, SnappedView, point_of, point_at, MovesOn, OpensRequest, ClosesWaited, BeginsAt, CommitsAt, WaitsAt, LooksFrom, SnapsAt, StoresFrom, first_point}
use Rattle.farm_steps.specs.Moments.{moment_of}
use Rattle.farm_steps.specs.ViewSteps.{NoneThere, Waits, WaitsTo, Looks, LooksTo, SnapsTo, SnapsView, StoresTo, Needs, region_at}
use Rattle.farm_steps.specs.ArriveStep.{Arrives, open_of}
use Rattle.farm_steps.specs.EditSteps.{BeginsTo, EndsBegin, CommitsTo, outcome_answer}

-- one place was changed
others_stay : (old new : Entries) (id : ℕ) (now : Option OpenRequest) → Places old new id now → (other : ℕ) → nat_eq other id ≡ false → open_at new other ≡ open_at old other
others_stay old new id now p other e = ap (option_and_then unless_taken) (p.others other e)

stands_at : (old new : Entries) (id : ℕ) (now : Option OpenRequest) → Places old new id now → point_at new id ≡ point_of (option_and_then unless_taken now)
stands_at old new id now p = ap (λ o. point_of (option_and_then unless_taken o)) p.here

moves : (id : ℕ) (from : Point) (To : Option Answer → Point → Type 0) (old new : Entries) (answer : Option Answer) (now : Option OpenRequest)
    → point_at old id ≡ from → Places old new id now → To answer (point_of (option_and_then unless_taken now)) → MovesOn id from To answer old new
moves id from To old new answer now at p to = record {
  others = others_stay old new id now p;
  moved = λ _. subst (To answer) (sym (stands_at old new id now p)) to;
  refused = λ none. absurd (none at);
}

not_moved : (id : ℕ) (from : Point) (To : Option Answer → Point → Type 0) (old new : Entries) (answer : Option Answer)
    → (point_at old id ≡ from → ⊥) → NoneThere id old new answer → MovesOn id from To answer old new
not_moved id from To old new answer none did = record {
  others = λ other e. ap (λ (es : Entries). open_at es other) did.1;
  moved = λ at. absurd (none at);
  refused = λ _. did;
}

-- a request at another point is not at this one
apart : (o : Option OpenRequest) (old : Entries) (id : ℕ) (from : Point) → open_at old id ≡ o → (point_of o ≡ from → ⊥) → point_at old id ≡ from → ⊥
apart o old id from e differ at = differ (sym (ap point_of e) ∙ at)

pub wait_moves : {S : Type 0} (home west : RegionParts S) (at : Readings) (id : ℕ) (last : Bool) (old new : Entries) (answer : Option Answer) → Waits home west at id last old new answer (arrived_view (open_at old id))
    → MovesOn id ArrivedView (WaitsAt last) answer old new
wait_moves {S} home west at id last old new answer did = by (open_at old id) refl did
  where
    Moves : Type 0
    Moves = MovesOn id ArrivedView (WaitsAt last) answer old new

    Did : Option OpenView → Type 0
    Did found = Waits home west at id last old new answer found

    ends : (outcome : Wait) (view : OpenView) (gives_up : Bool) → (outcome ≡ wait.Stay → gives_up ≡ false) → point_at old id ≡ ArrivedView → (last ≡ true → gives_up ≡ true) → WaitsTo outcome id view old new answer → Moves
    ends (wait.Go need) view gives_up stay here waited (said, p) = moves id ArrivedView (WaitsAt last) old new answer (Some (point.ViewWaited view need)) here p (subst (λ a. WaitsAt last a WaitedView) (sym said) (inl refl))
    ends wait.Stay view gives_up stay here waited (said, p) = moves id ArrivedView (WaitsAt last) old new answer (Some (point.ViewArrived view)) here p (subst (λ a. WaitsAt last a ArrivedView) (sym said) (inr (by_last last refl, refl)))
      where
        by_last : (b : Bool) → last ≡ b → last ≡ false
        by_last false e = e
        by_last true e = let no : ⊥ = (let f = stay refl in let t = waited e in cc) in absurd no
    ends (wait.Lag by needed reached) view gives_up stay here waited (said, p) = moves id ArrivedView (WaitsAt last) old new answer None here p (subst (λ a. WaitsAt last a Closed) (sym said) refl)

    none : (o : Option OpenRequest) → open_at old id ≡ o → (point_of o ≡ ArrivedView → ⊥) → Did None → Moves
    none o e differ none_there = not_moved id ArrivedView (WaitsAt last) old new answer (apart o old id ArrivedView e differ) none_there

    stays : (gives_up : Bool) (need : ℕ) (lag : Option Rattle.wiki_model.specs.Sessions.Lag) → waits gives_up need lag ≡ wait.Stay → gives_up ≡ false
    stays gives_up need None e = let no : ⊥ = cc in absurd no
    stays true need (Some lag) e = let no : ⊥ = cc in absurd no
    stays false need (Some lag) e = refl

    up : (b : Bool) → last ≡ true → (last || b) ≡ true
    up b e = ap (λ l. l || b) e

    by : (o : Option OpenRequest) → open_at old id ≡ o → Did (arrived_view o) → Moves
    by None e d = none None e (λ is. let no : ⊥ = cc in no) d
    by (Some (point.EditArrived ask)) e d = none (Some (point.EditArrived ask)) e (λ is. let no : ⊥ = cc in no) d
    by (Some (point.EditBegun begun)) e d = none (Some (point.EditBegun begun)) e (λ is. let no : ⊥ = cc in no) d
    by (Some (point.ViewArrived view)) e d =
        let parts = region_at view.region home west in
        let now = moment_of view.region at in
        let gives_up = last || nat_le (view.arrived + 5_000) now in
        let need = (known_in parts.positions view.ask.client now).position in
        let lag = lag_in parts view.ask now in
        ends (waits gives_up need lag) view gives_up (stays gives_up need lag) (ap point_of e) (up (nat_le (view.arrived + 5_000) now)) d
    by (Some (point.ViewWaited view need)) e d = none (Some (point.ViewWaited view need)) e (λ is. let no : ⊥ = cc in no) d
    by (Some (point.ViewLooked view need)) e d = none (Some (point.ViewLooked view need)) e (λ is. let no : ⊥ = cc in no) d
    by (Some (point.ViewSnapped view snapped)) e d = none (Some (point.ViewSnapped view snapped)) e (λ is. let no : ⊥ = cc in no) d
    by (Some point.Taken) e d = none (Some point.Taken) e (λ is. let no : ⊥ = cc in no) d

pub look_moves : {S : Type 0} (cache_of : S → CacheMap Bytes) (home west : RegionParts S) (at : Readings) (id : ℕ) (old new : Entries) (answer : Option Answer) → ((r : Region) → IsSome (region_at r home west).cache)
    → Looks cache_of home west at id old new answer (waited_view (open_at old id)) → MovesOn id WaitedView LooksFrom answer old new
look_moves {S} cache_of home west at id old new answer there did = by (open_at old id) refl did
  where
    Moves : Type 0
    Moves = MovesOn id WaitedView LooksFrom answer old new

    Did : Option (OpenView × ℕ) → Type 0
    Did found = Looks cache_of home west at id old new answer found

    ends : (found : Found Bytes) (view : OpenView) (need : ℕ) → point_at old id ≡ WaitedView → LooksTo id view need old new answer found → Moves
    ends found view need here (inl (said, p)) = moves id WaitedView LooksFrom old new answer None here p (subst (λ a. LooksFrom a Closed) (sym said) refl)
    ends (Hit v) view need here (inr (said, p)) = moves id WaitedView LooksFrom old new answer None here p (subst (λ a. LooksFrom a Closed) (sym said) refl)
    ends (Interim v) view need here (inr (said, p)) = moves id WaitedView LooksFrom old new answer None here p (subst (λ a. LooksFrom a Closed) (sym said) refl)
    ends (Missed why) view need here (inr (said, p)) = moves id WaitedView LooksFrom old new answer (Some (point.ViewLooked view need)) here p (subst (λ a. LooksFrom a LookedView) (sym said) refl)

    in_cache : (cache : Option S) (seen : S → Found Bytes) (view : OpenView) (need : ℕ) → point_at old id ≡ WaitedView → IsSome cache → IfSome cache (λ c. LooksTo id view need old new answer (seen c)) → Moves
    in_cache None seen view need here some d = let no : ⊥ = cc in absurd no
    in_cache (Some c) seen view need here some d = ends (seen c) view need here d

    none : (o : Option OpenRequest) → open_at old id ≡ o → (point_of o ≡ WaitedView → ⊥) → Did None → Moves
    none o e differ none_there = not_moved id WaitedView LooksFrom old new answer (apart o old id WaitedView e differ) none_there

    by : (o : Option OpenRequest) → open_at old id ≡ o → Did (waited_view o) → Moves
    by None e d = none None e (λ is. let no : ⊥ = cc in no) d
    by (Some (point.EditArrived ask)) e d = none (Some (point.EditArrived ask)) e (λ is. let no : ⊥ = cc in no) d
    by (Some (point.EditBegun begun)) e d = none (Some (point.EditBegun begun)) e (λ is. let no : ⊥ = cc in no) d
    by (Some (point.ViewArrived view)) e d = none (Some (point.ViewArrived view)) e (λ is. let no : ⊥ = cc in no) d
    by (Some (point.ViewWaited view need)) e d =
        let parts = region_at view.region home west in
        in_cache parts.cache (λ c. look (cache_of c) view.ask.title (moment_of view.region at) (ask_for parts need)) view need (ap point_of e) (there view.region) d
    by (Some (point.ViewLooked view need)) e d = none (Some (point.ViewLooked view need)) e (λ is. let no : ⊥ = cc in no) d
    by (Some (point.ViewSnapped view snapped)) e d = none (Some (point.ViewSnapped view snapped)) e (λ is. let no : ⊥ = cc in no) d
    by (Some point.Taken) e d = none (Some point.Taken) e (λ is. let no : ⊥ = cc in no) d

pub snap_moves : {S : Type 0} (home west : RegionParts S) (at : Readings) (id : ℕ) (old new : Entries) (answer : Option Answer) → SnapsTo home west at id old new answer (looked_view (open_at old id))
    → MovesOn id LookedView SnapsAt answer old new
snap_moves {S} home west at id old new answer did = by (open_at old id) refl did
  where
    Moves : Type 0
    Moves = MovesOn id LookedView SnapsAt answer old new

    Did : Option (OpenView × ℕ) → Type 0
    Did found = SnapsTo home west at id old new answer found

    ends : (made : Result Snapped Memory) (view : OpenView) → point_at old id ≡ LookedView → SnapsView id view old new answer made → Moves
    ends (Ok snapped) view here (said, p) = moves id LookedView SnapsAt old new answer (Some (point.ViewSnapped view snapped)) here p (subst (λ a. SnapsAt a SnappedView) (sym said) refl)
    ends (Err want) view here (said, p) = moves id LookedView SnapsAt old new answer None here p (subst (λ a. SnapsAt a Closed) (sym said) refl)

    none : (o : Option OpenRequest) → open_at old id ≡ o → (point_of o ≡ LookedView → ⊥) → Did None → Moves
    none o e differ none_there = not_moved id LookedView SnapsAt old new answer (apart o old id LookedView e differ) none_there

    by : (o : Option OpenRequest) → open_at old id ≡ o → Did (looked_view o) → Moves
    by None e d = none None e (λ is. let no : ⊥ = cc in no) d
    by (Some (point.EditArrived ask)) e d = none (Some (point.EditArrived ask)) e (λ is. let no : ⊥ = cc in no) d
    by (Some (point.EditBegun begun)) e d = none (Some (point.EditBegun begun)) e (λ is. let no : ⊥ = cc in no) d
    by (Some (point.ViewArrived view)) e d = none (Some (point.ViewArrived view)) e (λ is. let no : ⊥ = cc in no) d
    by (Some (point.ViewWaited view need)) e d = none (Some (point.ViewWaited view need)) e (λ is. let no : ⊥ = cc in no) d
    by (Some (point.ViewLooked view need)) e d = ends d.made view (ap point_of e) d.ends
    by (Some (point.ViewSnapped view snapped)) e d = none (Some (point.ViewSnapped view snapped)) e (λ is. let no : ⊥ = cc in no) d
    by (Some point.Taken) e d = none (Some point.Taken) e (λ is. let no : ⊥ = cc in no) d

pub store_moves : {S : Type 0} (cache_of : S → CacheMap Bytes) (home west home_after west_after : RegionParts S) (at : Readings) (id : ℕ) (old new : Entries) (answer : Answer)
    → StoresTo cache_of home west home_after west_after at id old new answer (snapped_view (open_at old id)) → MovesOn id SnappedView StoresFrom (Some answer) old new
store_moves {S} cache_of home west home_after west_after at id old new answer did = by (open_at old id) refl did
  where
    Moves : Type 0
    Moves = MovesOn id SnappedView StoresFrom (Some answer) old new

    Did : Option (OpenView × Snapped) → Type 0
    Did found = StoresTo cache_of home west home_after west_after at id old new answer found

    stored : (said : Answer) (before after : S) (title : Bytes) (snapped : Snapped) (now read_lag markup : ℕ) → StoresAt cache_of before after title snapped now read_lag markup said → StoresFrom (Some said) Closed
    stored (model.Page p) before after title snapped now read_lag markup s = refl
    stored (model.NoPage source) before after title snapped now read_lag markup s = refl
    stored model.NoMemory before after title snapped now read_lag markup s = refl
    stored _ before after title snapped now read_lag markup s = absurd s

    none : (o : Option OpenRequest) → open_at old id ≡ o → (point_of o ≡ SnappedView → ⊥) → Did None → Moves
    none o e differ d = not_moved id SnappedView StoresFrom old new (Some answer) (apart o old id SnappedView e differ) d.0

    by : (o : Option OpenRequest) → open_at old id ≡ o → Did (snapped_view o) → Moves
    by None e d = none None e (λ is. let no : ⊥ = cc in no) d
    by (Some (point.EditArrived ask)) e d = none (Some (point.EditArrived ask)) e (λ is. let no : ⊥ = cc in no) d
    by (Some (point.EditBegun begun)) e d = none (Some (point.EditBegun begun)) e (λ is. let no : ⊥ = cc in no) d
    by (Some (point.ViewArrived view)) e d = none (Some (point.ViewArrived view)) e (λ is. let no : ⊥ = cc in no) d
    by (Some (point.ViewWaited view need)) e d = none (Some (point.ViewWaited view need)) e (λ is. let no : ⊥ = cc in no) d
    by (Some (point.ViewLooked view need)) e d = none (Some (point.ViewLooked view need)) e (λ is. let no : ⊥ = cc in no) d
    by (Some (point.ViewSnapped view snapped)) e (p, stores, other) =
        let parts = region_at view.region home west in
        moves id SnappedView StoresFrom old new (Some answer) None (ap point_of e) p
        (stored answer stores.0 stores.1 view.ask.title snapped (moment_of view.region at) parts.config.read_lag parts.markup stores.4)
    by (Some point.Taken) e d = none (Some point.Taken) e (λ is. let no : ⊥ = cc in no) d

pub begin_moves : {S : Type 0} (cache_of : S → CacheMap Bytes) (told after : Option (List Entry)) (before_faults after_faults : ℕ) (home home_after : RegionParts S) (old_ledger new_ledger : LedgerState) (now delay id : ℕ) (old new : Entries) (answer : Option Answer)
    → BeginsTo cache_of told after before_faults after_faults home home_after old_ledger new_ledger now delay id old new answer (arrived_edit (open_at old id)) → MovesOn id ArrivedEdit BeginsAt answer old new
begin_moves {S} cache_of told after before_faults after_faults home home_after old_ledger new_ledger now delay id old new answer did = by (open_at old id) refl did
  where
    Moves : Type 0
    Moves = MovesOn id ArrivedEdit BeginsAt answer old new

    Did : Option EditAsk → Type 0
    Did found = BeginsTo cache_of told after before_faults after_faults home home_after old_ledger new_ledger now delay id old new answer found

    ends : (result : Result Begun EditRefusal) (before : RegionParts S) (mid : LedgerState) → point_at old id ≡ ArrivedEdit → EndsBegin cache_of before home_after mid new_ledger now id old new answer result → Moves
    ends (Ok (Started b)) before mid here (said, received, p) = moves id ArrivedEdit BeginsAt old new answer (Some (point.EditBegun b)) here p (subst (λ a. BeginsAt a BegunEdit) (sym said) refl)
    ends (Ok (Already note)) before mid here (said, l, r, p) = moves id ArrivedEdit BeginsAt old new answer None here p (subst (λ a. BeginsAt a Closed) (sym said) refl)
    ends (Err refusal.Store) before mid here (said, l, r, p) = moves id ArrivedEdit BeginsAt old new answer None here p (subst (λ a. BeginsAt a Closed) (sym said) refl)
    ends (Err refusal.Memory) before mid here (said, l, r, p) = moves id ArrivedEdit BeginsAt old new answer None here p (subst (λ a. BeginsAt a Closed) (sym said) refl)
    ends (Err (refusal.Conflict base current)) before mid here (said, l, r, p) = moves id ArrivedEdit BeginsAt old new answer None here p (subst (λ a. BeginsAt a Closed) (sym said) refl)
    ends (Err (refusal.TokenReused entry)) before mid here (said, l, r, p) = moves id ArrivedEdit BeginsAt old new answer None here p (subst (λ a. BeginsAt a Closed) (sym said) refl)

    none : (o : Option OpenRequest) → open_at old id ≡ o → (point_of o ≡ ArrivedEdit → ⊥) → Did None → Moves
    none o e differ d = not_moved id ArrivedEdit BeginsAt old new answer (apart o old id ArrivedEdit e differ) d.0

    by : (o : Option OpenRequest) → open_at old id ≡ o → Did (arrived_edit o) → Moves
    by None e d = none None e (λ is. let no : ⊥ = cc in no) d
    by (Some (point.EditArrived ask)) e d = ends d.result (Rattle.region_state.specs.RegionState.with_positions d.positions home) d.mid (ap point_of e) d.ends
    by (Some (point.EditBegun begun)) e d = none (Some (point.EditBegun begun)) e (λ is. let no : ⊥ = cc in no) d
    by (Some (point.ViewArrived view)) e d = none (Some (point.ViewArrived view)) e (λ is. let no : ⊥ = cc in no) d
    by (Some (point.ViewWaited view need)) e d = none (Some (point.ViewWaited view need)) e (λ is. let no : ⊥ = cc in no) d
    by (Some (point.ViewLooked view need)) e d = none (Some (point.ViewLooked view need)) e (λ is. let no : ⊥ = cc in no) d
    by (Some (point.ViewSnapped view snapped)) e d = none (Some (point.ViewSnapped view snapped)) e (λ is. let no : ⊥ = cc in no) d
    by (Some point.Taken) e d = none (Some point.Taken) e (λ is. let no : ⊥ = cc in no) d

pub commit_moves : {S : Type 0} (cache_of : S → CacheMap Bytes) (told after : Option (List Entry)) (before_faults after_faults : ℕ) (home home_after : RegionParts S) (old_ledger new_ledger : LedgerState) (now id : ℕ) (old new : Entries) (answer : Answer)
    → CommitsTo cache_of told after before_faults after_faults home home_after old_ledger new_ledger now id old new answer (begun_edit (open_at old id)) → MovesOn id BegunEdit CommitsAt (Some answer) old new
commit_moves {S} cache_of told after before_faults after_faults home home_after old_ledger new_ledger now id old new answer did = by (open_at old id) refl did
  where
    Moves : Type 0
    Moves = MovesOn id BegunEdit CommitsAt (Some answer) old new

    Did : Option begun_edits.BegunEdit → Type 0
    Did found = CommitsTo cache_of told after before_faults after_faults home home_after old_ledger new_ledger now id old new answer found

    said : (result : Result CommitOutcome EditRefusal) → CommitsAt (Some (outcome_answer result)) Closed
    said (Ok outcome) = refl
    said (Err refusal.Store) = refl
    said (Err refusal.Memory) = refl
    said (Err (refusal.Conflict base current)) = refl
    said (Err (refusal.TokenReused entry)) = refl

    none : (o : Option OpenRequest) → open_at old id ≡ o → (point_of o ≡ BegunEdit → ⊥) → Did None → Moves
    none o e differ d = not_moved id BegunEdit CommitsAt old new (Some answer) (apart o old id BegunEdit e differ) d.0

    by : (o : Option OpenRequest) → open_at old id ≡ o → Did (begun_edit o) → Moves
    by None e d = none None e (λ is. let no : ⊥ = cc in no) d
    by (Some (point.EditArrived ask)) e d = none (Some (point.EditArrived ask)) e (λ is. let no : ⊥ = cc in no) d
    by (Some (point.EditBegun begun)) e (p, given, commits) =
        moves id BegunEdit CommitsAt old new (Some answer) None (ap point_of e) p (subst (λ a. CommitsAt (Some a) Closed) (sym commits.said) (said commits.result))
    by (Some (point.ViewArrived view)) e d = none (Some (point.ViewArrived view)) e (λ is. let no : ⊥ = cc in no) d
    by (Some (point.ViewWaited view need)) e d = none (Some (point.ViewWaited view need)) e (λ is. let no : ⊥ = cc in no) d
    by (Some (point.ViewLooked view need)) e d = none (Some (point.ViewLooked view need)) e (λ is. let no : ⊥ = cc in no) d
    by (Some (point.ViewSnapped view snapped)) e d = none (Some (point.ViewSnapped view snapped)) e (λ is. let no : ⊥ = cc in no) d
    by (Some point.Taken) e d = none (Some point.Taken) e (λ is. let no : ⊥ = cc in no) d

pub arrive_opens : (at : Readings) (id : ℕ) (what : Asked) (old new : Entries) (answer : Option Answer) → Arrives at id what old new answer → OpensRequest id (first_point what) answer old new
arrive_opens at id what old new None p = record {
  others = others_stay old new id (Some (open_of at what)) p;
  opened = λ _. stands_at old new id (Some (open_of at what)) p ∙ first what;
  refused = inl refl;
}
  where
    first : (x : Asked) → point_of (option_and_then unless_taken (Some (open_of at x))) ≡ first_point x
    first (asked.Edit ask) = refl
    first (asked.View view) = refl
arrive_opens at id what old new (Some NoMemory) same = record {
  others = λ other e. ap (λ (es : Entries). open_at es other) same;
  opened = λ is. let none : ⊥ = cc in absurd none;
  refused = inr (refl, same);
}
arrive_opens at id what old new (Some _) never = absurd never

pub need_closes : (id : ℕ) (old new : Entries) → Needs id old new (waited_view (open_at old id)) → ClosesWaited id (need_of (waited_view (open_at old id))) old new
need_closes id old new did = by (open_at old id) refl did
  where
    Closes : Type 0
    Closes = ClosesWaited id (need_of (waited_view (open_at old id))) old new

    none : (o : Option OpenRequest) → open_at old id ≡ o → (point_of o ≡ WaitedView → ⊥) → new ≡ old → Closes
    none o e differ same = record {
      others = λ other f. ap (λ (es : Entries). open_at es other) same;
      closed = λ at. absurd (apart o old id WaitedView e differ at);
      stays = λ _. same;
      need_is = refl;
    }

    by : (o : Option OpenRequest) → open_at old id ≡ o → Needs id old new (waited_view o) → Closes
    by None e d = none None e (λ is. let no : ⊥ = cc in no) d
    by (Some (point.EditArrived ask)) e d = none (Some (point.EditArrived ask)) e (λ is. let no : ⊥ = cc in no) d
    by (Some (point.EditBegun begun)) e d = none (Some (point.EditBegun begun)) e (λ is. let no : ⊥ = cc in no) d
    by (Some (point.ViewArrived view)) e d = none (Some (point.ViewArrived view)) e (λ is. let no : ⊥ = cc in no) d
    by (Some (point.ViewWaited view need)) e p = record {
      others = others_stay old new id None p;
      closed = λ _. stands_at old new id None p;
      stays = λ differ. absurd (differ (ap point_of e));
      need_is = refl;
    }
    by (Some (point.ViewLooked view need)) e d = none (Some (point.ViewLooked view need)) e (λ is. let no : ⊥ = cc in no) d
    by (Some (point.ViewSnapped view snapped)) e d = none (Some (point.ViewSnapped view snapped)) e (λ is. let no : ⊥ = cc in no) d
    by (Some point.Taken) e d = none (Some point.Taken) e (λ is. let no : ⊥ = cc in no) d
