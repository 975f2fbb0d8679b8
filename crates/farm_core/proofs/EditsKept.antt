-- What always holds of a farm holds after the steps of an edit. Room and the client's row are reserved when an edit is begun, and
-- given back when it is closed; so both stand for each begun edit in between.
use Rattle.std.proofs.Common.{◌≡◌, ℕ, ◌+◌, ◌-◌, ◌≤◌, inl, inr, Bool, true, false, List, [], ◌∷◌, ◌++◌, length, Option, Some, None, IfSome, IsTrue, Result, Ok, Err, refl, sym, ap, subst, ◌∙◌, arith, nat_eq}
use Rattle.std.specs.Prelude.{option_map, option_and_then}
use Rattle.std.proofs.lemmas.Bool.Decides.{nat_tests}
use Rattle.wiki_model.specs.Bytes.{Bytes}
use Rattle.wiki_model.specs.History.{Entry, Edit, Committed, commit_for, stamp_at}
use Rattle.wiki_model.specs.Cache.{CacheMap}
use Rattle.wiki_model.specs.Answers.{Answer}
use Rattle.wiki_model.proofs.HistoryLaws.{length-push}
use Rattle.wiki_model.proofs.HistoryGrowth.{stamp-after}
use Rattle.purge_relay.specs.declared.message.Body.{Body}
use Rattle.purge_relay.specs.declared.message.Body.TheVariants.{Purge, Position}
use Rattle.purge_relay.specs.declared.ledger_row.LedgerRow.{LedgerRow}
use Rattle.purge_relay.specs.declared.ledger.Issued.{Issued}
use Rattle.purge_relay.specs.Ledger.{LedgerState, row_at}
use Rattle.chronology_store.specs.declared.position_row.PositionRow.{PositionRow as Row}
use Rattle.chronology_store.specs.ChronologyStore.{Positions, is_reserved}
use Rattle.chronology_store.proofs.ModelRows.{still_reserved, more_reserved}
use Rattle.edit_core.specs.declared.edit_ask.EditAsk.{EditAsk}
use Rattle.edit_core.specs.declared.edit_ask.CommitOutcome.{CommitOutcome}
use Rattle.edit_core.specs.declared.edit_ask.EditRefusal.{EditRefusal}
use Rattle.edit_core.specs.declared.edit_ask.EditRefusal.TheVariants as refusal
use Rattle.edit_core.specs.declared.begun_edit.BegunEdit.{BegunEdit}
use Rattle.edit_core.specs.declared.begun_edit.Begun.{Begun}
use Rattle.edit_core.specs.declared.begun_edit.Begun.TheVariants.{Started, Already}
use Rattle.edit_core.specs.AsModel.{edit_of}
use Rattle.edit_core.specs.EditState.{EditState, state_of}
use Rattle.edit_core.specs.CommitEdit.{CommitsWithOutcome, GivesUp, Saves}
use Rattle.edit_core.specs.BeginEdit.{Begins}
use Rattle.region_state.specs.RegionState.{RegionParts, IsBefore, with_positions}
use Rattle.farm_steps.specs.declared.open_request.OpenRequest.{OpenRequest}
use Rattle.farm_steps.specs.declared.open_request.OpenRequest.TheVariants as point
use Rattle.farm_steps.specs.RequestMap.{Entries, Places, open_at, unless_taken, begun_edit, room}
use Rattle.farm_core.specs.FarmParts.{FarmParts, IsFarm}
use Rattle.farm_steps.specs.RelaySteps.{TakesRow, TakesBody}
use Rattle.farm_steps.specs.EditSteps.{second_purge_in, ReceivesSecond, CommitsTo, EndsBegin, BeginsTo}
use Rattle.farm_core.proofs.Carriages.{row_before}
use Rattle.farm_core.proofs.Keeping.{NoMoreBegun, none_begun, same_begun}

-- a begun edit's client has a row
pub begun_reserved : {K S : Type 0} (content : K → Option (List Entry)) (cache_of : S → CacheMap Bytes) (farm : FarmParts K S) (id : ℕ) → IsFarm content cache_of farm
    → IfSome (begun_edit (open_at farm.requests id)) (λ begun. IsTrue (is_reserved farm.home.positions begun.ask.client))
begun_reserved content cache_of farm id k = by (open_at farm.requests id) refl
  where
    by : (o : Option OpenRequest) → open_at farm.requests id ≡ o → IfSome (begun_edit o) (λ begun. IsTrue (is_reserved farm.home.positions begun.ask.client))
    by None e = tt
    by (Some (point.EditBegun begun)) e = k.reserved id begun e
    by (Some (point.EditArrived ask)) e = tt
    by (Some (point.ViewArrived view)) e = tt
    by (Some (point.ViewWaited view need)) e = tt
    by (Some (point.ViewLooked view need)) e = tt
    by (Some (point.ViewSnapped view snapped)) e = tt
    by (Some point.Taken) e = tt

-- a region after a message was received
row_positions : {S : Type 0} (cache_of : S → CacheMap Bytes) (before after : RegionParts S) (now : ℕ) (found : Option LedgerRow) → TakesRow cache_of before after now found → after.positions ≡ before.positions
row_positions {S} cache_of before after now None same = ap (λ (p : RegionParts S). p.positions) same
row_positions {S} cache_of before after now (Some row) took = by row.message.body took
  where
    by : (body : Body) → TakesBody cache_of before after now body → after.positions ≡ before.positions
    by (Purge purge title issued) t = ap (λ (p : RegionParts S). p.positions) t.rest
    by (Position client index entry stamp) same = ap (λ (p : RegionParts S). p.positions) same

-- what a second purge leaves
record LeavesHome {S : Type 0} (cache_of : S → CacheMap Bytes) (before after : RegionParts S) (old new : LedgerState) (now : ℕ) : Type 0 where
  early : IsBefore cache_of after now
  positions : after.positions ≡ before.positions
  spare : new.spare ≡ old.spare

second_leaves : {S : Type 0} (cache_of : S → CacheMap Bytes) (before after : RegionParts S) (old new : LedgerState) (now : ℕ) (o : Option Issued) → ReceivesSecond cache_of before after old new now o → IsBefore cache_of before now → LeavesHome cache_of before after old new now
second_leaves {S} cache_of before after old new now None (ledger_is, same) early = record {
  early = subst (λ (p : RegionParts S). IsBefore cache_of p now) (sym same) early;
  positions = ap (λ (p : RegionParts S). p.positions) same;
  spare = ap (λ (b : LedgerState). b.spare) ledger_is;
}
second_leaves cache_of before after old new now (Some issued) r early = record {
  early = row_before cache_of before after now (row_at old.rows issued.purge) r.1 early;
  positions = row_positions cache_of before after now (row_at old.rows issued.purge) r.1;
  spare = ap (λ (b : LedgerState). b.spare) r.0;
}

committed_stamp : (o : Option (List Entry)) (edit : Edit) (at purge : ℕ) → IfSome (option_map (λ h. h ++ Committed (commit_for h edit at purge) ∷ []) o) (λ h. stamp_at h (length h) ≤ at)
committed_stamp None edit at purge = tt
committed_stamp (Some h) edit at purge =
    let e = ap (stamp_at (h ++ Committed (commit_for h edit at purge) ∷ [])) (length-push h (Committed (commit_for h edit at purge))) ∙ stamp-after h (Committed (commit_for h edit at purge)) in omega (arith, e)

abbrev AreReserved : Positions → Entries → Type 0
AreReserved positions requests = (id : ℕ) (begun : BegunEdit) → open_at requests id ≡ Some (point.EditBegun begun) → IsTrue (is_reserved positions begun.ask.client)

kept : {K S : Type 0} (content : K → Option (List Entry)) (cache_of : S → CacheMap Bytes) (old : FarmParts K S) (keeper : K) (ledger_now : LedgerState) (home : RegionParts S) (requests : Entries) → IsFarm content cache_of old
    → IfSome (content keeper) (λ h. stamp_at h (length h) ≤ old.moments.home) → IsBefore cache_of home old.moments.home → room requests ≤ ledger_now.spare → AreReserved home.positions requests
    → IsFarm content cache_of (record old { keeper = keeper; ledger = ledger_now; home = home; requests = requests })
kept content cache_of old keeper ledger_now home requests k stamps early enough reserved = record {
  home_small = k.home_small;
  west_small = k.west_small;
  delay = k.delay;
  stamps = stamps;
  home_before = early;
  west_before = k.west_before;
  room = enough;
  reserved = reserved;
}

left : {K S : Type 0} (content : K → Option (List Entry)) (cache_of : S → CacheMap Bytes) (old : FarmParts K S) (keeper : K) (ledger_now : LedgerState) (home : RegionParts S) (requests : Entries) → IsFarm content cache_of old
    → content keeper ≡ content old.keeper → room requests ≤ ledger_now.spare → home ≡ old.home → NoMoreBegun old.requests requests → IsFarm content cache_of (record old { keeper = keeper; ledger = ledger_now; home = home; requests = requests })
left {K} {S} content cache_of old keeper ledger_now home requests k told enough same begun =
    kept content cache_of old keeper ledger_now home requests k (subst (λ o. IfSome o (λ h. stamp_at h (length h) ≤ old.moments.home)) (sym told) k.stamps) (subst (λ (p : RegionParts S). IsBefore cache_of p old.moments.home) (sym same) k.home_before)
    enough (λ i b is. subst (λ (p : RegionParts S). IsTrue (is_reserved p.positions b.ask.client)) (sym same) (k.reserved i b (begun.none i b is)))

-- nothing is reserved in a ledger that stays
same_room : {K S : Type 0} (content : K → Option (List Entry)) (cache_of : S → CacheMap Bytes) (old : FarmParts K S) (ledger_now : LedgerState) (requests : Entries) → IsFarm content cache_of old → ledger_now ≡ old.ledger → NoMoreBegun old.requests requests → room requests ≤ ledger_now.spare
same_room content cache_of old ledger_now requests k same begun = let e = ap (λ (b : LedgerState). b.spare) same in let all = k.room in let less = begun.room in omega (arith, e, all, less)

pub commit_kept : {K S : Type 0} (content : K → Option (List Entry)) (faults : K → ℕ) (cache_of : S → CacheMap Bytes) (old : FarmParts K S) (keeper : K) (ledger_now : LedgerState) (home : RegionParts S) (requests : Entries) (id : ℕ) (answer : Answer) (found : Option BegunEdit)
    → CommitsTo cache_of (content old.keeper) (content keeper) (faults old.keeper) (faults keeper) old.home home old.ledger ledger_now old.moments.home id old.requests requests answer found → IsFarm content cache_of old
    → IsFarm content cache_of (record old { keeper = keeper; ledger = ledger_now; home = home; requests = requests })
commit_kept content faults cache_of old keeper ledger_now home requests id answer None (none, leave) k =
    let begun = same_begun old.requests requests none.1 in
    left content cache_of old keeper ledger_now home requests k leave.0 (same_room content cache_of old ledger_now requests k leave.2 begun) leave.3 begun
commit_kept {K} {S} content faults cache_of old keeper ledger_now home requests id answer (Some begun) (places, given, commits) k = by commits.result commits.commits commits.receives
  where
    now : ℕ
    now = old.moments.home

    mid : LedgerState
    mid = commits.mid

    positions : Positions
    positions = commits.positions

    before : EditState
    before = state_of (content old.keeper) old.ledger old.home.positions

    after : EditState
    after = state_of (content keeper) commits.mid commits.positions

    New : Type 0
    New = IsFarm content cache_of (record old { keeper = keeper; ledger = ledger_now; home = home; requests = requests })

    enough : mid.spare ≡ old.ledger.spare - 2 → ledger_now.spare ≡ mid.spare → room requests ≤ ledger_now.spare
    enough less same = let all = k.room in let two = given in omega (arith, less, same, all, two)

    gives_up : GivesUp before after → (ledger_now ≡ mid) × (home ≡ with_positions positions old.home) → New
    gives_up gives (ledger_is, same) = left content cache_of old keeper ledger_now home requests k gives.content (enough gives.spare (ap (λ (b : LedgerState). b.spare) ledger_is))
        (same ∙ ap (λ r. with_positions r old.home) gives.positions) (none_begun old.requests requests id places)

    saves : (outcome : CommitOutcome) → Saves before after begun now outcome.note → ReceivesSecond cache_of (with_positions positions old.home) home mid ledger_now now outcome.second_purge → New
    saves outcome s receives =
        let l = second_leaves cache_of (with_positions positions old.home) home mid ledger_now now outcome.second_purge receives k.home_before in
        kept content cache_of old keeper ledger_now home requests k (subst (λ o. IfSome o (λ h. stamp_at h (length h) ≤ now)) (sym s.content) (committed_stamp (content old.keeper) (edit_of begun.ask) now begun.issued.purge)) l.early (enough s.spare l.spare)
        (λ i b is. subst (λ ps. IsTrue (is_reserved ps b.ask.client)) (sym l.positions) (still_reserved begun.ask.client b.ask.client (record { index = outcome.note.index; position = outcome.note.entry; expires = now + 60_000 }) old.home.positions positions s.positions (k.reserved i b ((none_begun old.requests requests id places).none i b is))))

    by : (result : Result CommitOutcome EditRefusal) → CommitsWithOutcome before after begun now result → ReceivesSecond cache_of (with_positions positions old.home) home mid ledger_now now (second_purge_in result) → New
    by (Ok outcome) (inl (decided, gives, none)) receives = gives_up gives (subst (ReceivesSecond cache_of (with_positions positions old.home) home mid ledger_now now) none receives)
    by (Ok outcome) (inr (s, second_is)) receives = saves outcome s receives
    by (Err refusal.Store) gives receives = gives_up gives receives
    by (Err refusal.Memory) gives receives = gives_up gives receives
    by (Err (refusal.Conflict base current)) (decided, gives) receives = gives_up gives receives
    by (Err (refusal.TokenReused entry)) (decided, gives) receives = gives_up gives receives

pub begin_kept : {K S : Type 0} (content : K → Option (List Entry)) (faults : K → ℕ) (cache_of : S → CacheMap Bytes) (old : FarmParts K S) (keeper : K) (ledger_now : LedgerState) (home : RegionParts S) (requests : Entries) (id : ℕ) (answer : Option Answer) (found : Option EditAsk)
    → BeginsTo cache_of (content old.keeper) (content keeper) (faults old.keeper) (faults keeper) old.home home old.ledger ledger_now old.moments.home old.plan.bounds.commit_delay id old.requests requests answer found → IsFarm content cache_of old
    → IsFarm content cache_of (record old { keeper = keeper; ledger = ledger_now; home = home; requests = requests })
begin_kept content faults cache_of old keeper ledger_now home requests id answer None (none, leave) k =
    let begun = same_begun old.requests requests none.1 in
    left content cache_of old keeper ledger_now home requests k leave.0 (same_room content cache_of old ledger_now requests k leave.2 begun) leave.3 begun
begin_kept {K} {S} content faults cache_of old keeper ledger_now home requests id answer (Some ask) begins k = by begins.result begins.begins begins.ends
  where
    now : ℕ
    now = old.moments.home

    mid : LedgerState
    mid = begins.mid

    positions : Positions
    positions = begins.positions

    before : EditState
    before = state_of (content old.keeper) old.ledger old.home.positions

    after : EditState
    after = state_of (content keeper) begins.mid begins.positions

    New : Type 0
    New = IsFarm content cache_of (record old { keeper = keeper; ledger = ledger_now; home = home; requests = requests })

    closes : after ≡ before → (ledger_now ≡ mid) × (home ≡ with_positions positions old.home) × Places old.requests requests id None → New
    closes same (ledger_is, home_is, places) =
        let begun = none_begun old.requests requests id places in
        left content cache_of old keeper ledger_now home requests k (ap (λ (s : EditState). s.content) same) (same_room content cache_of old ledger_now requests k (ledger_is ∙ ap (λ (s : EditState). s.ledger) same) begun)
        (home_is ∙ ap (λ (s : EditState). with_positions s.positions old.home) same) begun

    by : (result : Result Begun EditRefusal) → Begins before after (edit_of ask) now old.plan.bounds.commit_delay result → EndsBegin cache_of (with_positions positions old.home) home mid ledger_now now id old.requests requests answer result → New
    by (Ok (Started b)) starts (said, r, places) =
        let moved = row_positions cache_of (with_positions positions old.home) home now (row_at mid.rows b.issued.purge) r.1 in
        kept content cache_of old keeper ledger_now home requests k (subst (λ o. IfSome o (λ h. stamp_at h (length h) ≤ now)) (sym starts.content) k.stamps)
        (row_before cache_of (with_positions positions old.home) home now (row_at mid.rows b.issued.purge) r.1 k.home_before)
        (let more = starts.ledger.spare in let same = ap (λ (l : LedgerState). l.spare) r.0 in let all = k.room in let two = places.room in omega (arith, more, same, all, two))
        (λ i x at. subst (λ ps. IsTrue (is_reserved ps x.ask.client)) (sym moved) (reserved i x at (nat_eq i id) refl))
      where
        reserved : (i : ℕ) (x : BegunEdit) → open_at requests i ≡ Some (point.EditBegun x) → (t : Bool) → nat_eq i id ≡ t → IsTrue (is_reserved positions x.ask.client)
        reserved i x at true e =
            let same : i ≡ id = grind (arith, nat_tests, e) in
            let here : Some (point.EditBegun b) ≡ Some (point.EditBegun x) = sym (ap (option_and_then unless_taken) places.here) ∙ ap (open_at requests) (sym same) ∙ at in
            let one : b ≡ x = cc in
            let client : ask.client ≡ x.ask.client = sym (ap (λ (y : Edit). y.client) starts.begun_is.ask) ∙ ap (λ (y : BegunEdit). y.ask.client) one in
            subst (λ y. IsTrue (is_reserved positions y)) client (ap (λ (y : Row). y.reserved) starts.positions.here)
        reserved i x at false e = more_reserved ask.client x.ask.client old.home.positions positions starts.positions (k.reserved i x (ap (option_and_then unless_taken) (sym (places.others i e)) ∙ at))
    by (Ok (Already note)) b e = closes b.1 (e.1, e.2, e.3)
    by (Err refusal.Store) b e = closes b (e.1, e.2, e.3)
    by (Err refusal.Memory) b e = closes b (e.1, e.2, e.3)
    by (Err (refusal.Conflict base current)) b e = closes b.1 (e.1, e.2, e.3)
    by (Err (refusal.TokenReused entry)) b e = closes b.1 (e.1, e.2, e.3)
