-- The step commit goes on with every run.
use Rattle.std.proofs.Common.{◌≡◌, ℕ, suc, ◌+◌, ◌≤◌, inl, inr, Bool, true, false, cond, List, [], ◌∷◌, ◌++◌, length, drop, Option, Some, None, IfSome, Result, Ok, Err, refl, sym, ap, subst, ◌∙◌, arith, append-nil, nat_lt}
use Rattle.std.specs.Prelude.{option_map, IsSome, slice_get}
use Rattle.wiki_model.specs.declared.Region.{Region}
use Rattle.wiki_model.specs.declared.Region.TheVariants.{Home, West}
use Rattle.wiki_model.specs.Bytes.{Bytes}
use Rattle.wiki_model.specs.Titles.{Title}
use Rattle.wiki_model.specs.History.{Entry, Edit, Commit, Beat, Committed, commit_for}
use Rattle.wiki_model.specs.Cache.{CacheMap}
use Rattle.wiki_model.specs.World as world
use Rattle.wiki_model.specs.World.{World, Setting, site, moment, request_at, without_request, with_message}
use Rattle.wiki_model.specs.World.Event.{Received}
use Rattle.wiki_model.specs.HoldOff.{IsIssued}
use Rattle.wiki_model.specs.Answers as model
use Rattle.wiki_model.specs.Answers.{Answer, NotOpen, NoMemory, StoreFault, EditSaved, Conflict, TokenUsed, edit_answer, saved}
use Rattle.wiki_model.specs.Steps as steps
use Rattle.wiki_model.specs.Steps.{Step, Decided, Commits, appended, appended_if, next_commit, next_entry, next_message, position_of, is_late}
use Rattle.wiki_model.specs.Changes.{IsAppended}
use Rattle.wiki_model.proofs.PartLaws.{commit-appends}
use Rattle.wiki_model.specs.Runs.{One, with_faults, CountsFaults}
use Rattle.wiki_model.specs.Consistent.{IsConsistent}
use Rattle.wiki_model.specs.Caches.{CacheStands}
use Rattle.wiki_model.specs.Positions.{RowsStand, TellsRow, row_for}
use Rattle.wiki_model.proofs.StepStandsLaws.{appended-home, appended-west, appended-rows, appended-rows_west}
use Rattle.wiki_model.proofs.FrameLaws.{stands-grown, if_map}
use Rattle.purge_relay.specs.declared.message.Body.{Body}
use Rattle.purge_relay.specs.declared.message.Body.TheVariants.{Purge, Position}
use Rattle.purge_relay.specs.declared.ledger_row.LedgerRow.{LedgerRow}
use Rattle.purge_relay.specs.declared.ledger.Issued.{Issued}
use Rattle.purge_relay.specs.LedgerRow.{new_row, with_receipt, receipt_at}
use Rattle.purge_relay.specs.Ledger.{LedgerState, row_at, next_number, changed_at, with_position}
use Rattle.chronology_store.specs.PositionRow.{with_told}
use Rattle.chronology_store.specs.ChronologyStore.{Positions, Changes}
use Rattle.chronology_store.specs.AsModel.{rows_in}
use Rattle.chronology_store.proofs.ModelRows.{tells_row}
use Rattle.edit_core.specs.declared.edit_ask.CommitOutcome.{CommitOutcome}
use Rattle.edit_core.specs.declared.edit_ask.EditRefusal.{EditRefusal}
use Rattle.edit_core.specs.declared.edit_ask.EditRefusal.TheVariants as refusal
use Rattle.edit_core.specs.declared.begun_edit.BegunEdit.{BegunEdit}
use Rattle.edit_core.specs.AsModel.{edit_of, saved_of}
use Rattle.edit_core.specs.EditState.{HasStoreFault, state_of}
use Rattle.edit_core.specs.CommitEdit.{CommitsWithOutcome, GivesUp, Saves, second_purge}
use Rattle.farm_steps.specs.RequestMap.{Entries, Places, open_at, begun_edit, IsBegun}
use Rattle.farm_core.specs.FarmParts.{FarmParts}
use Rattle.region_state.specs.RegionState.{RegionParts}
use Rattle.farm_steps.specs.RelaySteps.{TakesRow}
use Rattle.region_state.specs.RegionState.{with_positions}
use Rattle.farm_steps.specs.EditSteps.{outcome_answer, second_purge_in, ReceivesSecond, CommitsTo, LeavesAll}
use Rattle.farm_core.specs.Agreement as agreed
use Rattle.farm_core.specs.Agreement.{Agrees, last_beat_in}
use Rattle.farm_core.specs.Runs.{GoesFrom, LeadsTo}
use Rattle.farm_core.proofs.Following.{Follows, agree-later}
use Rattle.farm_core.proofs.Standing.{rows_moments, site_grown}
use Rattle.farm_core.proofs.Points.{AllAgree, closed, at_point, no_point, no_begun, is_begun}
use Rattle.farm_core.proofs.Quiet.{IsQuiet, agrees-quiet, agrees-ledger, quiet-follows}
use Rattle.farm_core.proofs.Beats.{drop-more}
use Rattle.farm_core.proofs.Ledgers.{receipts_leave, receipts_more, events_after}
use Rattle.farm_core.proofs.Issuing.{LedgerAgrees, issued, number_is}

-- The ledger after it

prefix_row : (rows : List LedgerRow) (row next : LedgerRow) → row_at ((rows ++ row ∷ []) ++ next ∷ []) (length rows + 1) ≡ Some row
prefix_row rows row next = let same : suc (length rows) ≡ length rows + 1 = omega arith in subst (λ n. row_at ((rows ++ row ∷ []) ++ next ∷ []) n ≡ Some row) same (go rows)
  where
    go : (xs : List LedgerRow) → slice_get ((xs ++ row ∷ []) ++ next ∷ []) (length xs) ≡ Some row
    go [] = refl
    go (x ∷ xs) = go xs

abbrev told_body : Edit → (purge : ℕ) → World → Body
told_body edit purge v = Position edit.client (next_commit v edit purge).index (next_entry v) (moment Home v)

early_ledger : (rows : List LedgerRow) (edit : Edit) (purge : ℕ) (v : World) → LedgerAgrees rows v → LedgerAgrees (rows ++ new_row (length rows + 1) (told_body edit purge v) ∷ []) (appended_if false edit purge v)
early_ledger rows edit purge v a = issued rows (told_body edit purge v) v (appended_if false edit purge v) a refl same
  where
    same : (r : Region) → (site r (appended_if false edit purge v)).events ≡ (site r v).events
    same Home = refl
    same West = refl

-- the rows with the second purge and the position
abbrev late_rows : (rows : List LedgerRow) → Edit → (purge : ℕ) → World → List LedgerRow
late_rows rows edit purge v =
    let first : List LedgerRow = rows ++ new_row (length rows + 1) (Purge (length rows + 1) edit.title (moment Home v)) ∷ [] in
    first ++ new_row (length first + 1) (told_body edit purge v) ∷ []

late_ledger : (rows : List LedgerRow) (spare : ℕ) (edit : Edit) (purge : ℕ) (v : World) → LedgerAgrees rows v
    → LedgerAgrees (changed_at (with_receipt Home (moment Home v)) (length rows + 1) (let b : LedgerState = record { rows = late_rows rows edit purge v; spare = spare } in b)).rows (appended_if true edit purge v)
late_ledger rows spare edit purge v a = record {
  messages = receipts_leave Home (moment Home v) n mid ∙ second_agrees.messages ∙ ap (λ k. (v.messages ++ (let m : world.Message = record { body = world.Purge k edit.title (moment Home v); dropped = false } in m) ∷ []) ++ (let m : world.Message = record { body = position_of (next_entry v) (next_commit v edit purge); dropped = false } in m) ∷ []) number;
  receipts = λ r m. receipts_more mid Home (moment Home v) n edit.title (moment Home v) (new_row n (Purge n edit.title (moment Home v))) (prefix_row rows (new_row n (Purge n edit.title (moment Home v))) (new_row (length first + 1) (told_body edit purge v))) refl (λ q. (site q v).events) (λ q k. second_agrees.receipts q k ∙ ap (λ es. agreed.receipt_in es k) (same q)) r m ∙ after r m;
}
  where
    n : ℕ
    n = length rows + 1

    number : length rows + 1 ≡ next_message v
    number = number_is rows v a.messages

    first : List LedgerRow
    first = rows ++ new_row (length rows + 1) (Purge (length rows + 1) edit.title (moment Home v)) ∷ []

    mid : LedgerState
    mid = record { rows = late_rows rows edit purge v; spare = spare }

    u : World
    u = with_message (world.Purge (length rows + 1) edit.title (moment Home v)) v

    first_agrees : LedgerAgrees first u
    first_agrees = issued rows (Purge (length rows + 1) edit.title (moment Home v)) v u a refl same_first
      where
        same_first : (r : Region) → (site r (with_message (world.Purge (length rows + 1) edit.title (moment Home v)) v)).events ≡ (site r v).events
        same_first Home = refl
        same_first West = refl

    x : World
    x = with_message (position_of (next_entry v) (next_commit v edit purge)) u

    second_agrees : LedgerAgrees (late_rows rows edit purge v) x
    second_agrees = issued first (told_body edit purge v) u x first_agrees refl same_second
      where
        same_second : (r : Region) → (site r x).events ≡ (site r u).events
        same_second Home = refl
        same_second West = refl

    same : (q : Region) → (site q x).events ≡ (site q v).events
    same Home = refl
    same West = refl

    after : (r : Region) (m : ℕ) → agreed.receipt_in (events_after Home r (Received (length rows + 1) edit.title (moment Home v)) (site r v).events) m ≡ agreed.receipt_in (site r (appended_if true edit purge v)).events m
    after Home m = ap (λ k. agreed.receipt_in (Received k edit.title (moment Home v) ∷ v.home.events) m) number
    after West m = refl

-- The farm after it

last-commit : (h : List Entry) (c : Commit) (last : Option ℕ) → last_beat_in (h ++ Committed c ∷ []) last ≡ last_beat_in h last
last-commit [] c last = refl
last-commit (Beat s ∷ h) c last = last-commit h c (Some s)
last-commit (Committed d ∷ h) c last = last-commit h c last

commit_agrees : {K S : Type 0} (content : K → Option (List Entry)) (faults : K → ℕ) (cache_of : S → CacheMap Bytes) (old : FarmParts K S) (keeper : K) (ledger_now : LedgerState) (rows : Positions) (cache : Option S) (requests : Entries) (id : ℕ) (v u : World) (c : Commit)
    → IsConsistent v → Agrees content faults cache_of old v → IsAppended v u c → content keeper ≡ Some (v.history ++ Committed c ∷ []) → LedgerAgrees ledger_now.rows u
    → RowsStand u Home (rows_in rows) → RowsStand u West (rows_in old.west.positions) → IsSome cache → IfSome cache (λ x. CacheStands u Home (cache_of x)) → IfSome old.west.cache (λ x. CacheStands u West (cache_of x))
    → Places old.requests requests id None
    → Agrees content faults cache_of (record old { keeper = keeper; ledger = ledger_now; home = record old.home { positions = rows; cache = cache }; requests = requests }) (with_faults (faults keeper) (without_request id u))
commit_agrees {K} {S} content faults cache_of old keeper ledger_now rows cache requests id v u c fits a is told ledger home_rows west_rows there home_cache west_cache places = record {
  plan = subst (λ (s : Setting). Rattle.region_state.specs.AsModel.IsPlanOf s old.plan) (sym is.setting) a.plan;
  opened = let o = a.opened in let l = is_longer in subst (λ (s : Setting). s.opened ≤ length u.history) (sym is.setting) (omega (arith, o, l));
  history = told ∙ ap Some (sym is.history);
  counted = omega arith;
  messages = ledger.messages;
  receipts = receipts;
  requests = closed v w old.requests requests id follows (ap (λ (m : world.Requests). Rattle.std.specs.FinMap.remove m id) is.requests) places a.requests;
  home_moment = a.home_moment ∙ sym (is.moments Home);
  west_moment = a.west_moment ∙ sym (is.moments West);
  beat = a.beat ∙ sym (ap (λ (s : Setting). last_beat_in (drop s.opened u.history) None) is.setting ∙ ap (λ (h : List Entry). last_beat_in (drop v.setting.opened h) None) is.history
      ∙ ap (λ h. last_beat_in h None) (drop-more v.history (Committed c) v.setting.opened a.opened) ∙ last-commit (drop v.setting.opened v.history) c None);
  home = site_grown cache_of old.home rows cache v w Home (Committed c ∷ []) fits is.history is.setting is.markup (is.applied Home) (rows_moments u w Home (rows_in rows) refl refl (omega arith) home_rows) there
      (if_map (λ x. CacheStands u Home (cache_of x)) (λ x. CacheStands w Home (cache_of x)) cache (λ x. stands-grown u w Home (cache_of x) (record { more = []; history = sym (append-nil u.history); setting = refl; events = refl; moment = omega arith })) home_cache) a.home;
  west = site_grown cache_of old.west old.west.positions old.west.cache v w West (Committed c ∷ []) fits is.history is.setting is.markup (is.applied West) (rows_moments u w West (rows_in old.west.positions) refl refl (omega arith) west_rows) a.west.there
      (if_map (λ x. CacheStands u West (cache_of x)) (λ x. CacheStands w West (cache_of x)) old.west.cache (λ x. stands-grown u w West (cache_of x) (record { more = []; history = sym (append-nil u.history); setting = refl; events = refl; moment = omega arith })) west_cache) a.west;
}
  where
    w : World
    w = with_faults (faults keeper) (without_request id u)

    follows : Follows v w
    follows = record { more = Committed c ∷ []; history = is.history; setting = is.setting; issued = is.issued }

    is_longer : length v.history ≤ length u.history
    is_longer = let e = ap length is.history ∙ Rattle.wiki_model.proofs.HistoryLaws.length-push v.history (Committed c) in omega (arith, e)

    receipts : (r : Region) (purge : ℕ) → receipt_at r (row_at ledger_now.rows purge) ≡ agreed.receipt_in (site r w).events purge
    receipts Home purge = ledger.receipts Home purge
    receipts West purge = ledger.receipts West purge

-- the purge's due moment says whether the commit is late
late_is : (v : World) (purge : ℕ) (title : Title) (issued due : ℕ) → IsIssued v purge title issued → due ≡ issued + v.setting.bounds.commit_delay → is_late v purge ≡ nat_lt due (moment Home v)
late_is v purge title issued due (m, at, body) is =
    ap (steps.is_late_by v) at ∙ ap (steps.is_after v.setting.bounds.commit_delay (moment Home v)) body ∙ ap (λ n. nat_lt n (moment Home v)) (sym is)

-- a step that only closes the request, with what the keeper counted
pub closes : {K S : Type 0} (content : K → Option (List Entry)) (faults : K → ℕ) (cache_of : S → CacheMap Bytes) (old : FarmParts K S) (keeper : K) (ledger_now : LedgerState) (home : RegionParts S) (requests : Entries) (id : ℕ) (v : World) (step : Step) (answer : Option Answer)
    → content keeper ≡ content old.keeper → faults old.keeper ≤ faults keeper → ledger_now.rows ≡ old.ledger.rows → home ≡ old.home → Places old.requests requests id None → Agrees content faults cache_of old v
    → Rattle.wiki_model.specs.Runs.Takes step v (One answer) (without_request id v) → CountsFaults v.faults (faults keeper) (One answer)
    → (w : World) × LeadsTo content faults cache_of old (record old { keeper = keeper; ledger = ledger_now; home = home; requests = requests }) step (One answer) v w
closes {K} {S} content faults cache_of old keeper ledger_now home requests id v step answer told count rows same places a takes counts =
    let w : World = with_faults (faults keeper) (without_request id v) in
    let q : IsQuiet v w = record { history = refl; setting = refl; messages = refl; home = refl; west = refl; markup = refl } in
    let all : AllAgree w requests = closed v w old.requests requests id (quiet-follows v w q) refl places a.requests in (
      w,
      record {
        takes = takes;
        counts = counts;
        later = count;
        agrees = subst (λ (h : RegionParts S). Agrees content faults cache_of (record old { keeper = keeper; ledger = ledger_now; home = h; requests = requests }) w) (sym same)
            (agrees-ledger content faults cache_of (record old { keeper = keeper; requests = requests }) ledger_now w rows (agrees-quiet content faults cache_of old keeper requests v w q told (omega arith) all a));
      },
    )

-- a step that changes nothing, with what the keeper counted
pub leaves : {K S : Type 0} (content : K → Option (List Entry)) (faults : K → ℕ) (cache_of : S → CacheMap Bytes) (old : FarmParts K S) (keeper : K) (ledger_now : LedgerState) (home : RegionParts S) (requests : Entries) (v : World) (step : Step) (answer : Option Answer)
    → LeavesAll (content old.keeper) (content keeper) (faults old.keeper) (faults keeper) old.home home old.ledger ledger_now → requests ≡ old.requests → Agrees content faults cache_of old v
    → Rattle.wiki_model.specs.Runs.Takes step v (One answer) v → CountsFaults v.faults (faults keeper) (One answer)
    → (w : World) × LeadsTo content faults cache_of old (record old { keeper = keeper; ledger = ledger_now; home = home; requests = requests }) step (One answer) v w
leaves {K} {S} content faults cache_of old keeper ledger_now home requests v step answer (told, count, books, same) stay a takes counts =
    let w : World = with_faults (faults keeper) v in
    let q : IsQuiet v w = record { history = refl; setting = refl; messages = refl; home = refl; west = refl; markup = refl } in (
      w,
      record {
        takes = takes;
        counts = counts;
        later = count;
        agrees = subst (λ (f : FarmParts K S). Agrees content faults cache_of f w) (λ i. record old { keeper = keeper; ledger = sym books i; home = sym same i; requests = sym stay i })
            (agrees-quiet content faults cache_of old keeper old.requests v w q told (omega arith) (λ i. agree-later v w (quiet-follows v w q) (open_at old.requests i) (request_at v i) (a.requests i)) a);
      },
    )

-- home's cache, where a second purge is received
second_row : (rows : List LedgerRow) (edit : Edit) (purge : ℕ) (v : World) → row_at (late_rows rows edit purge v) (length rows + 1) ≡ Some (new_row (length rows + 1) (Purge (length rows + 1) edit.title (moment Home v)))
second_row rows edit purge v = prefix_row rows (new_row (length rows + 1) (Purge (length rows + 1) edit.title (moment Home v))) (new_row (length (rows ++ new_row (length rows + 1) (Purge (length rows + 1) edit.title (moment Home v)) ∷ []) + 1) (told_body edit purge v))

pub commit_goes : {K S : Type 0} (content : K → Option (List Entry)) (faults : K → ℕ) (cache_of : S → CacheMap Bytes) (old : FarmParts K S) (keeper : K) (ledger_now : LedgerState) (home : RegionParts S) (requests : Entries) (id : ℕ) (answer : Answer)
    → CommitsTo cache_of (content old.keeper) (content keeper) (faults old.keeper) (faults keeper) old.home home old.ledger ledger_now old.moments.home id old.requests requests answer (begun_edit (open_at old.requests id))
    → GoesFrom content faults cache_of old (record old { keeper = keeper; ledger = ledger_now; home = home; requests = requests }) (Step.CommitEdit id) (One (Some answer))
commit_goes {K} {S} content faults cache_of old keeper ledger_now home requests id answer did v fits a =
    by (begun_edit (open_at old.requests id)) refl (subst (λ n. CommitsTo cache_of (content old.keeper) (content keeper) (faults old.keeper) (faults keeper) old.home home old.ledger ledger_now n id old.requests requests answer (begun_edit (open_at old.requests id))) a.home_moment did)
  where
    now : ℕ
    now = moment Home v

    Goes : Answer → Type 0
    Goes said = (w : World) × LeadsTo content faults cache_of old (record old { keeper = keeper; ledger = ledger_now; home = home; requests = requests }) (Step.CommitEdit id) (One (Some said)) v w

    row : (edit : Edit) (purge : ℕ) (said : Answer) (w : World) → request_at v id ≡ Some (world.EditBegun edit purge) → Commits id (edit, purge) v (Some said) w → steps.Allows (Step.CommitEdit id) v (Some said) w
    row edit purge said w there is = at_point (steps.begun_edit (request_at v id)) (edit, purge) id v (Some said) w (λ e. Commits id e v (Some said) w) (ap steps.begun_edit there) is

    -- the edit's request is only closed
    gives_up : (begun : BegunEdit) (mid : LedgerState) (rows : Positions) (said : Answer) → request_at v id ≡ Some (world.EditBegun (edit_of begun.ask) begun.issued.purge) → Places old.requests requests id None → faults old.keeper ≤ faults keeper
        → GivesUp (state_of (content old.keeper) old.ledger old.home.positions) (state_of (content keeper) mid rows) → (ledger_now ≡ mid) × (home ≡ with_positions rows old.home)
        → Decided (edit_answer v.history (edit_of begun.ask)) id v (without_request id v) said → CountsFaults v.faults (faults keeper) (One (Some said)) → Goes said
    gives_up begun mid rows said there places count gives same decided counts =
        closes content faults cache_of old keeper ledger_now home requests id v (Step.CommitEdit id) (Some said) gives.content count (ap (λ (b : LedgerState). b.rows) same.0 ∙ gives.rows) (same.1 ∙ ap (λ r. with_positions r old.home) gives.positions) places a
        (row (edit_of begun.ask) begun.issued.purge said (without_request id v) there (inl decided)) counts

    saves : (begun : BegunEdit) (outcome : CommitOutcome) (mid : LedgerState) (rows : Positions) → IsBegun v begun (edit_of begun.ask) begun.issued.purge → request_at v id ≡ Some (world.EditBegun (edit_of begun.ask) begun.issued.purge)
        → Places old.requests requests id None → faults old.keeper ≤ faults keeper
        → Saves (state_of (content old.keeper) old.ledger old.home.positions) (state_of (content keeper) mid rows) begun now outcome.note
        → ReceivesSecond cache_of (with_positions rows old.home) home mid ledger_now now (second_purge begun.due now old.ledger) → Goes (EditSaved (saved_of outcome.note))
    saves begun outcome mid rows is there places count s receives = go (nat_lt begun.due now) refl
      where
        edit : Edit
        edit = edit_of begun.ask

        purge : ℕ
        purge = begun.issued.purge

        c : Commit
        c = next_commit v (edit_of begun.ask) begun.issued.purge

        free : edit_answer v.history (edit_of begun.ask) ≡ None
        free = subst (λ o. IfSome o (λ h. edit_answer h (edit_of begun.ask) ≡ None)) a.history s.undecided

        note : saved_of outcome.note ≡ saved (length v.history + 1) (next_commit v (edit_of begun.ask) begun.issued.purge)
        note = subst (λ o. IfSome o (λ h. saved_of outcome.note ≡ saved (length h + 1) (commit_for h (edit_of begun.ask) now begun.issued.purge))) a.history s.note_is

        index : outcome.note.index ≡ (next_commit v (edit_of begun.ask) begun.issued.purge).index
        index = ap (λ (x : model.Saved). x.index) note

        entry : outcome.note.entry ≡ next_entry v
        entry = ap (λ (x : model.Saved). x.entry) note

        told : content keeper ≡ Some (v.history ++ Committed (next_commit v (edit_of begun.ask) begun.issued.purge) ∷ [])
        told = s.content ∙ ap (option_map (λ h. h ++ Committed (commit_for h (edit_of begun.ask) now begun.issued.purge) ∷ [])) a.history

        tells : TellsRow (edit_of begun.ask).client (row_for (next_entry v) (next_commit v (edit_of begun.ask) begun.issued.purge)) (rows_in old.home.positions) (rows_in rows)
        tells =
            let changes = subst (λ n. Changes (edit_of begun.ask).client (with_told (record { index = n; position = next_entry v; expires = now + 60_000 })) old.home.positions rows) index
            (subst (λ n. Changes (edit_of begun.ask).client (with_told (record { index = outcome.note.index; position = n; expires = now + 60_000 })) old.home.positions rows) entry s.positions) in
            tells_row (edit_of begun.ask).client (record { index = (next_commit v (edit_of begun.ask) begun.issued.purge).index; position = next_entry v; expires = now + 60_000 }) old.home.positions rows changes

        late : is_late v begun.issued.purge ≡ nat_lt begun.due now
        late = late_is v begun.issued.purge (edit_of begun.ask).title is.issued begun.due is.is_issued is.due

        ledger : LedgerAgrees old.ledger.rows v
        ledger = record { messages = a.messages; receipts = a.receipts }

        ends : (cache : Option S) → home ≡ (let p : RegionParts S = record old.home { positions = rows; cache = cache } in p) → IsSome cache → IfSome cache (λ x. CacheStands (appended edit purge v) Home (cache_of x)) → LedgerAgrees ledger_now.rows (appended edit purge v)
            → Goes (EditSaved (saved_of outcome.note))
        ends cache home_is some stands books =
            let w : World = with_faults (faults keeper) (without_request id (appended edit purge v)) in
            let fewer = a.counted in (
              w,
              record {
                takes = subst (λ n. steps.Allows (Step.CommitEdit id) v (Some (EditSaved (saved_of outcome.note))) (with_faults n (without_request id (appended edit purge v)))) (commit-appends v (is_late v purge) edit purge).faults
                    (row edit purge (EditSaved (saved_of outcome.note)) (without_request id (appended edit purge v)) there (inr (free, ap EditSaved note, refl)));
                counts = omega (arith, fewer, count);
                later = count;
                agrees = subst (λ (h : RegionParts S). Agrees content faults cache_of (record old { keeper = keeper; ledger = ledger_now; home = h; requests = requests }) w) (sym home_is)
                    (commit_agrees content faults cache_of old keeper ledger_now rows cache requests id v (appended edit purge v) c fits a (commit-appends v (is_late v purge) edit purge) told books
                    (appended-rows edit purge v (rows_in old.home.positions) (rows_in rows) fits free tells a.home.positions) (appended-rows_west edit purge v (rows_in old.west.positions) fits a.west.positions) some stands
                    (if_map (λ x. CacheStands v West (cache_of x)) (λ x. CacheStands (appended edit purge v) West (cache_of x)) old.west.cache (λ x. appended-west edit purge v (cache_of x)) a.west.cache) places);
              },
            )

        told_row : (rest : List LedgerRow) → mid.rows ≡ rest ++ new_row (length rest + 1) (Position outcome.note.client outcome.note.index outcome.note.entry now) ∷ [] → mid.rows ≡ rest ++ new_row (length rest + 1) (told_body edit purge v) ∷ []
        told_row rest e = e ∙ ap (λ x. rest ++ new_row (length rest + 1) (Position x outcome.note.index outcome.note.entry now) ∷ []) s.client ∙ ap (λ n. rest ++ new_row (length rest + 1) (Position edit.client n outcome.note.entry now) ∷ []) index ∙ ap (λ n. rest ++ new_row (length rest + 1) (Position edit.client (next_commit v (edit_of begun.ask) begun.issued.purge).index n now) ∷ []) entry

        first_rows : Bytes → List LedgerRow
        first_rows title = old.ledger.rows ++ new_row (length old.ledger.rows + 1) (Purge (length old.ledger.rows + 1) title now) ∷ []

        go : (b : Bool) → nat_lt begun.due now ≡ b → Goes (EditSaved (saved_of outcome.note))
        go false e =
            let none = subst (λ x. ReceivesSecond cache_of (with_positions rows old.home) home mid ledger_now now (cond x (Some (let i : Issued = record { purge = next_number old.ledger; message = next_number old.ledger } in i)) None)) e receives in
            let mid_is : mid.rows ≡ old.ledger.rows ++ new_row (length old.ledger.rows + 1) (told_body edit purge v) ∷ [] =
            told_row old.ledger.rows (s.rows ∙ ap (λ x. (with_position outcome.note.client outcome.note.index outcome.note.entry now (cond x (Rattle.purge_relay.specs.Ledger.with_purge begun.purge_title now old.ledger) old.ledger)).rows) e) in
            ends old.home.cache none.1 a.home.there
            (if_map (λ x. CacheStands v Home (cache_of x)) (λ x. CacheStands (appended edit purge v) Home (cache_of x)) old.home.cache
            (λ x stands. appended-home edit purge v (cache_of x) (cache_of x) stands stands.is_cache (λ is_so. let no : ⊥ = (let both = late ∙ e in cc) in absurd no) (λ _. refl)) a.home.cache)
            (subst (λ b. LedgerAgrees ledger_now.rows (appended_if b edit purge v)) (sym (late ∙ e))
            (subst (λ rs. LedgerAgrees rs (appended_if false edit purge v)) (sym (ap (λ (b : LedgerState). b.rows) none.0 ∙ mid_is)) (early_ledger old.ledger.rows edit purge v ledger)))
        go true e =
            let some = subst (λ x. ReceivesSecond cache_of (with_positions rows old.home) home mid ledger_now now (cond x (Some (let i : Issued = record { purge = next_number old.ledger; message = next_number old.ledger } in i)) None)) e receives in
            let mid_first : mid.rows ≡ first_rows begun.purge_title ++ new_row (length (first_rows begun.purge_title) + 1) (told_body edit purge v) ∷ [] =
            told_row (first_rows begun.purge_title) (s.rows ∙ ap (λ x. (with_position outcome.note.client outcome.note.index outcome.note.entry now (cond x (Rattle.purge_relay.specs.Ledger.with_purge begun.purge_title now old.ledger) old.ledger)).rows) e) in
            let mid_is : mid.rows ≡ late_rows old.ledger.rows edit purge v = mid_first ∙ ap (λ t. first_rows t ++ new_row (length (first_rows t) + 1) (told_body edit purge v) ∷ []) is.title in
            let found : row_at mid.rows (length old.ledger.rows + 1) ≡ Some (new_row (length old.ledger.rows + 1) (Purge (length old.ledger.rows + 1) edit.title now)) = ap (λ rs. row_at rs (length old.ledger.rows + 1)) mid_is ∙ second_row old.ledger.rows edit purge v in
            let took = subst (TakesRow cache_of (with_positions rows old.home) home now) found some.1 in
            let before = took.before in let after = took.after in
            let stood : CacheStands v Home (cache_of before) = subst (λ (o : Option S). IfSome o (λ x. CacheStands v Home (cache_of x))) took.there a.home.cache in
            let rows_are : ledger_now.rows ≡ (changed_at (with_receipt Home now) (length old.ledger.rows + 1) (let b : LedgerState = record { rows = late_rows old.ledger.rows edit purge v; spare = mid.spare } in b)).rows =
            ap (λ (b : LedgerState). b.rows) some.0 ∙ ap (λ rs. (changed_at (with_receipt Home now) (length old.ledger.rows + 1) (let b : LedgerState = record { rows = rs; spare = mid.spare } in b)).rows) mid_is in
            ends (Some after) took.rest refl
            (appended-home edit purge v (cache_of before) (cache_of after) stood took.is_cache (λ _. took.changes) (λ is_so. let no : ⊥ = (let both = late ∙ e in cc) in absurd no))
            (subst (λ b. LedgerAgrees ledger_now.rows (appended_if b edit purge v)) (sym (late ∙ e))
            (subst (λ rs. LedgerAgrees rs (appended_if true edit purge v)) (sym rows_are) (late_ledger old.ledger.rows mid.spare edit purge v ledger)))

    decides : (begun : BegunEdit) (mid : LedgerState) (rows : Positions) → IsBegun v begun (edit_of begun.ask) begun.issued.purge → request_at v id ≡ Some (world.EditBegun (edit_of begun.ask) begun.issued.purge) → Places old.requests requests id None
        → (result : Result CommitOutcome EditRefusal) → HasStoreFault (faults old.keeper) (faults keeper) result
        → CommitsWithOutcome (state_of (content old.keeper) old.ledger old.home.positions) (state_of (content keeper) mid rows) begun now result → ReceivesSecond cache_of (with_positions rows old.home) home mid ledger_now now (second_purge_in result) → Goes (outcome_answer result)
    decides begun mid rows is there places (Ok outcome) cause (inl (decided, gives, none)) receives =
        let so = subst (ReceivesSecond cache_of (with_positions rows old.home) home mid ledger_now now) none receives in
        let fewer = a.counted in let count = cause.later in
        gives_up begun mid rows (EditSaved (saved_of outcome.note)) there places cause.later gives so
        (subst (λ o. IfSome o (λ h. edit_answer h (edit_of begun.ask) ≡ Some (EditSaved (saved_of outcome.note)))) a.history decided, refl) (omega (arith, fewer, count))
    decides begun mid rows is there places (Ok outcome) cause (inr (s, second_is)) receives =
        saves begun outcome mid rows is there places cause.later s (subst (ReceivesSecond cache_of (with_positions rows old.home) home mid ledger_now now) second_is receives)
    decides begun mid rows is there places (Err refusal.Store) cause gives receives =
        let fewer = a.counted in let rose = cause.store refl in
        gives_up begun mid rows StoreFault there places cause.later gives receives refl (omega (arith, fewer, rose))
    decides begun mid rows is there places (Err refusal.Memory) cause gives receives =
        let fewer = a.counted in let count = cause.later in
        gives_up begun mid rows NoMemory there places cause.later gives receives refl (omega (arith, fewer, count))
    decides begun mid rows is there places (Err (refusal.Conflict base current)) cause (decided, gives) receives =
        let fewer = a.counted in let count = cause.later in
        gives_up begun mid rows (Conflict base current) there places cause.later gives receives
        (subst (λ o. IfSome o (λ h. edit_answer h (edit_of begun.ask) ≡ Some (Conflict base current))) a.history decided, refl) (omega (arith, fewer, count))
    decides begun mid rows is there places (Err (refusal.TokenReused entry)) cause (decided, gives) receives =
        let fewer = a.counted in let count = cause.later in
        gives_up begun mid rows (TokenUsed entry) there places cause.later gives receives
        (subst (λ o. IfSome o (λ h. edit_answer h (edit_of begun.ask) ≡ Some (TokenUsed entry))) a.history decided, refl) (omega (arith, fewer, count))

    own : (begun : BegunEdit) (edit : Edit) (purge : ℕ) → IsBegun v begun edit purge → request_at v id ≡ Some (world.EditBegun edit purge) → IsBegun v begun (edit_of begun.ask) begun.issued.purge × (request_at v id ≡ Some (world.EditBegun (edit_of begun.ask) begun.issued.purge))
    own begun edit purge is there = (
      subst (λ n. IsBegun v begun (edit_of begun.ask) n) (sym is.purge_is) (subst (λ e. IsBegun v begun e purge) (sym is.ask) is),
      there ∙ ap (λ e. Some (world.EditBegun e purge)) (sym is.ask) ∙ ap (λ n. Some (world.EditBegun (edit_of begun.ask) n)) (sym is.purge_is),
    )

    by : (found : Option BegunEdit) → begun_edit (open_at old.requests id) ≡ found → CommitsTo cache_of (content old.keeper) (content keeper) (faults old.keeper) (faults keeper) old.home home old.ledger ledger_now now id old.requests requests answer found → Goes answer
    by None is (none, leave) =
        let fewer = a.counted in let count = leave.1 in
        let said : answer ≡ NotOpen id = (let e = none.0 in cc) in
        subst Goes (sym said)
        (leaves content faults cache_of old keeper ledger_now home requests v (Step.CommitEdit id) (Some (NotOpen id)) leave none.1 a
        (no_point (steps.begun_edit (request_at v id)) id v v (λ e. Commits id e v (Some (NotOpen id)) v) (no_begun v (open_at old.requests id) (request_at v id) (a.requests id) is) refl) (omega (arith, fewer, count)))
    by (Some begun) is (places, given, commits) =
        let b = is_begun v (open_at old.requests id) (request_at v id) begun (a.requests id) is in
        let o = own begun b.0 b.1 b.3 b.2 in
        subst Goes (sym commits.said) (decides begun commits.mid commits.positions o.0 o.1 places commits.result commits.cause commits.commits commits.receives)
