-- The step begin goes on with every run.
use Rattle.std.proofs.Common.{◌≡◌, ℕ, suc, ◌+◌, ◌≤◌, false, List, [], ◌∷◌, ◌++◌, length, Option, Some, None, IfSome, Result, Ok, Err, refl, sym, ap, subst, ◌∙◌, arith, append-nil}
use Rattle.wiki_model.specs.declared.Region.TheVariants.{Home, West}
use Rattle.wiki_model.specs.Bytes.{Bytes}
use Rattle.wiki_model.specs.History.{Entry, Edit}
use Rattle.wiki_model.specs.Cache.{CacheMap}
use Rattle.wiki_model.specs.World as world
use Rattle.wiki_model.specs.World.{World, moment, request_at, without_request, message_at}
use Rattle.wiki_model.specs.Answers.{Answer, NotOpen, NoMemory, StoreFault, EditSaved, Conflict, TokenUsed, edit_answer}
use Rattle.wiki_model.specs.Steps as steps
use Rattle.wiki_model.specs.Steps.{Step, Decided, Begins, begun, next_message}
use Rattle.wiki_model.specs.Runs.{One, with_faults, CountsFaults}
use Rattle.wiki_model.specs.Caches.{CacheStands}
use Rattle.wiki_model.specs.Positions.{RowsStand}
use Rattle.wiki_model.proofs.StepStandsLaws.{begun-home, begun-west}
use Rattle.wiki_model.proofs.HistoryLaws.{push-at}
use Rattle.wiki_model.proofs.FrameLaws.{stands-grown, if_map}
use Rattle.purge_relay.specs.declared.message.Body.TheVariants.{Purge}
use Rattle.purge_relay.specs.LedgerRow.{new_row, with_receipt}
use Rattle.purge_relay.specs.Ledger.{LedgerState, row_at, changed_at}
use Rattle.chronology_store.specs.ChronologyStore.{Positions}
use Rattle.chronology_store.specs.AsModel.{rows_in}
use Rattle.chronology_store.proofs.ModelRows.{reserved_rows}
use Rattle.edit_core.specs.declared.edit_ask.EditAsk.{EditAsk}
use Rattle.edit_core.specs.declared.edit_ask.EditRefusal.{EditRefusal}
use Rattle.edit_core.specs.declared.edit_ask.EditRefusal.TheVariants as refusal
use Rattle.edit_core.specs.declared.begun_edit.BegunEdit.{BegunEdit}
use Rattle.edit_core.specs.declared.begun_edit.Begun.{Begun}
use Rattle.edit_core.specs.declared.begun_edit.Begun.TheVariants.{Started, Already}
use Rattle.edit_core.specs.AsModel.{edit_of, saved_of}
use Rattle.edit_core.specs.EditState.{EditState, HasStoreFault, state_of}
use Rattle.edit_core.specs.BeginEdit as edits
use Rattle.farm_steps.specs.RequestMap.{Entries, Places, open_at, arrived_edit, IsBegun}
use Rattle.farm_steps.specs.declared.open_request.OpenRequest.TheVariants as point
use Rattle.farm_core.specs.FarmParts.{FarmParts}
use Rattle.region_state.specs.RegionState.{RegionParts}
use Rattle.farm_steps.specs.RelaySteps.{TakesRow}
use Rattle.region_state.specs.RegionState.{with_positions}
use Rattle.farm_steps.specs.EditSteps.{EndsBegin, BeginsTo}
use Rattle.farm_core.specs.Agreement.{Agrees}
use Rattle.farm_core.specs.Runs.{GoesFrom, LeadsTo}
use Rattle.farm_core.proofs.Following.{Follows, issued-more}
use Rattle.farm_core.proofs.Standing.{rows_moments, site_grown}
use Rattle.farm_core.proofs.Points.{placed, at_point, no_point, no_arrived_edit, is_arrived_edit}
use Rattle.farm_core.proofs.Issuing.{LedgerAgrees, number_is, last_row, purge_issued}
use Rattle.farm_core.proofs.Committing.{closes, leaves}

pub begin_goes : {K S : Type 0} (content : K → Option (List Entry)) (faults : K → ℕ) (cache_of : S → CacheMap Bytes) (old : FarmParts K S) (keeper : K) (ledger_now : LedgerState) (home : RegionParts S) (after : Entries) (id : ℕ) (answer : Option Answer)
    → BeginsTo cache_of (content old.keeper) (content keeper) (faults old.keeper) (faults keeper) old.home home old.ledger ledger_now old.moments.home old.plan.bounds.commit_delay id old.requests after answer (arrived_edit (open_at old.requests id))
    → GoesFrom content faults cache_of old (record old { keeper = keeper; ledger = ledger_now; home = home; requests = after }) (Step.Begin id) (One answer)
begin_goes {K} {S} content faults cache_of old keeper ledger_now home after id answer did v fits a =
    by (arrived_edit (open_at old.requests id)) refl (subst (λ n. BeginsTo cache_of (content old.keeper) (content keeper) (faults old.keeper) (faults keeper) old.home home old.ledger ledger_now n old.plan.bounds.commit_delay id old.requests after answer (arrived_edit (open_at old.requests id))) a.home_moment did)
  where
    now : ℕ
    now = moment Home v

    delay : ℕ
    delay = old.plan.bounds.commit_delay

    Goes : Option Answer → Type 0
    Goes said = (w : World) × LeadsTo content faults cache_of old (record old { keeper = keeper; ledger = ledger_now; home = home; requests = after }) (Step.Begin id) (One said) v w

    row : (edit : Edit) (said : Option Answer) (w : World) → request_at v id ≡ Some (world.EditArrived edit) → Begins id edit v said w → steps.Allows (Step.Begin id) v said w
    row edit said w there is = at_point (steps.arrived_edit (request_at v id)) edit id v said w (λ e. Begins id e v said w) (ap steps.arrived_edit there) is

    -- the request is only closed
    closed_by : (edit : Edit) (mid : LedgerState) (rows : Positions) (said : Answer) → request_at v id ≡ Some (world.EditArrived edit) → faults old.keeper ≤ faults keeper → state_of (content keeper) mid rows ≡ state_of (content old.keeper) old.ledger old.home.positions
        → (answer ≡ Some said) × (ledger_now ≡ mid) × (home ≡ with_positions rows old.home) × Places old.requests after id None
        → Decided (edit_answer v.history edit) id v (without_request id v) said → CountsFaults v.faults (faults keeper) (One (Some said)) → Goes answer
    closed_by edit mid rows said there count same (is, ledger_is, home_is, places) decided counts =
        subst Goes (sym is)
        (closes content faults cache_of old keeper ledger_now home after id v (Step.Begin id) (Some said) (ap (λ (s : EditState). s.content) same) count (ap (λ (b : LedgerState). b.rows) (ledger_is ∙ ap (λ (s : EditState). s.ledger) same))
        (home_is ∙ ap (λ (s : EditState). with_positions s.positions old.home) same) places a
        (row edit (Some said) (without_request id v) there decided) counts)

    starts : (ask : EditAsk) (begun_now : BegunEdit) (mid : LedgerState) (rows : Positions) → request_at v id ≡ Some (world.EditArrived (edit_of ask)) → faults old.keeper ≤ faults keeper
        → edits.Starts (state_of (content old.keeper) old.ledger old.home.positions) (state_of (content keeper) mid rows) (edit_of ask) now delay begun_now
        → EndsBegin cache_of (with_positions rows old.home) home mid ledger_now now id old.requests after answer (Ok (Started begun_now)) → Goes answer
    starts ask begun_now mid rows there count s (said, receives, places) =
        subst Goes (sym said) (
          w,
          record {
            takes = row (edit_of ask) None (begun id (edit_of ask) v) there (free, refl);
            counts = omega (arith, fewer, count);
            later = count;
            agrees = subst (λ (h : RegionParts S). Agrees content faults cache_of (record old { keeper = keeper; ledger = ledger_now; home = h; requests = after }) w) (sym took.rest) (record {
              plan = a.plan;
              opened = a.opened;
              history = s.content ∙ a.history;
              counted = omega arith;
              messages = ledger.messages;
              receipts = ledger.receipts;
              requests = placed v w old.requests after id (point.EditBegun begun_now) (world.EditBegun (edit_of ask) (next_message v)) follows refl places (edit_of ask, next_message v, refl, begun_is) a.requests;
              home_moment = a.home_moment;
              west_moment = a.west_moment;
              beat = a.beat;
              home = site_grown cache_of old.home rows (Some cache) v w Home [] fits (sym (append-nil v.history)) refl refl refl
                  (subst (RowsStand w Home) (sym (reserved_rows ask.client old.home.positions rows s.positions)) (rows_moments v w Home (rows_in old.home.positions) refl refl (omega arith) a.home.positions)) refl stood a.home;
              west = site_grown cache_of old.west old.west.positions old.west.cache v w West [] fits (sym (append-nil v.history)) refl refl refl (rows_moments v w West (rows_in old.west.positions) refl refl (omega arith) a.west.positions) a.west.there
                  (if_map (λ x. CacheStands v West (cache_of x)) (λ x. CacheStands w West (cache_of x)) old.west.cache (λ x s. stands-grown (begun id (edit_of ask) v) w West (cache_of x) (record { more = []; history = sym (append-nil v.history); setting = refl; events = refl; moment = omega arith }) (begun-west id (edit_of ask) v (cache_of x) s)) a.west.cache) a.west;
            });
          },
        )
      where
        w : World
        w = with_faults (faults keeper) (begun id (edit_of ask) v)

        fewer : v.faults ≤ faults old.keeper
        fewer = a.counted

        free : edit_answer v.history (edit_of ask) ≡ None
        free = subst (λ o. IfSome o (λ h. edit_answer h (edit_of ask) ≡ None)) a.history s.undecided

        ledger_before : LedgerAgrees old.ledger.rows v
        ledger_before = record { messages = a.messages; receipts = a.receipts }

        number : length old.ledger.rows + 1 ≡ next_message v
        number = number_is old.ledger.rows v a.messages

        m : world.Message
        m = record { body = world.Purge (next_message v) ask.title (moment Home v); dropped = false }

        found : row_at mid.rows begun_now.issued.purge ≡ Some (new_row (length old.ledger.rows + 1) (Purge (length old.ledger.rows + 1) ask.title now))
        found = ap (λ n. row_at mid.rows n) s.begun_is.purge ∙ ap (λ rs. row_at rs (length old.ledger.rows + 1)) s.ledger.rows ∙ last_row old.ledger.rows (new_row (length old.ledger.rows + 1) (Purge (length old.ledger.rows + 1) ask.title now))

        took : TakesRow cache_of (with_positions rows old.home) home now (Some (new_row (length old.ledger.rows + 1) (Purge (length old.ledger.rows + 1) ask.title now)))
        took = subst (TakesRow cache_of (with_positions rows old.home) home now) found receives.1

        cache : S
        cache = took.after

        stood : CacheStands w Home (cache_of took.after)
        stood = stands-grown (begun id (edit_of ask) v) w Home (cache_of took.after) (record { more = []; history = sym (append-nil v.history); setting = refl; events = refl; moment = omega arith })
            (begun-home id (edit_of ask) v (cache_of took.before) (cache_of took.after) (subst (λ (o : Option S). IfSome o (λ x. CacheStands v Home (cache_of x))) took.there a.home.cache) took.is_cache took.changes)

        rows_now : ledger_now.rows ≡ (changed_at (with_receipt Home now) (length old.ledger.rows + 1) (let b : LedgerState = record { rows = old.ledger.rows ++ new_row (length old.ledger.rows + 1) (Purge (length old.ledger.rows + 1) ask.title now) ∷ []; spare = ledger_now.spare } in b)).rows
        rows_now = ap (λ (b : LedgerState). b.rows) receives.0 ∙ ap (λ n. (changed_at (with_receipt Home now) n mid).rows) s.begun_is.purge
            ∙ ap (λ rs. (changed_at (with_receipt Home now) (length old.ledger.rows + 1) (let b : LedgerState = record { rows = rs; spare = ledger_now.spare } in b)).rows) s.ledger.rows

        ledger : LedgerAgrees ledger_now.rows w
        ledger = purge_issued old.ledger ledger_now ask.title v w ledger_before rows_now refl refl refl

        follows : Follows v w
        follows = record { more = []; history = sym (append-nil v.history); setting = refl; issued = issued-more v w m refl }

        last : message_at w (next_message v) ≡ Some m
        last = let same : suc (length v.messages) ≡ next_message v = omega arith in subst (λ n. message_at w n ≡ Some m) same (push-at v.messages m)

        begun_is : IsBegun w begun_now (edit_of ask) (next_message v)
        begun_is = record {
          ask = s.begun_is.ask;
          title = s.begun_is.again;
          purge_is = s.begun_is.purge ∙ number;
          issued = moment Home v;
          is_issued = (m, last, refl);
          due = s.begun_is.due ∙ ap (λ (b : Rattle.wiki_model.specs.Limits.Bounds). moment Home v + b.commit_delay) a.plan.bounds;
        }

    ends : (ask : EditAsk) (mid : LedgerState) (rows : Positions) → request_at v id ≡ Some (world.EditArrived (edit_of ask)) → (result : Result Begun EditRefusal) → HasStoreFault (faults old.keeper) (faults keeper) result
        → edits.Begins (state_of (content old.keeper) old.ledger old.home.positions) (state_of (content keeper) mid rows) (edit_of ask) now delay result → EndsBegin cache_of (with_positions rows old.home) home mid ledger_now now id old.requests after answer result → Goes answer
    ends ask mid rows there (Ok (Started b)) cause begins e = starts ask b mid rows there cause.later begins e
    ends ask mid rows there (Ok (Already note)) cause begins e =
        let fewer = a.counted in let count = cause.later in
        closed_by (edit_of ask) mid rows (EditSaved (saved_of note)) there cause.later begins.1 e (subst (λ o. IfSome o (λ h. edit_answer h (edit_of ask) ≡ Some (EditSaved (saved_of note)))) a.history begins.0, refl) (omega (arith, fewer, count))
    ends ask mid rows there (Err refusal.Store) cause begins e =
        let fewer = a.counted in let rose = cause.store refl in
        closed_by (edit_of ask) mid rows StoreFault there cause.later begins e refl (omega (arith, fewer, rose))
    ends ask mid rows there (Err refusal.Memory) cause begins e =
        let fewer = a.counted in let count = cause.later in
        closed_by (edit_of ask) mid rows NoMemory there cause.later begins e refl (omega (arith, fewer, count))
    ends ask mid rows there (Err (refusal.Conflict base current)) cause begins e =
        let fewer = a.counted in let count = cause.later in
        closed_by (edit_of ask) mid rows (Conflict base current) there cause.later begins.1 e (subst (λ o. IfSome o (λ h. edit_answer h (edit_of ask) ≡ Some (Conflict base current))) a.history begins.0, refl) (omega (arith, fewer, count))
    ends ask mid rows there (Err (refusal.TokenReused entry)) cause begins e =
        let fewer = a.counted in let count = cause.later in
        closed_by (edit_of ask) mid rows (TokenUsed entry) there cause.later begins.1 e (subst (λ o. IfSome o (λ h. edit_answer h (edit_of ask) ≡ Some (TokenUsed entry))) a.history begins.0, refl) (omega (arith, fewer, count))

    by : (found : Option EditAsk) → arrived_edit (open_at old.requests id) ≡ found → BeginsTo cache_of (content old.keeper) (content keeper) (faults old.keeper) (faults keeper) old.home home old.ledger ledger_now now delay id old.requests after answer found → Goes answer
    by None is (none, leave) =
        let fewer = a.counted in let count = leave.1 in
        subst Goes (sym none.0)
        (leaves content faults cache_of old keeper ledger_now home after v (Step.Begin id) (Some (NotOpen id)) leave none.1 a
        (no_point (steps.arrived_edit (request_at v id)) id v v (λ e. Begins id e v (Some (NotOpen id)) v) (no_arrived_edit v (open_at old.requests id) (request_at v id) (a.requests id) is) refl) (omega (arith, fewer, count)))
    by (Some ask) is begins =
        let there = is_arrived_edit v (open_at old.requests id) (request_at v id) ask (a.requests id) is in
        ends ask begins.mid begins.positions there begins.result begins.cause begins.begins begins.ends
