-- The steps need and drop go on with every run.
use Rattle.std.proofs.Common.{◌≡◌, ℕ, zero, suc, List, [], ◌∷◌, map, Option, Some, None, refl, sym, ap, subst, ◌∙◌, arith, append-nil}
use Rattle.std.specs.Prelude.{option_map, slice_get, slice_set}
use Rattle.wiki_model.specs.declared.Region.{Region}
use Rattle.wiki_model.specs.declared.Region.TheVariants.{Home, West}
use Rattle.wiki_model.specs.Bytes.{Bytes}
use Rattle.wiki_model.specs.History.{Entry}
use Rattle.wiki_model.specs.Cache.{CacheMap}
use Rattle.wiki_model.specs.World.{World, site, request_at, without_request, message_at, with_dropped, drop_at, dropped_message}
use Rattle.wiki_model.specs.Answers.{Answer}
use Rattle.wiki_model.specs.Steps as steps
use Rattle.wiki_model.specs.Steps.{Step}
use Rattle.wiki_model.specs.Runs.{One, with_faults}
use Rattle.wiki_model.proofs.ConsistentLaws.{dropping-later}
use Rattle.purge_relay.specs.declared.ledger_row.LedgerRow.{LedgerRow}
use Rattle.purge_relay.specs.LedgerRow.{dropped, receipt_at}
use Rattle.purge_relay.specs.Ledger.{LedgerState, row_at, with_row, changed_at}
use Rattle.region_state.specs.declared.open_view.OpenView.{OpenView}
use Rattle.purge_relay.specs.AsModel.{row_message}
use Rattle.farm_steps.specs.RequestMap.{Entries, open_at, waited_view}
use Rattle.farm_core.proofs.Keeping.{ledger_kept}
use Rattle.farm_core.specs.FarmParts.{FarmParts, IsFarm}
use Rattle.farm_core.specs.Agreement as agreed
use Rattle.farm_core.specs.Agreement.{Agrees}
use Rattle.farm_steps.specs.RelaySteps.{Drops}
use Rattle.farm_steps.specs.ViewSteps.{Needs}
use Rattle.farm_core.specs.Runs.{GoesFrom, LeadsTo}
use Rattle.farm_core.proofs.Following.{Follows, agree-later}
use Rattle.farm_core.proofs.Standing.{stands-still}
use Rattle.farm_core.proofs.Points.{closed, no_waited, is_waited}
use Rattle.farm_core.proofs.Quiet.{IsQuiet, agrees-ledger, quiet-follows}
use Rattle.farm_core.proofs.Waiting.{calm_agrees}
use Rattle.farm_core.proofs.Ledgers.{message_is}
use Rattle.farm_core.proofs.Keeping.{NoMoreBegun, none_begun, same_begun}

pub need_goes : {K S : Type 0} (content : K → Option (List Entry)) (faults : K → ℕ) (cache_of : S → CacheMap Bytes) (old : FarmParts K S) (requests : Entries) (id : ℕ)
    → Needs id old.requests requests (waited_view (open_at old.requests id)) → GoesFrom content faults cache_of old (record old { requests = requests }) (Step.Need id) (One None)
need_goes {K} {S} content faults cache_of old requests id did v fits a = by (waited_view (open_at old.requests id)) refl did
  where
    by : (found : Option (OpenView × ℕ)) → waited_view (open_at old.requests id) ≡ found → Needs id old.requests requests found → (w : World) × LeadsTo content faults cache_of old (record old { requests = requests }) (Step.Need id) (One None) v w
    by None is same =
        let w : World = with_faults (faults old.keeper) v in
        let q : IsQuiet v w = record { history = refl; setting = refl; messages = refl; home = refl; west = refl; markup = refl } in
        let none = no_waited v (open_at old.requests id) (request_at v id) (a.requests id) is in (
          w,
          record {
            takes = (refl, ap (steps.closed_if id v) (sym none));
            counts = a.counted;
            later = omega arith;
            agrees = subst (λ (es : Entries). Agrees content faults cache_of (record old { requests = es }) w) (sym same)
                (calm_agrees content faults cache_of old old.requests v w (record { quiet = q; count = refl; all = λ i. agree-later v w (quiet-follows v w q) (open_at old.requests i) (request_at v i) (a.requests i) }) a);
          },
        )
    by (Some (view, need)) is places =
        let w : World = with_faults (faults old.keeper) (without_request id v) in
        let q : IsQuiet v w = record { history = refl; setting = refl; messages = refl; home = refl; west = refl; markup = refl } in
        let there = is_waited v (open_at old.requests id) (request_at v id) view need (a.requests id) is in (
          w,
          record {
            takes = (refl, ap (λ o. steps.closed_if id v (steps.waited_view o)) (sym there.1));
            counts = a.counted;
            later = omega arith;
            agrees = calm_agrees content faults cache_of old requests v w (record { quiet = q; count = refl; all = closed v w old.requests requests id (quiet-follows v w q) refl places a.requests }) a;
          },
        )

pub need_begun : (id : ℕ) (old new : Entries) (found : Option (OpenView × ℕ)) → Needs id old new found → NoMoreBegun old new
need_begun id old new None same = same_begun old new same
need_begun id old new (Some found) places = none_begun old new id places

-- a dropped message in the ledger

drop_is : (rows : List LedgerRow) (n : ℕ) (row : LedgerRow) → slice_get rows n ≡ Some row → map row_message (slice_set rows n (dropped row)) ≡ drop_at (map row_message rows) (suc n)
drop_is [] n row e = refl
drop_is (x ∷ rows) zero row e = let same : x ≡ row = cc in ap (λ (y : LedgerRow). dropped_message (row_message y) ∷ map row_message rows) (sym same)
drop_is (x ∷ rows) (suc n) row e = ap (λ ms. row_message x ∷ ms) (drop_is rows n row e)

receipt_same : (r : Region) (row : LedgerRow) → receipt_at r (Some (dropped row)) ≡ receipt_at r (Some row)
receipt_same Home row = refl
receipt_same West row = refl

drop_receipts : (r : Region) (rows : List LedgerRow) (n : ℕ) (row : LedgerRow) → slice_get rows n ≡ Some row → (m : ℕ) → receipt_at r (row_at (slice_set rows n (dropped row)) m) ≡ receipt_at r (row_at rows m)
drop_receipts r rows n row e zero = refl
drop_receipts r rows n row e (suc m) = go rows n m e
  where
    go : (xs : List LedgerRow) (i j : ℕ) → slice_get xs i ≡ Some row → receipt_at r (slice_get (slice_set xs i (dropped row)) j) ≡ receipt_at r (slice_get xs j)
    go [] i j e = refl
    go (x ∷ xs) zero zero e = let same : x ≡ row = cc in receipt_same r row ∙ ap (λ (y : LedgerRow). receipt_at r (Some y)) (sym same)
    go (x ∷ xs) zero (suc j) e = refl
    go (x ∷ xs) (suc i) zero e = refl
    go (x ∷ xs) (suc i) (suc j) e = go xs i j e

pub drop_goes : {K S : Type 0} (content : K → Option (List Entry)) (faults : K → ℕ) (cache_of : S → CacheMap Bytes) (old : FarmParts K S) (ledger_now : LedgerState) (number : ℕ) (answer : Option Answer)
    → Drops old.ledger ledger_now number answer (row_at old.ledger.rows number) → GoesFrom content faults cache_of old (record old { ledger = ledger_now }) (Step.Drop number) (One answer)
drop_goes {K} {S} content faults cache_of old ledger_now number answer did v fits a = by number refl (row_at old.ledger.rows number) refl did
  where
    Goes : Option Answer → Type 0
    Goes said = (w : World) × LeadsTo content faults cache_of old (record old { ledger = ledger_now }) (Step.Drop number) (One said) v w

    at : message_at v number ≡ option_map row_message (row_at old.ledger.rows number)
    at = message_is old.ledger.rows v.messages v number a.messages refl

    there : (n : ℕ) (row : LedgerRow) → number ≡ n → row_at old.ledger.rows n ≡ Some row → ledger_now ≡ changed_at dropped number old.ledger → Goes None
    there zero row named e books = let no : ⊥ = cc in absurd no
    there (suc n) row named e books =
        let w : World = with_faults (faults old.keeper) (with_dropped number v) in
        let follows : Follows v w = record { more = []; history = sym (append-nil v.history); setting = refl; issued = (dropping-later number v).issued } in
        let rows : ledger_now.rows ≡ slice_set old.ledger.rows n (dropped row) = ap (λ (b : LedgerState). b.rows) books ∙ ap (λ k. (changed_at dropped k old.ledger).rows) named ∙ ap (λ o. with_row old.ledger.rows (suc n) (option_map dropped o)) e in
        let m_is : message_at v number ≡ Some (row_message row) = at ∙ ap (λ k. option_map row_message (row_at old.ledger.rows k)) named ∙ ap (option_map row_message) e in (
          w,
          record {
            takes = (ap (λ o. (steps.dropped number v o).0) (sym m_is), ap (λ o. (steps.dropped number v o).1) (sym m_is));
            counts = a.counted;
            later = omega arith;
            agrees = record {
              plan = a.plan;
              opened = a.opened;
              history = a.history;
              counted = omega arith;
              messages = ap (map row_message) rows ∙ drop_is old.ledger.rows n row e ∙ ap (λ k. drop_at (map row_message old.ledger.rows) k) (sym named) ∙ ap (λ ms. drop_at ms number) a.messages;
              receipts = λ r k. ap (λ rs. receipt_at r (row_at rs k)) rows ∙ drop_receipts r old.ledger.rows n row e k ∙ a.receipts r k ∙ same r k;
              requests = λ id. agree-later v w follows (open_at old.requests id) (request_at v id) (a.requests id);
              home_moment = a.home_moment;
              west_moment = a.west_moment;
              beat = a.beat;
              home = stands-still cache_of old.home v w Home (record { history = refl; setting = refl; markup = refl; up = omega arith; applied = refl; heard = refl; events = refl }) a.home;
              west = stands-still cache_of old.west v w West (record { history = refl; setting = refl; markup = refl; up = omega arith; applied = refl; heard = refl; events = refl }) a.west;
            };
          },
        )
      where
        same : (r : Region) (k : ℕ) → agreed.receipt_in (site r v).events k ≡ agreed.receipt_in (site r (with_faults (faults old.keeper) (with_dropped number v))).events k
        same Home k = refl
        same West k = refl

    by : (n : ℕ) → number ≡ n → (o : Option LedgerRow) → row_at old.ledger.rows number ≡ o → Drops old.ledger ledger_now number answer o → Goes answer
    by n named None e (said, books) =
        let w : World = with_faults (faults old.keeper) v in
        let q : IsQuiet v w = record { history = refl; setting = refl; messages = refl; home = refl; west = refl; markup = refl } in
        let none : message_at v number ≡ None = at ∙ ap (option_map row_message) e in
        subst Goes (sym said) (
          w,
          record {
            takes = (ap (λ o. (steps.dropped number v o).0) (sym none), ap (λ o. (steps.dropped number v o).1) (sym none));
            counts = a.counted;
            later = omega arith;
            agrees = agrees-ledger content faults cache_of old ledger_now w (ap (λ (b : LedgerState). b.rows) books)
                (calm_agrees content faults cache_of old old.requests v w (record { quiet = q; count = refl; all = λ i. agree-later v w (quiet-follows v w q) (open_at old.requests i) (request_at v i) (a.requests i) }) a);
          },
        )
    by n named (Some row) e (said, books) = subst Goes (sym said) (there number row refl e books)

pub drop_kept : {K S : Type 0} (content : K → Option (List Entry)) (cache_of : S → CacheMap Bytes) (old : FarmParts K S) (ledger_now : LedgerState) (number : ℕ) (answer : Option Answer) (found : Option LedgerRow) → row_at old.ledger.rows number ≡ found
    → Drops old.ledger ledger_now number answer found → IsFarm content cache_of old → IsFarm content cache_of (record old { ledger = ledger_now })
drop_kept content cache_of old ledger_now number answer None e (said, same) k = ledger_kept content cache_of old ledger_now (ap (λ (b : LedgerState). b.spare) same) k
drop_kept content cache_of old ledger_now number answer (Some row) e (said, is) k = ledger_kept content cache_of old ledger_now (ap (λ (b : LedgerState). b.spare) is) k
