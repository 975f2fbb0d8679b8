-- Calls that are no step: the farm stands on for every run.
use Rattle.std.proofs.Common.{◌≡◌, ℕ, zero, suc, ◌≤◌, List, [], ◌∷◌, length, map, Option, Some, None, IfSome, refl, sym, ap, subst, ◌∙◌, arith}
use Rattle.std.specs.Prelude.{option_map, slice_get, slice_set}
use Rattle.wiki_model.specs.declared.Region.{Region}
use Rattle.wiki_model.specs.declared.Region.TheVariants.{Home, West}
use Rattle.wiki_model.specs.Bytes.{Bytes}
use Rattle.wiki_model.specs.History.{Entry, stamp_at}
use Rattle.wiki_model.specs.Cache.{CacheMap}
use Rattle.purge_relay.specs.declared.ledger_row.LedgerRow.{LedgerRow}
use Rattle.purge_relay.specs.LedgerRow.{sent, receipt_at}
use Rattle.purge_relay.specs.Ledger.{LedgerState, row_at, with_row, changed_at}
use Rattle.purge_relay.specs.AsModel.{row_message}
use Rattle.farm_core.specs.FarmParts.{FarmParts, IsFarm}
use Rattle.farm_core.specs.Runs.{Stands, StandsOn}
use Rattle.farm_core.proofs.Keeping.{ledger_kept}

-- the keeper was only asked
pub stands_asked : {K S : Type 0} (content : K → Option (List Entry)) (faults : K → ℕ) (cache_of : S → CacheMap Bytes) (old : FarmParts K S) (keeper : K) → content keeper ≡ content old.keeper → faults old.keeper ≤ faults keeper
    → StandsOn content faults cache_of old (record old { keeper = keeper })
stands_asked content faults cache_of old keeper told count start turns w s =
    let a = s.agrees in let fewer = a.counted in
    record {
      opened = s.opened;
      run = s.run;
      agrees = record {
        plan = a.plan;
        opened = a.opened;
        history = told ∙ a.history;
        counted = omega (arith, fewer, count);
        messages = a.messages;
        receipts = a.receipts;
        requests = a.requests;
        home_moment = a.home_moment;
        west_moment = a.west_moment;
        beat = a.beat;
        home = a.home;
        west = a.west;
      };
    }

pub asked_kept : {K S : Type 0} (content : K → Option (List Entry)) (cache_of : S → CacheMap Bytes) (old : FarmParts K S) (keeper : K) → content keeper ≡ content old.keeper → IsFarm content cache_of old → IsFarm content cache_of (record old { keeper = keeper })
asked_kept content cache_of old keeper told k = record {
  home_small = k.home_small;
  west_small = k.west_small;
  delay = k.delay;
  stamps = subst (λ o. IfSome o (λ h. stamp_at h (length h) ≤ old.moments.home)) (sym told) k.stamps;
  home_before = k.home_before;
  west_before = k.west_before;
  room = k.room;
  reserved = k.reserved;
}

-- a message is marked as sent

sent_same : (rows : List LedgerRow) (n : ℕ) (row : LedgerRow) → slice_get rows n ≡ Some row → map row_message (slice_set rows n (sent row)) ≡ map row_message rows
sent_same [] n row e = refl
sent_same (x ∷ rows) zero row e = let same : x ≡ row = cc in ap (λ (y : LedgerRow). row_message y ∷ map row_message rows) (sym same)
sent_same (x ∷ rows) (suc n) row e = ap (λ ms. row_message x ∷ ms) (sent_same rows n row e)

sent_receipts : (r : Region) (rows : List LedgerRow) (n : ℕ) (row : LedgerRow) → slice_get rows n ≡ Some row → (m : ℕ) → receipt_at r (row_at (slice_set rows n (sent row)) m) ≡ receipt_at r (row_at rows m)
sent_receipts r rows n row e zero = refl
sent_receipts r rows n row e (suc m) = go rows n m e
  where
    one : (q : Region) → receipt_at q (Some (sent row)) ≡ receipt_at q (Some row)
    one Home = refl
    one West = refl

    go : (xs : List LedgerRow) (i j : ℕ) → slice_get xs i ≡ Some row → receipt_at r (slice_get (slice_set xs i (sent row)) j) ≡ receipt_at r (slice_get xs j)
    go [] i j e = refl
    go (x ∷ xs) zero zero e = let same : x ≡ row = cc in one r ∙ ap (λ (y : LedgerRow). receipt_at r (Some y)) (sym same)
    go (x ∷ xs) zero (suc j) e = refl
    go (x ∷ xs) (suc i) zero e = refl
    go (x ∷ xs) (suc i) (suc j) e = go xs i j e

pub record IsMarked (old new : List LedgerRow) : Type 0 where
  pub messages : map row_message new ≡ map row_message old
  pub receipts : (r : Region) (n : ℕ) → receipt_at r (row_at new n) ≡ receipt_at r (row_at old n)

marked : (number : ℕ) (ledger_now : LedgerState) → IsMarked ledger_now.rows (changed_at sent number ledger_now).rows
marked zero ledger_now = record { messages = refl; receipts = λ r n. refl }
marked (suc n) ledger_now = by (slice_get ledger_now.rows n) refl
  where
    by : (o : Option LedgerRow) → slice_get ledger_now.rows n ≡ o → IsMarked ledger_now.rows (with_row ledger_now.rows (suc n) (option_map sent o))
    by None e = record { messages = refl; receipts = λ r n. refl }
    by (Some row) e = record { messages = sent_same ledger_now.rows n row e; receipts = λ r m. sent_receipts r ledger_now.rows n row e m }

pub stands_marked : {K S : Type 0} (content : K → Option (List Entry)) (faults : K → ℕ) (cache_of : S → CacheMap Bytes) (old : FarmParts K S) (ledger_now : LedgerState) (number : ℕ) → ledger_now ≡ changed_at sent number old.ledger → StandsOn content faults cache_of old (record old { ledger = ledger_now })
stands_marked {K} {S} content faults cache_of old ledger_now number is start turns w s =
    let a = s.agrees in let m = marked number old.ledger in
    subst (λ (b : LedgerState). Stands content faults cache_of (record old { ledger = b }) start turns w) (sym is)
    (record {
      opened = s.opened;
      run = s.run;
      agrees = record {
        plan = a.plan;
        opened = a.opened;
        history = a.history;
        counted = a.counted;
        messages = m.messages ∙ a.messages;
        receipts = λ r n. m.receipts r n ∙ a.receipts r n;
        requests = a.requests;
        home_moment = a.home_moment;
        west_moment = a.west_moment;
        beat = a.beat;
        home = a.home;
        west = a.west;
      };
    })

pub marked_kept : {K S : Type 0} (content : K → Option (List Entry)) (cache_of : S → CacheMap Bytes) (old : FarmParts K S) (ledger_now : LedgerState) (number : ℕ) → ledger_now ≡ changed_at sent number old.ledger → IsFarm content cache_of old → IsFarm content cache_of (record old { ledger = ledger_now })
marked_kept content cache_of old ledger_now number is k = ledger_kept content cache_of old ledger_now (ap (λ (b : LedgerState). b.spare) is) k
