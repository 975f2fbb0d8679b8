-- The ledger agrees with the world as messages are issued.
use Rattle.std.proofs.Common.{◌≡◌, ℕ, zero, suc, ◌+◌, false, List, [], ◌∷◌, ◌++◌, length, map, Some, None, refl, sym, ap, subst, ◌∙◌, arith}
use Rattle.std.specs.Prelude.{slice_get}
use Rattle.std.proofs.lemmas.List.{map-append}
use Rattle.wiki_model.specs.declared.Region.{Region}
use Rattle.wiki_model.specs.declared.Region.TheVariants.{Home, West}
use Rattle.wiki_model.specs.World as world
use Rattle.wiki_model.specs.World.{World, site, moment, with_message}
use Rattle.wiki_model.specs.World.Event.{Received}
use Rattle.wiki_model.specs.Steps.{purged, next_message}
use Rattle.purge_relay.specs.declared.message.Body.{Body}
use Rattle.purge_relay.specs.declared.message.Body.TheVariants.{Purge}
use Rattle.purge_relay.specs.declared.ledger_row.LedgerRow.{LedgerRow}
use Rattle.purge_relay.specs.LedgerRow.{new_row, with_receipt, receipt_at}
use Rattle.purge_relay.specs.Ledger.{LedgerState, row_at, changed_at}
use Rattle.purge_relay.specs.AsModel.{body_of}
use Rattle.purge_relay.specs.AsModel.{row_message}
use Rattle.farm_core.specs.Agreement as agreed
use Rattle.farm_core.proofs.Ledgers.{receipts_leave, receipts_more, events_after}

pub record LedgerAgrees (rows : List LedgerRow) (w : World) : Type 0 where
  pub messages : map row_message rows ≡ w.messages
  pub receipts : (r : Region) (n : ℕ) → receipt_at r (row_at rows n) ≡ agreed.receipt_in (site r w).events n

-- one row more, at its number and elsewhere

get_last : (rows : List LedgerRow) (row : LedgerRow) → slice_get (rows ++ row ∷ []) (length rows) ≡ Some row
get_last [] row = refl
get_last (x ∷ rows) row = get_last rows row

pub last_row : (rows : List LedgerRow) (row : LedgerRow) → row_at (rows ++ row ∷ []) (length rows + 1) ≡ Some row
last_row rows row = let same : suc (length rows) ≡ length rows + 1 = omega arith in subst (λ n. row_at (rows ++ row ∷ []) n ≡ Some row) same (get_last rows row)

empty_receipt : (r : Region) (number : ℕ) (body : Body) → receipt_at r (Some (new_row number body)) ≡ None
empty_receipt Home number body = refl
empty_receipt West number body = refl

append_receipt : (r : Region) (rows : List LedgerRow) (number : ℕ) (body : Body) (i : ℕ) → receipt_at r (slice_get (rows ++ new_row number body ∷ []) i) ≡ receipt_at r (slice_get rows i)
append_receipt r [] number body zero = empty_receipt r number body
append_receipt r [] number body (suc i) = refl
append_receipt r (x ∷ rows) number body zero = refl
append_receipt r (x ∷ rows) number body (suc i) = append_receipt r rows number body i

append_receipts : (r : Region) (rows : List LedgerRow) (number : ℕ) (body : Body) (n : ℕ) → receipt_at r (row_at (rows ++ new_row number body ∷ []) n) ≡ receipt_at r (row_at rows n)
append_receipts r rows number body zero = refl
append_receipts r rows number body (suc n) = append_receipt r rows number body n

length_map : (rows : List LedgerRow) → length (map row_message rows) ≡ length rows
length_map [] = refl
length_map (x ∷ rows) = ap suc (length_map rows)

-- a message is issued, and nothing happens to a cache
pub issued : (rows : List LedgerRow) (body : Body) (v w : World) → LedgerAgrees rows v → w.messages ≡ v.messages ++ (let m : world.Message = record { body = body_of body; dropped = false } in m) ∷ [] → ((r : Region) → (site r w).events ≡ (site r v).events)
    → LedgerAgrees (rows ++ new_row (length rows + 1) body ∷ []) w
issued rows body v w a messages events = record {
  messages = map-append row_message rows (new_row (length rows + 1) body ∷ []) ∙ ap (λ ms. ms ++ (let m : world.Message = record { body = body_of body; dropped = false } in m) ∷ []) a.messages ∙ sym messages;
  receipts = λ r n. append_receipts r rows (length rows + 1) body n ∙ a.receipts r n ∙ ap (λ es. agreed.receipt_in es n) (sym (events r));
}

pub number_is : (rows : List LedgerRow) (w : World) → map row_message rows ≡ w.messages → length rows + 1 ≡ next_message w
number_is rows w same = ap (λ n. n + 1) (sym (length_map rows) ∙ ap length same)

-- a purge is issued, and home receives it at once
pub purge_issued : (old new : LedgerState) (title : List ℕ) (v w : World) → LedgerAgrees old.rows v
    → new.rows ≡ (changed_at (with_receipt Home (moment Home v)) (length old.rows + 1) (let b : LedgerState = record { rows = old.rows ++ new_row (length old.rows + 1) (Purge (length old.rows + 1) title (moment Home v)) ∷ []; spare = new.spare } in b)).rows
    → w.messages ≡ (purged title v).messages → w.home.events ≡ (purged title v).home.events → w.west.events ≡ v.west.events → LedgerAgrees new.rows w
purge_issued old new title v w a rows messages home west =
    let n = length old.rows + 1 in
    let body = Purge n title (moment Home v) in
    let u : World = with_message (body_of body) v in
    let first : LedgerAgrees (old.rows ++ new_row n body ∷ []) u = issued old.rows body v u a refl same_events in
    let mid : LedgerState = record { rows = old.rows ++ new_row n body ∷ []; spare = new.spare } in
    let number = number_is old.rows v a.messages in
    subst (λ rs. LedgerAgrees rs w) (sym rows) (record {
      messages = receipts_leave Home (moment Home v) n mid ∙ first.messages ∙ ap (λ k. v.messages ++ (let m : world.Message = record { body = world.Purge k title (moment Home v); dropped = false } in m) ∷ []) number ∙ sym messages;
      receipts = λ r m. receipts_more mid Home (moment Home v) n title (moment Home v) (new_row n body) (last_row old.rows (new_row n body)) refl (λ q. (site q v).events) (λ q k. first.receipts q k ∙ ap (λ es. agreed.receipt_in es k) (same_events q)) r m ∙ after r m number;
    })
  where
    same_events : (r : Region) → (site r (with_message (body_of (Purge (length old.rows + 1) title (moment Home v))) v)).events ≡ (site r v).events
    same_events Home = refl
    same_events West = refl

    after : (r : Region) (m : ℕ) → length old.rows + 1 ≡ next_message v → agreed.receipt_in (events_after Home r (Received (length old.rows + 1) title (moment Home v)) (site r v).events) m ≡ agreed.receipt_in (site r w).events m
    after Home m number = ap (λ k. agreed.receipt_in (Received k title (moment Home v) ∷ v.home.events) m) number ∙ ap (λ es. agreed.receipt_in es m) (sym home)
    after West m number = ap (λ es. agreed.receipt_in es m) (sym west)
