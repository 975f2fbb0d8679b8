-- The ledger's rows and the world's messages.
use Rattle.std.proofs.Common.{◌≡◌, ℕ, zero, suc, Bool, true, false, cond, List, [], ◌∷◌, map, Option, Some, None, refl, sym, ap, subst, ◌∙◌, arith, nat_eq}
use Rattle.std.specs.Prelude.{option_map, slice_get, slice_set}
use Rattle.std.proofs.lemmas.Bool.Decides.{nat_tests}
use Rattle.std.proofs.lemmas.Option.{slice_get-map}
use Rattle.wiki_model.specs.declared.Region.{Region}
use Rattle.wiki_model.specs.declared.Region.TheVariants.{Home, West}
use Rattle.wiki_model.specs.World as world
use Rattle.wiki_model.specs.World.{World, Event, message_at}
use Rattle.wiki_model.specs.World.Event.{Received}
use Rattle.purge_relay.specs.declared.message.Body.{Body}
use Rattle.purge_relay.specs.declared.message.Body.TheVariants.{Purge, Position}
use Rattle.purge_relay.specs.declared.ledger_row.LedgerRow.{LedgerRow}
use Rattle.purge_relay.specs.LedgerRow.{with_receipt, with_receipt_in, received_by, received_at, receipt_at, receipt_in}
use Rattle.purge_relay.specs.Ledger.{LedgerState, row_at, with_row, changed_at}
use Rattle.purge_relay.specs.AsModel.{row_message}
use Rattle.farm_core.specs.Agreement as agreed

pub message_is : (rows : List LedgerRow) (messages : List world.Message) (w : World) (n : ℕ) → map row_message rows ≡ messages → w.messages ≡ messages → message_at w n ≡ option_map row_message (row_at rows n)
message_is rows messages w zero same is = refl
message_is rows messages w (suc n) same is = ap (λ (ms : List world.Message). slice_get ms n) (is ∙ sym same) ∙ slice_get-map row_message rows n

map-set : (f : LedgerRow → world.Message) (rows : List LedgerRow) (i : ℕ) (row : LedgerRow) → slice_get rows i ≡ Some row → (other : LedgerRow) → f other ≡ f row → map f (slice_set rows i other) ≡ map f rows
map-set f [] i row at other same = refl
map-set f (x ∷ rows) zero row at other same = let e : x ≡ row = cc in ap (λ m. m ∷ map f rows) (same ∙ ap f (sym e))
map-set f (x ∷ rows) (suc i) row at other same = ap (λ ms. f x ∷ ms) (map-set f rows i row at other same)

-- a receipt leaves each message
receipt_message : (region : Region) (at : ℕ) (row : LedgerRow) → row_message (with_receipt region at row) ≡ row_message row
receipt_message Home at row = by row.message.body
  where
    by : (body : Body) → row_message (received_by body Home at row) ≡ row_message row
    by (Purge purge title issued) = refl
    by (Position client index entry stamp) = refl
receipt_message West at row = by row.message.body
  where
    by : (body : Body) → row_message (received_by body West at row) ≡ row_message row
    by (Purge purge title issued) = refl
    by (Position client index entry stamp) = refl

pub receipts_leave : (region : Region) (at number : ℕ) (ledger_now : LedgerState) → map row_message (changed_at (with_receipt region at) number ledger_now).rows ≡ map row_message ledger_now.rows
receipts_leave region at zero ledger_now = refl
receipts_leave region at (suc n) ledger_now = by (slice_get ledger_now.rows n) refl
  where
    by : (o : Option LedgerRow) → slice_get ledger_now.rows n ≡ o → map row_message (with_row ledger_now.rows (suc n) (option_map (with_receipt region at) o)) ≡ map row_message ledger_now.rows
    by None e = refl
    by (Some row) e = map-set row_message ledger_now.rows n row e (with_receipt region at row) (receipt_message region at row)

row_here : (rows : List LedgerRow) (number : ℕ) (row other : LedgerRow) → row_at rows number ≡ Some row → row_at (with_row rows number (Some other)) number ≡ Some other
row_here rows zero row other e = let no : ⊥ = cc in absurd no
row_here rows (suc n) row other e = go rows n e
  where
    go : (xs : List LedgerRow) (i : ℕ) → slice_get xs i ≡ Some row → slice_get (slice_set xs i other) i ≡ Some other
    go [] i e = let no : ⊥ = cc in absurd no
    go (x ∷ xs) zero e = refl
    go (x ∷ xs) (suc i) e = go xs i e

row_else : (rows : List LedgerRow) (number n : ℕ) (other : LedgerRow) → nat_eq n number ≡ false → row_at (with_row rows number (Some other)) n ≡ row_at rows n
row_else rows zero n other apart = refl
row_else rows (suc k) zero other apart = refl
row_else rows (suc k) (suc n) other apart = go rows k n (λ same. let no : ⊥ = grind (arith, nat_tests, apart, same) in no)
  where
    go : (xs : List LedgerRow) (i j : ℕ) → (j ≡ i → ⊥) → slice_get (slice_set xs i other) j ≡ slice_get xs j
    go [] i j differ = refl
    go (x ∷ xs) zero zero differ = absurd (differ refl)
    go (x ∷ xs) zero (suc j) differ = refl
    go (x ∷ xs) (suc i) zero differ = refl
    go (x ∷ xs) (suc i) (suc j) differ = go xs i j (λ same. differ (ap suc same))

-- the events of a region after a purge was received in a region
abbrev pub events_after : (r q : Region) → Event → List Event → List Event
events_after Home Home event events = event ∷ events
events_after West West event events = event ∷ events
events_after Home West event events = events
events_after West Home event events = events

-- the receipts after one more
pub receipts_more : (ledger_now : LedgerState) (r : Region) (at number : ℕ) (title : List ℕ) (issued : ℕ) (row : LedgerRow) → row_at ledger_now.rows number ≡ Some row → row.message.body ≡ Purge number title issued
    → (events : Region → List Event) → ((q : Region) (n : ℕ) → receipt_at q (row_at ledger_now.rows n) ≡ agreed.receipt_in (events q) n)
    → (q : Region) (n : ℕ) → receipt_at q (row_at (changed_at (with_receipt r at) number ledger_now).rows n) ≡ agreed.receipt_in (events_after r q (Received number title at) (events q)) n
receipts_more ledger_now r at number title issued row there body events all q n = by (nat_eq n number) refl
  where
    changed : (changed_at (with_receipt r at) number ledger_now).rows ≡ with_row ledger_now.rows number (Some (with_receipt r at row))
    changed = ap (λ o. with_row ledger_now.rows number (option_map (with_receipt r at) o)) there

    new_row : with_receipt r at row ≡ with_receipt_in r at row
    new_row = ap (λ b. received_by b r at row) body

    here : (q : Region) → receipt_in q (with_receipt_in r at row) ≡ agreed.receipt_in (events_after r q (Received number title at) (events q)) number
    here q = go r q (ap (receipt_at q) (sym there) ∙ all q number)
      where
        own : (nat_eq number number) ≡ true
        own = grind (arith, nat_tests)

        go : (r q : Region) → receipt_in q row ≡ agreed.receipt_in (events q) number → receipt_in q (with_receipt_in r at row) ≡ agreed.receipt_in (events_after r q (Received number title at) (events q)) number
        go Home Home old = let one : nat_eq number number ≡ true = grind (arith, nat_tests) in ap (λ o. Some (received_at o at)) old ∙ ap (λ b. cond b (Some (received_at (agreed.receipt_in (events Home) number) at)) (agreed.receipt_in (events Home) number)) (sym one)
        go West West old = let one : nat_eq number number ≡ true = grind (arith, nat_tests) in ap (λ o. Some (received_at o at)) old ∙ ap (λ b. cond b (Some (received_at (agreed.receipt_in (events West) number) at)) (agreed.receipt_in (events West) number)) (sym one)
        go Home West old = old
        go West Home old = old

    elsewhere : (r q : Region) (m : ℕ) → nat_eq number m ≡ false → agreed.receipt_in (events q) m ≡ agreed.receipt_in (events_after r q (Received number title at) (events q)) m
    elsewhere Home Home m apart = ap (λ b. cond b (Some (received_at (agreed.receipt_in (events Home) m) at)) (agreed.receipt_in (events Home) m)) (sym apart)
    elsewhere West West m apart = ap (λ b. cond b (Some (received_at (agreed.receipt_in (events West) m) at)) (agreed.receipt_in (events West) m)) (sym apart)
    elsewhere Home West m apart = refl
    elsewhere West Home m apart = refl

    by : (b : Bool) → nat_eq n number ≡ b → receipt_at q (row_at (changed_at (with_receipt r at) number ledger_now).rows n) ≡ agreed.receipt_in (events_after r q (Received number title at) (events q)) n
    by true e =
        let same : number ≡ n = grind (arith, nat_tests, e) in
        subst (λ m. receipt_at q (row_at (changed_at (with_receipt r at) number ledger_now).rows m) ≡ agreed.receipt_in (events_after r q (Received number title at) (events q)) m) same
        (ap (λ rows. receipt_at q (row_at rows number)) changed ∙ ap (receipt_at q) (row_here ledger_now.rows number row (with_receipt r at row) there) ∙ ap (receipt_in q) new_row ∙ here q)
    by false e =
        let apart : nat_eq number n ≡ false = grind (arith, nat_tests, e) in
        ap (λ rows. receipt_at q (row_at rows n)) changed ∙ ap (receipt_at q) (row_else ledger_now.rows number n (with_receipt r at row) e) ∙ all q n ∙ elsewhere r q n apart
