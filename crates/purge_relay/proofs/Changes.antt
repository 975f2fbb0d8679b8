-- A row that is changed at its place, how far the messages were sent, and that moments stay within the limit.
use Rattle.std.proofs.Common.{ℕ, zero, suc, ◌≡◌, ◌+◌, ◌-◌, ◌<◌, ◌≤◌, Bool, true, false, List, [], ◌∷◌, ◌++◌, length, length-set, Option, Some, None, option_map, refl, sym, ap, ◌∙◌, arith, subst, get_or, IfSome, nat_lt}
use Rattle.std.specs.Prelude.{slice_get, slice_set, nat_le}
use Rattle.std.proofs.lemmas.Option.{slice_get-get_or, slice_get_past}
use Rattle.std.proofs.lemmas.Bool.Decides.{nat_tests}
use borrow.Author.Count.{below_more}
use Rattle.purge_relay.specs.declared.ledger_row.LedgerRow.{LedgerRow}
use Rattle.wiki_model.specs.declared.Region.{Region}
use Rattle.wiki_model.specs.declared.Region.TheVariants.{Home, West}
use Rattle.wiki_model.specs.Limits.{greatest_moment}
use Rattle.purge_relay.specs.declared.message.Body.{Body}
use Rattle.purge_relay.specs.declared.message.Body.TheVariants.{Purge, Position}
use Rattle.purge_relay.specs.declared.ledger_row.Receipt.{Receipt}
use Rattle.purge_relay.specs.LedgerRow.{received_at, received_by, with_receipt, IsSmallReceipt, IsSmallRow}
use Rattle.purge_relay.specs.Ledger.{place_of, row_at, with_row, AreSent, IsSentTo, AreNumbered, AreSmall, unsent_in}

-- a place that was found is the one of the number
place_is : (len number place : ℕ) → Some place ≡ place_of len number → (number ≡ suc place) × (place < len)
place_is len number place found = by (nat_lt 0 number) (nat_le number len) refl refl
  where
    by : (a b : Bool) → nat_lt 0 number ≡ a → nat_le number len ≡ b → (number ≡ suc place) × (place < len)
    by true true h k =
        let f : Some place ≡ Some (number - 1) = found ∙ rw (h, k) refl in
        let p : place ≡ number - 1 = cc in
        (grind (arith, nat_tests, h, p), grind (arith, nat_tests, h, k, p))
    by true false h k = let f : Some place ≡ None = found ∙ rw (h, k) refl in absurd cc
    by false b h k = let f : Some place ≡ None = found ∙ rw h refl in absurd cc

-- the row that was read at the place of the number
pub row_found : (rows : List LedgerRow) (number place : ℕ) (row : LedgerRow) → Some place ≡ place_of (length rows) number → row ≡ get_or rows place row → row_at rows number ≡ Some row
row_found rows number place row found read =
    let is = place_is (length rows) number place found in
    ap (row_at rows) is.0 ∙ slice_get-get_or rows place row is.1 ∙ ap Some (sym read)

pub row_none : (rows : List LedgerRow) (number : ℕ) → None ≡ place_of (length rows) number → row_at rows number ≡ None
row_none rows zero none = refl
row_none rows (suc n) none = by (nat_le (suc n) (length rows)) refl
  where
    by : (b : Bool) → nat_le (suc n) (length rows) ≡ b → slice_get rows n ≡ None
    by true k =
        let h : nat_lt 0 (suc n) ≡ true = grind (arith, nat_tests) in
        let f : None ≡ Some (suc n - 1) = none ∙ rw (h, k) refl in absurd cc
    by false k = slice_get_past rows n (grind (arith, nat_tests, k))

-- what is written there
pub changed : (change : LedgerRow → LedgerRow) (rows : List LedgerRow) (number place : ℕ) (row : LedgerRow) → Some place ≡ place_of (length rows) number → row ≡ get_or rows place row
    → with_row rows number (option_map change (row_at rows number)) ≡ slice_set rows place (change row)
changed change rows number place row found read =
    let is = place_is (length rows) number place found in
    ap (λ o. with_row rows number (option_map change o)) (row_found rows number place row found read) ∙ ap (λ n. with_row rows n (Some (change row))) is.0

pub unchanged : (change : LedgerRow → LedgerRow) (rows : List LedgerRow) (number : ℕ) → None ≡ place_of (length rows) number → with_row rows number (option_map change (row_at rows number)) ≡ rows
unchanged change rows number none = ap (λ o. with_row rows number (option_map change o)) (row_none rows number none)

pub sent_more : (rows : List LedgerRow) (k : ℕ) (row : LedgerRow) → AreSent rows k → k < length rows → row ≡ get_or rows k row → row.sent ≡ true → AreSent rows (k + 1)
sent_more rows k row before l read sent = below_more (λ i. IfSome (slice_get rows i) (λ row. row.sent ≡ true)) k before
    (subst (λ o. IfSome o (λ row. row.sent ≡ true)) (sym (slice_get-get_or rows k row l ∙ ap Some (sym read))) sent)

-- the first that was not sent is the next after those that were
pub first_unsent_is : (rows : List LedgerRow) (k : ℕ) → IsSentTo rows k → slice_get (unsent_in rows) 0 ≡ slice_get rows k
first_unsent_is [] k is = refl
first_unsent_is (row ∷ rows) zero is = let e : row.sent ≡ false = is.next in rw e refl
first_unsent_is (row ∷ rows) (suc k) is =
    let e : row.sent ≡ true = is.before 0 (omega arith) in
    let l = is.within in
    let more : slice_get (unsent_in rows) 0 ≡ slice_get rows k = first_unsent_is rows k (record {
      within = omega (arith, l);
      before = λ i h. is.before (suc i) (omega (arith, h));
      next = is.next;
    }) in
    rw e more

-- a receipt at a moment within the limit keeps the row within it
small_receipt : (o : Option Receipt) (at : ℕ) → IfSome o IsSmallReceipt → at ≤ greatest_moment → IsSmallReceipt (received_at o at)
small_receipt None at small le = (le, le)
small_receipt (Some receipt) at small le = (small.0, le)

pub small_row : (region : Region) (at : ℕ) (row : LedgerRow) → IsSmallRow row → at ≤ greatest_moment → IsSmallRow (with_receipt region at row)
small_row region at row small le = by region row.message.body
  where
    by : (region : Region) (body : Body) → IsSmallRow (received_by body region at row)
    by region (Position client index entry stamp) = small
    by Home (Purge purge title issued) = record { body = small.body; home = small_receipt row.home at small.home le; west = small.west }
    by West (Purge purge title issued) = record { body = small.body; home = small.home; west = small_receipt row.west at small.west le }

-- a receipt leaves the rest of its row
pub receipt_number : (region : Region) (at : ℕ) (row : LedgerRow) → (with_receipt region at row).message.number ≡ row.message.number
receipt_number region at row = by region row.message.body
  where
    by : (region : Region) (body : Body) → (received_by body region at row).message.number ≡ row.message.number
    by region (Position client index entry stamp) = refl
    by Home (Purge purge title issued) = refl
    by West (Purge purge title issued) = refl

pub receipt_sent : (region : Region) (at : ℕ) (row : LedgerRow) → (with_receipt region at row).sent ≡ row.sent
receipt_sent region at row = by region row.message.body
  where
    by : (region : Region) (body : Body) → (received_by body region at row).sent ≡ row.sent
    by region (Position client index entry stamp) = refl
    by Home (Purge purge title issued) = refl
    by West (Purge purge title issued) = refl

-- rows of which one was changed
pub small_rows : (rows : List LedgerRow) (place : ℕ) (row : LedgerRow) → AreSmall rows → IsSmallRow row → AreSmall (slice_set rows place row)
small_rows [] place row small one i = tt
small_rows (first ∷ rows) zero row small one zero = one
small_rows (first ∷ rows) zero row small one (suc i) = small (suc i)
small_rows (first ∷ rows) (suc place) row small one zero = small zero
small_rows (first ∷ rows) (suc place) row small one (suc i) = small_rows rows place row (λ j. small (suc j)) one i

-- rows of which one was read
pub small_at : (rows : List LedgerRow) (place : ℕ) (row : LedgerRow) → AreSmall rows → place < length rows → row ≡ get_or rows place row → IsSmallRow row
small_at rows place row small l read = subst (λ o. IfSome o IsSmallRow) (slice_get-get_or rows place row l ∙ ap Some (sym read)) (small place)

-- one row more
pub small_push : (rows : List LedgerRow) (row : LedgerRow) → AreSmall rows → IsSmallRow row → AreSmall (rows ++ row ∷ [])
small_push [] row small one zero = one
small_push [] row small one (suc i) = tt
small_push (first ∷ rows) row small one zero = small zero
small_push (first ∷ rows) row small one (suc i) = small_push rows row (λ j. small (suc j)) one i

-- rows of which the one at this number was changed
pub small_changed : (change : LedgerRow → LedgerRow) (rows : List LedgerRow) (number place : ℕ) (row : LedgerRow) → Some place ≡ place_of (length rows) number → row ≡ get_or rows place row
    → AreSmall rows → (IsSmallRow row → IsSmallRow (change row)) → AreSmall (slice_set rows place (change row))
small_changed change rows number place row found read small keeps =
    let is = place_is (length rows) number place found in
    small_rows rows place (change row) small (keeps (small_at rows place row small is.1 read))

some_at : (rows : List LedgerRow) (k : ℕ) → k < length rows → (row : LedgerRow) × (slice_get rows k ≡ Some row)
some_at [] k l = absurd (omega (arith, l))
some_at (row ∷ rows) zero l = (row, refl)
some_at (row ∷ rows) (suc k) l = some_at rows k (omega (arith, l))

-- the number of the first that was not sent
pub unsent_some : (rows : List LedgerRow) (k : ℕ) → IsSentTo rows k → AreNumbered rows → k < length rows
    → Some (k + 1) ≡ option_map (λ row. row.message.number) (slice_get (unsent_in rows) 0)
unsent_some rows k is numbered l =
    let at = some_at rows k l in
    let number : at.0.message.number ≡ k + 1 = subst (λ o. IfSome o (λ row. row.message.number ≡ k + 1)) at.1 (numbered k) in
    sym (ap (option_map (λ row. row.message.number)) (first_unsent_is rows k is ∙ at.1) ∙ ap Some number)

pub unsent_none : (rows : List LedgerRow) (k : ℕ) → IsSentTo rows k → length rows ≤ k
    → None ≡ option_map (λ row. row.message.number) (slice_get (unsent_in rows) 0)
unsent_none rows k is l = sym (ap (option_map (λ row. row.message.number)) (first_unsent_is rows k is ∙ slice_get_past rows k l))

-- what holds of each row by its place, where one row is changed and it still holds of that
each_set : (Q : ℕ → LedgerRow → Type 0) (rows : List LedgerRow) (place : ℕ) (row : LedgerRow) → ((i : ℕ) → IfSome (slice_get rows i) (Q i)) → Q place row
    → (i : ℕ) → IfSome (slice_get (slice_set rows place row) i) (Q i)
each_set Q [] place row all one i = tt
each_set Q (first ∷ rows) zero row all one zero = one
each_set Q (first ∷ rows) zero row all one (suc i) = all (suc i)
each_set Q (first ∷ rows) (suc place) row all one zero = all zero
each_set Q (first ∷ rows) (suc place) row all one (suc i) = each_set (λ j. Q (suc j)) rows place row (λ j. all (suc j)) one i

each_at : (Q : ℕ → LedgerRow → Type 0) (rows : List LedgerRow) (place : ℕ) (row : LedgerRow) → ((i : ℕ) → IfSome (slice_get rows i) (Q i)) → place < length rows → row ≡ get_or rows place row
    → Q place row
each_at Q rows place row all l read = subst (λ o. IfSome o (Q place)) (slice_get-get_or rows place row l ∙ ap Some (sym read)) (all place)

-- messages keep their numbers
pub numbered_changed : (rows : List LedgerRow) (number place : ℕ) (row new : LedgerRow) → Some place ≡ place_of (length rows) number → row ≡ get_or rows place row
    → AreNumbered rows → new.message.number ≡ row.message.number → AreNumbered (slice_set rows place new)
numbered_changed rows number place row new found read numbered same =
    let is = place_is (length rows) number place found in
    each_set (λ i r. r.message.number ≡ i + 1) rows place new numbered (same ∙ each_at (λ i r. r.message.number ≡ i + 1) rows place row numbered is.1 read)

-- and whether they were sent
sent_set : (rows : List LedgerRow) (place : ℕ) (row new : LedgerRow) → slice_get rows place ≡ Some row → new.sent ≡ row.sent → (b : Bool) (i : ℕ)
    → IfSome (slice_get rows i) (λ r. r.sent ≡ b) → IfSome (slice_get (slice_set rows place new) i) (λ r. r.sent ≡ b)
sent_set [] place row new at same b i h = h
sent_set (first ∷ rows) zero row new at same b zero h = let e : first ≡ row = cc in same ∙ ap (λ (r : LedgerRow). r.sent) (sym e) ∙ h
sent_set (first ∷ rows) zero row new at same b (suc i) h = h
sent_set (first ∷ rows) (suc place) row new at same b zero h = h
sent_set (first ∷ rows) (suc place) row new at same b (suc i) h = sent_set rows place row new at same b i h

pub sent_changed : (rows : List LedgerRow) (number place : ℕ) (row new : LedgerRow) (k : ℕ) → Some place ≡ place_of (length rows) number → row ≡ get_or rows place row
    → IsSentTo rows k → new.sent ≡ row.sent → IsSentTo (slice_set rows place new) k
sent_changed rows number place row new k found read is same =
    let l = (place_is (length rows) number place found).1 in
    let at : slice_get rows place ≡ Some row = slice_get-get_or rows place row l ∙ ap Some (sym read) in
    record {
      within = let w = is.within in let e = length-set rows place new in omega (arith, w, e);
      before = λ i h. sent_set rows place row new at same true i (is.before i h);
      next = sent_set rows place row new at same false k is.next;
    }
