-- What one slot's row says of the map. A row that is a key's shows its values to that key and to no other, since keys
-- are compared by all their bytes. A call that writes one row leaves every other row of the list.
use Rattle.std.proofs.Common.{ℕ, zero, suc, ◌≡◌, ◌≢◌, ◌<◌, ◌==◌, List, [], ◌∷◌, length, set, slice_get, Bool, true, false, cond, true≢false, Option, Some, None, option_map, box_value, refl, sym, ap, ◌∙◌, arith, nat_lt, bytes_eq, eq-eqb, ne_eqb}
use mathlib.Core.Logic.{dite}
use native.Mathlib.Decide.{ℕ_discrete}
use Rattle.std.proofs.Math.ListN.{get_or}
use Rattle.std.proofs.lemmas.Bool.Decides.{nat_tests}
use Rattle.std.proofs.lemmas.Slice.Eq.{bytes_eq-Decides}
use Rattle.std.specs.Box.{with_value}
use Rattle.std.specs.Global.{Box}
use Rattle.wiki_model.specs.declared.Put.{Put}
use Rattle.wiki_model.specs.Titles.{Title}
use Rattle.wiki_model.specs.Cache.{Cached, not_below, is_held}
use Rattle.wan_value.specs.declared.Value.{Value}
use Rattle.slot_cache.specs.declared.slot_row.SlotRow.{SlotRow}
use Rattle.slot_cache.specs.SlotRow.{if_same, Stores}
use Rattle.slot_cache.specs.SlotCache.{StoresIn}

-- Lists of boxes

module _ {A : Type 0} where
  got_set : (xs : List (Box A)) (i : ℕ) (x : Box A) → i < length xs → option_map box_value (slice_get (set xs i x) i) ≡ Some x.value
  got_set [] i x h = absurd (omega arith)
  got_set (y ∷ ys) zero x h = refl
  got_set (y ∷ ys) (suc i) x h = got_set ys i x (omega arith)

  got_other : (xs : List (Box A)) (i j : ℕ) (x : Box A) → j ≢ i → option_map box_value (slice_get (set xs i x) j) ≡ option_map box_value (slice_get xs j)
  got_other [] i j x n = refl
  got_other (y ∷ ys) zero zero x n = absurd (n refl)
  got_other (y ∷ ys) zero (suc j) x n = refl
  got_other (y ∷ ys) (suc i) zero x n = refl
  got_other (y ∷ ys) (suc i) (suc j) x n = got_other ys i j x (λ e. n (ap suc e))

  got_there : (xs : List (Box A)) (i : ℕ) (x : Box A) → i < length xs → option_map box_value (slice_get xs i) ≡ Some (get_or xs i x).value
  got_there [] i x h = absurd (omega arith)
  got_there (y ∷ ys) zero x h = refl
  got_there (y ∷ ys) (suc i) x h = got_there ys i x (omega arith)

-- Numbers of slots

pub same_number : (a b : ℕ) → (a == b) ≡ true → a ≡ b
same_number a b e = dite (ℕ_discrete a b) (λ s. s) (λ n. absurd (true≢false (sym e ∙ ne_eqb a b n)))

pub other_number : (a b : ℕ) → (a == b) ≡ false → b ≢ a
other_number a b e s = true≢false (sym (eq-eqb a b (sym s)) ∙ e)

-- Keys

pub same_key : (kept key : Title) → bytes_eq kept key ≡ true → kept ≡ key
same_key kept key e = grind (arith, bytes_eq-Decides, e)

module _ {P : Type 0} where
  -- a row that is the key's shows the key what it has
  pub own_value : (kept key : Title) (place : Option (Value P)) → kept ≡ key → if_same (bytes_eq kept key) place ≡ place
  own_value kept key None e = refl
  own_value kept key (Some value) e = by (bytes_eq kept key) refl
    where
      by : (b : Bool) → bytes_eq kept key ≡ b → if_same b (Some value) ≡ Some value
      by true h = refl
      by false h = absurd (grind (arith, bytes_eq-Decides, e, h))

  -- and no other key
  pub no_value : (kept key other : Title) (place : Option (Value P)) → kept ≡ key → other ≢ key → if_same (bytes_eq kept other) place ≡ None
  no_value kept key other None e n = refl
  no_value kept key other (Some value) e n = by (bytes_eq kept other) refl
    where
      by : (b : Bool) → bytes_eq kept other ≡ b → if_same b (Some value) ≡ None
      by true h = absurd (grind (arith, bytes_eq-Decides, e, h, n))
      by false h = refl

  -- a put into one row is a put into its slot
  pub stored_in : (old : List (Box (SlotRow P))) (default : Box (SlotRow P)) (before after : SlotRow P) (slot : ℕ) (key : Title) (value : Value P) (answer : Put)
      → slot < length old → before ≡ (get_or old slot default).value → Stores before after key value answer
      → StoresIn old (set old slot (with_value (get_or old slot default) after)) slot key value answer
  stored_in old default before after slot key value answer h e s = record {
    before = before;
    after = after;
    there = got_there old slot default h ∙ ap Some (sym e);
    now_there = got_set old slot (with_value (get_or old slot default) after) h;
    stores = s;
    others = λ i n. got_other old slot i (with_value (get_or old slot default) after) n;
  }

  -- Main values and the floor

  pub not_below_same : (floor : ℕ) (o : Option (Cached P)) → not_below floor (not_below floor o) ≡ not_below floor o
  not_below_same floor None = refl
  not_below_same floor (Some v) = by (nat_lt v.set_at floor) refl
    where
      by : (b : Bool) → nat_lt v.set_at floor ≡ b → not_below floor (cond b None (Some v)) ≡ cond b None (Some v)
      by true h = refl
      by false h = rw h refl

  -- what is put while the key is free is not below the floor
  pub free_stays : (floor check : ℕ) (v : Cached P) → is_held floor check v.set_at ≡ false → not_below floor (Some v) ≡ Some v
  free_stays floor check v free = by (nat_lt v.set_at floor) refl
    where
      by : (b : Bool) → nat_lt v.set_at floor ≡ b → cond b None (Some v) ≡ Some v
      by true h = absurd (grind (arith, nat_tests, h, free))
      by false h = refl
