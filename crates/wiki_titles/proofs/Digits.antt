-- Digits in base 16, written from the last to the first; they are a client.
use Rattle.std.proofs.Common.{◌≡◌, ℕ, zero, suc, ◌+◌, ◌-◌, ◌/◌, ◌%◌, ◌<◌, Bool, true, ◌||◌, IsTrue, List, [], ◌∷◌, ◌++◌, length, drop, slice_set, append_assoc, refl, sym, ◌∙◌, arith, length-append}
use Rattle.std.specs.List.{list_all}
use Rattle.std.proofs.lemmas.List.Folds.{list_all-append}
use Rattle.std.proofs.lemmas.Bool.Decides.{nat_tests}
use Rattle.wiki_model.specs.Script.{hex, low_hex}
use Rattle.wiki_model.specs.Titles.{is_digit, in_range, is_client}

drop_set : (digits : List ℕ) (m v : ℕ) → m < length digits → drop m (slice_set digits m v) ≡ v ∷ drop (suc m) digits
drop_set [] m v h = let none : ⊥ = omega (arith, h) in absurd none
drop_set (d ∷ digits) zero v h = refl
drop_set (d ∷ digits) (suc m) v h = drop_set digits m v (omega (arith, h))

hex_one : (m n v : ℕ) (digits : List ℕ) → m < length digits → v ≡ low_hex (n % 16) → hex m (n / 16) ++ drop m (slice_set digits m v) ≡ hex (suc m) n ++ drop (suc m) digits
hex_one m n v digits h e = rw (drop_set digits m v h, e) (sym (append_assoc (hex m (n / 16)) (low_hex (n % 16) ∷ []) (drop (suc m) digits)))

-- one more digit in front of those that are written
pub hex_more : (count i n v : ℕ) (digits : List ℕ) → length digits ≡ count → i < count → v ≡ low_hex (n % 16) → hex (count - (i + 1)) (n / 16) ++ drop (count - (i + 1)) (slice_set digits (count - 1 - i) v) ≡ hex (count - i) n ++ drop (count - i) digits
hex_more count i n v digits room inside e =
    let next : count - i ≡ suc (count - (i + 1)) = omega (arith, inside) in
    let place : count - 1 - i ≡ count - (i + 1) = omega (arith, inside) in
    rw (next, place) (hex_one (count - (i + 1)) n v digits (omega (arith, room, inside)) e)

abbrev is_low_hex : ℕ → Bool
is_low_hex c = is_digit c || in_range 97 102 c

low_hex_passes : (n : ℕ) → n < 16 → is_low_hex (low_hex n) ≡ true
low_hex_passes n h = grind (arith, nat_tests)

hex_long : (count n : ℕ) → length (hex count n) ≡ count
hex_long zero n = refl
hex_long (suc count) n = length-append (hex count (n / 16)) (low_hex (n % 16) ∷ []) ∙ (let ih = hex_long count (n / 16) in omega (arith, ih))

hex_all : (count n : ℕ) → list_all is_low_hex (hex count n) ≡ true
hex_all zero n = refl
hex_all (suc count) n = list_all-append is_low_hex (hex count (n / 16)) (low_hex (n % 16) ∷ []) ∙ rw (hex_all count (n / 16), low_hex_passes (n % 16) (omega arith)) refl

by_count : (count n : ℕ) → count ≡ 32 → IsTrue (is_client (hex count n))
by_count count n e = rw (hex_long count n, hex_all count n, e) refl

pub hex_is_client : (n : ℕ) → IsTrue (is_client (hex 32 n))
hex_is_client n = by_count 32 n refl
