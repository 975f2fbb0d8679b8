-- Numbers that are read digit by digit: what was read has one digit less than its bound, so the next fits.
use Rattle.std.proofs.Common.{◌≡◌, ℕ, zero, suc, ◌^◌, ◌<◌, ◌≤◌, Bool, true, false, ◌&&◌, [], ◌∷◌, length, get_or, refl, arith}
use Rattle.std.specs.List.{list_all}
use Rattle.std.proofs.Math.Nat.{pow-le-pow_right}
use Rattle.std.proofs.lemmas.Bool.Decides.{nat_tests}
use Rattle.wiki_model.specs.Bytes.{Bytes}
use Rattle.wiki_model.specs.Titles.{is_digit}

both_true : (a b : Bool) → (a && b) ≡ true → (a ≡ true) × (b ≡ true)
both_true true true e = (refl, refl)
both_true true false e = let no : ⊥ = cc in absurd no
both_true false b e = let no : ⊥ = cc in absurd no

-- each of the bytes is a digit
pub digit_at : (text : Bytes) (i : ℕ) → i < length text → list_all is_digit text ≡ true → (48 ≤ get_or text i 0) × (get_or text i 0 ≤ 57)
digit_at [] i h all = absurd (omega (arith, h))
digit_at (c ∷ text) zero h all = let here = (both_true (is_digit c) (list_all is_digit text) all).0 in (grind (arith, nat_tests, here), grind (arith, nat_tests, here))
digit_at (c ∷ text) (suc i) h all = digit_at text i (omega (arith, h)) (both_true (is_digit c) (list_all is_digit text) all).1

-- a number of fewer than 19 digits has room for one more
pub small_enough : (n i : ℕ) → n < 10 ^ i → i < 19 → n < 1_000_000_000_000_000_000
small_enough n i h few =
    let some : 0 < 10 = omega arith in
    let le : i ≤ 18 = omega (arith, few) in
    let grows : 10 ^ i ≤ 1_000_000_000_000_000_000 = pow-le-pow_right {n = 10} some {i = i} {j = 18} le in
    omega (arith, h, grows)
