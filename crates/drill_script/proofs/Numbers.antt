-- What `parse` says of a number as the script writes it.
use Rattle.std.proofs.Common.{◌≡◌, ℕ, ◌<◌, ◌^◌, Bool, true, false, nat_le, List, length, None, Err, refl, arith, rules}
use Rattle.std.specs.List.{list_all}
use Rattle.std.specs.Str.Parse.{ParsesUnsigned, digits_value}
use Rattle.std.proofs.lemmas.Bool.Decides.{nat_tests}
use Rattle.std.proofs.lemmas.Str.Parse.{IsNumeralModel, numerals_by_value, parse_digits}
use Rattle.wiki_model.specs.Titles.{is_digit}
use Rattle.drill_script.specs.Words.{is_number, number_of}

pub own : IsNumeralModel (λ ds. list_all is_digit ds ≡ true) (digits_value 10)
own = numerals_by_value _ (search (rules, nat_tests))

number_digits : (bs : List ℕ) → is_number bs ≡ true → (0 < length bs) × (list_all is_digit bs ≡ true)
number_digits bs t = (grind (arith, nat_tests), grind (arith, nat_tests))

-- what `parse` refuses is above each limit of 64 bits
pub number_refused : {E : Type 0} (most : ℕ) (bs : List ℕ) (e : E) → most < 2 ^ 64 → ParsesUnsigned 64 10 bs (Err e) → is_number bs ≡ true → number_of most bs ≡ None
unfolding number_of
number_refused most bs e fits h t =
    let d = number_digits bs t in
    let refuses = parse_digits own 64 bs (Err e) h d.1 in
    let big : nat_le (digits_value 10 bs) most ≡ false = below_limit refuses d.0 (nat_le (digits_value 10 bs) most) refl in
    rw (t, big)
  where
    below_limit : ¬ ((0 < length bs) × (digits_value 10 bs < 2 ^ 64)) → 0 < length bs → (b : Bool) → nat_le (digits_value 10 bs) most ≡ b → b ≡ false
    below_limit refuses filled false q = refl
    below_limit refuses filled true q = absurd (refuses (filled, grind (arith, nat_tests)))
