-- `parse` refuses digits only if their value is too great for its type, and then it is no number of connections either.
use Rattle.std.proofs.Common.{◌≡◌, ℕ, ◌<◌, ◌^◌, Bool, true, false, List, length, None, Err, refl, arith, rules}
use Rattle.std.specs.List.{list_all}
use Rattle.std.specs.Str.Parse.{ParsesUnsigned, digits_value}
use Rattle.std.proofs.lemmas.Bool.Decides.{nat_tests}
use Rattle.std.proofs.lemmas.Str.Parse.{IsNumeralModel, numerals_by_value, parse_digits}
use Rattle.wiki_model.specs.Titles.{is_digit}
use Rattle.wiki_layout.specs.Options.{is_numeral, is_in_limit, count_in}

pub own : IsNumeralModel (λ ds. list_all is_digit ds ≡ true) (digits_value 10)
own = numerals_by_value _ (search (rules, nat_tests))

numeral_digits : (bs : List ℕ) → is_numeral bs ≡ true → (0 < length bs) × (list_all is_digit bs ≡ true)
numeral_digits bs t = (grind (arith, nat_tests), grind (arith, nat_tests))

-- what `parse` refuses is no number of connections
pub count_refused : {E : Type 0} (bs : List ℕ) (e : E) → ParsesUnsigned 64 10 bs (Err e) → is_numeral bs ≡ true
    → count_in bs ≡ None
unfolding count_in
count_refused bs e h t =
    let d = numeral_digits bs t in
    let refuses = parse_digits own 64 bs (Err e) h d.1 in
    let big : is_in_limit (digits_value 10 bs) ≡ false =
    below_limit refuses d.0 (is_in_limit (digits_value 10 bs)) refl in
    rw (t, big) refl
  where
    below_limit : ¬ ((0 < length bs) × (digits_value 10 bs < 2 ^ 64)) → 0 < length bs → (b : Bool)
        → is_in_limit (digits_value 10 bs) ≡ b → b ≡ false
    below_limit refuses filled false q = refl
    below_limit refuses filled true q = absurd (refuses (filled, grind (arith, nat_tests)))
