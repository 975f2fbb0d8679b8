-- A cookie's text is read as that cookie.
use Rattle.std.proofs.Common.{◌≡◌, ℕ, ◌<◌, ◌^◌, Bool, true, false, ◌==◌, nat_lt, nat_le, nat_eq, [], ◌∷◌, ◌++◌, length, Some, Ok, refl, ap, ◌∙◌, arith, rules, decimal, append_assoc}
use Rattle.std.specs.Prelude.{not, slice_index}
use Rattle.std.specs.List.{list_all}
use Rattle.std.specs.Str.Parse.{digits_value}
use Rattle.std.proofs.lemmas.Bool.Decides.{nat_tests}
use Rattle.std.proofs.lemmas.List.Folds.{list_all-append}
use Rattle.std.proofs.lemmas.Str.Parse.{IsNumeralModel, numerals_by_value}
use Rattle.std.proofs.lemmas.Fmt.{decimal_is_IsNumeral, first_decimal, decimal_nonempty, length-decimal-le}
use Rattle.wiki_model.specs.Bytes.{Bytes, cut_at}
use Rattle.wiki_model.specs.Titles.{is_digit}
use Rattle.wiki_model.specs.World.{Cookie}
use Rattle.wiki_model.specs.Cookies.{are_digits, number_in, is_index, with_marks, three_parts, cookie_of_parts, position_in, position_text, ReadsItsText}
use Rattle.farm_base.proofs.Places.{begins_one}
use Rattle.sticky_routes.proofs.Clients.{is_low_hex, both_true, client_digits}

weaker : (p q : ℕ → Bool) (text : Bytes) → ((c : ℕ) → p c ≡ true → q c ≡ true) → list_all p text ≡ true → list_all q text ≡ true
weaker p q [] each all = refl
weaker p q (c ∷ text) each all =
    let both = both_true (p c) (list_all p text) all in
    rw (each c both.0, weaker p q text each both.1) refl

abbrev is_no : (mark c : ℕ) → Bool
is_no mark c = not (nat_eq c mark)

-- a text without `%` means itself
plain : (text : Bytes) → list_all (is_no 37) text ≡ true → with_marks text ≡ text
plain [] all = refl
plain (a ∷ []) all = refl
plain (a ∷ b ∷ []) all = refl
plain (a ∷ b ∷ c ∷ text) all = other (nat_eq a 37) refl both.0 (plain (b ∷ c ∷ text) both.1)
  where
    both : (is_no 37 a ≡ true) × (list_all (is_no 37) (b ∷ c ∷ text) ≡ true)
    both = both_true (is_no 37 a) (list_all (is_no 37) (b ∷ c ∷ text)) all

    other : (t : Bool) → nat_eq a 37 ≡ t → not t ≡ true → with_marks (b ∷ c ∷ text) ≡ b ∷ c ∷ text → with_marks (a ∷ b ∷ c ∷ text) ≡ a ∷ b ∷ c ∷ text
    other true e isnt rest = let never : ⊥ = cc in absurd never
    other false e isnt rest = rw e (ap (λ (t : Bytes). a ∷ t) rest)

-- a text is cut at the first mark
cut_after : (mark : ℕ) (prefix rest : Bytes) → list_all (is_no mark) prefix ≡ true → cut_at (mark ∷ []) (prefix ++ mark ∷ rest) ≡ Some (prefix, rest)
cut_after mark [] rest all = let same : (mark == mark) ≡ true = grind (arith, nat_tests) in rw (begins_one mark mark rest, same) refl
cut_after mark (c ∷ prefix) rest all =
    let both = both_true (is_no mark c) (list_all (is_no mark) prefix) all in
    let here = both.0 in
    let other : (c == mark) ≡ false = grind (arith, nat_tests, here) in
    rw (begins_one mark c (prefix ++ mark ∷ rest), other, cut_after mark prefix rest both.1) refl

-- Decimals

own : IsNumeralModel (λ ds. list_all is_digit ds ≡ true) (digits_value 10)
own = numerals_by_value _ (search (rules, nat_tests))

decimal_digits : (n : ℕ) → n < 2 ^ 64 → list_all is_digit (decimal n) ≡ true
decimal_digits n h = own.from (decimal n) (decimal_is_IsNumeral n h).0.1

digit_is_no : (mark : ℕ) → mark < 48 → (c : ℕ) → is_digit c ≡ true → is_no mark c ≡ true
digit_is_no mark h c e = grind (arith, nat_tests, e, h)

digit_is_no_at : (c : ℕ) → is_digit c ≡ true → is_no 64 c ≡ true
digit_is_no_at c e = grind (arith, nat_tests, e)

hex_is_no : (mark : ℕ) → mark < 48 → (c : ℕ) → is_low_hex c ≡ true → is_no mark c ≡ true
hex_is_no mark h c e = grind (arith, nat_tests, e, h)

few_digits : (most n : ℕ) → 0 < most → n < 10 ^ most → n < 2 ^ 64 → are_digits most (decimal n) ≡ true
few_digits most n some small h =
    let filled : nat_lt 0 (length (decimal n)) ≡ true = let d = decimal_nonempty n h in grind (arith, nat_tests, d) in
    let few : nat_le (length (decimal n)) most ≡ true = let d = length-decimal-le most n some small h in grind (arith, nat_tests, d) in
    rw (filled, few, decimal_digits n h) refl

number_of_decimal : (n : ℕ) → n < 2 ^ 64 → number_in (decimal n) ≡ n
number_of_decimal n h = (decimal_is_IsNumeral n h).1

index_of_decimal : (n : ℕ) → 0 < n → n < 2 ^ 63 → is_index (decimal n) ≡ true
index_of_decimal n some h =
    let wide : n < 2 ^ 64 = omega arith in
    let short : n < 10 ^ 19 = omega arith in
    let first : (slice_index (decimal n) 0 == 48) ≡ false = let d = first_decimal n some wide in grind (arith, nat_tests, d) in
    let limit : nat_lt n (2 ^ 63) ≡ true = grind (arith, nat_tests, h) in
    rw (few_digits 19 n (omega arith) short wide, first, number_of_decimal n wide, limit) refl

-- The whole

regrouped : (cookie : Cookie) → position_text cookie ≡ decimal cookie.index ++ 64 ∷ (decimal cookie.seconds ++ 35 ∷ cookie.client)
regrouped cookie = append_assoc (decimal cookie.index) (64 ∷ decimal cookie.seconds) (35 ∷ cookie.client)

pub reads_its_text : ReadsItsText
reads_its_text cookie some index seconds client =
    position
  where
    wide : cookie.index < 2 ^ 64
    wide = omega arith

    long : cookie.seconds < 2 ^ 64
    long = omega arith

    no_percent : list_all (is_no 37) (decimal cookie.index ++ 64 ∷ (decimal cookie.seconds ++ 35 ∷ cookie.client)) ≡ true
    no_percent =
        list_all-append (is_no 37) (decimal cookie.index) (64 ∷ (decimal cookie.seconds ++ 35 ∷ cookie.client))
        ∙ rw (weaker is_digit (is_no 37) (decimal cookie.index) (digit_is_no 37 (omega arith)) (decimal_digits cookie.index wide))
        (list_all-append (is_no 37) (decimal cookie.seconds) (35 ∷ cookie.client)
        ∙ rw (weaker is_digit (is_no 37) (decimal cookie.seconds) (digit_is_no 37 (omega arith)) (decimal_digits cookie.seconds long))
        (weaker is_low_hex (is_no 37) cookie.client (hex_is_no 37 (omega arith)) (client_digits cookie.client client)))

    meant : with_marks (position_text cookie) ≡ decimal cookie.index ++ 64 ∷ (decimal cookie.seconds ++ 35 ∷ cookie.client)
    meant = ap with_marks (regrouped cookie) ∙ plain _ no_percent

    first : cut_at (64 ∷ []) (decimal cookie.index ++ 64 ∷ (decimal cookie.seconds ++ 35 ∷ cookie.client)) ≡ Some (decimal cookie.index, decimal cookie.seconds ++ 35 ∷ cookie.client)
    first = cut_after 64 (decimal cookie.index) (decimal cookie.seconds ++ 35 ∷ cookie.client) (weaker is_digit (is_no 64) (decimal cookie.index) digit_is_no_at (decimal_digits cookie.index wide))

    second : cut_at (35 ∷ []) (decimal cookie.seconds ++ 35 ∷ cookie.client) ≡ Some (decimal cookie.seconds, cookie.client)
    second = cut_after 35 (decimal cookie.seconds) cookie.client (weaker is_digit (is_no 35) (decimal cookie.seconds) (digit_is_no 35 (omega arith)) (decimal_digits cookie.seconds long))

    parts : three_parts (decimal cookie.index ++ 64 ∷ (decimal cookie.seconds ++ 35 ∷ cookie.client)) ≡ Some (decimal cookie.index, decimal cookie.seconds, cookie.client)
    parts = rw (first, second) refl

    position : position_in (position_text cookie) ≡ Ok cookie
    position =
        ap (λ (t : Bytes). cookie_of_parts (three_parts t)) meant ∙ ap cookie_of_parts parts
        ∙ rw (few_digits 16 cookie.seconds (omega arith) seconds long, index_of_decimal cookie.index some index, client, number_of_decimal cookie.index wide, number_of_decimal cookie.seconds long) refl
