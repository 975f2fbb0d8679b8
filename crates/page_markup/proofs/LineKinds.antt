-- What a line is: the spaces at its ends, the signs of a heading, and the tests in their order.
use Rattle.std.proofs.Common.{zero, suc, [], ◌∷◌, ◌++◌, length, take, drop, reverse, ◌≡◌, ℕ, ◌≤◌, ◌<◌, ◌+◌, ◌-◌, Bool, true, false, refl, arith, ap, sym, ◌∙◌, get_or, nat_eq, nat_lt, subst}
use Rattle.std.specs.Prelude.{not, ◌==◌, ◌&&◌, codes, ◌≢◌}
use Rattle.std.specs.List.{list_all}
use Rattle.std.specs.Str.{IsUtf8, IsCharBoundary}
use Rattle.std.proofs.lemmas.Bool.Decides.{nat_tests}
use Rattle.std.proofs.lemmas.List.{length-reverse, reverse-reverse, reverse-append, get_or-reverse, drop_all}
use Rattle.std.proofs.lemmas.Str.{IsCharBoundary-before_ascii, IsCharBoundary-after_ascii}
use Rattle.std.proofs.Math.Seq.{drop-cons}
use Rattle.wiki_model.specs.Bytes.{Bytes, begins, space, run_of, trimmed, skip_spaces, is_empty}
use Rattle.wiki_model.specs.Html.{Blank, HeadingLine, ItemLine, PlainLine, heading_level, is_heading, middle_of, line_of}
use Rattle.page_markup.proofs.Cuts.{begins_one}

skip_none_by : (c : ℕ) (s : Bytes) (b : Bool) → nat_eq c 32 ≡ b → ((t : Bytes) → c ∷ s ≢ space ∷ t) → skip_spaces (c ∷ s) ≡ c ∷ s
skip_none_by c s true e h = let same : c ≡ 32 = grind (arith, nat_tests) in absurd (h s (ap (λ x. x ∷ s) same))
skip_none_by c s false e h = rw e refl

pub skip_none : (s : Bytes) → ((t : Bytes) → s ≢ space ∷ t) → skip_spaces s ≡ s
skip_none [] h = refl
skip_none (c ∷ s) h = skip_none_by c s (nat_eq c 32) refl h

pub back_none : (s : Bytes) → ((t : Bytes) → s ≢ t ++ (space ∷ [])) → reverse (skip_spaces (reverse s)) ≡ s
back_none s h =
    ap reverse (skip_none (reverse s) (λ t e. h (reverse t) (sym (reverse-reverse s) ∙ ap reverse e ∙ reverse-append (space ∷ []) t)))
    ∙ reverse-reverse s

-- signs
run_by : (x : ℕ) (t : Bytes) (b : Bool) → nat_eq x 61 ≡ b → x ≡ 61 → run_of 61 (x ∷ t) ≡ run_of 61 t + 1
run_by x t true e h = rw e refl
run_by x t false e h = let no : ⊥ = grind (arith, nat_tests) in absurd no

pub run_on : (s : Bytes) (i : ℕ) → i < length s → get_or s i 0 ≡ 61 → run_of 61 (drop i s) ≡ run_of 61 (drop (i + 1) s) + 1
run_on s i l e =
    ap (run_of 61) (drop-cons s i 0 l) ∙ run_by (get_or s i 0) (drop (suc i) s) (nat_eq (get_or s i 0) 61) refl e
    ∙ ap (λ k. run_of 61 (drop k s) + 1) (let z : suc i ≡ i + 1 = omega arith in z)

stop_by : (x : ℕ) (t : Bytes) (b : Bool) → nat_eq x 61 ≡ b → (x ≡ 61 → ⊥) → run_of 61 (x ∷ t) ≡ 0
stop_by x t true e h = let same : x ≡ 61 = grind (arith, nat_tests) in absurd (h same)
stop_by x t false e h = rw e refl

pub run_stops : (s : Bytes) (i : ℕ) → i < length s → (get_or s i 0 ≡ 61 → ⊥) → run_of 61 (drop i s) ≡ 0
run_stops s i l h = ap (run_of 61) (drop-cons s i 0 l) ∙ stop_by (get_or s i 0) (drop (suc i) s) (nat_eq (get_or s i 0) 61) refl h

pub run_ends : (s : Bytes) (i : ℕ) → length s ≤ i → run_of 61 (drop i s) ≡ 0
run_ends s i l = ap (run_of 61) (drop_all i s l)

inside_by : (x : ℕ) (t : Bytes) (k : ℕ) (b : Bool) → nat_eq x 61 ≡ b → ((j : ℕ) → j < run_of 61 t → get_or t j 0 ≡ 61) → k < run_of 61 (x ∷ t) → get_or (x ∷ t) k 0 ≡ 61
inside_by x t k false e ih l = let z : run_of 61 (x ∷ t) ≡ 0 = rw e refl in let no : ⊥ = omega (arith, l, z) in absurd no
inside_by x t zero true e ih l = grind (arith, nat_tests)
inside_by x t (suc k) true e ih l = let z : run_of 61 (x ∷ t) ≡ run_of 61 t + 1 = rw e refl in ih k (omega (arith, l, z))

pub in_run : (s : Bytes) (k : ℕ) → k < run_of 61 s → get_or s k 0 ≡ 61
in_run [] k l = let no : ⊥ = omega (arith, l) in absurd no
in_run (x ∷ t) k l = inside_by x t k (nat_eq x 61) refl (in_run t) l

run_within_by : (x : ℕ) (t : Bytes) (b : Bool) → nat_eq x 61 ≡ b → run_of 61 t ≤ length t → run_of 61 (x ∷ t) ≤ length (x ∷ t)
run_within_by x t true e h = let z : run_of 61 (x ∷ t) ≡ run_of 61 t + 1 = rw e refl in omega (arith, z, h)
run_within_by x t false e h = let z : run_of 61 (x ∷ t) ≡ 0 = rw e refl in omega (arith, z)

run_within : (s : Bytes) → run_of 61 s ≤ length s
run_within [] = omega arith
run_within (x ∷ t) = run_within_by x t (nat_eq x 61) refl (run_within t)

-- the same from the end
from_end : (s : Bytes) (i k : ℕ) → i < length s → k ≡ length s - 1 - i → get_or (reverse s) i 0 ≡ get_or s k 0
from_end s i k l e = get_or-reverse s i 0 l ∙ ap (λ j. get_or s j 0) (sym e)

pub end_on : (s : Bytes) (i : ℕ) → i < length s → get_or s (length s - 1 - i) 0 ≡ 61 → run_of 61 (drop i (reverse s)) ≡ run_of 61 (drop (i + 1) (reverse s)) + 1
end_on s i l e = run_on (reverse s) i (omega (arith, l, length-reverse s)) (from_end s i (length s - 1 - i) l refl ∙ e)

pub end_stops : (s : Bytes) (i : ℕ) → i < length s → (get_or s (length s - 1 - i) 0 ≡ 61 → ⊥) → run_of 61 (drop i (reverse s)) ≡ 0
end_stops s i l h = run_stops (reverse s) i (omega (arith, l, length-reverse s)) (λ e. h (sym (from_end s i (length s - 1 - i) l refl) ∙ e))

pub end_ends : (s : Bytes) (i : ℕ) → length s ≤ i → run_of 61 (drop i (reverse s)) ≡ 0
end_ends s i l = run_ends (reverse s) i (omega (arith, l, length-reverse s))

pub cut_prefix : (line : Bytes) (level : ℕ) → IsUtf8 line → level ≡ heading_level line → 0 < level → IsCharBoundary line level
cut_prefix line level u e some =
    let l : level - 1 < run_of 61 line = omega (arith, e, some) in
    let w = run_within line in
    let sign : get_or line (level - 1) 0 ≡ 61 = in_run line (level - 1) l in
    subst (IsCharBoundary line) (let z : level - 1 + 1 ≡ level = omega (arith, some) in z) (IsCharBoundary-after_ascii line (level - 1) u (omega (arith, l, w)) (omega (arith, sign)))

pub cut_end : (line : Bytes) (level : ℕ) → level ≡ heading_level line → 0 < level → IsCharBoundary line (length line - level)
cut_end line level e some =
    let l : level - 1 < run_of 61 (reverse line) = omega (arith, e, some) in
    let w = run_within (reverse line) in
    let len : length (reverse line) ≡ length line = length-reverse line in
    let sign : get_or (reverse line) (level - 1) 0 ≡ 61 = in_run (reverse line) (level - 1) l in
    let there : get_or line (length line - 1 - (level - 1)) 0 ≡ 61 = sym (get_or-reverse line (level - 1) 0 (omega (arith, l, w, len))) ∙ sign in
    let place : get_or line (length line - level) 0 ≡ 61 = ap (λ k. get_or line k 0) (let z : length line - level ≡ length line - 1 - (level - 1) = omega (arith, some, l, w, len) in z) ∙ there in
    IsCharBoundary-before_ascii line (length line - level) (omega (arith, some, l, w, len)) (omega (arith, place))

pub no_middle : (line : Bytes) (level : ℕ) → length line ≤ level + level → [] ≡ middle_of level line
no_middle line level h = ap (λ k. trimmed (take k (drop level line))) (let z : 0 ≡ length line - (level + level) = omega (arith, h) in z)

pub some_middle : (line : Bytes) (level : ℕ) → trimmed (take (length line - level - level) (drop level line)) ≡ middle_of level line
some_middle line level = ap (λ k. trimmed (take k (drop level line))) (let z : length line - level - level ≡ length line - (level + level) = omega arith in z)

-- the tests of a heading, in their order
abbrev heading_by : Bool → Bool → Bool → Bool
heading_by a b c = a && not b && not c

none_second : (a c : Bool) → heading_by a true c ≡ false
none_second true c = refl
none_second false c = refl

none_third : (a b : Bool) → heading_by a b true ≡ false
none_third true true = refl
none_third true false = refl
none_third false b = refl

abbrev pub signs_only : Bytes → Bool
signs_only line = list_all (λ c. c == 61) line

abbrev pub middle_empty : Bytes → Bool
middle_empty line = is_empty (middle_of (heading_level line) line)

pub no_level : (line : Bytes) → heading_level line ≡ 0 → is_heading line ≡ false
no_level line e =
    let z : nat_lt 0 (heading_level line) ≡ false = grind (arith, nat_tests) in
    ap (λ a. heading_by a (signs_only line) (middle_empty line)) z

pub all_signs : (line : Bytes) → list_all (λ c. c == 61) line ≡ true → is_heading line ≡ false
all_signs line e = ap (λ b. heading_by (nat_lt 0 (heading_level line)) b (middle_empty line)) e ∙ none_second (nat_lt 0 (heading_level line)) (middle_empty line)

pub empty_of : (t : Bytes) → length t ≡ 0 → is_empty t ≡ true
empty_of [] e = refl
empty_of (c ∷ t) e = let no : ⊥ = omega (arith, e) in absurd no

pub filled_of : (t : Bytes) → 0 < length t → is_empty t ≡ false
filled_of [] h = let no : ⊥ = omega (arith, h) in absurd no
filled_of (c ∷ t) h = refl

pub empty_middle : (line m : Bytes) (n : ℕ) → n ≡ heading_level line → m ≡ middle_of n line → length m ≡ 0 → is_heading line ≡ false
empty_middle line m n l e h =
    let z : middle_empty line ≡ true = ap (λ k. is_empty (middle_of k line)) (sym l) ∙ ap is_empty (sym e) ∙ empty_of m h in
    ap (heading_by (nat_lt 0 (heading_level line)) (signs_only line)) z ∙ none_third (nat_lt 0 (heading_level line)) (signs_only line)

pub heading_is : (line m : Bytes) (n : ℕ) → n ≡ heading_level line → 0 < n → list_all (λ c. c == 61) line ≡ false → m ≡ middle_of n line → 0 < length m → is_heading line ≡ true
heading_is line m n l p s e h =
    let z : middle_empty line ≡ false = ap (λ k. is_empty (middle_of k line)) (sym l) ∙ ap is_empty (sym e) ∙ filled_of m h in
    let y : nat_lt 0 (heading_level line) ≡ true = grind (arith, nat_tests) in
    ap (λ a. heading_by a (signs_only line) (middle_empty line)) y ∙ ap (λ b. heading_by true b (middle_empty line)) s ∙ ap (heading_by true false) z

-- the tests of a line
pub blank_line : (line : Bytes) → list_all (λ c. c == space) line ≡ true → line_of line ≡ Blank
blank_line line e = rw e refl

pub heading_line : (line m : Bytes) (n : ℕ) → list_all (λ c. c == space) line ≡ false → is_heading line ≡ true → n ≡ heading_level line → m ≡ middle_of (heading_level line) line → line_of line ≡ HeadingLine n m
heading_line line m n e h l s =
    let z : line_of line ≡ HeadingLine (heading_level line) (middle_of (heading_level line) line) = rw (e, h) refl in
    z ∙ ap (λ k. HeadingLine k (middle_of (heading_level line) line)) (sym l) ∙ ap (HeadingLine n) (sym s)

stars : (line rest : Bytes) → line ≡ 42 ∷ rest → begins (codes "*") line ≡ true
stars line rest e = ap (begins (codes "*")) e

pub item_line : (line rest : Bytes) → list_all (λ c. c == space) line ≡ false → is_heading line ≡ false → line ≡ 42 ∷ rest → line_of line ≡ ItemLine (trimmed rest)
item_line line rest e h s =
    let z : line_of line ≡ ItemLine (trimmed (drop 1 line)) = rw (e, h, stars line rest s) refl in
    z ∙ ap (λ t. ItemLine (trimmed (drop 1 t))) s

no_star_by : (c : ℕ) (s : Bytes) (b : Bool) → nat_eq 42 c ≡ b → ((t : Bytes) → c ∷ s ≢ 42 ∷ t) → begins (codes "*") (c ∷ s) ≡ false
no_star_by c s true e h = let same : c ≡ 42 = grind (arith, nat_tests) in absurd (h s (ap (λ x. x ∷ s) same))
no_star_by c s false e h = begins_one 42 c s false e

no_star : (line : Bytes) → ((t : Bytes) → line ≢ 42 ∷ t) → begins (codes "*") line ≡ false
no_star [] h = refl
no_star (c ∷ s) h = no_star_by c s (nat_eq 42 c) refl h

pub plain_line : (line : Bytes) → list_all (λ c. c == space) line ≡ false → is_heading line ≡ false → ((t : Bytes) → line ≢ 42 ∷ t) → line_of line ≡ PlainLine line
plain_line line e h s = rw (e, h, no_star line s) refl
