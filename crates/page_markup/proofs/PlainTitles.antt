-- The title of a template whose name is of bytes and digits.
use Rattle.std.proofs.Common.{suc, [], ◌∷◌, ◌++◌, List, length, drop, ◌≡◌, ℕ, ◌≤◌, ◌<◌, ◌+◌, ◌-◌, Bool, true, false, refl, arith, ap, sym, ◌∙◌, Some, None, nat_eq, nat_lt, nat_le, get_or, cond}
use Rattle.std.specs.Prelude.{not, filter, ◌&&◌, position, option_and_then, if◌then◌else◌}
use Rattle.std.specs.List.{join_with_byte, list_all, position_or_len}
use Rattle.std.proofs.lemmas.Bool.Decides.{nat_tests}
use Rattle.wiki_model.specs.Bytes.{Bytes, space, is_empty, pieces, in_first, replaced, skip_spaces}
use Rattle.wiki_model.specs.Titles.{title_of, title_text, with_class, has_no_name, is_bad, in_range, raised, template_prefix}
use Rattle.wiki_model.specs.Html.{ok_of, if_template, template_named}
use Rattle.page_markup.specs.Names.{is_word, is_plain}

both_first : (a b : Bool) → a && b ≡ true → a ≡ true
both_first true b e = refl
both_first false b e = let no : ⊥ = cc in absurd no

both_second : (a b : Bool) → a && b ≡ true → b ≡ true
both_second true b e = e
both_second false b e = let no : ⊥ = cc in absurd no

other_by : (c k : ℕ) (b : Bool) → nat_eq c k ≡ b → is_word c ≡ true → is_word k ≡ false → nat_eq c k ≡ false
other_by c k true e h n = let same : c ≡ k = grind (arith, nat_tests) in let no : ⊥ = (let z : is_word k ≡ true = ap is_word (sym same) ∙ h in cc) in absurd no
other_by c k false e h n = e

other : (c k : ℕ) → is_word c ≡ true → is_word k ≡ false → nat_eq c k ≡ false
other c k h n = other_by c k (nat_eq c k) refl h n

turned : (a b : ℕ) → nat_eq a b ≡ false → nat_eq b a ≡ false
turned a b e = grind (arith, nat_tests)

-- no underscore and no space
no_underscore : (s : Bytes) → list_all is_word s ≡ true → replaced 95 32 s ≡ s
no_underscore [] h = refl
no_underscore (c ∷ s) h =
    rw (other c 95 (both_first (is_word c) (list_all is_word s) h) refl) (ap (λ t. c ∷ t) (no_underscore s (both_second (is_word c) (list_all is_word s) h)))

one_piece : (s : Bytes) → list_all is_word s ≡ true → pieces 32 s ≡ s ∷ []
one_piece [] h = refl
one_piece (c ∷ s) h =
    rw (other c 32 (both_first (is_word c) (list_all is_word s) h) refl) (ap (in_first c) (one_piece s (both_second (is_word c) (list_all is_word s) h)))

no_space : (c : ℕ) (s : Bytes) → is_word c ≡ true → skip_spaces (c ∷ s) ≡ c ∷ s
no_space c s h = rw (other c 32 h refl) refl

-- no byte that no title has
least : (c : ℕ) → is_word c ≡ true → nat_lt c 32 ≡ false
least c h = by (nat_lt c 32) refl where
  by : (b : Bool) → nat_lt c 32 ≡ b → nat_lt c 32 ≡ false
  by false e = e
  by true e =
      let low : c < 48 = grind (arith, nat_tests) in
      let letter : nat_le 65 c ≡ false = grind (arith, nat_tests) in
      let small : nat_le 97 c ≡ false = grind (arith, nat_tests) in
      let digit : nat_le 48 c ≡ false = grind (arith, nat_tests) in
      let none : is_word c ≡ false = rw (letter, small, digit) refl in
      let no : ⊥ = cc in absurd no

good : (c : ℕ) → is_word c ≡ true → is_bad c ≡ false
good c h =
    rw (
      least c h,
      other c 127 h refl,
      turned c 35 (other c 35 h refl),
      turned c 60 (other c 60 h refl),
      turned c 62 (other c 62 h refl),
      turned c 91 (other c 91 h refl),
      turned c 93 (other c 93 h refl),
      turned c 124 (other c 124 h refl),
      turned c 123 (other c 123 h refl),
      turned c 125 (other c 125 h refl),
    ) refl

no_bad : (s : Bytes) → list_all is_word s ≡ true → position_or_len is_bad s ≡ length s
no_bad [] h = refl
no_bad (c ∷ s) h =
    let i : position_or_len is_bad s ≡ length s = no_bad s (both_second (is_word c) (list_all is_word s) h) in
    rw (good c (both_first (is_word c) (list_all is_word s) h)) (let z : 1 + position_or_len is_bad s ≡ suc (length s) = omega (arith, i) in z)

all_good : (s : Bytes) → list_all is_word s ≡ true → position is_bad (template_prefix ++ s) ≡ None
all_good s h =
    let n : position_or_len is_bad (template_prefix ++ s) ≡ length (template_prefix ++ s) =
    (let i : position_or_len is_bad s ≡ length s = no_bad s h in
    let z : 1 + (1 + (1 + (1 + (1 + (1 + (1 + (1 + (1 + position_or_len is_bad s)))))))) ≡ length (template_prefix ++ s) = omega (arith, i) in z) in
    let past : nat_lt (position_or_len is_bad (template_prefix ++ s)) (length (template_prefix ++ s)) ≡ false = grind (arith, nat_tests, n) in
    ap (λ t. cond t (Some (position_or_len is_bad (template_prefix ++ s))) None) past

-- the title
abbrev pub titled : List Bytes → Bytes
titled words = with_class (raised (join_with_byte space (filter (λ word. not (is_empty word)) words)))

plain_text : (c : ℕ) (s : Bytes) → list_all is_word (c ∷ s) ≡ true → title_text (template_prefix ++ (c ∷ s)) ≡ template_prefix ++ raised (c ∷ s)
plain_text c s h =
    let t = c ∷ s in
    let whole : replaced 95 32 (template_prefix ++ t) ≡ template_prefix ++ t = ap (λ u. template_prefix ++ u) (no_underscore t h) in
    let piece : pieces 32 (template_prefix ++ t) ≡ (template_prefix ++ t) ∷ [] =
    ap (λ ps. in_first 84 (in_first 101 (in_first 109 (in_first 112 (in_first 108 (in_first 97 (in_first 116 (in_first 101 (in_first 58 ps))))))))) (one_piece t h) in
    ap (λ u. titled (pieces 32 u)) whole ∙ ap titled piece ∙ ap (λ u. template_prefix ++ raised u) (no_space c s (both_first (is_word c) (list_all is_word s) h))

some_name : (n : ℕ) (b : Bool) → 10 ≤ n → nat_eq 9 n ≡ false
some_name n b h = grind (arith, nat_tests)

and_never : (a : Bool) → a && false ≡ false
and_never true = refl
and_never false = refl

named : (c : ℕ) (s : Bytes) → has_no_name (template_prefix ++ (c ∷ s)) ≡ false
named c s =
    let first : nat_eq 9 (length (template_prefix ++ (c ∷ s))) ≡ false = some_name (length (template_prefix ++ (c ∷ s))) true (omega arith) in
    rw (first, and_never (nat_eq 10 (length (template_prefix ++ (c ∷ s))))) refl

fits : (s : Bytes) → length s ≤ 246 → nat_lt 255 (length (template_prefix ++ s)) ≡ false
fits s h = (let l : length (template_prefix ++ s) ≤ 255 = omega (arith, h) in grind (arith, nat_tests))

plain_title : (c : ℕ) (s : Bytes) → list_all is_word (c ∷ s) ≡ true → length (c ∷ s) ≤ 246 → ok_of (title_of (template_prefix ++ (c ∷ s))) ≡ Some (template_prefix ++ raised (c ∷ s))
plain_title c s h few =
    rw (plain_text c s h, named (if in_range 97 122 c then c - 32 else c) s, fits (raised (c ∷ s)) few, all_good (c ∷ s) h) refl

plain_cons : (c : ℕ) (s : Bytes) → list_all is_word (c ∷ s) ≡ true → length (c ∷ s) ≤ 246 → template_named (c ∷ s) ≡ Some (template_prefix ++ raised (c ∷ s))
plain_cons c s h few = ap (option_and_then if_template) (plain_title c s h few)

few_of : (n : ℕ) → nat_le n 246 ≡ true → n ≤ 246
few_of n e = grind (arith, nat_tests)

all_three : (a b c : Bool) → a && b && c ≡ true → (a ≡ true) × (b ≡ true) × (c ≡ true)
all_three true true true e = (refl, refl, refl)
all_three false b c e = let no : ⊥ = cc in absurd no
all_three true false c e = let no : ⊥ = cc in absurd no
all_three true true false e = let no : ⊥ = cc in absurd no

some_of : (n : ℕ) → nat_lt 0 n ≡ true → 0 < n
some_of n e = grind (arith, nat_tests)

plain_by : (name : Bytes) → 0 < length name → length name ≤ 246 → list_all is_word name ≡ true → template_named name ≡ Some (template_prefix ++ raised name)
plain_by [] l few h = let no : ⊥ = omega (arith, l) in absurd no
plain_by (c ∷ s) l few h = plain_cons c s h few

with_first : (name : Bytes) → 0 < length name → raised name ≡ (if in_range 97 122 (get_or name 0 0) then get_or name 0 0 - 32 else get_or name 0 0) ∷ drop 1 name
with_first [] l = let no : ⊥ = omega (arith, l) in absurd no
with_first (c ∷ s) l = refl

pub plain_named : (name : Bytes) (first : ℕ) → is_plain name ≡ true → first ≡ (if in_range 97 122 (get_or name 0 0) then get_or name 0 0 - 32 else get_or name 0 0)
    → template_named name ≡ Some (template_prefix ++ (first ∷ drop 1 name))
plain_named name first h f =
    let parts = all_three (nat_lt 0 (length name)) (nat_le (length name) 246) (list_all is_word name) h in
    plain_by name (some_of (length name) parts.0) (few_of (length name) parts.1) parts.2
    ∙ ap (λ x. Some (template_prefix ++ x)) (with_first name (some_of (length name) parts.0)) ∙ ap (λ c. Some (template_prefix ++ (c ∷ drop 1 name))) (sym f)
