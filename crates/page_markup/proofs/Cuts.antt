-- Where a text may be cut: before and after the marks of the markup, which are ASCII.
use Rattle.std.proofs.Common.{suc, [], ◌∷◌, ◌++◌, length, take, drop, ◌≡◌, ℕ, ◌≤◌, ◌<◌, ◌+◌, ◌-◌, Bool, true, false, refl, arith, ap, sym, ◌∙◌, get_or, nat_eq, append-nil, subst, inl, inr, ◌⊎◌, append_assoc}
use Rattle.std.proofs.lemmas.List.{length-drop, take_all, drop_all}
use Rattle.std.proofs.lemmas.Str.{IsCharBoundary-end, IsCharBoundary-before_ascii, IsCharBoundary-after_ascii}
use Rattle.std.proofs.Math.Seq.{drop-cons}
use Rattle.std.proofs.lemmas.Bool.Decides.{nat_tests}
use Rattle.std.proofs.Math.Nat.{eq-or-lt_of_le}
use Rattle.std.specs.Cmp.Lexicographic.{same_text}
use Rattle.std.specs.Prelude.{codes}
use Rattle.std.specs.Str.{IsUtf8, IsCharBoundary}
use Rattle.wiki_model.specs.Bytes.{Bytes, begins, replaced, line_feed, space}
use Rattle.page_markup.specs.declared.brackets.Names.{Names}
use Rattle.page_markup.specs.declared.brackets.Names.TheVariants.{Links, Templates}
use Rattle.page_markup.specs.Mark.{distance, next_place, opening_of, closing_of}
use Rattle.page_markup.proofs.Places.{distance_here, distance_on, drop_drop, begins_fits}

begins_is : (mark s : Bytes) → begins mark s ≡ true → mark ≡ take (length mark) s
begins_is mark s e = same_text mark (take (length mark) s) (sym e)

same_prefix : (a b : ℕ) (s t : Bytes) → a ∷ s ≡ b ∷ t → a ≡ b
same_prefix a b s t e = ap (λ l. get_or l 0 0) e

same_second : (a b c d : ℕ) (s t : Bytes) → a ∷ b ∷ s ≡ c ∷ d ∷ t → b ≡ d
same_second a b c d s t e = ap (λ l. get_or l 1 0) e

-- the first byte of a mark that stands at a place
pub first_of : (m : ℕ) (ms s : Bytes) (n : ℕ) → n < length s → begins (m ∷ ms) (drop n s) ≡ true → get_or s n 0 ≡ m
first_of m ms s n l e =
    sym (same_prefix m (get_or s n 0) ms (take (length ms) (drop (suc n) s))
    (begins_is (m ∷ ms) (drop n s) e ∙ ap (take (suc (length ms))) (drop-cons s n 0 l)))

-- the mark stands at its next place
found_by : (mark : Bytes) (c : ℕ) (s : Bytes) (b : Bool) → begins mark (c ∷ s) ≡ b → (distance mark s < length s → begins mark (drop (distance mark s) s) ≡ true)
    → distance mark (c ∷ s) < length (c ∷ s) → begins mark (drop (distance mark (c ∷ s)) (c ∷ s)) ≡ true
found_by mark c s true e ih h = ap (λ k. begins mark (drop k (c ∷ s))) (distance_here mark (c ∷ s) e) ∙ e
found_by mark c s false e ih h =
    let d : distance mark (c ∷ s) ≡ suc (distance mark s) = distance_on mark (c ∷ s) (omega arith) e in
    ap (λ k. begins mark (drop k (c ∷ s))) d ∙ ih (omega (arith, h, d))

pub found : (mark s : Bytes) → distance mark s < length s → begins mark (drop (distance mark s) s) ≡ true
found mark [] h = let no : ⊥ = omega (arith, h) in absurd no
found mark (c ∷ s) h = found_by mark c s (begins mark (c ∷ s)) refl (found mark s) h

pub found_at : (mark s : Bytes) (from n : ℕ) → n ≡ next_place mark from s → n < length s → begins mark (drop n s) ≡ true
found_at mark s from n e l =
    let t = drop from s in
    let d : distance mark t < length t = omega (arith, e, l, length-drop from s) in
    let f : drop (distance mark t) t ≡ drop n s = drop_drop (distance mark t) from s ∙ ap (λ k. drop k s) (sym e) in
    ap (begins mark) (sym f) ∙ found mark t d

cut_before_by : (m : ℕ) (ms s : Bytes) (from n : ℕ) → m < 128 → n ≡ next_place (m ∷ ms) from s → (n ≡ length s) ⊎ (n < length s) → IsCharBoundary s n
cut_before_by m ms s from n a e (inl h) = subst (IsCharBoundary s) (sym h) (IsCharBoundary-end s)
cut_before_by m ms s from n a e (inr l) =
    let f : get_or s n 0 ≡ m = first_of m ms s n l (found_at (m ∷ ms) s from n e l) in
    IsCharBoundary-before_ascii s n l (omega (arith, f, a))

pub cut_before : (m : ℕ) (ms s : Bytes) (from n : ℕ) → m < 128 → n ≡ next_place (m ∷ ms) from s → n ≤ length s → IsCharBoundary s n
cut_before m ms s from n a e h = cut_before_by m ms s from n a e (eq-or-lt_of_le h)

-- after a mark of one byte
pub cut_after_one : (m : ℕ) (s : Bytes) (from n : ℕ) → IsUtf8 s → m < 128 → n ≡ next_place (m ∷ []) from s → n < length s → IsCharBoundary s (n + 1)
cut_after_one m s from n u a e l =
    let f : get_or s n 0 ≡ m = first_of m [] s n l (found_at (m ∷ []) s from n e l) in
    IsCharBoundary-after_ascii s n u l (omega (arith, f, a))

-- after a mark of two
cut_after_two : (a b : ℕ) (s : Bytes) (n : ℕ) → IsUtf8 s → b < 128 → begins (a ∷ b ∷ []) (drop n s) ≡ true → IsCharBoundary s (n + 2)
cut_after_two a b s n u h e =
    let fits : 2 ≤ length (drop n s) = begins_fits (a ∷ b ∷ []) (drop n s) e in
    let l : suc n < length s = omega (arith, fits, length-drop n s) in
    let two : drop n s ≡ get_or s n 0 ∷ get_or s (suc n) 0 ∷ drop (suc (suc n)) s =
    drop-cons s n 0 (omega (arith, l)) ∙ ap (λ t. get_or s n 0 ∷ t) (drop-cons s (suc n) 0 l) in
    let f : b ≡ get_or s (suc n) 0 =
    same_second a b (get_or s n 0) (get_or s (suc n) 0) [] [] (begins_is (a ∷ b ∷ []) (drop n s) e ∙ ap (take 2) two) in
    subst (IsCharBoundary s) (let z : suc n + 1 ≡ n + 2 = omega arith in z) (IsCharBoundary-after_ascii s (suc n) u l (omega (arith, f, h)))

pub opening_cut : (names : Names) (s : Bytes) (n : ℕ) → IsUtf8 s → begins (opening_of names) (drop n s) ≡ true → IsCharBoundary s (n + 2)
opening_cut Links s n u e = cut_after_two 91 91 s n u (omega arith) e
opening_cut Templates s n u e = cut_after_two 123 123 s n u (omega arith) e

pub closing_cut : (names : Names) (s : Bytes) (from n : ℕ) → n ≡ next_place (closing_of names) from s → n ≤ length s → IsCharBoundary s n
closing_cut Links s from n e h = cut_before 93 (codes "]") s from n (omega arith) e h
closing_cut Templates s from n e h = cut_before 125 (codes "}") s from n (omega arith) e h

pub two_long : (names : Names) → length (opening_of names) ≡ 2
two_long Links = refl
two_long Templates = refl

-- each line feed as a space, a line at a time
abbrev pub spaced : Bytes → Bytes
spaced s = replaced line_feed space s

turned : (a b : ℕ) (t : Bool) → nat_eq a b ≡ t → nat_eq b a ≡ t
turned a b t e = (let z : nat_eq b a ≡ nat_eq a b = grind (arith, nat_tests) in z) ∙ e

pub begins_one : (m c : ℕ) (s : Bytes) (b : Bool) → nat_eq m c ≡ b → begins (m ∷ []) (c ∷ s) ≡ b
begins_one m c s true e = rw e refl
begins_one m c s false e = rw e refl

spaced_whole_by : (c : ℕ) (s : Bytes) (b : Bool) → nat_eq 10 c ≡ b → (length s ≤ distance (codes "\n") s → spaced s ≡ s)
    → length (c ∷ s) ≤ distance (codes "\n") (c ∷ s) → spaced (c ∷ s) ≡ c ∷ s
spaced_whole_by c s true e ih h = let d : distance (codes "\n") (c ∷ s) ≡ 0 = distance_here (codes "\n") (c ∷ s) (begins_one 10 c s true e) in let no : ⊥ = omega (arith, d, h) in absurd no
spaced_whole_by c s false e ih h =
    let d : distance (codes "\n") (c ∷ s) ≡ suc (distance (codes "\n") s) = distance_on (codes "\n") (c ∷ s) (omega arith) (begins_one 10 c s false e) in
    rw (turned 10 c false e) (ap (λ t. c ∷ t) (ih (omega (arith, h, d))))

pub spaced_whole : (s : Bytes) → length s ≤ distance (codes "\n") s → spaced s ≡ s
spaced_whole [] h = refl
spaced_whole (c ∷ s) h = spaced_whole_by c s (nat_eq 10 c) refl (spaced_whole s) h

abbrev pub SpacedAt : (s : Bytes) (d : ℕ) → Type 0
SpacedAt s d = spaced s ≡ take d s ++ (space ∷ spaced (drop (suc d) s))

spaced_cut_by : (c : ℕ) (s : Bytes) (b : Bool) → nat_eq 10 c ≡ b → (distance (codes "\n") s < length s → SpacedAt s (distance (codes "\n") s))
    → distance (codes "\n") (c ∷ s) < length (c ∷ s) → SpacedAt (c ∷ s) (distance (codes "\n") (c ∷ s))
spaced_cut_by c s true e ih h =
    let d : distance (codes "\n") (c ∷ s) ≡ 0 = distance_here (codes "\n") (c ∷ s) (begins_one 10 c s true e) in
    subst (SpacedAt (c ∷ s)) (sym d) (rw (turned 10 c true e) refl)
spaced_cut_by c s false e ih h =
    let d : distance (codes "\n") (c ∷ s) ≡ suc (distance (codes "\n") s) = distance_on (codes "\n") (c ∷ s) (omega arith) (begins_one 10 c s false e) in
    subst (SpacedAt (c ∷ s)) (sym d) (rw (turned 10 c false e) (ap (λ t. c ∷ t) (ih (omega (arith, h, d)))))

spaced_cut : (s : Bytes) → distance (codes "\n") s < length s → SpacedAt s (distance (codes "\n") s)
spaced_cut [] h = let no : ⊥ = omega (arith, h) in absurd no
spaced_cut (c ∷ s) h = spaced_cut_by c s (nat_eq 10 c) refl (spaced_cut s) h

-- the text from a place on, whose line ends at another
pub last_line : (s old new : Bytes) (at end : ℕ) → at ≤ length s → end ≡ next_place (codes "\n") at s → length s ≤ end → new ≡ old ++ take (end - at) (drop at s)
    → new ++ spaced (drop (end + 1) s) ≡ old ++ spaced (drop at s)
last_line s old new at end h e l w =
    let t = drop at s in
    let len : length t ≡ length s - at = length-drop at s in
    let d : length t ≤ distance (codes "\n") t = omega (arith, e, l, len) in
    let whole : take (end - at) t ≡ t = take_all (end - at) t (omega (arith, l, len)) in
    let none : drop (end + 1) s ≡ [] = drop_all (end + 1) s (omega (arith, l)) in
    ap (λ u. new ++ spaced u) none ∙ append-nil new ∙ w ∙ ap (λ u. old ++ u) (whole ∙ sym (spaced_whole t d))

pub inner_line : (s old new : Bytes) (at end : ℕ) → end ≡ next_place (codes "\n") at s → end < length s → new ≡ (old ++ take (end - at) (drop at s)) ++ (space ∷ [])
    → new ++ spaced (drop (end + 1) s) ≡ old ++ spaced (drop at s)
inner_line s old new at end e l w =
    let t = drop at s in
    let n = distance (codes "\n") t in
    let len : length t ≡ length s - at = length-drop at s in
    let d : n < length t = omega (arith, e, l, len) in
    let same : end - at ≡ n = omega (arith, e) in
    let rest : drop (suc n) t ≡ drop (end + 1) s = drop_drop (suc n) at s ∙ ap (λ k. drop k s) (let z : at + suc n ≡ end + 1 = omega (arith, e) in z) in
    ap (λ u. u ++ spaced (drop (end + 1) s)) w
    ∙ (let j : (x y z : Bytes) → ((x ++ y) ++ (space ∷ [])) ++ z ≡ x ++ (y ++ (space ∷ z)) = λ x y z. simp append_assoc in j old (take (end - at) t) (spaced (drop (end + 1) s)))
    ∙ ap (λ u. old ++ u) (ap (λ k. take k t ++ (space ∷ spaced (drop (end + 1) s))) same ∙ ap (λ u. take n t ++ (space ∷ spaced u)) (sym rest) ∙ sym (spaced_cut t d))

-- a text with no line feed
pub spaced_same : (s : Bytes) (n : ℕ) → n ≡ next_place (codes "\n") 0 s → length s ≤ n → s ≡ replaced line_feed space s
spaced_same s n e h = sym (spaced_whole s (omega (arith, e, h)))
