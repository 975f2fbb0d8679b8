-- The marks of a text's prefix are those of the text that end within it.
use Rattle.std.proofs.Common.{zero, suc, [], ◌∷◌, length, take, drop, ◌≡◌, ℕ, ◌≤◌, ◌<◌, ◌+◌, ◌-◌, Bool, true, false, refl, arith, ap, sym, ◌∙◌, Some, None, nat_le, inl, inr, ◌⊎◌}
use Rattle.std.specs.Prelude.{Option, option_map, option_and_then, if◌then◌else◌}
use Rattle.std.proofs.lemmas.List.{length-take, length-drop}
use Rattle.std.proofs.lemmas.Bool.Decides.{nat_tests}
use Rattle.std.proofs.Math.Nat.{eq-or-lt_of_le}
use Rattle.wiki_model.specs.Bytes.{Bytes, begins, cut_at}
use Rattle.wiki_model.specs.Html.{enclosed, cut_after_one, bracketed, if_short}
use Rattle.page_markup.specs.Mark.{distance}
use Rattle.page_markup.proofs.Places.{begins_fits, distance_on, distance_here, distance_within, cut_none, cut_some, CutsAt, length_taken}

take_nil : (n : ℕ) → let none : Bytes = [] in take n none ≡ none
take_nil zero = refl
take_nil (suc n) = refl

pub take_less : (a k : ℕ) (s : Bytes) → a ≤ k → take a (take k s) ≡ take a s
take_less zero k s h = refl
take_less (suc a) zero s h = let no : ⊥ = omega (arith, h) in absurd no
take_less (suc a) (suc k) [] h = refl
take_less (suc a) (suc k) (c ∷ s) h = ap (λ t. c ∷ t) (take_less a k s (omega (arith, h)))

-- what is left of a prefix
pub drop_taken : (a k : ℕ) (s : Bytes) → drop a (take k s) ≡ take (k - a) (drop a s)
drop_taken zero k s = ap (λ n. take n s) (let e : k ≡ k - 0 = omega arith in e)
drop_taken (suc a) zero s = let e : 0 ≡ 0 - suc a = omega arith in ap (λ n. take n (drop (suc a) s)) e
drop_taken (suc a) (suc k) [] = sym (take_nil (suc k - suc a))
drop_taken (suc a) (suc k) (c ∷ s) = drop_taken a k s ∙ ap (λ n. take n (drop a s)) (let e : k - a ≡ suc k - suc a = omega arith in e)

pub begins_prefix : (mark s : Bytes) (k : ℕ) → length mark ≤ k → begins mark (take k s) ≡ begins mark s
begins_prefix mark s k h = rw (take_less (length mark) k s h) refl

refuted : (b : Bool) → (b ≡ true → ⊥) → b ≡ false
refuted true h = absurd (h refl)
refuted false h = refl

pub begins_past : (mark s : Bytes) (k : ℕ) → k < length mark → begins mark (take k s) ≡ false
begins_past mark s k h = refuted (begins mark (take k s)) (λ e. let l : length mark ≤ length (take k s) = begins_fits mark (take k s) e in omega (arith, l, h, length-take k s))

pub begins_not : (mark s : Bytes) (k : ℕ) → (length mark ≤ k) ⊎ (k < length mark) → begins mark s ≡ false → begins mark (take k s) ≡ false
begins_not mark s k (inl h) e = begins_prefix mark s k h ∙ e
begins_not mark s k (inr h) e = begins_past mark s k h

pub at_most_or_past : (a b : ℕ) → (a ≤ b) ⊎ (b < a)
at_most_or_past zero b = inl (omega arith)
at_most_or_past (suc a) zero = inr (omega arith)
at_most_or_past (suc a) (suc b) = next (at_most_or_past a b) where
  next : (a ≤ b) ⊎ (b < a) → (suc a ≤ suc b) ⊎ (suc b < suc a)
  next (inl h) = inl (omega (arith, h))
  next (inr h) = inr (omega (arith, h))

-- the first mark, where it ends within the prefix
distance_kept_by : (mark : Bytes) (c : ℕ) (s : Bytes) (k : ℕ) (b : Bool) → begins mark (c ∷ s) ≡ b → 0 < length mark
    → (distance mark s < length s → distance mark s + length mark ≤ k → distance mark (take k s) ≡ distance mark s)
    → distance mark (c ∷ s) < length (c ∷ s) → distance mark (c ∷ s) + length mark ≤ suc k → distance mark (take (suc k) (c ∷ s)) ≡ distance mark (c ∷ s)
distance_kept_by mark c s k true e some ih h fit =
    let d : distance mark (c ∷ s) ≡ 0 = distance_here mark (c ∷ s) e in
    distance_here mark (take (suc k) (c ∷ s)) (begins_prefix mark (c ∷ s) (suc k) (omega (arith, fit, d)) ∙ e) ∙ sym d
distance_kept_by mark c s k false e some ih h fit =
    let d : distance mark (c ∷ s) ≡ suc (distance mark s) = distance_on mark (c ∷ s) (omega arith) e in
    let f : begins mark (take (suc k) (c ∷ s)) ≡ false = begins_not mark (c ∷ s) (suc k) (at_most_or_past (length mark) (suc k)) e in
    distance_on mark (take (suc k) (c ∷ s)) (omega arith) f ∙ ap suc (ih (omega (arith, d, h)) (omega (arith, d, fit))) ∙ sym d

pub distance_kept : (mark s : Bytes) (k : ℕ) → 0 < length mark → distance mark s < length s → distance mark s + length mark ≤ k → distance mark (take k s) ≡ distance mark s
distance_kept mark [] k some h fit = let no : ⊥ = omega (arith, h) in absurd no
distance_kept mark (c ∷ s) zero some h fit = let no : ⊥ = omega (arith, fit, some) in absurd no
distance_kept mark (c ∷ s) (suc k) some h fit = distance_kept_by mark c s k (begins mark (c ∷ s)) refl some (distance_kept mark s k some) h fit

-- else there is none in the prefix
distance_lost_by : (mark : Bytes) (c : ℕ) (s : Bytes) (k : ℕ) (b : Bool) → begins mark (c ∷ s) ≡ b
    → (k < distance mark s + length mark → length (take k s) ≤ distance mark (take k s))
    → suc k < distance mark (c ∷ s) + length mark → length (take (suc k) (c ∷ s)) ≤ distance mark (take (suc k) (c ∷ s))
distance_lost_by mark c s k true e ih h =
    let d : distance mark (c ∷ s) ≡ 0 = distance_here mark (c ∷ s) e in
    let f : begins mark (take (suc k) (c ∷ s)) ≡ false = begins_past mark (c ∷ s) (suc k) (omega (arith, d, h)) in
    let g : distance mark (take (suc k) (c ∷ s)) ≡ suc (distance mark (take k s)) = distance_on mark (take (suc k) (c ∷ s)) (omega arith) f in
    let i : length (take k s) ≤ distance mark (take k s) = ih (omega (arith, d, h)) in
    omega (arith, g, i)
distance_lost_by mark c s k false e ih h =
    let d : distance mark (c ∷ s) ≡ suc (distance mark s) = distance_on mark (c ∷ s) (omega arith) e in
    let f : begins mark (take (suc k) (c ∷ s)) ≡ false = begins_not mark (c ∷ s) (suc k) (at_most_or_past (length mark) (suc k)) e in
    let g : distance mark (take (suc k) (c ∷ s)) ≡ suc (distance mark (take k s)) = distance_on mark (take (suc k) (c ∷ s)) (omega arith) f in
    let i : length (take k s) ≤ distance mark (take k s) = ih (omega (arith, d, h)) in
    omega (arith, g, i)

pub distance_lost : (mark s : Bytes) (k : ℕ) → k < distance mark s + length mark → length (take k s) ≤ distance mark (take k s)
distance_lost mark s zero h = omega arith
distance_lost mark [] (suc k) h = omega arith
distance_lost mark (c ∷ s) (suc k) h = distance_lost_by mark c s k (begins mark (c ∷ s)) refl (distance_lost mark s k) h

-- a cut in a prefix: what stands before the mark, and the rest of the prefix
abbrev pub clip : (opening closing k : ℕ) → Bytes × Bytes → Option (Bytes × Bytes)
clip opening closing k p =
    if nat_le (opening + length p.0 + closing) k then Some (p.0, take (k - (opening + length p.0 + closing)) p.1) else None

pub yes_le : (a b : ℕ) → a ≤ b → nat_le a b ≡ true
yes_le a b h = grind (arith, nat_tests)

pub no_le : (a b : ℕ) → b < a → nat_le a b ≡ false
no_le a b h = grind (arith, nat_tests)

pub clip_kept : (opening closing k n : ℕ) (x y : Bytes) → length x ≡ n → opening + n + closing ≤ k → clip opening closing k (x, y) ≡ Some (x, take (k - (opening + n + closing)) y)
clip_kept opening closing k n x y e h = rw (e, yes_le (opening + n + closing) k h) refl

pub clip_lost : (opening closing k n : ℕ) (x y : Bytes) → length x ≡ n → k < opening + n + closing → clip opening closing k (x, y) ≡ None
clip_lost opening closing k n x y e h = rw (e, no_le (opening + n + closing) k h) refl

cut_prefix_by : (mark s : Bytes) (k : ℕ) → 0 < length mark → k ≤ length s → (distance mark s ≡ length s) ⊎ (distance mark s < length s)
    → (distance mark s + length mark ≤ k) ⊎ (k < distance mark s + length mark)
    → cut_at mark (take k s) ≡ option_and_then (clip 0 (length mark) k) (cut_at mark s)
cut_prefix_by mark s k some h (inl e) (inl fit) = let no : ⊥ = omega (arith, e, fit, h, some) in absurd no
cut_prefix_by mark s k some h (inl e) (inr miss) = cut_none mark (take k s) (distance_lost mark s k miss) ∙ sym (ap (option_and_then (clip 0 (length mark) k)) (cut_none mark s (omega (arith, e))))
cut_prefix_by mark s k some h (inr l) (inr miss) =
    cut_none mark (take k s) (distance_lost mark s k miss)
    ∙ sym (ap (option_and_then (clip 0 (length mark) k)) (cut_some mark s l)
    ∙ clip_lost 0 (length mark) k (distance mark s) (take (distance mark s) s) (drop (length mark) (drop (distance mark s) s)) (length_taken (distance mark s) s (omega (arith, l))) (omega (arith, miss)))
cut_prefix_by mark s k some h (inr l) (inl fit) =
    let d = distance mark s in
    let e : distance mark (take k s) ≡ d = distance_kept mark s k some l fit in
    let len : length (take k s) ≡ k = length_taken k s h in
    let whole : CutsAt mark (take k s) (distance mark (take k s)) = cut_some mark (take k s) (omega (arith, e, len, fit, some)) in
    let prefix : take d (take k s) ≡ take d s = take_less d k s (omega (arith, fit)) in
    let back : drop (length mark) (drop d (take k s)) ≡ take (k - (0 + d + length mark)) (drop (length mark) (drop d s)) =
    ap (drop (length mark)) (drop_taken d k s) ∙ drop_taken (length mark) (k - d) (drop d s)
    ∙ ap (λ n. take n (drop (length mark) (drop d s))) (let z : k - d - length mark ≡ k - (0 + d + length mark) = omega arith in z) in
    whole ∙ ap (λ n. Some (take n (take k s), drop (length mark) (drop n (take k s)))) e
    ∙ ap (λ x. Some (x, drop (length mark) (drop d (take k s)))) prefix
    ∙ ap (λ y. Some (take d s, y)) back
    ∙ sym (ap (option_and_then (clip 0 (length mark) k)) (cut_some mark s l)
    ∙ clip_kept 0 (length mark) k d (take d s) (drop (length mark) (drop d s)) (length_taken d s (omega (arith, l))) (omega (arith, fit)))

pub cut_prefix : (mark s : Bytes) (k : ℕ) → 0 < length mark → k ≤ length s → cut_at mark (take k s) ≡ option_and_then (clip 0 (length mark) k) (cut_at mark s)
cut_prefix mark s k some h = cut_prefix_by mark s k some h (eq-or-lt_of_le (distance_within mark s)) (at_most_or_past (distance mark s + length mark) k)

pub clip_never : (opening closing k : ℕ) (o : Option (Bytes × Bytes)) → k < opening + closing → option_and_then (clip opening closing k) o ≡ None
clip_never opening closing k None h = refl
clip_never opening closing k (Some p) h = clip_lost opening closing k (length p.0) p.0 p.1 refl (omega (arith, h))

clip_shift_by : (opening closing k : ℕ) (p : Bytes × Bytes) → opening ≤ k → (opening + length p.0 + closing ≤ k) ⊎ (k < opening + length p.0 + closing)
    → clip 0 closing (k - opening) p ≡ clip opening closing k p
clip_shift_by opening closing k p o (inl h) =
    clip_kept 0 closing (k - opening) (length p.0) p.0 p.1 refl (omega (arith, h))
    ∙ ap (λ n. Some (p.0, take n p.1)) (let z : k - opening - (0 + length p.0 + closing) ≡ k - (opening + length p.0 + closing) = omega arith in z)
    ∙ sym (clip_kept opening closing k (length p.0) p.0 p.1 refl h)
clip_shift_by opening closing k p o (inr h) =
    clip_lost 0 closing (k - opening) (length p.0) p.0 p.1 refl (omega (arith, h, o)) ∙ sym (clip_lost opening closing k (length p.0) p.0 p.1 refl h)

clip_shift : (opening closing k : ℕ) (o : Option (Bytes × Bytes)) → opening ≤ k → option_and_then (clip 0 closing (k - opening)) o ≡ option_and_then (clip opening closing k) o
clip_shift opening closing k None h = refl
clip_shift opening closing k (Some p) h = clip_shift_by opening closing k p h (at_most_or_past (opening + length p.0 + closing) k)

abbrev pub with_first : ℕ → Bytes × Bytes → Bytes × Bytes
with_first c p = (c ∷ p.0, p.1)

clip_first_by : (closing i c : ℕ) (p : Bytes × Bytes) → (length p.0 + closing ≤ i) ⊎ (i < length p.0 + closing)
    → option_map (with_first c) (clip 0 closing i p) ≡ clip 0 closing (suc i) (c ∷ p.0, p.1)
clip_first_by closing i c p (inl h) =
    ap (option_map (with_first c)) (clip_kept 0 closing i (length p.0) p.0 p.1 refl (omega (arith, h)))
    ∙ ap (λ n. Some (c ∷ p.0, take n p.1)) (let z : i - (0 + length p.0 + closing) ≡ suc i - (0 + suc (length p.0) + closing) = omega arith in z)
    ∙ sym (clip_kept 0 closing (suc i) (suc (length p.0)) (c ∷ p.0) p.1 refl (omega (arith, h)))
clip_first_by closing i c p (inr h) =
    ap (option_map (with_first c)) (clip_lost 0 closing i (length p.0) p.0 p.1 refl (omega (arith, h)))
    ∙ sym (clip_lost 0 closing (suc i) (suc (length p.0)) (c ∷ p.0) p.1 refl (omega (arith, h)))

clip_first : (closing i c : ℕ) (o : Option (Bytes × Bytes)) → option_map (with_first c) (option_and_then (clip 0 closing i) o) ≡ option_and_then (clip 0 closing (suc i)) (option_map (with_first c) o)
clip_first closing i c None = refl
clip_first closing i c (Some p) = clip_first_by closing i c p (at_most_or_past (length p.0 + closing) i)

clip_zero : (closing c : ℕ) (o : Option (Bytes × Bytes)) → option_and_then (clip 0 closing 0) (option_map (with_first c) o) ≡ None
clip_zero closing c None = refl
clip_zero closing c (Some p) = clip_lost 0 closing 0 (suc (length p.0)) (c ∷ p.0) p.1 refl (omega arith)

after_one_prefix : (mark t : Bytes) (j : ℕ) → 0 < length mark → j ≤ length t → cut_after_one mark (take j t) ≡ option_and_then (clip 0 (length mark) j) (cut_after_one mark t)
after_one_prefix mark [] zero some h = refl
after_one_prefix mark [] (suc i) some h = let no : ⊥ = omega (arith, h) in absurd no
after_one_prefix mark (c ∷ u) zero some h = sym (clip_zero (length mark) c (cut_at mark u))
after_one_prefix mark (c ∷ u) (suc i) some h = ap (option_map (with_first c)) (cut_prefix mark u i some (omega (arith, h))) ∙ clip_first (length mark) i c (cut_at mark u)

-- quotes in a prefix
enclosed_prefix_by : (mark s : Bytes) (k : ℕ) (b : Bool) → begins mark s ≡ b → (length mark ≤ k) ⊎ (k < length mark) → 0 < length mark → k ≤ length s
    → enclosed mark (take k s) ≡ option_and_then (clip (length mark) (length mark) k) (enclosed mark s)
enclosed_prefix_by mark s k false e o some h = rw (begins_not mark s k o e, e) refl
enclosed_prefix_by mark s k true e (inr l) some h =
    let n : enclosed mark (take k s) ≡ None = rw (begins_past mark s k l) refl in
    n ∙ sym (clip_never (length mark) (length mark) k (enclosed mark s) (omega (arith, l)))
enclosed_prefix_by mark s k true e (inl l) some h =
    let whole : enclosed mark s ≡ cut_after_one mark (drop (length mark) s) = rw e refl in
    let prefix : enclosed mark (take k s) ≡ cut_after_one mark (drop (length mark) (take k s)) = rw (begins_prefix mark s k l ∙ e) refl in
    prefix ∙ ap (cut_after_one mark) (drop_taken (length mark) k s)
    ∙ after_one_prefix mark (drop (length mark) s) (k - length mark) some (omega (arith, length-drop (length mark) s, h))
    ∙ clip_shift (length mark) (length mark) k (cut_after_one mark (drop (length mark) s)) l
    ∙ ap (option_and_then (clip (length mark) (length mark) k)) (sym whole)

pub enclosed_prefix : (mark s : Bytes) (k : ℕ) → 0 < length mark → k ≤ length s → enclosed mark (take k s) ≡ option_and_then (clip (length mark) (length mark) k) (enclosed mark s)
enclosed_prefix mark s k some h = enclosed_prefix_by mark s k (begins mark s) refl (at_most_or_past (length mark) k) some h

-- brackets in a prefix
short_clip_by : (opening closing k : ℕ) (p : Bytes × Bytes) (b f : Bool) → nat_le (length p.0) 512 ≡ b → nat_le (opening + length p.0 + closing) k ≡ f
    → option_and_then if_short (clip opening closing k p) ≡ option_and_then (clip opening closing k) (if_short p)
short_clip_by opening closing k p true true e f = rw (e, f, e) refl
short_clip_by opening closing k p true false e f = rw (e, f) refl
short_clip_by opening closing k p false true e f = rw (e, f, e) refl
short_clip_by opening closing k p false false e f = rw (e, f) refl

short_clip : (opening closing k : ℕ) (o : Option (Bytes × Bytes)) → option_and_then if_short (option_and_then (clip opening closing k) o) ≡ option_and_then (clip opening closing k) (option_and_then if_short o)
short_clip opening closing k None = refl
short_clip opening closing k (Some p) = short_clip_by opening closing k p (nat_le (length p.0) 512) (nat_le (opening + length p.0 + closing) k) refl refl

bracketed_prefix_by : (opening closing s : Bytes) (k : ℕ) (b : Bool) → begins opening s ≡ b → (length opening ≤ k) ⊎ (k < length opening) → 0 < length closing → k ≤ length s
    → bracketed opening closing (take k s) ≡ option_and_then (clip (length opening) (length closing) k) (bracketed opening closing s)
bracketed_prefix_by opening closing s k false e o some h = rw (begins_not opening s k o e, e) refl
bracketed_prefix_by opening closing s k true e (inr l) some h =
    let n : bracketed opening closing (take k s) ≡ None = rw (begins_past opening s k l) refl in
    n ∙ sym (clip_never (length opening) (length closing) k (bracketed opening closing s) (omega (arith, l)))
bracketed_prefix_by opening closing s k true e (inl l) some h =
    let t = drop (length opening) s in
    let whole : bracketed opening closing s ≡ option_and_then if_short (cut_at closing t) = rw e refl in
    let prefix : bracketed opening closing (take k s) ≡ option_and_then if_short (cut_at closing (drop (length opening) (take k s))) = rw (begins_prefix opening s k l ∙ e) refl in
    prefix ∙ ap (λ u. option_and_then if_short (cut_at closing u)) (drop_taken (length opening) k s)
    ∙ ap (option_and_then if_short) (cut_prefix closing t (k - length opening) some (omega (arith, length-drop (length opening) s, h)) ∙ clip_shift (length opening) (length closing) k (cut_at closing t) l)
    ∙ short_clip (length opening) (length closing) k (cut_at closing t)
    ∙ ap (option_and_then (clip (length opening) (length closing) k)) (sym whole)

pub bracketed_prefix : (opening closing s : Bytes) (k : ℕ) → 0 < length closing → k ≤ length s → bracketed opening closing (take k s) ≡ option_and_then (clip (length opening) (length closing) k) (bracketed opening closing s)
bracketed_prefix opening closing s k some h = bracketed_prefix_by opening closing s k (begins opening s) refl (at_most_or_past (length opening) k) some h
