-- A part of a text names no template that the text does not name. What holds of a text and of each of its parts holds of what marks enclose.
use Rattle.std.proofs.Common.{zero, suc, [], ◌∷◌, ◌++◌, List, length, take, drop, reverse, ◌≡◌, ℕ, ◌≤◌, ◌<◌, ◌+◌, Bool, true, false, refl, arith, ap, sym, ◌∙◌, subst, Some, None, nat_le, inl, inr, ◌⊎◌}
use Rattle.std.specs.Prelude.{Option, option_map, option_and_then, if◌then◌else◌, codes, IfSome, nat_eq}
use Rattle.std.specs.List.{Contains}
use Rattle.std.proofs.lemmas.List.{take_all, reverse-append, reverse-reverse, take-append-drop}
use Rattle.std.proofs.lemmas.List.Elements.{Contains-append_left, Contains-append_right, Contains-append_cases}
use Rattle.std.proofs.Math.Seq.{take-append_seam}
use Rattle.std.proofs.Math.Nat.{eq-or-lt_of_le}
use Rattle.wiki_model.specs.Bytes.{Bytes, begins, cut_at, skip_spaces, trimmed}
use Rattle.wiki_model.specs.Titles.{Title}
use Rattle.wiki_model.specs.Html.{enclosed, cut_after_one, bracketed, if_short, template_named}
use Rattle.page_markup.specs.Mark.{distance}
use Rattle.page_markup.specs.Names.{listed, name_here, names_from}
use Rattle.page_markup.proofs.Places.{distance_within, cut_none, cut_some}
use Rattle.page_markup.proofs.Taken.{clip, bracketed_prefix, at_most_or_past}

abbrev pub named_in : Option (Bytes × Bytes) → List Title
named_in found = listed (option_and_then (λ p. template_named p.0) found)

no_name : (t : Title) → let none : List Title = [] in Contains none t → ⊥
no_name t h = omega (arith, h.1)

-- prefixes
clip_by : (p : Bytes × Bytes) (rest : Bytes) (t : Title) (b : Bool) → Contains (named_in (if b then Some (p.0, rest) else None)) t → Contains (named_in (Some p)) t
clip_by p rest t true h = h
clip_by p rest t false h = absurd (no_name t h)

name_clip : (opening closing k : ℕ) (o : Option (Bytes × Bytes)) (t : Title) → Contains (named_in (option_and_then (clip opening closing k) o)) t → Contains (named_in o) t
name_clip opening closing k None t h = h
name_clip opening closing k (Some p) t h = clip_by p _ t (nat_le (opening + length p.0 + closing) k) h

name_prefix_by : (k : ℕ) (s : Bytes) (t : Title) → (k ≤ length s) ⊎ (length s < k) → Contains (name_here (take k s)) t → Contains (name_here s) t
name_prefix_by k s t (inl l) h =
    name_clip 2 2 k (bracketed (codes "{{") (codes "}}") s) t
    (subst (λ o. Contains (named_in o) t) (bracketed_prefix (codes "{{") (codes "}}") s k (omega arith) l) h)
name_prefix_by k s t (inr l) h = subst (λ u. Contains (name_here u) t) (take_all k s (omega (arith, l))) h

name_prefix : (k : ℕ) (s : Bytes) (t : Title) → Contains (name_here (take k s)) t → Contains (name_here s) t
name_prefix k s t h = name_prefix_by k s t (at_most_or_past k (length s)) h

names_take_by : (c k : ℕ) (s : Bytes) (t : Title) → (Contains (names_from (take k s)) t → Contains (names_from s) t)
    → Contains (name_here (c ∷ take k s)) t ⊎ Contains (names_from (take k s)) t → Contains (names_from (c ∷ s)) t
names_take_by c k s t ih (inl h) = Contains-append_left (name_here (c ∷ s)) (names_from s) t (name_prefix (suc k) (c ∷ s) t h)
names_take_by c k s t ih (inr h) = Contains-append_right (name_here (c ∷ s)) (names_from s) t (ih h)

pub names_take : (k : ℕ) (s : Bytes) (t : Title) → Contains (names_from (take k s)) t → Contains (names_from s) t
names_take zero s t h = absurd (no_name t h)
names_take (suc k) [] t h = h
names_take (suc k) (c ∷ s) t h = names_take_by c k s t (names_take k s t) (Contains-append_cases (name_here (c ∷ take k s)) (names_from (take k s)) t h)

-- backs
pub names_drop : (k : ℕ) (s : Bytes) (t : Title) → Contains (names_from (drop k s)) t → Contains (names_from s) t
names_drop zero s t h = h
names_drop (suc k) [] t h = h
names_drop (suc k) (c ∷ s) t h = Contains-append_right (name_here (c ∷ s)) (names_from s) t (names_drop k s t h)

-- what holds of a text's parts
pub record IsClosed (P : Bytes → Type 0) : Type 0 where
  pub prefixes : (k : ℕ) (s : Bytes) → P s → P (take k s)
  pub backs : (k : ℕ) (s : Bytes) → P s → P (drop k s)

abbrev pub Both : (P : Bytes → Type 0) → Bytes × Bytes → Type 0
Both P p = P p.0 × P p.1

skipped : (s : Bytes) → (j : ℕ) × (skip_spaces s ≡ drop j s)
skipped [] = (0, refl)
skipped (c ∷ s) = by (nat_eq c 32) (skipped s)
  where
    by : (b : Bool) → (j : ℕ) × (skip_spaces s ≡ drop j s) → (j : ℕ) × ((if b then skip_spaces s else c ∷ s) ≡ drop j (c ∷ s))
    by true f = (suc f.0, f.1)
    by false f = (0, refl)

-- the back of a text that is turned round is a prefix of it
turned_back : (s : Bytes) (j : ℕ) → reverse (drop j (reverse s)) ≡ take (length (reverse (drop j (reverse s)))) s
turned_back s j =
    let x = reverse (drop j (reverse s)) in
    let y = reverse (take j (reverse s)) in
    let e : x ++ y ≡ s = sym (reverse-append (take j (reverse s)) (drop j (reverse s))) ∙ ap reverse (take-append-drop j (reverse s)) ∙ reverse-reverse s in
    sym (take-append_seam x y) ∙ ap (take (length x)) e

module _ (P : Bytes → Type 0) (closed : IsClosed P) where
  cut_by : (mark s : Bytes) → P s → (distance mark s ≡ length s) ⊎ (distance mark s < length s) → IfSome (cut_at mark s) (Both P)
  cut_by mark s h (inl e) = subst (λ o. IfSome o (Both P)) (sym (cut_none mark s (omega (arith, e)))) tt
  cut_by mark s h (inr l) =
      subst (λ o. IfSome o (Both P)) (sym (cut_some mark s l)) (closed.prefixes (distance mark s) s h, closed.backs (length mark) (drop (distance mark s) s) (closed.backs (distance mark s) s h))

  pub cut_parts : (mark s : Bytes) → P s → IfSome (cut_at mark s) (Both P)
  cut_parts mark s h = cut_by mark s h (eq-or-lt_of_le (distance_within mark s))

  after_by : (mark : Bytes) (c : ℕ) (s : Bytes) → P (c ∷ s) → (distance mark s ≡ length s) ⊎ (distance mark s < length s) → IfSome (cut_after_one mark (c ∷ s)) (Both P)
  after_by mark c s h (inl e) = subst (λ o. IfSome (option_map (λ p. (c ∷ p.0, p.1)) o) (Both P)) (sym (cut_none mark s (omega (arith, e)))) tt
  after_by mark c s h (inr l) =
      subst (λ o. IfSome (option_map (λ p. (c ∷ p.0, p.1)) o) (Both P)) (sym (cut_some mark s l))
      (closed.prefixes (suc (distance mark s)) (c ∷ s) h, closed.backs (length mark) (drop (distance mark s) s) (closed.backs (suc (distance mark s)) (c ∷ s) h))

  after_parts : (mark s : Bytes) → P s → IfSome (cut_after_one mark s) (Both P)
  after_parts mark [] h = tt
  after_parts mark (c ∷ s) h = after_by mark c s h (eq-or-lt_of_le (distance_within mark s))

  pub enclosed_parts : (mark s : Bytes) → P s → IfSome (enclosed mark s) (Both P)
  enclosed_parts mark s h = by (begins mark s)
    where
      by : (b : Bool) → IfSome (if b then cut_after_one mark (drop (length mark) s) else None) (Both P)
      by true = after_parts mark (drop (length mark) s) (closed.backs (length mark) s h)
      by false = tt

  short_by : (p : Bytes × Bytes) (b : Bool) → Both P p → IfSome (if b then Some p else None) (Both P)
  short_by p true h = h
  short_by p false h = tt

  short_parts : (o : Option (Bytes × Bytes)) → IfSome o (Both P) → IfSome (option_and_then if_short o) (Both P)
  short_parts None h = tt
  short_parts (Some p) h = short_by p (nat_le (length p.0) 512) h

  pub bracketed_parts : (opening closing s : Bytes) → P s → IfSome (bracketed opening closing s) (Both P)
  bracketed_parts opening closing s h = by (begins opening s)
    where
      by : (b : Bool) → IfSome (if b then option_and_then if_short (cut_at closing (drop (length opening) s)) else None) (Both P)
      by true = short_parts (cut_at closing (drop (length opening) s)) (cut_parts closing (drop (length opening) s) (closed.backs (length opening) s h))
      by false = tt

  -- a text without the spaces at its ends
  skip_by : (c : ℕ) (s : Bytes) (b : Bool) → P (c ∷ s) → P (skip_spaces s) → P (if b then skip_spaces s else c ∷ s)
  skip_by c s true h i = i
  skip_by c s false h i = h

  skip_part : (s : Bytes) → P s → P (skip_spaces s)
  skip_part [] h = h
  skip_part (c ∷ s) h = skip_by c s (nat_eq c 32) h (skip_part s (closed.backs 1 (c ∷ s) h))

  back_part : (s : Bytes) → P s → P (reverse (skip_spaces (reverse s)))
  back_part s h =
      let f = skipped (reverse s) in
      subst P (sym (ap reverse f.1 ∙ turned_back s f.0)) (closed.prefixes (length (reverse (drop f.0 (reverse s)))) s h)

  pub trimmed_part : (s : Bytes) → P s → P (trimmed s)
  trimmed_part s h = back_part (skip_spaces s) (skip_part s h)
