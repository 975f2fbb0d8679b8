-- Marks that rise and are loaded.
use Rattle.std.proofs.Common.{◌≡◌, ◌≢◌, ◌⊎◌, ℕ, zero, suc, ◌<◌, ◌≤◌, max, List, [], ◌∷◌, map, length, set, refl, sym, ap, ◌∙◌, ⊎_elim, inl, inr, arith, le_trans}
use Rattle.std.specs.Prelude.{slice_index}
use mathlib.Core.Option.{some, some-ne-none, some-injective}
use mathlib.Core.Logic.{dite}
use native.Mathlib.Decide.{ℕ_discrete}
use lib.ListN.{get_elem?, get_or}
use Rattle.std.proofs.lemmas.List.{get_or-set_same, get_or-set_other}
use Rattle.slot_share.specs.declared.view.Marks.{Marks}
use Rattle.slot_share.specs.Marks.{greatest, made_at, AreMarked, raised, loaded}
use Rattle.slot_share.proofs.Lists.{on_set, map_same}

-- one member rose to k
pub greatest_set : (f : Marks → ℕ) (ms : List Marks) (id first k : ℕ) (m w : Marks) → get_elem? ms id ≡ some m → f w ≡ max (f m) k
    → greatest first (map f (set ms id w)) ≡ max (greatest first (map f ms)) k
greatest_set f [] id first k m w e h = absurd (some-ne-none m (sym e))
greatest_set f (x ∷ xs) zero first k m w e h =
    let a : ℕ = f x in
    let b : ℕ = greatest first (map f xs) in
    let c : ℕ = f w in
    let is : c ≡ max a k = h ∙ ap (λ (z : Marks). max (f z) k) (sym (some-injective x m e)) in
    omega (arith, is)
greatest_set f (x ∷ xs) (suc id) first k m w e h =
    let a : ℕ = f x in
    let b : ℕ = greatest first (map f xs) in
    let c : ℕ = greatest first (map f (set xs id w)) in
    let ih : c ≡ max b k = greatest_set f xs id first k m w e h in
    omega (arith, ih)

pub set_at : (l : List ℕ) (i j x : ℕ) → i < length l → ((j ≡ i) × (slice_index (set l i x) j ≡ x)) ⊎ ((j ≢ i) × (slice_index (set l i x) j ≡ slice_index l j))
set_at l i j x h = dite (ℕ_discrete j i)
    (λ (s : j ≡ i). inl (s, ap (λ (n : ℕ). get_or (set l i x) n 0) s ∙ get_or-set_same l i x 0 h))
    (λ (n : j ≢ i). inr (n, get_or-set_other l i j x 0 n))

module _ (start words : List ℕ) (ms : List Marks) (id : ℕ) (m : Marks) (word : ℕ) where
  pub raise_marked : (to : ℕ) → AreMarked start words ms → get_elem? ms id ≡ some m → 0 < word → word < length start → length start ≤ length words
      → length m.seen ≡ length start → length m.made ≡ length start
      → AreMarked start (set words word (max (slice_index words word) to)) (set ms id (raised m word (slice_index words word) to))
  raise_marked to h here pos mark long seen_long made_long =
      let found : ℕ = slice_index words word in
      let w = raised m word found to in
      let now : List ℕ = set words word (max found to) in
      let inside : word < length words = omega (arith, mark, long) in
      let up : (j : ℕ) → slice_index words j ≤ slice_index now j = λ j. ⊎_elim
      (λ (t : (j ≡ word) × (slice_index now j ≡ max found to)).
      let a : ℕ = slice_index words j in
      let b : ℕ = slice_index now j in
      let p : a ≡ found = ap (λ (n : ℕ). get_or words n 0) t.0 in
      let q : b ≡ max found to = t.1 in
      omega (arith, p, q))
      (λ (t : (j ≢ word) × (slice_index now j ≡ slice_index words j)). let e = t.1 in omega (arith, e))
      (set_at words word j (max found to) inside) in
      record {
        first = get_or-set_other words word 0 (max found to) 0 (λ e. omega (arith, pos, e)) ∙ h.first;
        greatest_is = λ j l. ⊎_elim
            (λ (t : (j ≡ word) × (slice_index now j ≡ max found to)).
            let made : slice_index w.made j ≡ max (slice_index m.made j) to
            = ap (λ (n : ℕ). get_or w.made n 0) t.0 ∙ (get_or-set_same m.made word (max (slice_index m.made word) to) 0 (omega (arith, mark, made_long)) ∙ ap (λ (n : ℕ). max (get_or m.made n 0) to) (sym t.0)) in
            t.1 ∙ (ap (λ (n : ℕ). max (get_or words n 0) to) (sym t.0) ∙ (ap (λ (n : ℕ). max n to) (h.greatest_is j l)
            ∙ sym (greatest_set (made_at j) ms id (slice_index start j) to m w here made))))
            (λ (t : (j ≢ word) × (slice_index now j ≡ slice_index words j)).
            t.1 ∙ (h.greatest_is j l ∙ sym (ap (greatest (slice_index start j)) (map_same (made_at j) ms id m w here (get_or-set_other m.made word j (max (slice_index m.made word) to) 0 t.0)))))
            (set_at words word j (max found to) inside);
        seen = λ i j u e l. on_set (λ i u. slice_index u.seen j ≤ slice_index now j) ms id w
            (λ i u n e. le_trans (h.seen i j u e l) (up j))
            (⊎_elim
            (λ (t : (j ≡ word) × (slice_index w.seen j ≡ max found to)).
            let a : ℕ = slice_index now j in
            let b : ℕ = slice_index w.seen j in
            let p : a ≡ max found to = ap (λ (n : ℕ). get_or now n 0) t.0 ∙ get_or-set_same words word (max found to) 0 inside in
            let q : b ≡ max found to = t.1 in
            omega (arith, p, q))
            (λ (t : (j ≢ word) × (slice_index w.seen j ≡ slice_index m.seen j)).
            let a : ℕ = slice_index m.seen j in
            let b : ℕ = slice_index w.seen j in
            let c : ℕ = slice_index now j in
            let q : b ≡ a = t.1 in
            let r : a ≤ c = le_trans (h.seen id j m here l) (up j) in
            omega (arith, q, r))
            (set_at m.seen word j (max found to) (omega (arith, mark, seen_long))))
            i u e;
        least = λ i j u e long_u l. on_set (λ i u. length u.seen ≡ length start → slice_index start j ≤ slice_index u.seen j) ms id w
            (λ i u n e long_u. h.least i j u e long_u l)
            (λ long_w. ⊎_elim
            (λ (t : (j ≡ word) × (slice_index w.seen j ≡ max found to)).
            let a : ℕ = slice_index start j in
            let b : ℕ = slice_index w.seen j in
            let c : ℕ = slice_index m.seen j in
            let p : slice_index words j ≡ found = ap (λ (n : ℕ). get_or words n 0) t.0 in
            let q : b ≡ max found to = t.1 in
            let r : c ≤ slice_index words j = h.seen id j m here l in
            let k : a ≤ c = h.least id j m here seen_long l in
            omega (arith, p, q, r, k))
            (λ (t : (j ≢ word) × (slice_index w.seen j ≡ slice_index m.seen j)).
            let q = t.1 in
            let k = h.least id j m here seen_long l in
            omega (arith, q, k))
            (set_at m.seen word j (max found to) (omega (arith, mark, seen_long))))
            i u e long_u;
      }

  pub load_marked : AreMarked start words ms → get_elem? ms id ≡ some m → word < length start → length m.seen ≡ length start
      → AreMarked start words (set ms id (loaded m word (slice_index words word)))
  load_marked h here mark seen_long =
      let found : ℕ = slice_index words word in
      let w = loaded m word found in
      record {
        first = h.first;
        greatest_is = λ j l. h.greatest_is j l ∙ sym (ap (greatest (slice_index start j)) (map_same (made_at j) ms id m w here refl));
        seen = λ i j u e l. on_set (λ i u. slice_index u.seen j ≤ slice_index words j) ms id w
            (λ i u n e. h.seen i j u e l)
            (⊎_elim
            (λ (t : (j ≡ word) × (slice_index w.seen j ≡ found)).
            let a : ℕ = slice_index words j in
            let b : ℕ = slice_index w.seen j in
            let p : a ≡ found = ap (λ (n : ℕ). get_or words n 0) t.0 in
            let q : b ≡ found = t.1 in
            omega (arith, p, q))
            (λ (t : (j ≢ word) × (slice_index w.seen j ≡ slice_index m.seen j)).
            let a : ℕ = slice_index m.seen j in
            let b : ℕ = slice_index w.seen j in
            let c : ℕ = slice_index words j in
            let q : b ≡ a = t.1 in
            let r : a ≤ c = h.seen id j m here l in
            omega (arith, q, r))
            (set_at m.seen word j found (omega (arith, mark, seen_long))))
            i u e;
        least = λ i j u e long_u l. on_set (λ i u. length u.seen ≡ length start → slice_index start j ≤ slice_index u.seen j) ms id w
            (λ i u n e long_u. h.least i j u e long_u l)
            (λ long_w. ⊎_elim
            (λ (t : (j ≡ word) × (slice_index w.seen j ≡ found)).
            let a : ℕ = slice_index start j in
            let b : ℕ = slice_index w.seen j in
            let c : ℕ = slice_index m.seen j in
            let p : slice_index words j ≡ found = ap (λ (n : ℕ). get_or words n 0) t.0 in
            let q : b ≡ found = t.1 in
            let r : c ≤ slice_index words j = h.seen id j m here l in
            let k : a ≤ c = h.least id j m here seen_long l in
            omega (arith, p, q, r, k))
            (λ (t : (j ≢ word) × (slice_index w.seen j ≡ slice_index m.seen j)).
            let q = t.1 in
            let k = h.least id j m here seen_long l in
            omega (arith, q, k))
            (set_at m.seen word j found (omega (arith, mark, seen_long))))
            i u e long_u;
      }
