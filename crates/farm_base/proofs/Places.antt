-- Bytes are cut at the place before which the mark doesn't stand, and trimmed at both ends.
use Rattle.std.proofs.Common.{◌≡◌, ℕ, suc, ◌+◌, ◌<◌, Bool, true, false, ◌==◌, [], ◌∷◌, length, take, drop, Some, None, nat_eq, reverse, refl, ◌∙◌, arith}
use Rattle.std.proofs.Math.Bool.{and-true}
use Rattle.std.proofs.lemmas.Bool.Decides.{nat_tests}
use Rattle.wiki_model.specs.Bytes.{Bytes, begins, cut_at, skip_spaces}
use Rattle.farm_base.specs.Bytes.{first_place}

-- whether a text begins with a byte
pub begins_one : (mark c : ℕ) (text : Bytes) → begins (mark ∷ []) (c ∷ text) ≡ (c == mark)
begins_one mark c text = and-true (nat_eq mark c) ∙ turned
  where
    turned : nat_eq mark c ≡ (c == mark)
    turned = grind (arith, nat_tests)

-- it stands nowhere
pub cut_none : (mark : ℕ) (text : Bytes) → first_place mark text ≡ length text → cut_at (mark ∷ []) text ≡ None
cut_none mark [] e = refl
cut_none mark (c ∷ text) e = by (c == mark) refl (cut_none mark text)
  where
    by : (b : Bool) → (c == mark) ≡ b → (first_place mark text ≡ length text → cut_at (mark ∷ []) text ≡ None) → cut_at (mark ∷ []) (c ∷ text) ≡ None
    by true t rest = let none : ⊥ = omega (arith, rw t at e) in absurd none
    by false t rest = rw (begins_one mark c text, t, rest (let tail = rw t at e in omega (arith, tail))) refl

-- the first place at which it stands
pub cut_some : (mark : ℕ) (text : Bytes) → first_place mark text < length text → cut_at (mark ∷ []) text ≡ Some (take (first_place mark text) text, drop 1 (drop (first_place mark text) text))
cut_some mark [] h = let none : ⊥ = omega (arith, h) in absurd none
cut_some mark (c ∷ text) h = by (c == mark) refl (cut_some mark text)
  where
    by : (b : Bool) → (c == mark) ≡ b
        → (first_place mark text < length text → cut_at (mark ∷ []) text ≡ Some (take (first_place mark text) text, drop 1 (drop (first_place mark text) text))) → cut_at (mark ∷ []) (c ∷ text) ≡ Some (take (first_place mark (c ∷ text)) (c ∷ text), drop 1 (drop (first_place mark (c ∷ text)) (c ∷ text)))
    by true t rest = rw (begins_one mark c text, t) refl
    by false t rest =
        let next : 1 + first_place mark text ≡ suc (first_place mark text) = omega arith in
        let inside : first_place mark text < length text = (let tail = rw t at h in omega (arith, tail)) in
        rw (begins_one mark c text, t, next, rest inside) refl

-- without the spaces at the end
abbrev pub ended : Bytes → Bytes
ended text = reverse (skip_spaces (reverse text))
