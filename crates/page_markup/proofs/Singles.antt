-- Marks of one byte, and the first byte of others.
use Rattle.std.proofs.Common.{suc, [], ◌∷◌, length, drop, ◌≡◌, ℕ, ◌<◌, ◌+◌, Bool, true, false, refl, arith, ap, sym, ◌∙◌, nat_eq, get_or, cond, not}
use Rattle.std.proofs.lemmas.Bool.Decides.{nat_tests}
use Rattle.wiki_model.specs.Bytes.{Bytes, begins}
use Rattle.farm_base.specs.Bytes.{first_place}
use Rattle.page_markup.specs.Mark.{distance, next_place}
use Rattle.page_markup.proofs.Cuts.{begins_one}

pub differs : (a b : ℕ) → (a ≡ b → ⊥) → nat_eq a b ≡ false
differs a b h = grind (arith, nat_tests)

equals : (a b : ℕ) → a ≡ b → nat_eq a b ≡ true
equals a b e = grind (arith, nat_tests)

first_by : (m c : ℕ) (ms s : Bytes) → nat_eq m c ≡ false → begins (m ∷ ms) (c ∷ s) ≡ false
first_by m c ms s e = rw e refl

pub first_differs : (mark s : Bytes) → 0 < length s → 0 < length mark → (get_or s 0 0 ≡ get_or mark 0 0 → ⊥) → begins mark s ≡ false
first_differs mark [] l k h = let no : ⊥ = omega (arith, l) in absurd no
first_differs [] (c ∷ s) l k h = let no : ⊥ = omega (arith, k) in absurd no
first_differs (m ∷ ms) (c ∷ s) l k h = first_by m c ms s (differs m c (λ e. h (sym e)))

turned : (a b : ℕ) (t : Bool) → nat_eq a b ≡ t → nat_eq b a ≡ t
turned a b true e = grind (arith, nat_tests)
turned a b false e = grind (arith, nat_tests)

-- the first place of a byte is how far the mark of that byte is

first_one : (byte c : ℕ) (s : Bytes) (t : Bool) → nat_eq c byte ≡ t → first_place byte s ≡ distance (byte ∷ []) s → first_place byte (c ∷ s) ≡ distance (byte ∷ []) (c ∷ s)
first_one byte c s true e later =
    ap (λ t. cond (not t) (1 + first_place byte s) 0) e
    ∙ sym (ap (λ t. cond t 0 (suc (distance (byte ∷ []) s))) (begins_one byte c s true (turned c byte true e)))
first_one byte c s false e later =
    let one_more : 1 + first_place byte s ≡ suc (distance (byte ∷ []) s) = omega (arith, later) in
    ap (λ t. cond (not t) (1 + first_place byte s) 0) e ∙ one_more
    ∙ sym (ap (λ t. cond t 0 (suc (distance (byte ∷ []) s))) (begins_one byte c s false (turned c byte false e)))

first_is : (byte : ℕ) (text : Bytes) → first_place byte text ≡ distance (byte ∷ []) text
first_is byte [] = refl
first_is byte (c ∷ s) = first_one byte c s (nat_eq c byte) refl (first_is byte s)

pub first_is_next : (byte from : ℕ) (text : Bytes) → from + first_place byte (drop from text) ≡ next_place (byte ∷ []) from text
first_is_next byte from text = ap (λ n. from + n) (first_is byte (drop from text))
