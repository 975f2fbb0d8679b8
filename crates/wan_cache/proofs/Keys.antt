-- A query finds a key exactly where it is the key.
use Rattle.std.proofs.Common.{ℕ, ◌≡◌, ◌≢◌, ◌⊎◌, Bool, true, false, List, refl, sym, ap, ◌∙◌, inl, inr}
use Rattle.std.specs.Ordering.{nat_cmp, is_eq}
use Rattle.std.specs.Cmp.{Equal-is, tied_itself, nat_cmp_total}
use Rattle.std.specs.Cmp.Lexicographic.{nat_list_cmp_total}
use Rattle.std.specs.BTreeMap.{is_at}
use Rattle.std.proofs.lemmas.Map.Lookups.{exact_unsigned, exact_bytes}
use Rattle.wiki_titles.specs.Order.{bytes_cmp}

pub same_key : (k q : List ℕ) → is_at (bytes_cmp k) q ≡ true → k ≡ q
same_key k q h = exact_bytes k q ((Equal-is (bytes_cmp k q)).0 h)

pub found_itself : (k : List ℕ) → is_at (bytes_cmp k) k ≡ true
found_itself k = ap is_eq (tied_itself nat_list_cmp_total k)

pub found_other : (k q : List ℕ) → q ≢ k → is_at (bytes_cmp k) q ≡ false
found_other k q apart = by_answer (is_at (bytes_cmp k) q) refl
  where
    by_answer : (b : Bool) → is_at (bytes_cmp k) q ≡ b → is_at (bytes_cmp k) q ≡ false
    by_answer true h = absurd (apart (sym (same_key k q h)))
    by_answer false h = h

pub either_key : (k q : List ℕ) → (q ≡ k) ⊎ (q ≢ k)
either_key k q = by_answer (is_at (bytes_cmp k) q) refl
  where
    by_answer : (b : Bool) → is_at (bytes_cmp k) q ≡ b → (q ≡ k) ⊎ (q ≢ k)
    by_answer true h = inl (sym (same_key k q h))
    by_answer false h = inr (λ e. let h2 : is_at (bytes_cmp k) k ≡ false = ap (is_at (bytes_cmp k)) (sym e) ∙ h in let h1 = found_itself k in cc)

pub same_place : (p r : ℕ) → is_at (nat_cmp p) r ≡ true → p ≡ r
same_place p r h = exact_unsigned p r ((Equal-is (nat_cmp p r)).0 h)

pub place_itself : (p : ℕ) → is_at (nat_cmp p) p ≡ true
place_itself p = ap is_eq (tied_itself nat_cmp_total p)

pub place_other : (p r : ℕ) → r ≢ p → is_at (nat_cmp p) r ≡ false
place_other p r apart = by_answer (is_at (nat_cmp p) r) refl
  where
    by_answer : (b : Bool) → is_at (nat_cmp p) r ≡ b → is_at (nat_cmp p) r ≡ false
    by_answer true h = absurd (apart (sym (same_place p r h)))
    by_answer false h = h
