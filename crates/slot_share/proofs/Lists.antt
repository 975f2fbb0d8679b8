-- Lists that change at one place.
use Rattle.std.proofs.Common.{◌≡◌, ◌≢◌, ◌⊎◌, ℕ, zero, suc, List, [], ◌∷◌, ◌++◌, map, set, refl, sym, ap, ◌∙◌, subst, ⊎_elim, inl, inr, arith, Contains}
use mathlib.Core.Option.{some, some-ne-none, some-injective}
use lib.ListN.{get_elem?}
use Rattle.atomic_table.proofs.Lists.{at_set}

-- what holds of each member holds after one was changed
pub on_set : {A : Type 0} (P : ℕ → A → Type 0) (xs : List A) (id : ℕ) (x : A) → ((j : ℕ) (y : A) → j ≢ id → get_elem? xs j ≡ some y → P j y) → P id x
    → (j : ℕ) (y : A) → get_elem? (set xs id x) j ≡ some y → P j y
on_set {A} P xs id x others mine j y e = ⊎_elim
    (λ (t : (j ≡ id) × (x ≡ y)). subst (λ (z : ℕ × A). P z.0 z.1) (λ i. (sym t.0 i, t.1 i)) mine)
    (λ (t : (j ≢ id) × (get_elem? xs j ≡ some y)). others j y t.0 t.1)
    (at_set xs id j x y e)

-- the changed member
pub here_set : {A : Type 0} (xs : List A) (id : ℕ) (x y : A) → get_elem? xs id ≡ some x → get_elem? (set xs id y) id ≡ some y
here_set [] id x y e = absurd (some-ne-none x (sym e))
here_set (z ∷ zs) zero x y e = refl
here_set (z ∷ zs) (suc id) x y e = here_set zs id x y e

pub map_set : {A B : Type 0} (f : A → B) (xs : List A) (i : ℕ) (x : A) → map f (set xs i x) ≡ set (map f xs) i (f x)
map_set f [] i x = refl
map_set f (y ∷ ys) zero x = refl
map_set f (y ∷ ys) (suc i) x = λ j. f y ∷ map_set f ys i x j

-- a member is replaced by one that f cannot tell from it
pub map_same : {A B : Type 0} (f : A → B) (xs : List A) (i : ℕ) (x y : A) → get_elem? xs i ≡ some x → f y ≡ f x → map f (set xs i y) ≡ map f xs
map_same f [] i x y e s = refl
map_same f (z ∷ zs) zero x y e s = λ j. (s ∙ ap f (sym (some-injective z x e))) j ∷ map f zs
map_same f (z ∷ zs) (suc i) x y e s = λ j. f z ∷ map_same f zs i x y e s j

pub map_snoc : {A B : Type 0} (f : A → B) (xs : List A) (x : A) → map f (xs ++ x ∷ []) ≡ map f xs ++ f x ∷ []
map_snoc f [] x = refl
map_snoc f (y ∷ ys) x = λ j. f y ∷ map_snoc f ys x j

-- what a longer list has is its first, or in the rest
pub cons_member : {A : Type 0} (x : A) (xs : List A) (y : A) → Contains (x ∷ xs) y → (x ≡ y) ⊎ Contains xs y
cons_member x xs y (zero, l, e) = inl e
cons_member x xs y (suc i, l, e) = inr (i, omega (arith, l), e)

pub first_in : {A : Type 0} (xs : List A) (x : A) → Contains (x ∷ xs) x
first_in xs x = (0, omega arith, refl)

pub none_in : {A : Type 0} (x : A) → Contains [] x → ⊥
none_in x (i, l, e) = absurd (omega (arith, l))
