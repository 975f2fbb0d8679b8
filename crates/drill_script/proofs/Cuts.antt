-- Where a word ends: at the first place of a byte. Cutting there and putting together again are inverse.
use Rattle.std.proofs.Common.{◌≡◌, ◌≢◌, ℕ, suc, ◌+◌, Bool, true, false, cond, not, nat_lt, ◌==◌, ◌&&◌, [], ◌∷◌, ◌++◌, length, take, drop, Option, None, Some, refl, sym, ap, subst, ◌∙◌, arith, option_map}
use Rattle.std.specs.List.{position_or_len, list_all}
use Rattle.std.proofs.lemmas.Bool.Decides.{nat_tests}
use Rattle.std.proofs.lemmas.Option.{none-some, same_Some}
use Rattle.wiki_model.specs.Bytes.{Bytes}
use Rattle.drill_script.specs.Words.{cut_first}

-- the byte stands nowhere
abbrev pub Without : ℕ → Bytes → Type 0
Without c [] = Unit {0}
Without c (x ∷ text) = (x ≢ c) × Without c text

abbrev onto : ℕ → Option (Bytes × Bytes) → Option (Bytes × Bytes)
onto x o = option_map (λ (p : Bytes × Bytes). (x ∷ p.0, p.1)) o

abbrev cut_by : Bool → ℕ → Bytes → Option (Bytes × Bytes) → Option (Bytes × Bytes)
cut_by t x xs o = cond t (Some ([], xs)) (onto x o)

abbrev is : ℕ → ℕ → Bool
is c b = b == c

one_on : (x : ℕ) (xs : Bytes) (p m n : ℕ) → m ≡ suc p → n ≡ suc (p + 1) → Some (take m (x ∷ xs), drop n (x ∷ xs)) ≡ onto x (Some (take p xs, drop (p + 1) xs))
one_on x xs p m n em en = ap (λ k. Some (take k (x ∷ xs), drop n (x ∷ xs))) em ∙ ap (λ k. Some (take (suc p) (x ∷ xs), drop k (x ∷ xs))) en

step : (c x : ℕ) (xs : Bytes) → cut_first c (x ∷ xs) ≡ cut_by (x == c) x xs (cut_first c xs)
unfolding cut_first
step c x xs = by_test (x == c)
  where
    place : ℕ
    place = position_or_len (λ b. b == c) xs

    inner : (q : Bool) → nat_lt place (length xs) ≡ q →
        cond (nat_lt (1 + place) (length (x ∷ xs))) (Some (take (1 + place) (x ∷ xs), drop (1 + place + 1) (x ∷ xs))) None ≡ onto x (cond q (Some (take place xs, drop (place + 1) xs)) None)
    inner true q =
        let t : nat_lt (1 + place) (length (x ∷ xs)) ≡ true = grind (arith, nat_tests, q) in
        ap (λ b. cond b (Some (take (1 + place) (x ∷ xs), drop (1 + place + 1) (x ∷ xs))) None) t ∙ one_on x xs place (1 + place) (1 + place + 1) (omega arith) (omega arith)
    inner false q =
        let t : nat_lt (1 + place) (length (x ∷ xs)) ≡ false = grind (arith, nat_tests, q) in
        ap (λ b. cond b (Some (take (1 + place) (x ∷ xs), drop (1 + place + 1) (x ∷ xs))) None) t

    by_test : (t : Bool) →
        cond (nat_lt (cond (not t) (1 + place) 0) (length (x ∷ xs))) (Some (take (cond (not t) (1 + place) 0) (x ∷ xs), drop (cond (not t) (1 + place) 0 + 1) (x ∷ xs))) None
        ≡ cut_by t x xs (cond (nat_lt place (length xs)) (Some (take place xs, drop (place + 1) xs)) None)
    by_test true =
        let t : nat_lt 0 (length (x ∷ xs)) ≡ true = grind (arith, nat_tests) in
        ap (λ b. cond b (Some (take 0 (x ∷ xs), drop (0 + 1) (x ∷ xs))) None) t
    by_test false = inner (nat_lt place (length xs)) refl

empty : (c : ℕ) → cut_first c [] ≡ None
unfolding cut_first
empty c = refl

-- what was cut, put together
pub cut_found : (c : ℕ) (b w r : Bytes) → cut_first c b ≡ Some (w, r) → (b ≡ w ++ c ∷ r) × Without c w
cut_found c [] w r e = absurd (none-some _ (sym (empty c) ∙ e))
cut_found c (x ∷ xs) w r e = by_test (x == c) refl (cut_first c xs) (cut_found c xs) (sym (step c x xs) ∙ e)
  where
    by_test : (t : Bool) → (x == c) ≡ t → (o : Option (Bytes × Bytes)) → ((v s : Bytes) → o ≡ Some (v, s) → (xs ≡ v ++ c ∷ s) × Without c v) → cut_by t x xs o ≡ Some (w, r) → (x ∷ xs ≡ w ++ c ∷ r) × Without c w
    by_test true q o ih k =
        let same : ([], xs) ≡ (w, r) = same_Some ([], xs) (w, r) k in
        let first : x ≡ c = grind (arith, nat_tests, q) in
        subst (λ (p : Bytes × Bytes). (x ∷ xs ≡ p.0 ++ c ∷ p.1) × Without c p.0) same (ap (λ y. y ∷ xs) first, tt)
    by_test false q None ih k = absurd (none-some _ k)
    by_test false q (Some p) ih k =
        let same : (x ∷ p.0, p.1) ≡ (w, r) = same_Some (x ∷ p.0, p.1) (w, r) k in
        let rest = ih p.0 p.1 refl in
        subst (λ (z : Bytes × Bytes). (x ∷ xs ≡ z.0 ++ c ∷ z.1) × Without c z.0) same (ap (λ l. x ∷ l) rest.0, ((λ first. differs first), rest.1))
      where
        differs : x ≡ c → ⊥
        differs first = grind (arith, nat_tests, q, first)

-- what is put together, cut
pub cut_made : (c : ℕ) (w r : Bytes) → Without c w → cut_first c (w ++ c ∷ r) ≡ Some (w, r)
cut_made c [] r u = let t : (c == c) ≡ true = grind (arith, nat_tests) in step c c r ∙ ap (λ b. cut_by b c r (cut_first c r)) t
cut_made c (x ∷ w) r (n, u) =
    let t : (x == c) ≡ false = grind (arith, nat_tests, n) in
    step c x (w ++ c ∷ r) ∙ ap (λ b. cut_by b x (w ++ c ∷ r) (cut_first c (w ++ c ∷ r))) t ∙ ap (onto x) (cut_made c w r u)

-- what is not cut has no such byte
pub cut_nowhere : (c : ℕ) (b : Bytes) → cut_first c b ≡ None → Without c b
cut_nowhere c [] e = tt
cut_nowhere c (x ∷ xs) e = by_test (x == c) refl (cut_first c xs) (cut_nowhere c xs) (sym (step c x xs) ∙ e)
  where
    by_test : (t : Bool) → (x == c) ≡ t → (o : Option (Bytes × Bytes)) → (o ≡ None → Without c xs) → cut_by t x xs o ≡ None → (x ≢ c) × Without c xs
    by_test true q o ih k = absurd (none-some _ (sym k))
    by_test false q None ih k = ((λ first. grind (arith, nat_tests, q, first)), ih refl)
    by_test false q (Some p) ih k = absurd (none-some _ (sym k))

pub cut_none : (c : ℕ) (b : Bytes) → Without c b → cut_first c b ≡ None
cut_none c [] u = empty c
cut_none c (x ∷ xs) (n, u) =
    let t : (x == c) ≡ false = grind (arith, nat_tests, n) in
    step c x xs ∙ ap (λ b. cut_by b x xs (cut_first c xs)) t ∙ ap (onto x) (cut_none c xs u)

-- a byte that fails a test stands in no text that passes it
pub all_without : (test : ℕ → Bool) (c : ℕ) → test c ≡ false → (text : Bytes) → list_all test text ≡ true → Without c text
all_without test c fails [] all = tt
all_without test c fails (x ∷ text) all = let (one, others) = both (test x) (list_all test text) all in ((λ same. no_more (sym one ∙ ap test same ∙ fails)), all_without test c fails text others)
  where
    both : (a b : Bool) → (a && b) ≡ true → (a ≡ true) × (b ≡ true)
    both true b e = (refl, e)
    both false b e = let bad : ⊥ = cc in absurd bad

    no_more : true ≡ false → ⊥
    no_more e = cc
