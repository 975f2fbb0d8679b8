-- The order of last use stays one relation: a new use has a number that no key had, and a key that goes takes its number along.
use Rattle.std.proofs.Common.{ℕ, ◌≡◌, ◌≢◌, ◌⊎◌, ◌+◌, ◌<◌, List, Option, Some, None, refl, sym, ap, ◌∙◌, arith, inl, inr}
use Rattle.std.proofs.lemmas.Bool.{cases_eq}
use Rattle.wan_cache.specs.RecentUses.{key_in, AreBelow, IsInOrder}
use Rattle.wan_cache.proofs.Keys.{either_key}

module _ (uses new_uses : List ℕ → Option ℕ) (keys new_keys : ℕ → Option (List ℕ)) (next : ℕ) (key : List ℕ) where
  -- the key has the newest use; a use that it had before is gone
  pub record NewUse (before : Option ℕ) : Type 0 where
    pub was : uses key ≡ before
    pub free : keys next ≡ None
    pub used : new_uses key ≡ Some next
    pub others : (q : List ℕ) → q ≢ key → new_uses q ≡ uses q
    pub place : new_keys next ≡ Some key
    pub places : (p : ℕ) → p ≢ next → Some p ≢ before → new_keys p ≡ keys p
    pub left : (p : ℕ) → Some p ≡ before → p ≢ next → new_keys p ≡ None

  was_before : (before : Option ℕ) (p : ℕ) → (Some p ≡ before) ⊎ (Some p ≢ before)
  was_before None p = inr (λ e. cc)
  was_before (Some r) p = by (cases_eq p r)
    where
      by : (p ≡ r) ⊎ (p ≢ r) → (Some p ≡ Some r) ⊎ (Some p ≢ Some r)
      by (inl same) = inl (ap Some same)
      by (inr differ) = inr (λ e. differ cc)

  -- another place has the key that it had
  same_place_key : (before : Option ℕ) → NewUse before → (p : ℕ) (q : List ℕ) → p ≢ next → new_keys p ≡ Some q → (Some p ≡ before) ⊎ (Some p ≢ before) → (keys p ≡ Some q) × (Some p ≢ before)
  same_place_key before newly p q apart e (inl had) = let h = newly.left p had apart in absurd cc
  same_place_key before newly p q apart e (inr kept) = (sym (newly.places p apart kept) ∙ e, kept)

  pub newest : (before : Option ℕ) → IsInOrder uses keys → NewUse before → IsInOrder new_uses new_keys
  newest before known newly = record { there = λ q p e. there_at q p (either_key key q) e; back = λ p q e. back_at p q (cases_eq p next) e }
    where
      there_at : (q : List ℕ) (p : ℕ) → (q ≡ key) ⊎ (q ≢ key) → new_uses q ≡ Some p → new_keys p ≡ Some q
      there_at q p (inl same) e = let h1 = newly.used in let h2 = newly.place in let h3 : new_uses q ≡ new_uses key = ap new_uses same in cc
      there_at q p (inr apart) e =
          let was : uses q ≡ Some p = sym (newly.others q apart) ∙ e in
          let k : keys p ≡ Some q = known.there q p was in
          let n1 : p ≢ next = λ h. let f = newly.free in let g : keys p ≡ keys next = ap keys h in cc in
          let n2 : Some p ≢ before = λ h. let k2 : keys p ≡ Some key = known.there key p (newly.was ∙ sym h) in apart cc in
          newly.places p n1 n2 ∙ k

      back_at : (p : ℕ) (q : List ℕ) → (p ≡ next) ⊎ (p ≢ next) → new_keys p ≡ Some q → new_uses q ≡ Some p
      back_at p q (inl same) e =
          let h2 = newly.place in let h3 : new_keys p ≡ new_keys next = ap new_keys same in
          let k : key ≡ q = cc in
          ap new_uses (sym k) ∙ newly.used ∙ ap Some (sym same)
      back_at p q (inr apart) e = let k = same_place_key before newly p q apart e (was_before before p) in let u : uses q ≡ Some p = known.back p q k.0 in
          let n : q ≢ key = λ h. let u2 : uses key ≡ Some p = ap uses (sym h) ∙ u in k.1 (sym u2 ∙ newly.was) in
          newly.others q n ∙ u

  -- nothing has changed
  pub unchanged : IsInOrder uses keys → ((q : List ℕ) → new_uses q ≡ uses q) → ((p : ℕ) → new_keys p ≡ keys p) → IsInOrder new_uses new_keys
  unchanged known same_uses same_keys = record {
    there = λ q p e. same_keys p ∙ known.there q p (sym (same_uses q) ∙ e);
    back = λ p q e. same_uses q ∙ known.back p q (sym (same_keys p) ∙ e);
  }

  -- the key and its use are gone
  pub record NoUse (place : ℕ) : Type 0 where
    pub was : keys place ≡ Some key
    pub used : new_uses key ≡ None
    pub others : (q : List ℕ) → q ≢ key → new_uses q ≡ uses q
    pub empty : new_keys place ≡ None
    pub places : (p : ℕ) → p ≢ place → new_keys p ≡ keys p

  pub without : (place : ℕ) → IsInOrder uses keys → NoUse place → IsInOrder new_uses new_keys
  without place known newly = record { there = λ q p e. there_at q p (either_key key q) e; back = λ p q e. back_at p q (cases_eq p place) e }
    where
      there_at : (q : List ℕ) (p : ℕ) → (q ≡ key) ⊎ (q ≢ key) → new_uses q ≡ Some p → new_keys p ≡ Some q
      there_at q p (inl same) e = let h1 = newly.used in let h3 : new_uses q ≡ new_uses key = ap new_uses same in absurd cc
      there_at q p (inr apart) e =
          let was : uses q ≡ Some p = sym (newly.others q apart) ∙ e in
          let k : keys p ≡ Some q = known.there q p was in
          let n : p ≢ place = λ h. let k2 : keys place ≡ Some q = ap keys (sym h) ∙ k in let k3 = newly.was in apart cc in
          newly.places p n ∙ k

      back_at : (p : ℕ) (q : List ℕ) → (p ≡ place) ⊎ (p ≢ place) → new_keys p ≡ Some q → new_uses q ≡ Some p
      back_at p q (inl same) e = let h1 = newly.empty in let h3 : new_keys p ≡ new_keys place = ap new_keys same in absurd cc
      back_at p q (inr apart) e =
          let k : keys p ≡ Some q = sym (newly.places p apart) ∙ e in
          let u : uses q ≡ Some p = known.back p q k in
          let n : q ≢ key = λ h. let u2 : uses key ≡ Some place = known.back place key newly.was in let u3 : uses q ≡ uses key = ap uses h in apart cc in
          newly.others q n ∙ u

-- one use more, which was the next
pub below_next : (keys new_keys : List (ℕ × List ℕ)) (next : ℕ) → AreBelow keys next → ((p : ℕ) → p ≢ next → key_in new_keys p ≡ key_in keys p) → AreBelow new_keys (next + 1)
below_next keys new_keys next below others p q e = by (cases_eq p next)
  where
    by : (p ≡ next) ⊎ (p ≢ next) → p < next + 1
    by (inl same) = omega (arith, same)
    by (inr apart) = let l = below p q (sym (others p apart) ∙ e) in omega (arith, l)

-- fewer uses
pub below_fewer : (keys new_keys : List (ℕ × List ℕ)) (next gone : ℕ) → AreBelow keys next → key_in new_keys gone ≡ None → ((p : ℕ) → p ≢ gone → key_in new_keys p ≡ key_in keys p) → AreBelow new_keys next
below_fewer keys new_keys next gone below left others p q e = by (cases_eq p gone)
  where
    by : (p ≡ gone) ⊎ (p ≢ gone) → p < next
    by (inl same) = let h : key_in new_keys p ≡ key_in new_keys gone = ap (key_in new_keys) same in absurd cc
    by (inr apart) = below p q (sym (others p apart) ∙ e)

-- the next use has no key yet
pub next_free : (keys : List (ℕ × List ℕ)) (next : ℕ) → AreBelow keys next → key_in keys next ≡ None
next_free keys next below = by (key_in keys next) refl
  where
    by : (o : Option (List ℕ)) → key_in keys next ≡ o → key_in keys next ≡ None
    by None e = e
    by (Some q) e = let l = below next q e in absurd (omega (arith, l))

-- a use that was given and forgotten again
pub forgotten : (keys middle new_keys : List (ℕ × List ℕ)) (next : ℕ) → key_in keys next ≡ None → ((p : ℕ) → p ≢ next → key_in middle p ≡ key_in keys p)
    → key_in new_keys next ≡ None → ((p : ℕ) → p ≢ next → key_in new_keys p ≡ key_in middle p) → (p : ℕ) → key_in new_keys p ≡ key_in keys p
forgotten keys middle new_keys next free given gone left p = by (cases_eq p next)
  where
    by : (p ≡ next) ⊎ (p ≢ next) → key_in new_keys p ≡ key_in keys p
    by (inl same) = ap (key_in new_keys) same ∙ gone ∙ sym free ∙ ap (key_in keys) (sym same)
    by (inr apart) = left p apart ∙ given p apart
