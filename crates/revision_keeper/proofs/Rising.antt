-- Lists of numbers that rise, and the last of them that is at most a bound.
use Rattle.std.proofs.Common.{◌≡◌, ℕ, zero, suc, ◌+◌, ◌-◌, ◌<◌, ◌≤◌, ◌⊎◌, inl, inr, Bool, true, false, cond, List, [], ◌∷◌, length, filter, take, Some, None, refl, sym, ap, ◌∙◌, arith, nat_lt, nat_le, get_or}
use Rattle.std.specs.Prelude.{bytes_eq}
use Rattle.std.proofs.lemmas.Bool.Decides.{nat_tests}
use Rattle.wiki_model.specs.Bytes.{last_of}
use Rattle.wiki_model.specs.Titles.{Title}
use Rattle.wiki_model.specs.History.{Entry, Beat, Committed, Numbered, commits_from, commits_on, page, number_of}
use Rattle.revision_keeper.specs.Indexes.{RiseFrom, last_up_to, numbers_of}

-- they rise from any smaller number too
rise_less : (m n : ℕ) (xs : List ℕ) → m ≤ n → RiseFrom n xs → RiseFrom m xs
rise_less m n [] le is = is
rise_less m n (x ∷ xs) le is = let least = is.0 in (omega (arith, le, least), is.1)

rise_at : (n : ℕ) (xs : List ℕ) → RiseFrom n xs → (i : ℕ) → i < length xs → n ≤ get_or xs i 0
rise_at n [] is i lt = let no : ⊥ = omega (arith, lt) in absurd no
rise_at n (x ∷ xs) is zero lt = is.0
rise_at n (x ∷ xs) is (suc i) lt = let least = is.0 in let later = rise_at (x + 1) xs is.1 i (omega (arith, lt)) in omega (arith, least, later)

pub rise_order : (n : ℕ) (xs : List ℕ) → RiseFrom n xs → (i j : ℕ) → i < j → j < length xs → get_or xs i 0 < get_or xs j 0
rise_order n [] is i j ij lt = let no : ⊥ = omega (arith, lt) in absurd no
rise_order n (x ∷ xs) is i zero ij lt = let no : ⊥ = omega (arith, ij) in absurd no
rise_order n (x ∷ xs) is zero (suc j) ij lt = let later = rise_at (x + 1) xs is.1 j (omega (arith, lt)) in omega (arith, later)
rise_order n (x ∷ xs) is (suc i) (suc j) ij lt = rise_order (x + 1) xs is.1 i j (omega (arith, ij)) (omega (arith, lt))

pub rise_weak : (xs : List ℕ) → RiseFrom 1 xs → (i j : ℕ) → i ≤ j → j < length xs → get_or xs i 0 ≤ get_or xs j 0
rise_weak xs is i j ij lt = by (below_or i j ij)
  where
    below_or : (i j : ℕ) → i ≤ j → (i < j) ⊎ (i ≡ j)
    below_or i j ij = grind (arith, ij)

    by : (i < j) ⊎ (i ≡ j) → get_or xs i 0 ≤ get_or xs j 0
    by (inl less) = let more = rise_order 1 xs is i j less lt in omega (arith, more)
    by (inr same) = let here : get_or xs i 0 ≡ get_or xs j 0 = ap (λ k. get_or xs k 0) same in omega (arith, here)

-- those at most the bound are a prefix

none_above : (bound : ℕ) (xs : List ℕ) → ((i : ℕ) → i < length xs → bound < get_or xs i 0) → filter (λ n. nat_le n bound) xs ≡ []
none_above bound [] above = refl
none_above bound (x ∷ xs) above =
    let first : bound < x = above zero (omega arith) in
    let test : nat_le x bound ≡ false = grind (arith, nat_tests, first) in
    ap (λ b. cond b (x ∷ filter (λ n. nat_le n bound) xs) (filter (λ n. nat_le n bound) xs)) test
    ∙ none_above bound xs (λ i lt. above (suc i) (omega (arith, lt)))

prefix_is : (bound : ℕ) (xs : List ℕ) (place : ℕ) → ((i : ℕ) → i < place → i < length xs → get_or xs i 0 ≤ bound) → ((i : ℕ) → place ≤ i → i < length xs → bound < get_or xs i 0)
    → filter (λ n. nat_le n bound) xs ≡ take place xs
prefix_is bound xs zero below above = none_above bound xs (λ i lt. above i (omega arith) lt)
prefix_is bound [] (suc place) below above = refl
prefix_is bound (x ∷ xs) (suc place) below above =
    let first : x ≤ bound = below zero (omega arith) (omega arith) in
    let test : nat_le x bound ≡ true = grind (arith, nat_tests, first) in
    ap (λ b. cond b (x ∷ filter (λ n. nat_le n bound) xs) (filter (λ n. nat_le n bound) xs)) test
    ∙ ap (λ ys. x ∷ ys) (prefix_is bound xs place (λ i lt within. below (suc i) (omega (arith, lt)) (omega (arith, within))) (λ i ge lt. above (suc i) (omega (arith, ge)) (omega (arith, lt))))

last_take : (xs : List ℕ) (i : ℕ) → i < length xs → last_of (take (suc i) xs) ≡ Some (get_or xs i 0)
last_take [] i lt = let no : ⊥ = omega (arith, lt) in absurd no
last_take (x ∷ xs) zero lt = refl
last_take (x ∷ []) (suc i) lt = let no : ⊥ = omega (arith, lt) in absurd no
last_take (x ∷ y ∷ xs) (suc i) lt = last_take (y ∷ xs) i (omega (arith, lt))

-- the bound itself stands there
pub found_at : (xs : List ℕ) (bound i : ℕ) → RiseFrom 1 xs → i < length xs → get_or xs i 0 ≡ bound → last_up_to bound xs ≡ Some bound
found_at xs bound i rise lt at =
    ap last_of (prefix_is bound xs (suc i) (λ j le within. upto j (before_or j le)) (λ j ge within. let more = rise_order 1 xs rise i j (omega (arith, ge)) within in omega (arith, more, at)))
    ∙ last_take xs i lt ∙ ap Some at
  where
    before_or : (j : ℕ) → j < suc i → (j < i) ⊎ (j ≡ i)
    before_or j le = grind (arith, le)

    upto : (j : ℕ) → (j < i) ⊎ (j ≡ i) → get_or xs j 0 ≤ bound
    upto j (inl less) = let more = rise_order 1 xs rise j i less lt in omega (arith, more, at)
    upto j (inr same) = let here : get_or xs j 0 ≡ get_or xs i 0 = ap (λ k. get_or xs k 0) same in omega (arith, here, at)

-- the bound would stand at this place
pub found_before : (xs : List ℕ) (bound place : ℕ) → 0 < place → place ≤ length xs
    → ((i : ℕ) → i < place → get_or xs i 0 < bound) → ((i : ℕ) → place ≤ i → i < length xs → bound < get_or xs i 0) → last_up_to bound xs ≡ Some (get_or xs (place - 1) 0)
found_before xs bound zero some within below above = let no : ⊥ = omega (arith, some) in absurd no
found_before xs bound (suc i) some within below above =
    let back : suc i - 1 ≡ i = omega arith in
    ap last_of (prefix_is bound xs (suc i) (λ j lt _. let less = below j lt in omega (arith, less)) above)
    ∙ last_take xs i (omega (arith, within)) ∙ ap (λ k. Some (get_or xs k 0)) (sym back)

pub found_none : (xs : List ℕ) (bound : ℕ) → ((i : ℕ) → 0 ≤ i → i < length xs → bound < get_or xs i 0) → last_up_to bound xs ≡ None
found_none xs bound above = ap last_of (none_above bound xs (λ i lt. above i (omega arith) lt))

-- the numbers of commits rise

rise_from : (p : Numbered → Bool) (n : ℕ) (h : List Entry) → RiseFrom n (numbers_of (filter p (commits_from n h)))
rise_from p n [] = search
rise_from p n (Beat s ∷ h) = rise_less n (n + 1) (numbers_of (filter p (commits_from (n + 1) h))) (omega arith) (rise_from p (n + 1) h)
rise_from p n (Committed c ∷ h) = by (p (record { number = n; commit = c })) (rise_from p (n + 1) h)
  where
    by : (b : Bool) → RiseFrom (n + 1) (numbers_of (filter p (commits_from (n + 1) h)))
        → RiseFrom n (numbers_of (cond b (let x : Numbered = record { number = n; commit = c } in x ∷ filter p (commits_from (n + 1) h)) (filter p (commits_from (n + 1) h))))
    by true later = (omega arith, later)
    by false later = rise_less n (n + 1) (numbers_of (filter p (commits_from (n + 1) h))) (omega arith) later

pub rising : (h : List Entry) (title : Title) → RiseFrom 1 (numbers_of (commits_on h title))
rising h title = rise_from (λ n. bytes_eq n.commit.edit.title title) 1 h

-- the numbers of the commits of a prefix are those at most its length

none_below : (limit : ℕ) (xs : List ℕ) → RiseFrom limit xs → filter (λ n. nat_lt n limit) xs ≡ []
none_below limit [] is = refl
none_below limit (x ∷ xs) is =
    let least = is.0 in
    let test : nat_lt x limit ≡ false = grind (arith, nat_tests, least) in
    ap (λ b. cond b (x ∷ filter (λ n. nat_lt n limit) xs) (filter (λ n. nat_lt n limit) xs)) test
    ∙ none_below limit xs (rise_less limit (x + 1) xs (omega (arith, least)) is.1)

filter_same : (p q : ℕ → Bool) → ((n : ℕ) → p n ≡ q n) → (xs : List ℕ) → filter p xs ≡ filter q xs
filter_same p q same [] = refl
filter_same p q same (x ∷ xs) =
    ap (λ b. cond b (x ∷ filter p xs) (filter p xs)) (same x) ∙ ap (λ ys. cond (q x) (x ∷ ys) ys) (filter_same p q same xs)

below : (p : Numbered → Bool) (n k : ℕ) (h : List Entry)
    → numbers_of (filter p (commits_from n (take k h))) ≡ filter (λ x. nat_lt x (n + k)) (numbers_of (filter p (commits_from n h)))
below p n zero h =
    let e : n + 0 ≡ n = omega arith in
    sym (ap (λ m. filter (λ x. nat_lt x m) (numbers_of (filter p (commits_from n h)))) e ∙ none_below n (numbers_of (filter p (commits_from n h))) (rise_from p n h))
below p n (suc k) [] = refl
below p n (suc k) (Beat s ∷ h) =
    let e : (n + 1) + k ≡ n + suc k = omega arith in
    below p (n + 1) k h ∙ ap (λ m. filter (λ x. nat_lt x m) (numbers_of (filter p (commits_from (n + 1) h)))) e
below p n (suc k) (Committed c ∷ h) =
    let e : (n + 1) + k ≡ n + suc k = omega arith in
    by (p (record { number = n; commit = c })) (below p (n + 1) k h ∙ ap (λ m. filter (λ x. nat_lt x m) (numbers_of (filter p (commits_from (n + 1) h)))) e)
  where
    by : (b : Bool) → numbers_of (filter p (commits_from (n + 1) (take k h))) ≡ filter (λ x. nat_lt x (n + suc k)) (numbers_of (filter p (commits_from (n + 1) h)))
        → numbers_of (cond b (let x : Numbered = record { number = n; commit = c } in x ∷ filter p (commits_from (n + 1) (take k h))) (filter p (commits_from (n + 1) (take k h))))
        ≡ filter (λ x. nat_lt x (n + suc k)) (numbers_of (cond b (let x : Numbered = record { number = n; commit = c } in x ∷ filter p (commits_from (n + 1) h)) (filter p (commits_from (n + 1) h))))
    by true later =
        let rest = numbers_of (filter p (commits_from (n + 1) h)) in
        let test : nat_lt n (n + suc k) ≡ true = grind (arith, nat_tests) in
        ap (λ ys. n ∷ ys) later ∙ sym (ap (λ b. cond b (n ∷ filter (λ x. nat_lt x (n + suc k)) rest) (filter (λ x. nat_lt x (n + suc k)) rest)) test)
    by false later = later

number_last : (xs : List Numbered) → number_of (last_of xs) ≡ last_of (numbers_of xs)
number_last [] = refl
number_last (x ∷ []) = refl
number_last (x ∷ y ∷ xs) = number_last (y ∷ xs)

-- the page of a prefix is that of the last of the title's numbers within it
pub page_is : (h : List Entry) (k : ℕ) (title : Title) → number_of (page h k title) ≡ last_up_to k (numbers_of (commits_on h title))
page_is h k title =
    number_last (commits_on (take k h) title)
    ∙ ap last_of (below (λ n. bytes_eq n.commit.edit.title title) 1 k h ∙ filter_same (λ x. nat_lt x (1 + k)) (λ x. nat_le x k) within (numbers_of (commits_on h title)))
  where
    within : (n : ℕ) → nat_lt n (1 + k) ≡ nat_le n k
    within n = grind (arith, nat_tests)
