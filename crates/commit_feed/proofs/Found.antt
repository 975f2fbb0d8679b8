-- What is found in a history stands there: a commit at its number, and no more commits than entries.
use Rattle.std.proofs.Common.{◌≡◌, ℕ, zero, suc, ◌≤◌, ◌+◌, Bool, true, false, cond, List, [], ◌∷◌, length, filter, take, Option, None, Some, refl, ap, ◌∙◌, arith}
use Rattle.std.specs.Prelude.{find, slice_get, bytes_eq}
use Rattle.std.proofs.lemmas.List.Sums.{length-filter, count_by-le-length}
use Rattle.wiki_model.specs.Titles.{Title, Client, Token}
use Rattle.wiki_model.specs.History.{Entry, Beat, Committed, Numbered, commits_from, commits, commits_on, commits_by, entry_at, page, number_of, commit_with_token, current_revision, IsHistory, count}
use Rattle.wiki_model.proofs.SessionLaws.{last-get, filter-get, numbered-at}
use Rattle.wiki_model.proofs.HistoryGrowth.{current-counted}

-- a number comes from a commit that was found
pub number_some : (found : Option Numbered) (n : ℕ) → number_of found ≡ Some n → (k : Numbered) × (found ≡ Some k) × (k.number ≡ n)
number_some None n is = let no : ⊥ = cc in absurd no
number_some (Some k) n is = (k, refl, cc)

pub number_none : (found : Option Numbered) → number_of found ≡ None → found ≡ None
number_none None is = refl
number_none (Some k) is = let no : ⊥ = cc in absurd no

find_get : {A : Type 0} (p : A → Bool) (xs : List A) (x : A) → find p xs ≡ Some x → (i : ℕ) × (slice_get xs i ≡ Some x)
find_get p [] x is = let no : ⊥ = cc in absurd no
find_get p (y ∷ xs) x is = by (p y) (λ rest. find_get p xs x rest) is
  where
    by : (b : Bool) → (find p xs ≡ Some x → (i : ℕ) × (slice_get xs i ≡ Some x)) → cond b (Some y) (find p xs) ≡ Some x → (i : ℕ) × (slice_get (y ∷ xs) i ≡ Some x)
    by true later is = (zero, is)
    by false later is = let found = later is in (suc found.0, found.1)

-- a commit of the list stands in the history under its number
numbered_entry : (h : List Entry) (p : Numbered → Bool) (i : ℕ) (k : Numbered) → slice_get (filter p (commits h)) i ≡ Some k → (j : ℕ) × (k.number ≡ suc j) × (slice_get h j ≡ Some (Committed k.commit))
numbered_entry h p i k is =
    let place = filter-get p (commits h) i k is in
    let found = numbered-at 1 h place.0 k place.1 in
    let number : k.number ≡ suc found.0 = omega (arith, found.1) in
    (found.0, number, found.2)

pub with_token_at : (h : List Entry) (client : Client) (token : Token) (k : Numbered) → commit_with_token h client token ≡ Some k → entry_at h k.number ≡ Some (Committed k.commit)
with_token_at h client token k is =
    let place = find_get (λ (n : Numbered). bytes_eq n.commit.edit.token token) (commits_by h client) k is in
    let found = numbered_entry h (λ n. bytes_eq n.commit.edit.client client) place.0 k place.1 in
    ap (entry_at h) found.1 ∙ found.2

get_take : {A : Type 0} (xs : List A) (k j : ℕ) (x : A) → slice_get (take k xs) j ≡ Some x → slice_get xs j ≡ Some x
get_take xs zero j x is = let no : ⊥ = cc in absurd no
get_take [] (suc k) j x is = is
get_take (y ∷ xs) (suc k) zero x is = is
get_take (y ∷ xs) (suc k) (suc j) x is = get_take xs k j x is

pub page_at : (h : List Entry) (k : ℕ) (title : Title) (n : Numbered) → page h k title ≡ Some n → entry_at h n.number ≡ Some (Committed n.commit)
page_at h k title n is =
    let place = last-get (commits_on (take k h) title) n is in
    let found = numbered_entry (take k h) (λ m. bytes_eq m.commit.edit.title title) place.0 n place.2 in
    ap (entry_at h) found.1 ∙ get_take h k found.0 (Committed n.commit) found.2

-- there are no more commits than entries

pub commits_few : (n : ℕ) (h : List Entry) → length (commits_from n h) ≤ length h
commits_few n [] = omega arith
commits_few n (Beat s ∷ h) = let rest = commits_few (n + 1) h in omega (arith, rest)
commits_few n (Committed c ∷ h) = let rest = commits_few (n + 1) h in omega (arith, rest)

pub filter_few : (p : Numbered → Bool) (h : List Entry) → length (filter p (commits h)) ≤ length h
filter_few p h =
    let all = commits_few 1 h in
    let passing = length-filter p (commits h) in
    let some = count_by-le-length p (commits h) in
    omega (arith, all, passing, some)

pub few_by : (h : List Entry) (client : Client) → count h client ≤ length h
few_by h client = filter_few (λ n. bytes_eq n.commit.edit.client client) h

pub few_revisions : (h : List Entry) → IsHistory h → (title : Title) → current_revision h title ≤ length h
few_revisions h is title =
    let few = filter_few (λ n. bytes_eq n.commit.edit.title title) h in
    let counted = current-counted h is title in
    omega (arith, few, counted)
