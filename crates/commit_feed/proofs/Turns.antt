-- One entry of a pass over a list of entries.
use Rattle.std.proofs.Common.{◌≡◌, ℕ, zero, suc, ◌<◌, ◌+◌, ◌-◌, Bool, true, false, ◌&&◌, cond, List, [], ◌∷◌, length, get_or, drop, map, filter, Option, None, Some, refl, sym, ap, ◌∙◌, add-one, arith, count_by}
use Rattle.std.specs.Prelude.{find, bytes_eq, slice_get, option_map}
use Rattle.std.proofs.lemmas.Bool.{false≢true}
use Rattle.std.proofs.lemmas.List.Sums.{sum_by-cons}
use Rattle.std.proofs.Math.Seq.{drop-cons}
use Rattle.wiki_model.specs.Bytes.{last_of}
use Rattle.wiki_model.specs.Titles.{Client, Token}
use Rattle.wiki_model.specs.History.{Commit, Numbered, commits_from, commits, number_of, commit_with_token, entry_at}
use Rattle.wiki_model.specs.History as model
use Rattle.wiki_model.specs.Html.{or_else}
use Rattle.commit_feed.specs.declared.entry.Entry.{Entry}
use Rattle.commit_feed.specs.AsModel.{entry_of}
use Rattle.commit_feed.specs.Feed.{passes, passing, last_number, first_number, number_passing, by, of}

or_else_none : {A : Type 0} (o : Option A) → or_else o None ≡ o
or_else_none None = refl
or_else_none (Some x) = refl

or_else_cond : {A : Type 0} (a : Option A) (b : Bool) (x : A) (last : Option A) → or_else (or_else a (cond b (Some x) None)) last ≡ or_else a (cond b (Some x) last)
or_else_cond None true x last = refl
or_else_cond None false x last = refl
or_else_cond (Some y) b x last = refl

-- the last of a list, one item in front of it

last_kept : {A : Type 0} (y : A) (ys : List A) (o : Option A) → or_else (last_of (y ∷ ys)) o ≡ last_of (y ∷ ys)
last_kept y [] o = refl
last_kept y (z ∷ zs) o = last_kept z zs o

last_cons : {A : Type 0} (x : A) (xs : List A) → last_of (x ∷ xs) ≡ or_else (last_of xs) (Some x)
last_cons x [] = refl
last_cons x (y ∷ ys) = sym (last_kept y ys (Some x))

number_or : (found : Option Numbered) (x : Numbered) → number_of (or_else found (Some x)) ≡ or_else (number_of found) (Some x.number)
number_or None x = refl
number_or (Some y) x = refl

last_cond : (b : Bool) (x : Numbered) (xs : List Numbered) → number_of (last_of (cond b (x ∷ xs) xs)) ≡ or_else (number_of (last_of xs)) (cond b (Some x.number) None)
last_cond true x xs = ap number_of (last_cons x xs) ∙ number_or (last_of xs) x
last_cond false x xs = sym (or_else_none (number_of (last_of xs)))

last_step : (test : Commit → Bool) (n : ℕ) (e : model.Entry) (es : List model.Entry) →
    last_number test n (e ∷ es) ≡ or_else (last_number test (n + 1) es) (cond (passes test e) (Some n) None)
last_step test n (model.Beat stamp) es = sym (or_else_none (last_number test (n + 1) es))
last_step test n (model.Committed c) es = last_cond (test c) (record { number = n; commit = c }) (passing test (n + 1) es)

-- what is left, over what was found
last_turn : (test : Commit → Bool) (i : ℕ) (xs : List Entry) (d : Entry) (last : Option ℕ) → i < length xs →
    or_else (last_number test (i + 1) (map entry_of (drop i xs))) last ≡
    or_else (last_number test (i + 1 + 1) (map entry_of (drop (i + 1) xs))) (cond (passes test (entry_of (get_or xs i d))) (Some (i + 1)) last)
last_turn test i xs d last h =
    let rest = map entry_of (drop (i + 1) xs) in
    let e = entry_of (get_or xs i d) in
    ap (λ es. or_else (last_number test (i + 1) (map entry_of es)) last) (drop-cons xs i d h ∙ ap (λ j. get_or xs i d ∷ drop j xs) (sym (add-one i)))
    ∙ ap (λ o. or_else o last) (last_step test (i + 1) e rest)
    ∙ or_else_cond (last_number test (i + 1 + 1) rest) (passes test e) (i + 1) last

-- one turn of the pass: the entry here passes, or what was found stays
pub last_more : (test : Commit → Bool) (i : ℕ) (xs : List Entry) (d : Entry) (last new whole : Option ℕ) (b : Bool) → i < length xs → d ≡ get_or xs i d →
    passes test (entry_of d) ≡ b → new ≡ cond b (Some (i + 1)) last →
    or_else (last_number test (i + 1) (map entry_of (drop i xs))) last ≡ whole → or_else (last_number test (i + 1 + 1) (map entry_of (drop (i + 1) xs))) new ≡ whole
last_more test i xs d last new whole b h here is found before =
    let rest = last_number test (i + 1 + 1) (map entry_of (drop (i + 1) xs)) in
    ap (or_else rest) (found ∙ ap (λ t. cond t (Some (i + 1)) last) (sym is ∙ ap (λ e. passes test (entry_of e)) here))
    ∙ sym (last_turn test i xs d last h) ∙ before

-- the first that passes

first_step : (test : Commit → Bool) (n : ℕ) (e : model.Entry) (es : List model.Entry) (b : Bool) → passes test e ≡ b →
    first_number test n (e ∷ es) ≡ cond b (Some n) (first_number test (n + 1) es)
first_step test n (model.Beat stamp) es true is = absurd (false≢true is)
first_step test n (model.Beat stamp) es false is = refl
first_step test n (model.Committed c) es b is = ap (λ t. number_of (cond t (Some (record { number = n; commit = c })) (find (λ k. test k.commit) (commits_from (n + 1) es)))) is ∙ by_test b
  where
    by_test : (b : Bool) → number_of (cond b (Some (record { number = n; commit = c })) (find (λ k. test k.commit) (commits_from (n + 1) es))) ≡ cond b (Some n) (first_number test (n + 1) es)
    by_test true = refl
    by_test false = refl

first_turn : (test : Commit → Bool) (i : ℕ) (xs : List Entry) (d : Entry) (b : Bool) → i < length xs → passes test (entry_of (get_or xs i d)) ≡ b →
    first_number test (i + 1) (map entry_of (drop i xs)) ≡ cond b (Some (i + 1)) (first_number test (i + 1 + 1) (map entry_of (drop (i + 1) xs)))
first_turn test i xs d b h is =
    ap (λ es. first_number test (i + 1) (map entry_of es)) (drop-cons xs i d h ∙ ap (λ j. get_or xs i d ∷ drop j xs) (sym (add-one i)))
    ∙ first_step test (i + 1) (entry_of (get_or xs i d)) (map entry_of (drop (i + 1) xs)) b is

pub first_here : (test : Commit → Bool) (i : ℕ) (xs : List Entry) (d : Entry) → i < length xs → passes test (entry_of (get_or xs i d)) ≡ true →
    first_number test (i + 1) (map entry_of (drop i xs)) ≡ Some (i + 1)
first_here test i xs d h is = first_turn test i xs d true h is

pub first_later : (test : Commit → Bool) (i : ℕ) (xs : List Entry) (d : Entry) → i < length xs → passes test (entry_of (get_or xs i d)) ≡ false →
    first_number test (i + 1) (map entry_of (drop i xs)) ≡ first_number test (i + 1 + 1) (map entry_of (drop (i + 1) xs))
first_later test i xs d h is = first_turn test i xs d false h is

-- how many pass

count_cond : (b : Bool) (x : Numbered) (xs : List Numbered) (k : ℕ) → k ≡ length xs → cond b 1 0 + k ≡ length (cond b (x ∷ xs) xs)
count_cond true x xs k is = omega (arith, is)
count_cond false x xs k is = omega (arith, is)

count_cons : (test : Commit → Bool) (n k : ℕ) (m : model.Entry) (ms : List model.Entry) → k ≡ number_passing test (n + 1) ms → cond (passes test m) 1 0 + k ≡ number_passing test n (m ∷ ms)
count_cons test n k (model.Beat stamp) ms is = omega (arith, is)
count_cons test n k (model.Committed c) ms is = count_cond (test c) (record { number = n; commit = c }) (passing test (n + 1) ms) k is

pub count_is : (test : Commit → Bool) (n : ℕ) (xs : List Entry) → count_by (λ e. passes test (entry_of e)) xs ≡ number_passing test n (map entry_of xs)
count_is test n [] = refl
count_is test n (e ∷ es) = sum_by-cons (λ x. cond (passes test (entry_of x)) 1 0) e es ∙ count_cons test n (count_by (λ e. passes test (entry_of e)) es) (entry_of e) (map entry_of es) (count_is test (n + 1) es)

-- the commit with a client's token is the first that passes both tests

find_cons : {A : Type 0} (p q : A → Bool) (x : A) (xs : List A) (b : Bool) → find p (filter q xs) ≡ find (λ y. q y && p y) xs →
    find p (cond b (x ∷ filter q xs) (filter q xs)) ≡ cond (b && p x) (Some x) (find (λ y. q y && p y) xs)
find_cons p q x xs true is = ap (cond (p x) (Some x)) is
find_cons p q x xs false is = is

find_both : {A : Type 0} (p q : A → Bool) (xs : List A) → find p (filter q xs) ≡ find (λ x. q x && p x) xs
find_both p q [] = refl
find_both p q (x ∷ xs) = find_cons p q x xs (q x) (find_both p q xs)

pub with_token_is : (history : List model.Entry) (client : Client) (token : Token) → number_of (commit_with_token history client token) ≡ first_number (of client token) 1 history
with_token_is history client token = ap number_of (find_both (λ (n : Numbered). bytes_eq n.commit.edit.token token) (λ (n : Numbered). by client n.commit) (commits history))

-- the entry at a place counted from 1

entry_suc : (xs : List Entry) (i : ℕ) → option_map entry_of (slice_get xs i) ≡ slice_get (map entry_of xs) i
entry_suc [] i = refl
entry_suc (x ∷ xs) zero = refl
entry_suc (x ∷ xs) (suc i) = entry_suc xs i

pub entry_is : (xs : List Entry) (n : ℕ) → 0 < n → option_map entry_of (slice_get xs (n - 1)) ≡ entry_at (map entry_of xs) n
entry_is xs zero h = let no : ⊥ = omega (arith, h) in absurd no
entry_is xs (suc i) h = let back : suc i - 1 ≡ i = omega arith in ap (λ j. option_map entry_of (slice_get xs j)) back ∙ entry_suc xs i
