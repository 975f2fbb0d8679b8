-- The indexes follow the list: what one more entry changes in each.
use Rattle.std.proofs.Common.{◌≡◌, ℕ, suc, ◌+◌, ◌≤◌, Bool, true, false, ◌&&◌, cond, List, [], ◌∷◌, ◌++◌, length, map, filter, take, Some, None, Option, refl, sym, ap, ◌∙◌, subst, arith, append-nil, length-append}
use Rattle.std.specs.Prelude.{bytes_eq, find}
use Rattle.std.proofs.lemmas.List.Elements.{filter-append}
use Rattle.std.proofs.lemmas.Option.{slice_get_within}
use Rattle.std.proofs.lemmas.Slice.Eq.{bytes_eq-Decides}
use Rattle.wiki_model.specs.Bytes.{last_of}
use Rattle.wiki_model.specs.Titles.{Title, Client, Token}
use Rattle.wiki_model.specs.History.{Entry, Beat, Committed, Commit, Numbered, commits, commits_on, commits_by, commit_in, commit_with_token, number_of, number_or_zero, own, count, stamp_at, IsHistory}
use Rattle.wiki_model.proofs.HistoryLaws.{last_of-push, commits_from-push_beat, commits_from-push_commit, push-at, take-push}
use Rattle.wiki_model.proofs.HistoryGrowth.{take-all, stamp-before, stamp-after}
use Rattle.wiki_model.proofs.SessionLaws.{last-get, filter-get, numbered-at}
use Rattle.commit_feed.specs.declared.entry.Entry as feed
use Rattle.commit_feed.specs.declared.feed.Writes.{Writes}
use Rattle.commit_feed.specs.AsModel.{entry_of}
use Rattle.commit_feed.proofs.Found.{few_by}
use Rattle.revision_keeper.specs.declared.title_index.TitleIndex.{TitleIndex}
use Rattle.revision_keeper.specs.declared.client_index.ClientIndex.{ClientIndex}
use Rattle.revision_keeper.specs.Bounds.{writes_of}
use Rattle.revision_keeper.specs.Indexes.{numbers_of, writes_in, one_more, AreSameNumbers, AreSameWrites, AddsNumber, AddsWrite, AreIndexed}

-- the new commit with its number
abbrev new_in : List Entry → Commit → Numbered
new_in h c = record { number = 1 + length h; commit = c }

filter_beat : (p : Numbered → Bool) (h : List Entry) (s : ℕ) → filter p (commits (h ++ Beat s ∷ [])) ≡ filter p (commits h)
filter_beat p h s = ap (filter p) (commits_from-push_beat 1 h s)

filter_commit : (p : Numbered → Bool) (h : List Entry) (c : Commit) → filter p (commits (h ++ Committed c ∷ [])) ≡ filter p (commits h) ++ cond (p (new_in h c)) (new_in h c ∷ []) []
filter_commit p h c = ap (filter p) (commits_from-push_commit 1 h c) ∙ filter-append p (commits h) (new_in h c ∷ [])

-- the numbers on a title

numbers_push : (xs : List Numbered) (x : Numbered) → numbers_of (xs ++ x ∷ []) ≡ numbers_of xs ++ x.number ∷ []
numbers_push [] x = refl
numbers_push (y ∷ xs) x = ap (λ ns. y.number ∷ ns) (numbers_push xs x)

numbers_cond : (b : Bool) (xs : List Numbered) (x : Numbered) → numbers_of (xs ++ cond b (x ∷ []) []) ≡ cond b (numbers_of xs ++ x.number ∷ []) (numbers_of xs)
numbers_cond true xs x = numbers_push xs x
numbers_cond false xs x = ap numbers_of (append-nil xs)

numbers_more : (h : List Entry) (c : Commit) (title : Title)
    → numbers_of (commits_on (h ++ Committed c ∷ []) title) ≡ cond (bytes_eq c.edit.title title) (numbers_of (commits_on h title) ++ (length h + 1) ∷ []) (numbers_of (commits_on h title))
numbers_more h c title =
    let place : 1 + length h ≡ length h + 1 = omega arith in
    ap numbers_of (filter_commit (λ n. bytes_eq n.commit.edit.title title) h c)
    ∙ numbers_cond (bytes_eq c.edit.title title) (commits_on h title) (new_in h c)
    ∙ ap (λ n. cond (bytes_eq c.edit.title title) (numbers_of (commits_on h title) ++ n ∷ []) (numbers_of (commits_on h title))) place

-- what a client has committed

pub own_within : (h : List Entry) (client : Client) → own h client ≤ length h
own_within h client = by (last_of (commits_by h client)) refl
  where
    by : (o : Option Numbered) → last_of (commits_by h client) ≡ o → number_or_zero o ≤ length h
    by None e = omega arith
    by (Some n) e =
        let g = last-get (commits_by h client) n e in
        let f = filter-get (λ m. bytes_eq m.commit.edit.client client) (commits h) g.0 n g.2 in
        let at = numbered-at 1 h f.0 n f.1 in
        let number = at.1 in
        let within = slice_get_within h at.0 (Committed n.commit) at.2 in
        omega (arith, number, within)

abbrev writes_at : List Entry → List Numbered → Writes
writes_at h xs = record { count = length xs; last = number_or_zero (last_of xs); stamp = stamp_at h (number_or_zero (last_of xs)) }

writes_same : (a b c d e f : ℕ) → a ≡ b → c ≡ d → e ≡ f → (let x : Writes = record { count = a; last = c; stamp = e } in x) ≡ record { count = b; last = d; stamp = f }
writes_same a b c d e f first second third =
    ap (λ n. let x : Writes = record { count = n; last = c; stamp = e } in x) first
    ∙ ap (λ n. let x : Writes = record { count = b; last = n; stamp = e } in x) second
    ∙ ap (λ n. let x : Writes = record { count = b; last = d; stamp = n } in x) third

writes_stay : (h : List Entry) (e : Entry) (client : Client) → writes_at (h ++ e ∷ []) (commits_by h client) ≡ writes_of h client
writes_stay h e client =
    writes_same (count h client) (count h client) (own h client) (own h client) (stamp_at (h ++ e ∷ []) (own h client)) (stamp_at h (own h client))
    refl refl (stamp-before h e (own h client) (own_within h client))

writes_cond : (h : List Entry) (c : Commit) (client : Client) (b : Bool)
    → writes_at (h ++ Committed c ∷ []) (commits_by h client ++ cond b (new_in h c ∷ []) []) ≡ cond b (one_more (writes_of h client) (length h + 1) c.stamp) (writes_of h client)
writes_cond h c client false = ap (writes_at (h ++ Committed c ∷ [])) (append-nil (commits_by h client)) ∙ writes_stay h (Committed c) client
writes_cond h c client true =
    let xs = commits_by h client in
    let grown : List Entry = h ++ Committed c ∷ [] in
    let long = length-append xs (new_in h c ∷ []) in
    let number : number_or_zero (last_of (xs ++ new_in h c ∷ [])) ≡ 1 + length h = ap number_or_zero (last_of-push xs (new_in h c)) in
    let place : 1 + length h ≡ suc (length h) = omega arith in
    writes_same (length (xs ++ new_in h c ∷ [])) (length xs + 1) (number_or_zero (last_of (xs ++ new_in h c ∷ []))) (length h + 1) (stamp_at grown (number_or_zero (last_of (xs ++ new_in h c ∷ [])))) c.stamp
    (omega (arith, long)) (omega (arith, number)) (ap (stamp_at grown) (number ∙ place) ∙ stamp-after h (Committed c))

writes_more : (h : List Entry) (c : Commit) (client : Client)
    → writes_of (h ++ Committed c ∷ []) client ≡ cond (bytes_eq c.edit.client client) (one_more (writes_of h client) (length h + 1) c.stamp) (writes_of h client)
writes_more h c client =
    ap (writes_at (h ++ Committed c ∷ [])) (filter_commit (λ n. bytes_eq n.commit.edit.client client) h c)
    ∙ writes_cond h c client (bytes_eq c.edit.client client)

writes_beat : (h : List Entry) (s : ℕ) (client : Client) → writes_of (h ++ Beat s ∷ []) client ≡ writes_of h client
writes_beat h s client =
    ap (writes_at (h ++ Beat s ∷ [])) (filter_beat (λ n. bytes_eq n.commit.edit.client client) h s) ∙ writes_stay h (Beat s) client

-- the commit of a token

find_new : {X : Type 0} (q : X → Bool) (xs : List X) (x : X) → q x ≡ true → find q xs ≡ None → find q (xs ++ x ∷ []) ≡ Some x
find_new q [] x is free = ap (λ b. cond b (Some x) None) is
find_new q (y ∷ xs) x is free = by (q y) free (λ none. find_new q xs x is none)
  where
    by : (b : Bool) → cond b (Some y) (find q xs) ≡ None → (find q xs ≡ None → find q (xs ++ x ∷ []) ≡ Some x) → cond b (Some y) (find q (xs ++ x ∷ [])) ≡ Some x
    by true free later = let no : ⊥ = cc in absurd no
    by false free later = later free

find_old : {X : Type 0} (q : X → Bool) (xs : List X) (x : X) → q x ≡ false → find q (xs ++ x ∷ []) ≡ find q xs
find_old q [] x is = ap (λ b. cond b (Some x) None) is
find_old q (y ∷ xs) x is = ap (λ o. cond (q y) (Some y) o) (find_old q xs x is)

tokens_more : (h : List Entry) (c : Commit) → commit_with_token h c.edit.client c.edit.token ≡ None → (client : Client) (token : Token)
    → number_of (commit_with_token (h ++ Committed c ∷ []) client token)
    ≡ cond (bytes_eq c.edit.client client && bytes_eq c.edit.token token) (Some (length h + 1)) (number_of (commit_with_token h client token))
tokens_more h c free client token =
    ap (λ xs. number_of (find (λ n. bytes_eq n.commit.edit.token token) xs)) (filter_commit (λ n. bytes_eq n.commit.edit.client client) h c)
    ∙ by (bytes_eq c.edit.client client) refl (bytes_eq c.edit.token token) refl
  where
    by : (b : Bool) → bytes_eq c.edit.client client ≡ b → (d : Bool) → bytes_eq c.edit.token token ≡ d
        → number_of (find (λ n. bytes_eq n.commit.edit.token token) (commits_by h client ++ cond b (new_in h c ∷ []) [])) ≡ cond (b && d) (Some (length h + 1)) (number_of (commit_with_token h client token))
    by false other d is = ap (λ xs. number_of (find (λ n. bytes_eq n.commit.edit.token token) xs)) (append-nil (commits_by h client))
    by true same false other = ap number_of (find_old (λ (n : Numbered). bytes_eq n.commit.edit.token token) (commits_by h client) (new_in h c) other)
    by true same true equal =
        let this_client : c.edit.client ≡ client = (bytes_eq-Decides c.edit.client client).0 same in
        let this_token : c.edit.token ≡ token = (bytes_eq-Decides c.edit.token token).0 equal in
        let none : commit_with_token h client token ≡ None = ap (λ u. commit_with_token h u token) (sym this_client) ∙ ap (commit_with_token h c.edit.client) (sym this_token) ∙ free in
        let place : 1 + length h ≡ length h + 1 = omega arith in
        ap number_of (find_new (λ (n : Numbered). bytes_eq n.commit.edit.token token) (commits_by h client) (new_in h c) equal none) ∙ ap Some place

tokens_beat : (h : List Entry) (s : ℕ) (client : Client) (token : Token) → number_of (commit_with_token (h ++ Beat s ∷ []) client token) ≡ number_of (commit_with_token h client token)
tokens_beat h s client token = ap (λ xs. number_of (find (λ n. bytes_eq n.commit.edit.token token) xs)) (filter_beat (λ n. bytes_eq n.commit.edit.client client) h s)

-- in a history the token of the last commit was free
free_token : (h : List Entry) (c : Commit) → IsHistory (h ++ Committed c ∷ []) → commit_with_token h c.edit.client c.edit.token ≡ None
free_token h c is =
    let prefix : take (length h) (h ++ Committed c ∷ []) ≡ h = take-push h (Committed c) (length h) (omega arith) ∙ take-all h in
    ap (λ xs. commit_with_token xs c.edit.client c.edit.token) (sym prefix) ∙ is.tokens (length h) c (ap commit_in (push-at h (Committed c)))

-- the indexes agree with the longer list

pub indexed_beat : (h : List Entry) (e : Entry) (s : ℕ) → e ≡ Beat s → (titles : TitleIndex) (clients : ClientIndex) → AreIndexed h titles clients → IsHistory (h ++ e ∷ []) → AreIndexed (h ++ e ∷ []) titles clients
indexed_beat h e s beat titles clients is grown = subst (λ d. AreIndexed (h ++ d ∷ []) titles clients) (sym beat) (record {
  is_history = subst (λ d. IsHistory (h ++ d ∷ [])) beat grown;
  numbers = λ title. is.numbers title ∙ sym (ap numbers_of (filter_beat (λ n. bytes_eq n.commit.edit.title title) h s));
  writes = λ client. is.writes client ∙ sym (writes_beat h s client);
  tokens = λ client token. is.tokens client token ∙ sym (tokens_beat h s client token);
})

indexed_next : (h : List Entry) (c : Commit) (old new : TitleIndex) (before after : ClientIndex) → AreIndexed h old before → IsHistory (h ++ Committed c ∷ [])
    → AddsNumber old new c.edit.title (length h + 1) → AddsWrite before after c.edit.client c.edit.token (length h + 1) c.stamp → AreIndexed (h ++ Committed c ∷ []) new after
indexed_next h c old new before after is grown adds wrote = record {
  is_history = grown;
  numbers = λ title. adds title ∙ ap (λ ns. cond (bytes_eq c.edit.title title) (ns ++ (length h + 1) ∷ []) ns) (is.numbers title) ∙ sym (numbers_more h c title);
  writes = λ client. wrote.writes client ∙ ap (λ ws. cond (bytes_eq c.edit.client client) (one_more ws (length h + 1) c.stamp) ws) (is.writes client) ∙ sym (writes_more h c client);
  tokens = λ client token. wrote.tokens client token ∙ ap (cond (bytes_eq c.edit.client client && bytes_eq c.edit.token token) (Some (length h + 1))) (is.tokens client token) ∙ sym (tokens_more h c (free_token h c grown) client token);
}

pub indexed_commit : (h : List Entry) (e : Entry) (c : Commit) → e ≡ Committed c → (number : ℕ) → number ≡ length h + 1 → (old new : TitleIndex) (before after : ClientIndex) → AreIndexed h old before → IsHistory (h ++ e ∷ [])
    → AddsNumber old new c.edit.title number → AddsWrite before after c.edit.client c.edit.token number c.stamp → AreIndexed (h ++ e ∷ []) new after
indexed_commit h e c commit number place old new before after is grown adds wrote =
    subst (λ d. AreIndexed (h ++ d ∷ []) new after) (sym commit)
    (indexed_next h c old new before after is (subst (λ d. IsHistory (h ++ d ∷ [])) commit grown)
    (subst (λ n. AddsNumber old new c.edit.title n) place adds) (subst (λ n. AddsWrite before after c.edit.client c.edit.token n c.stamp) place wrote))

pub indexed_still : (h : List Entry) (old new : TitleIndex) (before after : ClientIndex) → AreIndexed h old before → AreSameNumbers old new → AreSameWrites before after → AreIndexed h new after
indexed_still h old new before after is same stay = record {
  is_history = is.is_history;
  numbers = λ title. same title ∙ is.numbers title;
  writes = λ client. stay.writes client ∙ is.writes client;
  tokens = λ client token. stay.tokens client token ∙ is.tokens client token;
}

-- the entries as the model's are as many
pub shown_length : (xs : List feed.Entry) → length (map entry_of xs) ≡ length xs
shown_length [] = refl
shown_length (x ∷ xs) = ap suc (shown_length xs)

-- there is room for one more commit of a client
pub count_room : (h : List Entry) (titles : TitleIndex) (clients : ClientIndex) → AreIndexed h titles clients → (client : Client) → (writes_in clients client).count ≤ length h
count_room h titles clients is client =
    let same : (writes_in clients client).count ≡ count h client = ap (λ (w : Writes). w.count) (is.writes client) in
    let few = few_by h client in
    omega (arith, same, few)
