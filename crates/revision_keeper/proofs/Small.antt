-- What a history has is within bounds where its length is.
use Rattle.std.proofs.Common.{◌≡◌, ℕ, zero, suc, ◌<◌, ◌≤◌, ◌^◌, List, [], ◌∷◌, length, take, Some, None, Option, option_map, unwrap_or, refl, ap, arith}
use Rattle.std.specs.Prelude.{bytes_eq, slice_get, IfSome}
use Rattle.std.proofs.lemmas.Option.{slice_get_within}
use Rattle.wiki_model.specs.Titles.{Title, Client, Token}
use Rattle.wiki_model.specs.History.{Entry, Beat, Committed, Numbered, commit_in, entry_at, page, number_of, commit_with_token, own, stamp_at, stamp_of, IsHistory}
use Rattle.commit_feed.proofs.Found.{with_token_at, page_at, few_by, filter_few}
use Rattle.revision_keeper.specs.Bounds.{IsSmall, AreSmall, writes_of}
use Rattle.revision_keeper.proofs.Follows.{own_within}

take_short : {X : Type 0} (k : ℕ) (xs : List X) → length (take k xs) ≤ k
take_short zero xs = omega arith
take_short (suc k) [] = omega arith
take_short (suc k) (x ∷ xs) = let rest = take_short k xs in omega (arith, rest)

pub entry_small : (h : List Entry) → IsHistory h → length h < 2 ^ 63 → (n : ℕ) → IfSome (entry_at h n) IsSmall
entry_small h is short zero = search
entry_small h is short (suc i) = by (slice_get h i) refl
  where
    by : (o : Option Entry) → slice_get h i ≡ o → IfSome o IsSmall
    by None e = search
    by (Some (Beat s)) e =
        let at : stamp_at h (suc i) ≡ s = ap (λ o. unwrap_or (option_map stamp_of o) 0) e in
        let small = is.small (suc i) in
        omega (arith, at, small)
    by (Some (Committed c)) e =
        let at : stamp_at h (suc i) ≡ c.stamp = ap (λ o. unwrap_or (option_map stamp_of o) 0) e in
        let small = is.small (suc i) in
        let within = slice_get_within h i (Committed c) e in
        let prefix = take_short i h in
        let on = filter_few (λ n. bytes_eq n.commit.edit.title c.edit.title) (take i h) in
        let from = filter_few (λ n. bytes_eq n.commit.edit.client c.edit.client) (take i h) in
        let revision = is.revisions i c (ap commit_in e) in
        let index = is.indexes i c (ap commit_in e) in
        (omega (arith, at, small), omega (arith, revision, on, prefix, within, short), omega (arith, index, from, prefix, within, short))

place_small : (h : List Entry) (n : ℕ) (e : Entry) → length h < 2 ^ 63 → entry_at h n ≡ Some e → n < 2 ^ 63
place_small h zero e short at = let no : ⊥ = cc in absurd no
place_small h (suc i) e short at = let within = slice_get_within h i e at in omega (arith, within, short)

pub page_small : (h : List Entry) → length h < 2 ^ 63 → (k : ℕ) (title : Title) → IfSome (number_of (page h k title)) (λ n. n < 2 ^ 63)
page_small h short k title = by (page h k title) refl
  where
    by : (o : Option Numbered) → page h k title ≡ o → IfSome (number_of o) (λ n. n < 2 ^ 63)
    by None e = search
    by (Some n) e = place_small h n.number (Committed n.commit) short (page_at h k title n e)

pub token_small : (h : List Entry) → length h < 2 ^ 63 → (client : Client) (token : Token) → IfSome (number_of (commit_with_token h client token)) (λ n. n < 2 ^ 63)
token_small h short client token = by (commit_with_token h client token) refl
  where
    by : (o : Option Numbered) → commit_with_token h client token ≡ o → IfSome (number_of o) (λ n. n < 2 ^ 63)
    by None e = search
    by (Some n) e = place_small h n.number (Committed n.commit) short (with_token_at h client token n e)

pub writes_small : (h : List Entry) → IsHistory h → length h < 2 ^ 63 → (client : Client) → AreSmall (writes_of h client)
writes_small h is short client =
    let few = few_by h client in
    let within = own_within h client in
    (omega (arith, few, short), omega (arith, within, short), is.small (own h client))
