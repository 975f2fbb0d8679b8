-- Stamps never fall, so before an entry that is not young none is young. And the young commits of one entry more are those
-- before it, with that entry if it is a young commit.
use Rattle.std.proofs.Common.{◌≡◌, ℕ, zero, suc, ◌+◌, ◌<◌, ◌≤◌, Bool, true, false, cond, List, [], ◌∷◌, ◌++◌, length, map, take, Some, refl, sym, ap, ◌∙◌, arith, nat_lt, append-nil}
use Rattle.std.specs.Prelude.{filter, option_map, unwrap_or}
use Rattle.std.proofs.lemmas.Bool.Decides.{nat_tests}
use Rattle.std.proofs.lemmas.List.{map-append}
use Rattle.std.proofs.lemmas.List.Elements.{filter-append}
use Rattle.wiki_model.specs.History.{Entry, Beat, Committed, Numbered, IsHistory, commits, entry_at, stamp_at, stamp_of}
use Rattle.wiki_model.specs.Positions.{young_commits}
use Rattle.wiki_model.proofs.HistoryLaws.{commits_from-push_beat, commits_from-push_commit}
use Rattle.wiki_model.proofs.HistoryGrowth.{take-snoc}
use Rattle.chronology_store.specs.declared.ClientCommit.{ClientCommit}
use Rattle.region_state.specs.YoungCommits.{counts, is_young_at, commit_of, commits_of, told_at, told_of}

-- the young commits of one entry more
young_next : (now : ℕ) (h : List Entry) (e : Entry) → commits_of (young_commits now (h ++ e ∷ [])) ≡ commits_of (young_commits now h) ++ told_of now (1 + length h) e
young_next now h (Beat stamp) =
    ap (λ cs. commits_of (filter (λ (n : Numbered). nat_lt now (n.commit.stamp + 60_000)) cs)) (commits_from-push_beat 1 h stamp) ∙ sym (append-nil (commits_of (young_commits now h)))
young_next now h (Committed c) =
    let x : Numbered = record { number = 1 + length h; commit = c } in
    let p : Numbered → Bool = λ n. nat_lt now (n.commit.stamp + 60_000) in
    ap (λ cs. commits_of (filter p cs)) (commits_from-push_commit 1 h c) ∙ ap commits_of (filter-append p (commits h) (x ∷ []))
    ∙ map-append commit_of (young_commits now h) (filter p (x ∷ [])) ∙ ap (λ ws. commits_of (young_commits now h) ++ ws) (by (nat_lt now (c.stamp + 60_000)))
  where
    by : (b : Bool) → map commit_of (cond b ((let m : Numbered = record { number = 1 + length h; commit = c } in m) ∷ []) []) ≡ cond b (commit_of (let m : Numbered = record { number = 1 + length h; commit = c } in m) ∷ []) []
    by true = refl
    by false = refl

length-take : (h : List Entry) (n : ℕ) → n ≤ length h → length (take n h) ≡ n
length-take h zero within = refl
length-take [] (suc n) within = let no : ⊥ = omega (arith, within) in absurd no
length-take (e ∷ h) (suc n) within = ap suc (length-take h n (omega (arith, within)))

-- the same, as the loop gathers them
pub gathered_more : (now n : ℕ) (h : List Entry) (old new : List ClientCommit) → n < length h → old ≡ commits_of (young_commits now (take n h)) → new ≡ old ++ told_at now (n + 1) (entry_at h (n + 1))
    → new ≡ commits_of (young_commits now (take (n + 1) h))
gathered_more now n h old new within old_is new_is =
    let same : suc n ≡ n + 1 = omega arith in
    let snoc = take-snoc h n within in
    let at : entry_at h (n + 1) ≡ Some snoc.0 = ap (entry_at h) (sym same) ∙ snoc.1 in
    let number : 1 + length (take n h) ≡ n + 1 = (let l = length-take h n (omega (arith, within)) in omega (arith, l)) in
    new_is ∙ ap (λ o. old ++ told_at now (n + 1) o) at ∙ ap (λ ws. ws ++ told_of now (n + 1) snoc.0) old_is
    ∙ ap (λ k. commits_of (young_commits now (take n h)) ++ told_of now k snoc.0) (sym number) ∙ sym (young_next now (take n h) snoc.0)
    ∙ ap (λ xs. commits_of (young_commits now xs)) (sym snoc.2) ∙ ap (λ k. commits_of (young_commits now (take k h))) same

pub gathered_start : (now old : ℕ) (h : List Entry) → young_commits now (take old h) ≡ [] → [] ≡ commits_of (young_commits now (take old h))
gathered_start now old h none = ap commits_of (sym none)

pub gathered_all : (now n len : ℕ) (h : List Entry) (all : List ClientCommit) → (n < len → ⊥) → n ≤ len → len ≡ length h → all ≡ commits_of (young_commits now (take n h)) → all ≡ commits_of (young_commits now h)
gathered_all now n len h all none within same is =
    is ∙ ap (λ xs. commits_of (young_commits now xs)) (Rattle.std.proofs.Common.take_all n h (at n len none within same))
  where
    at : (a b : ℕ) → (a < b → ⊥) → a ≤ b → b ≡ length h → length h ≤ a
    at zero zero none within same = omega (arith, same)
    at zero (suc b) none within same = absurd (none (omega arith))
    at (suc a) b none within same = by (nat_lt (suc a) b) refl
      where
        by : (t : Bool) → nat_lt (suc a) b ≡ t → length h ≤ suc a
        by true e = let less : suc a < b = grind (arith, nat_tests, e) in absurd (none less)
        by false e = let le : b ≤ suc a = grind (arith, nat_tests, e) in omega (arith, le, same)

-- before an old entry all are old

stamp-here : (h : List Entry) (n : ℕ) (e : Entry) → entry_at h n ≡ Some e → stamp_at h n ≡ stamp_of e
stamp-here h n e at = ap (λ o. unwrap_or (option_map stamp_of o) 0) at

none_kept : (b : Bool) (x : Numbered) → b ≡ false → cond b (x ∷ []) [] ≡ []
none_kept true x e = let no : ⊥ = cc in absurd no
none_kept false x e = refl

-- one more entry that is not young
old_more : (now : ℕ) (h : List Entry) (e : Entry) → young_commits now h ≡ [] → stamp_of e + 60_000 ≤ now → young_commits now (h ++ e ∷ []) ≡ []
old_more now h (Beat stamp) before past = ap (filter (λ (m : Numbered). nat_lt now (m.commit.stamp + 60_000))) (commits_from-push_beat 1 h stamp) ∙ before
old_more now h (Committed c) before past =
    let x : Numbered = record { number = 1 + length h; commit = c } in
    let p : Numbered → Bool = λ m. nat_lt now (m.commit.stamp + 60_000) in
    let not_young : nat_lt now (c.stamp + 60_000) ≡ false = grind (arith, nat_tests, past) in
    ap (filter p) (commits_from-push_commit 1 h c) ∙ filter-append p (commits h) (x ∷ [])
    ∙ ap (λ ns. ns ++ filter p (x ∷ [])) before ∙ none_kept (nat_lt now (c.stamp + 60_000)) x not_young

old_stamps : (now : ℕ) (h : List Entry) → IsHistory h → (n : ℕ) → n ≤ length h → stamp_at h n + 60_000 ≤ now → young_commits now (take n h) ≡ []
old_stamps now h is zero within old = refl
old_stamps now h is (suc n) within old =
    let less : n < length h = omega (arith, within) in
    let snoc = take-snoc h n less in
    let le = is.order n (suc n) (omega arith) within in
    let before = old_stamps now h is n (omega (arith, within)) (omega (arith, le, old)) in
    let here = stamp-here h (suc n) snoc.0 snoc.1 in
    ap (young_commits now) snoc.2 ∙ old_more now (take n h) snoc.0 before (omega (arith, here, old))

pub old_before : (now n : ℕ) (h : List Entry) (young : Bool) → IsHistory h → 0 < n → n ≤ length h → young ≡ is_young_at now (entry_at h n) → young ≡ false → young_commits now (take n h) ≡ []
old_before now zero h young is some within young_is old = let no : ⊥ = omega (arith, some) in absurd no
old_before now (suc n) h young is some within young_is old =
    let snoc = take-snoc h n (omega (arith, within)) in
    let here = stamp-here h (suc n) snoc.0 snoc.1 in
    let not_young : counts now (stamp_of snoc.0) ≡ false = sym (ap (is_young_at now) snoc.1) ∙ sym young_is ∙ old in
    let past : stamp_of snoc.0 + 60_000 ≤ now = grind (arith, nat_tests, not_young) in
    old_stamps now h is (suc n) within (omega (arith, here, past))

pub none_young : (now : ℕ) (h : List Entry) → young_commits now (take 0 h) ≡ []
none_young now h = refl
