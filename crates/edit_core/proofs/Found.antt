-- What is found by its number is what the history has of an edit.
use Rattle.std.proofs.Common.{◌≡◌, ℕ, ◌+◌, ◌≤◌, Bool, true, false, cond, List, [], ◌∷◌, ◌++◌, length, Option, None, Some, Result, Ok, Err, IfOk, IfSome, refl, sym, ap, ◌∙◌, subst, arith}
use Rattle.std.specs.Prelude.{option_map, unwrap_or, nat_eq}
use Rattle.wiki_model.specs.Titles.{Title}
use Rattle.wiki_model.specs.History.{Entry, Edit, Commit, Numbered, Committed, IsHistory, count, stamp_at, entry_at, page, number_of, commit_with_token, current_revision, commit_for}
use Rattle.wiki_model.specs.Answers.{Conflict, edit_answer, edit_answer_of}
use Rattle.commit_feed.proofs.Found.{number_some, number_none, with_token_at, page_at}
use Rattle.wiki_model.specs.Changes.{IsNext}
use Rattle.wiki_model.proofs.HistoryGrowth.{history-push, commit-next}
use Rattle.std.proofs.lemmas.Bool.Decides.{nat_tests}
use Rattle.revision_keeper.specs.declared.keeper.KeepFault.{KeepFault}
use Rattle.commit_feed.specs.declared.feed.Writes.{Writes}
use Rattle.revision_keeper.specs.Bounds.{writes_of}
use Rattle.edit_core.specs.declared.decide.Decided.{Decided}
use Rattle.edit_core.specs.AsModel.{decided_of}
use Rattle.edit_core.specs.Decided.{repeated_at, revision_in, by_base}

pub no_revision : (h : List Entry) (title : Title) → number_of (page h (length h) title) ≡ None → current_revision h title ≡ 0
no_revision h title is = rw (number_none (page h (length h) title) is) refl

pub revision_found : (h : List Entry) (title : Title) (n : ℕ) → number_of (page h (length h) title) ≡ Some n → revision_in (entry_at h n) ≡ current_revision h title
revision_found h title n is =
    let found = number_some (page h (length h) title) n is in
    let same : unwrap_or (option_map (λ m. m.commit.revision) (Some found.0)) 0 ≡ current_revision h title = ap (λ o. unwrap_or (option_map (λ (m : Numbered). m.commit.revision) o) 0) (sym found.1) in
    ap (λ m. revision_in (entry_at h m)) (sym found.2) ∙ ap revision_in (page_at h (length h) title found.0 found.1) ∙ same

pub repeated_found : (h : List Entry) (edit : Edit) (n : ℕ) → number_of (commit_with_token h edit.client edit.token) ≡ Some n → Some (repeated_at edit n (entry_at h n)) ≡ edit_answer h edit
repeated_found h edit n is =
    let found = number_some (commit_with_token h edit.client edit.token) n is in
    ap (λ m. Some (repeated_at edit m (entry_at h m))) (sym found.2)
    ∙ ap (λ e. Some (repeated_at edit found.0.number e)) (with_token_at h edit.client edit.token found.0 found.1)
    ∙ ap (edit_answer_of h edit) (sym found.1)

pub base_decides : (h : List Entry) (edit : Edit) → number_of (commit_with_token h edit.client edit.token) ≡ None → by_base edit (current_revision h edit.title) ≡ edit_answer h edit
base_decides h edit is = sym (ap (edit_answer_of h edit) (number_none (commit_with_token h edit.client edit.token) is))

-- an edit that the history does not decide names the page's revision
pub free_base : (h : List Entry) (edit : Edit) → edit_answer h edit ≡ None → edit.base ≡ current_revision h edit.title
free_base h edit free = by (commit_with_token h edit.client edit.token) free
  where
    by_test : (b : Bool) → nat_eq edit.base (current_revision h edit.title) ≡ b → cond b None (Some (Conflict edit.base (current_revision h edit.title))) ≡ None → edit.base ≡ current_revision h edit.title
    by_test true is none = grind (arith, nat_tests, is)
    by_test false is none = let no : ⊥ = cc in absurd no

    by : (found : Option Numbered) → edit_answer_of h edit found ≡ None → edit.base ≡ current_revision h edit.title
    by (Some k) none = let no : ⊥ = cc in absurd no
    by None none = by_test (nat_eq edit.base (current_revision h edit.title)) refl none

-- the commit that is made is the next
pub commit_is : (h : List Entry) (edit : Edit) (index at purge : ℕ) → edit_answer h edit ≡ None → index ≡ count h edit.client →
    Committed (record { stamp = at; purge = purge; revision = edit.base + 1; index = index + 1; edit = edit }) ≡ Committed (commit_for h edit at purge)
commit_is h edit index at purge free is =
    ap (λ n. Committed (record { stamp = at; purge = purge; revision = n + 1; index = index + 1; edit = edit })) (free_base h edit free)
    ∙ ap (λ n. Committed (record { stamp = at; purge = purge; revision = current_revision h edit.title + 1; index = n + 1; edit = edit })) is

pub commit_follows : (h : List Entry) (edit : Edit) (index at purge : ℕ) → IsHistory h → stamp_at h (length h) ≤ at → at ≤ 4_000_000_000_000_000 → edit_answer h edit ≡ None → index ≡ count h edit.client →
    IsHistory (h ++ Committed (record { stamp = at; purge = purge; revision = edit.base + 1; index = index + 1; edit = edit }) ∷ [])
commit_follows h edit index at purge is later small free counted =
    subst (λ e. IsHistory (h ++ e ∷ [])) (sym (commit_is h edit index at purge free counted))
    (history-push h (Committed (commit_for h edit at purge)) is later small (λ c same. next c same))
  where
    next : (c : Commit) → Some (commit_for h edit at purge) ≡ Some c → IsNext h c
    next c same = let e : commit_for h edit at purge ≡ c = cc in subst (IsNext h) e (commit-next h is edit at purge free)

-- What is answered over a keeper, where the history is told

pub revision_via : (told now : Option (List Entry)) (title : Title) (found : Option ℕ) (n : ℕ) (r : Result ℕ KeepFault) → now ≡ told → found ≡ Some n
    → IfSome told (λ h. found ≡ number_of (page h (length h) title)) → IfSome now (λ h. IfOk r (λ x. x ≡ revision_in (entry_at h n))) → IfSome told (λ h. IfOk r (λ x. x ≡ current_revision h title))
revision_via None now title found n r same is found_is at = tt
revision_via (Some h) now title found n (Err why) same is found_is at = tt
revision_via (Some h) now title found n (Ok x) same is found_is at =
    let there : IfSome (Some h) (λ k. x ≡ revision_in (entry_at k n)) = subst (λ o. IfSome o (λ k. x ≡ revision_in (entry_at k n))) same at in
    there ∙ revision_found h title n (sym found_is ∙ is)

pub decided_via : (told now : Option (List Entry)) (edit : Edit) (found : Option ℕ) (n : ℕ) (d : Decided) → now ≡ told → found ≡ Some n
    → IfSome told (λ h. found ≡ number_of (commit_with_token h edit.client edit.token)) → IfSome now (λ h. decided_of d ≡ repeated_at edit n (entry_at h n)) → IfSome told (λ h. Some (decided_of d) ≡ edit_answer h edit)
decided_via None now edit found n d same is found_is at = tt
decided_via (Some h) now edit found n d same is found_is at =
    let there : IfSome (Some h) (λ k. decided_of d ≡ repeated_at edit n (entry_at k n)) = subst (λ o. IfSome o (λ k. decided_of d ≡ repeated_at edit n (entry_at k n))) same at in
    ap Some there ∙ repeated_found h edit n (sym found_is ∙ is)

pub based_via : (told now : Option (List Entry)) (edit : Edit) (r : Result (Option Decided) KeepFault) → now ≡ told
    → IfSome told (λ h. None ≡ number_of (commit_with_token h edit.client edit.token)) → IfSome now (λ h. IfOk r (λ d. option_map decided_of d ≡ by_base edit (current_revision h edit.title))) → IfSome told (λ h. IfOk r (λ d. option_map decided_of d ≡ edit_answer h edit))
based_via None now edit r same found at = tt
based_via (Some h) now edit (Err why) same found at = tt
based_via (Some h) now edit (Ok d) same found at =
    let there : IfSome (Some h) (λ k. option_map decided_of d ≡ by_base edit (current_revision k edit.title)) = subst (λ o. IfSome o (λ k. option_map decided_of d ≡ by_base edit (current_revision k edit.title))) same at in
    there ∙ base_decides h edit (sym found)

pub may_append : (told now : Option (List Entry)) (edit : Edit) (w : Writes) (at purge : ℕ) → now ≡ told → IfSome told IsHistory → IfSome told (λ h. stamp_at h (length h) ≤ at) → at ≤ 4_000_000_000_000_000
    → IfSome told (λ h. edit_answer h edit ≡ None) → IfSome told (λ h. w ≡ writes_of h edit.client)
    → IfSome now (λ h. IsHistory (h ++ Committed (record { stamp = at; purge = purge; revision = edit.base + 1; index = w.count + 1; edit = edit }) ∷ []))
may_append None now edit w at purge same is later small free writes = subst (λ o. IfSome o (λ h. IsHistory (h ++ Committed (record { stamp = at; purge = purge; revision = edit.base + 1; index = w.count + 1; edit = edit }) ∷ []))) (sym same) tt
may_append (Some h) now edit w at purge same is later small free writes =
    subst (λ o. IfSome o (λ h. IsHistory (h ++ Committed (record { stamp = at; purge = purge; revision = edit.base + 1; index = w.count + 1; edit = edit }) ∷ []))) (sym same)
    (commit_follows h edit w.count at purge is later small free (ap (λ (x : Writes). x.count) writes))

pub undecided : (told : Option (List Entry)) (edit : Edit) (d : Option Decided) → d ≡ None → IfSome told (λ h. option_map decided_of d ≡ edit_answer h edit) → IfSome told (λ h. edit_answer h edit ≡ None)
undecided None edit d none value = tt
undecided (Some h) edit d none value = sym value ∙ ap (option_map decided_of) none
