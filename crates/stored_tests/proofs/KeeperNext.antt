-- The next entry of a history, as the tests of the keeper make it.
use Rattle.std.proofs.Common.{◌≡◌, ℕ, ◌+◌, ◌≤◌, List, [], ◌∷◌, ◌++◌, length, Some, None, Option, option_map, unwrap_or, IfSome, arith, refl, sym, ap, ◌∙◌, subst}
use Rattle.wiki_model.specs.Titles.{Title}
use Rattle.wiki_model.specs.History.{Entry, Beat, Committed, Commit, Numbered, IsHistory, commits_on, commit_of, commit_with_token, count, entry_at, number_of, page, stamp_at}
use Rattle.wiki_model.proofs.HistoryLaws.{history-push_beat}
use Rattle.wiki_model.specs.Changes.{IsNext}
use Rattle.wiki_model.proofs.HistoryGrowth.{history-push, current-counted}
use Rattle.commit_feed.proofs.Found.{number_some, number_none, page_at}
use Rattle.stored_tests.specs.Keeper.{revision_in}

pub no_commits : (h : List Entry) (title : Title) → IsHistory h → None ≡ number_of (page h (length h) title) → 0 ≡ length (commits_on h title)
no_commits h title is none =
    let missing = number_none (page h (length h) title) (sym none) in
    sym (ap (λ o. unwrap_or (option_map (λ n. n.commit.revision) o) 0) missing) ∙ current-counted h is title

pub last_commit : (h : List Entry) (title : Title) (n : ℕ) → IsHistory h → Some n ≡ number_of (page h (length h) title) → revision_in (entry_at h n) ≡ length (commits_on h title)
last_commit h title n is some =
    let found = number_some (page h (length h) title) n (sym some) in
    let at = page_at h (length h) title found.0 found.1 in
    ap (λ m. revision_in (entry_at h m)) (sym found.2) ∙ ap revision_in at
    ∙ sym (ap (λ o. unwrap_or (option_map (λ n. n.commit.revision) o) 0) found.1) ∙ current-counted h is title

pub beat_follows : (h : List Entry) (s : ℕ) → IsHistory h → stamp_at h (length h) ≤ s → s ≤ 4_000_000_000_000_000 → IsHistory (h ++ Beat s ∷ [])
beat_follows h s is later small = history-push_beat h s is later small

pub commit_follows : (h : List Entry) (c : Commit) → IsHistory h → stamp_at h (length h) ≤ c.stamp → c.stamp ≤ 4_000_000_000_000_000
    → c.revision ≡ length (commits_on h c.edit.title) + 1 → c.index ≡ count h c.edit.client + 1 → number_of (commit_with_token h c.edit.client c.edit.token) ≡ None → IsHistory (h ++ Committed c ∷ [])
commit_follows h c is later small revision index free = history-push h (Committed c) is later small next
  where
    next : (d : Commit) → commit_of (Committed c) ≡ Some d → IsNext h d
    next d same = let one : c ≡ d = cc in subst (IsNext h) one (record { revision = revision; index = index; token = number_none (commit_with_token h c.edit.client c.edit.token) free })

-- a beat at the greatest moment may follow any history
pub last_beat : (o : Option (List Entry)) → IfSome o IsHistory → IfSome o (λ h. IsHistory (h ++ Beat 4_000_000_000_000_000 ∷ []))
last_beat None told = told
last_beat (Some h) told = history-push_beat h 4_000_000_000_000_000 told (told.small (length h)) (omega arith)
