-- What a keeper answers, if it exposes the history: each answer is the list's.
use Rattle.std.specs.Prelude.{ℕ, ◌≡◌, ◌+◌, ◌<◌, ◌^◌, List, [], ◌∷◌, ◌++◌, length, Option, option_map, Result, IfSome, IfOk}
use Rattle.wiki_model.specs.Titles.{Title, Client, Token}
use Rattle.wiki_model.specs.History as model
use Rattle.wiki_model.specs.History.{IsHistory, entry_at, page, number_of, commit_with_token}
use Rattle.commit_feed.specs.declared.entry.Entry.{Entry}
use Rattle.commit_feed.specs.declared.feed.Writes.{Writes}
use Rattle.commit_feed.specs.AsModel.{entry_of}
use Rattle.revision_keeper.specs.Bounds.{writes_of}

abbrev pub Content : Type 0
Content = Option (List model.Entry)

module _ {E : Type 0} where
  abbrev pub IsLength : Content → Result ℕ E → Type 0
  IsLength content result = IfSome content (λ history. IfOk result (λ n. n ≡ length history))

  abbrev pub IsEntryAt : Content → (n : ℕ) → Result (Option Entry) E → Type 0
  IsEntryAt content n result =
      IfSome content (λ history. IfOk result (λ found. option_map entry_of found ≡ entry_at history n))

  -- the last commit on the title in this prefix
  abbrev pub IsLatest : Content → Title → (upto : ℕ) → Result (Option ℕ) E → Type 0
  IsLatest content title upto result =
      IfSome content (λ history. IfOk result (λ found. found ≡ number_of (page history upto title)))

  abbrev pub IsByToken : Content → Client → Token → Result (Option ℕ) E → Type 0
  IsByToken content client token result =
      IfSome content (λ history. IfOk result (λ found. found ≡ number_of (commit_with_token history client token)))

  abbrev pub AreWritesOf : Content → Client → Result Writes E → Type 0
  AreWritesOf content client result =
      IfSome content (λ history. IfOk result (λ writes. writes ≡ writes_of history client))

  -- the number that an appended entry gets
  abbrev pub IsNextNumber : Content → Result ℕ E → Type 0
  IsNextNumber content result = IfSome content (λ history. IfOk result (λ n. n ≡ length history + 1))

abbrev pub MayFollow : Content → model.Entry → Type 0
MayFollow content entry = IfSome content (λ history. IsHistory (history ++ entry ∷ []))

abbrev pub with_entry : model.Entry → Content → Content
with_entry entry content = option_map (λ history. history ++ entry ∷ []) content

abbrev pub IsShort : Content → Type 0
IsShort content = IfSome content (λ history. length history < 2 ^ 63)
