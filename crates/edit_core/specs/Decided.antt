-- What one entry of the history says of an edit, or of a page.
-- The functions that look an entry up by its number say by these words what they read from it.
use Rattle.std.specs.Prelude.{ℕ, ◌≡◌, ◌<◌, ◌^◌, ◌==◌, if◌then◌else◌, Option, None, Some}
use Rattle.wiki_model.specs.History.{Entry, Beat, Committed, Edit}
use Rattle.wiki_model.specs.Answers.{Answer, TokenUsed, Conflict, same_token}
use Rattle.edit_core.specs.declared.decide.Decided.{Decided}

-- the answer to an edit whose client and token are those of entry n
abbrev pub repeated_at : Edit → ℕ → Option Entry → Answer
repeated_at edit n None = TokenUsed n
repeated_at edit n (Some (Beat stamp)) = TokenUsed n
repeated_at edit n (Some (Committed commit)) = same_token edit (record { number = n; commit = commit })

abbrev pub revision_in : Option Entry → ℕ
revision_in None = 0
revision_in (Some (Beat stamp)) = 0
revision_in (Some (Committed commit)) = commit.revision

-- the answer to an edit whose token is new, if the page has this revision
abbrev pub by_base : Edit → (current : ℕ) → Option Answer
by_base edit current = if edit.base == current then None else Some (Conflict edit.base current)

-- the base of an edit that nothing decides is a revision
abbrev pub IsFree : (base : ℕ) → Option Decided → Type 0
IsFree base decided = decided ≡ None → base < 2 ^ 63
