-- What the keeper is asked for an edit, and that the answer is the history's if the keeper exposes it.
use Rattle.std.specs.Prelude.{ℕ, ◌≡◌, List, length, Option, option_map, IfSome, Result, IfOk}
use Rattle.wiki_model.specs.Titles.{Title}
use Rattle.wiki_model.specs.History.{Entry, Edit, entry_at, page, number_of, current_revision}
use Rattle.wiki_model.specs.Answers.{edit_answer}
use Rattle.revision_keeper.specs.declared.keeper.KeepFault.{KeepFault}
use Rattle.edit_core.specs.declared.decide.Decided.{Decided}
use Rattle.edit_core.specs.AsModel.{decided_of}
use Rattle.edit_core.specs.Decided.{repeated_at, revision_in, by_base}

-- what was asked of an exposed history has this answer, unless it was refused
abbrev pub IsAnswered : {T : Type 0} → (content : Option (List Entry)) → Result T KeepFault → (List Entry → T → Type 0)
    → Type 0
IsAnswered content result Is = IfSome content (λ history. IfOk result (λ answer. Is history answer))

abbrev pub IsDecided : (content : Option (List Entry)) → Edit → Result (Option Decided) KeepFault → Type 0
IsDecided content edit result =
    IsAnswered content result (λ history d. option_map decided_of d ≡ edit_answer history edit)

abbrev pub IsRepeated : (content : Option (List Entry)) → Edit → (n : ℕ) → Result Decided KeepFault → Type 0
IsRepeated content edit n result =
    IsAnswered content result (λ history d. decided_of d ≡ repeated_at edit n (entry_at history n))

abbrev pub IsDecidedByBase : (content : Option (List Entry)) → Edit → Result (Option Decided) KeepFault → Type 0
IsDecidedByBase content edit result =
    IsAnswered content result (λ history d. option_map decided_of d
    ≡ by_base edit (current_revision history edit.title))

abbrev pub IsCurrentRevision : (content : Option (List Entry)) → Title → Result ℕ KeepFault → Type 0
IsCurrentRevision content title result = IsAnswered content result (λ history r. r ≡ current_revision history title)

abbrev pub IsLastOn : (content : Option (List Entry)) → Title → Result (Option ℕ) KeepFault → Type 0
IsLastOn content title result =
    IsAnswered content result (λ history found. found ≡ number_of (page history (length history) title))

abbrev pub IsRevisionAt : (content : Option (List Entry)) → (n : ℕ) → Result ℕ KeepFault → Type 0
IsRevisionAt content n result = IsAnswered content result (λ history r. r ≡ revision_in (entry_at history n))
