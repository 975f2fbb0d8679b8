-- What an edit is written into, and what the history says of an edit.
use Rattle.std.specs.Prelude.{ℕ, ◌≡◌, ◌≤◌, List, Option, Some, None, IfSome, Result, IsErrOf}
use Rattle.wiki_model.specs.History.{Entry, Edit}
use Rattle.wiki_model.specs.Answers.{EditSaved, edit_answer}
use Rattle.wiki_model.specs.Steps.{Rose}
use Rattle.purge_relay.specs.Ledger.{LedgerState}
use Rattle.chronology_store.specs.ChronologyStore.{Positions}
use Rattle.edit_core.specs.declared.edit_ask.SavedNote.{SavedNote}
use Rattle.edit_core.specs.declared.edit_ask.EditRefusal.{EditRefusal}
use Rattle.edit_core.specs.declared.edit_ask.EditRefusal.TheVariants.{Store}
use Rattle.edit_core.specs.AsModel.{saved_of, refused_of}

-- the history, if it is exposed; the ledger of messages; the positions of home's clients
pub record EditState : Type 0 where
  pub content : Option (List Entry)
  pub ledger : LedgerState
  pub positions : Positions

abbrev pub state_of : Option (List Entry) → LedgerState → Positions → EditState
state_of content ledger positions = record { content = content; ledger = ledger; positions = positions }

-- a fault of the keeper is answered only if its count rose in the call, and the count never falls
pub record HasStoreFault {T : Type 0} (before now : ℕ) (result : Result T EditRefusal) : Type 0 where
  pub later : before ≤ now
  pub store : IsErrOf result Store → Rose before now

-- the history, if it is exposed, answers the edit so

abbrev pub IsUndecided : (content : Option (List Entry)) → Edit → Type 0
IsUndecided content edit = IfSome content (λ h. edit_answer h edit ≡ None)

abbrev pub WasSaved : (content : Option (List Entry)) → Edit → SavedNote → Type 0
WasSaved content edit note = IfSome content (λ h. edit_answer h edit ≡ Some (EditSaved (saved_of note)))

abbrev pub IsRefusedBy : (content : Option (List Entry)) → Edit → EditRefusal → Type 0
IsRefusedBy content edit why = IfSome content (λ h. edit_answer h edit ≡ Some (refused_of why))
