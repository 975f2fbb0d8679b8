-- What the second step of an edit leaves.
use Rattle.std.specs.Prelude.{ℕ, ◌≡◌, ◌⊎◌, ◌+◌, ◌-◌, if◌then◌else◌, nat_lt, List, [], ◌∷◌, ◌++◌, length, Option, Some, None, option_map, IfSome, Result, Ok, Err, OnOk}
use Rattle.wiki_model.specs.Titles.{Title}
use Rattle.wiki_model.specs.Limits.{position_life}
use Rattle.wiki_model.specs.History.{Entry, Edit, Committed, commit_for}
use Rattle.wiki_model.specs.Answers.{saved}
use Rattle.revision_keeper.specs.declared.keeper.KeepFault.{KeepFault}
use Rattle.purge_relay.specs.declared.ledger.Issued.{Issued}
use Rattle.purge_relay.specs.Ledger.{LedgerState, next_number, with_purge, with_position}
use Rattle.chronology_store.specs.declared.position_row.PositionRow.{PositionRow}
use Rattle.chronology_store.specs.PositionRow.{with_told}
use Rattle.chronology_store.specs.ChronologyStore.{Changes}
use Rattle.edit_core.specs.declared.edit_ask.SavedNote.{SavedNote}
use Rattle.edit_core.specs.declared.edit_ask.CommitOutcome.{CommitOutcome}
use Rattle.edit_core.specs.declared.edit_ask.EditRefusal.{EditRefusal}
use Rattle.edit_core.specs.declared.edit_ask.EditRefusal.TheVariants.{Store, Memory}
use Rattle.edit_core.specs.declared.begun_edit.BegunEdit.{BegunEdit}
use Rattle.edit_core.specs.AsModel.{edit_of, saved_of}
use Rattle.edit_core.specs.EditState.{EditState, IsUndecided, WasSaved, IsRefusedBy}

-- the history with the commit of the edit
abbrev pub with_commit : Option (List Entry) → Edit → (at purge : ℕ) → Option (List Entry)
with_commit content edit at purge = option_map (λ h. h ++ Committed (commit_for h edit at purge) ∷ []) content

-- the note tells the commit that follows the history
abbrev pub IsNoteOf : (content : Option (List Entry)) → Edit → (at purge : ℕ) → SavedNote → Type 0
IsNoteOf content edit at purge note =
    IfSome content (λ h. saved_of note ≡ saved (length h + 1) (commit_for h edit at purge))

abbrev pub Appends : (content now : Option (List Entry)) → Edit → (at purge : ℕ) → Result SavedNote KeepFault → Type 0
Appends content now edit at purge result = OnOk result (now ≡ with_commit content edit at purge)

-- the two messages that were reserved are given back, and nothing else changes
pub record GivesUp (old new : EditState) : Type 0 where
  pub content : new.content ≡ old.content
  pub rows : new.ledger.rows ≡ old.ledger.rows
  pub spare : new.ledger.spare ≡ old.ledger.spare - 2
  pub positions : new.positions ≡ old.positions

-- a commit after its due moment is purged again

abbrev pub with_due_purge : (due at : ℕ) → Title → LedgerState → LedgerState
with_due_purge due at title ledger = if nat_lt due at then with_purge title at ledger else ledger

abbrev pub second_purge : (due at : ℕ) → LedgerState → Option Issued
second_purge due at ledger =
    if nat_lt due at then Some (record { purge = next_number ledger; message = next_number ledger }) else None

-- the ledger with the second purge, if one is due, and the message of the position
abbrev pub announced : (due at : ℕ) → Title → SavedNote → LedgerState → LedgerState
announced due at title note ledger =
    with_position note.client note.index note.entry at (with_due_purge due at title ledger)

-- the client's row once it was told of the commit
abbrev pub noted : SavedNote → (at : ℕ) → PositionRow → PositionRow
noted note at = with_told (record { index = note.index; position = note.entry; expires = at + position_life })

-- The entry is appended, purged again if it is late, and its position is noted at home and told to west.
pub record Saves (old new : EditState) (begun : BegunEdit) (at : ℕ) (note : SavedNote) : Type 0 where
  pub undecided : IsUndecided old.content (edit_of begun.ask)
  pub content : new.content ≡ with_commit old.content (edit_of begun.ask) at begun.issued.purge
  pub note_is : IsNoteOf old.content (edit_of begun.ask) at begun.issued.purge note
  pub client : note.client ≡ begun.ask.client
  pub rows : new.ledger.rows ≡ (announced begun.due at begun.purge_title note old.ledger).rows
  pub spare : new.ledger.spare ≡ old.ledger.spare - 2
  pub positions : Changes begun.ask.client (noted note at) old.positions new.positions

-- by the answer: whatever does not save the edit gives it up

abbrev pub CommitsWithOutcome : (old new : EditState) → BegunEdit → (at : ℕ) → Result CommitOutcome EditRefusal → Type 0
CommitsWithOutcome old new begun at (Ok outcome) =
    (WasSaved old.content (edit_of begun.ask) outcome.note × GivesUp old new × (outcome.second_purge ≡ None))
    ⊎ (Saves old new begun at outcome.note × (outcome.second_purge ≡ second_purge begun.due at old.ledger))
CommitsWithOutcome old new begun at (Err Store) = GivesUp old new
CommitsWithOutcome old new begun at (Err Memory) = GivesUp old new
CommitsWithOutcome old new begun at (Err why) = IsRefusedBy old.content (edit_of begun.ask) why × GivesUp old new

abbrev pub Commits : (old new : EditState) → BegunEdit → (at : ℕ) → Result SavedNote EditRefusal → Type 0
Commits old new begun at (Ok note) =
    (WasSaved old.content (edit_of begun.ask) note × GivesUp old new) ⊎ Saves old new begun at note
Commits old new begun at (Err Store) = GivesUp old new
Commits old new begun at (Err Memory) = GivesUp old new
Commits old new begun at (Err why) = IsRefusedBy old.content (edit_of begun.ask) why × GivesUp old new
