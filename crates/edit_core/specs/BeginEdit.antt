-- What the first step of an edit leaves.
use Rattle.std.specs.Prelude.{ℕ, ◌≡◌, ◌+◌, [], ◌∷◌, ◌++◌, Result, Ok, Err}
use Rattle.wiki_model.specs.History.{Edit}
use Rattle.purge_relay.specs.declared.message.Body.TheVariants.{Purge}
use Rattle.purge_relay.specs.LedgerRow.{new_row}
use Rattle.purge_relay.specs.Ledger.{LedgerState, next_number}
use Rattle.chronology_store.specs.PositionRow.{with_reserved}
use Rattle.chronology_store.specs.ChronologyStore.{Changes}
use Rattle.edit_core.specs.declared.edit_ask.EditRefusal.{EditRefusal}
use Rattle.edit_core.specs.declared.edit_ask.EditRefusal.TheVariants.{Store, Memory}
use Rattle.edit_core.specs.declared.begun_edit.Begun.{Begun}
use Rattle.edit_core.specs.declared.begun_edit.Begun.TheVariants.{Started, Already}
use Rattle.edit_core.specs.declared.begun_edit.BegunEdit.{BegunEdit}
use Rattle.edit_core.specs.AsModel.{edit_of}
use Rattle.edit_core.specs.EditState.{EditState, IsUndecided, WasSaved, IsRefusedBy}

-- the edit that was begun at this moment
pub record IsBegun (edit : Edit) (at delay : ℕ) (ledger : LedgerState) (begun : BegunEdit) : Type 0 where
  pub ask : edit_of begun.ask ≡ edit
  pub again : begun.purge_title ≡ edit.title
  pub purge : begun.issued.purge ≡ next_number ledger
  pub message : begun.issued.message ≡ next_number ledger
  pub due : begun.due ≡ at + delay

-- its purge is issued, and room for two more messages is reserved
pub record IssuesPurge (edit : Edit) (at : ℕ) (old new : LedgerState) : Type 0 where
  pub rows : new.rows ≡ old.rows ++ new_row (next_number old) (Purge (next_number old) edit.title at) ∷ []
  pub spare : new.spare ≡ old.spare + 2

-- the history does not decide the edit, so its purge is issued, and its client has a row from now on
pub record Starts (old new : EditState) (edit : Edit) (at delay : ℕ) (begun : BegunEdit) : Type 0 where
  pub undecided : IsUndecided old.content edit
  pub begun_is : IsBegun edit at delay old.ledger begun
  pub content : new.content ≡ old.content
  pub ledger : IssuesPurge edit at old.ledger new.ledger
  pub positions : Changes edit.client with_reserved old.positions new.positions

-- by the answer: whatever does not start the edit leaves everything as it was
abbrev pub Begins : (old new : EditState) → Edit → (at delay : ℕ) → Result Begun EditRefusal → Type 0
Begins old new edit at delay (Ok (Started begun)) = Starts old new edit at delay begun
Begins old new edit at delay (Ok (Already note)) = WasSaved old.content edit note × (new ≡ old)
Begins old new edit at delay (Err Store) = new ≡ old
Begins old new edit at delay (Err Memory) = new ≡ old
Begins old new edit at delay (Err why) = IsRefusedBy old.content edit why × (new ≡ old)
