-- What the steps of an edit do.
use Rattle.std.specs.Prelude.{ℕ, ◌≡◌, ◌+◌, ◌≤◌, List, Option, Some, None, Result, Ok, Err}
use Rattle.wiki_model.specs.declared.Region.TheVariants.{Home}
use Rattle.wiki_model.specs.Bytes.{Bytes}
use Rattle.wiki_model.specs.History.{Entry}
use Rattle.wiki_model.specs.Cache.{CacheMap}
use Rattle.wiki_model.specs.Answers.{Answer, EditSaved}
use Rattle.chronology_store.specs.ChronologyStore.{Positions}
use Rattle.purge_relay.specs.declared.ledger.Issued.{Issued}
use Rattle.purge_relay.specs.Ledger.{LedgerState}
use Rattle.edit_core.specs.declared.edit_ask.EditAsk.{EditAsk}
use Rattle.edit_core.specs.declared.edit_ask.CommitOutcome.{CommitOutcome}
use Rattle.edit_core.specs.declared.edit_ask.EditRefusal.{EditRefusal}
use Rattle.edit_core.specs.declared.begun_edit.BegunEdit.{BegunEdit}
use Rattle.edit_core.specs.declared.begun_edit.Begun.{Begun}
use Rattle.edit_core.specs.declared.begun_edit.Begun.TheVariants.{Started, Already}
use Rattle.edit_core.specs.AsModel.{edit_of, saved_of, refused_of}
use Rattle.edit_core.specs.EditState.{HasStoreFault, state_of}
use Rattle.edit_core.specs.BeginEdit.{Begins}
use Rattle.edit_core.specs.CommitEdit.{CommitsWithOutcome}
use Rattle.farm_steps.specs.declared.open_request.OpenRequest.TheVariants as point
use Rattle.farm_steps.specs.RequestMap.{Entries, Places, room}
use Rattle.region_state.specs.RegionState.{RegionParts, with_positions}
use Rattle.farm_steps.specs.RelaySteps.{Receives}
use Rattle.farm_steps.specs.ViewSteps.{NoneThere}

-- commit

abbrev pub outcome_answer : Result CommitOutcome EditRefusal → Answer
outcome_answer (Ok outcome) = EditSaved (saved_of outcome.note)
outcome_answer (Err why) = refused_of why

abbrev pub second_purge_in : Result CommitOutcome EditRefusal → Option Issued
second_purge_in (Ok outcome) = outcome.second_purge
second_purge_in (Err why) = None

-- home receives the second purge, if there is one
abbrev pub ReceivesSecond : {S : Type 0} → (S → CacheMap Bytes) → (before after : RegionParts S)
    → (old new : LedgerState) → (now : ℕ) → Option Issued → Type 0
ReceivesSecond cache_of before after old new now None = (new ≡ old) × (after ≡ before)
ReceivesSecond cache_of before after old new now (Some issued) =
    Receives cache_of Home before after old new issued.purge now

-- a begun edit is committed
pub record CommitsEdit {S : Type 0} (cache_of : S → CacheMap Bytes) (told after : Option (List Entry))
    (before_faults after_faults : ℕ)
    (home home_after : RegionParts S) (old new : LedgerState) (now : ℕ) (answer : Answer)
    (begun : BegunEdit) : Type 0 where
  pub result : Result CommitOutcome EditRefusal
  pub said : answer ≡ outcome_answer result
  pub cause : HasStoreFault before_faults after_faults result
  -- the ledger and the positions before home receives the second purge
  pub mid : LedgerState
  pub positions : Positions
  pub commits : CommitsWithOutcome (state_of told old home.positions) (state_of after mid positions) begun now result
  pub receives : ReceivesSecond cache_of (with_positions positions home) home_after mid new now (second_purge_in result)

-- the step changes neither history nor ledger nor home
abbrev pub LeavesAll : {S : Type 0} → (told after : Option (List Entry)) → (before_faults after_faults : ℕ)
    → (home home_after : RegionParts S) → (old new : LedgerState) → Type 0
LeavesAll told after before_faults after_faults home home_after old new =
    (after ≡ told) × (before_faults ≤ after_faults) × (new ≡ old) × (home_after ≡ home)

-- a begun edit is closed, and gives back its room
abbrev pub CommitsTo : {S : Type 0} → (S → CacheMap Bytes) → (told after : Option (List Entry))
    → (before_faults after_faults : ℕ) → (home home_after : RegionParts S) → (old new : LedgerState) → (now id : ℕ)
    → (requests requests_after : Entries) → Answer → Option BegunEdit → Type 0
CommitsTo cache_of told after before_faults after_faults home home_after old new now id requests requests_after
    answer None =
    NoneThere id requests requests_after (Some answer)
    × LeavesAll told after before_faults after_faults home home_after old new
CommitsTo cache_of told after before_faults after_faults home home_after old new now id requests requests_after
    answer (Some begun) =
    Places requests requests_after id None × (room requests_after + 2 ≤ room requests)
    × CommitsEdit cache_of told after before_faults after_faults home home_after old new now answer begun

-- begin

-- an edit that is begun has its purge received at home; any other closes the request
abbrev pub EndsBegin : {S : Type 0} → (S → CacheMap Bytes) → (before after : RegionParts S) → (old new : LedgerState)
    → (now id : ℕ) → (requests requests_after : Entries) → Option Answer → Result Begun EditRefusal → Type 0
EndsBegin cache_of before after old new now id requests requests_after answer (Ok (Started begun)) =
    (answer ≡ None) × Receives cache_of Home before after old new begun.issued.purge now
    × Places requests requests_after id (Some (point.EditBegun begun))
EndsBegin cache_of before after old new now id requests requests_after answer (Ok (Already note)) =
    (answer ≡ Some (EditSaved (saved_of note))) × (new ≡ old) × (after ≡ before)
    × Places requests requests_after id None
EndsBegin cache_of before after old new now id requests requests_after answer (Err why) =
    (answer ≡ Some (refused_of why)) × (new ≡ old) × (after ≡ before) × Places requests requests_after id None

pub record BeginsEdit {S : Type 0} (cache_of : S → CacheMap Bytes) (told after : Option (List Entry))
    (before_faults after_faults : ℕ) (home home_after : RegionParts S) (old new : LedgerState) (now delay id : ℕ)
    (requests requests_after : Entries) (answer : Option Answer) (ask : EditAsk) : Type 0 where
  pub result : Result Begun EditRefusal
  pub cause : HasStoreFault before_faults after_faults result
  pub mid : LedgerState
  pub positions : Positions
  pub begins : Begins (state_of told old home.positions) (state_of after mid positions) (edit_of ask) now delay result
  pub ends : EndsBegin cache_of (with_positions positions home) home_after mid new now id requests requests_after answer
      result

abbrev pub BeginsTo : {S : Type 0} → (S → CacheMap Bytes) → (told after : Option (List Entry))
    → (before_faults after_faults : ℕ) → (home home_after : RegionParts S) → (old new : LedgerState)
    → (now delay id : ℕ) → (requests requests_after : Entries) → Option Answer → Option EditAsk → Type 0
BeginsTo cache_of told after before_faults after_faults home home_after old new now delay id requests requests_after
    answer None =
    NoneThere id requests requests_after answer
    × LeavesAll told after before_faults after_faults home home_after old new
BeginsTo cache_of told after before_faults after_faults home home_after old new now delay id requests requests_after
    answer (Some ask) =
    BeginsEdit cache_of told after before_faults after_faults home home_after old new now delay id requests
    requests_after answer ask
