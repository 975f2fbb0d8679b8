-- Which of the messages that were taken for a batch of west are held back for its round, by what the ledger says of
-- them, and how the others are carried.
use Rattle.std.specs.Prelude.{ℕ, ◌≡◌, ◌≤◌, Bool, true, false, not, if◌then◌else◌, ◌&&◌, List, [], ◌∷◌, ◌++◌, length, map}
use Rattle.std.specs.Prelude.{Option, Some, None, nat_lt}
use Rattle.wiki_model.specs.declared.Readings.{Readings}
use Rattle.wiki_model.specs.Bytes.{Bytes}
use Rattle.wiki_model.specs.History.{Entry}
use Rattle.wiki_model.specs.Cache.{CacheMap}
use Rattle.wiki_model.specs.World as world
use Rattle.wiki_model.specs.World.{World}
use Rattle.wiki_model.specs.Steps.{Step}
use Rattle.wiki_model.specs.Runs.{Turn}
use Rattle.wiki_model.specs.Serving.{AllMade, Taken, Splits, carries}
use Rattle.purge_relay.specs.Body.{is_same_body}
use Rattle.purge_relay.specs.AsModel.{body_of}
use Rattle.purge_relay.specs.Ledger.{row_at}
use Rattle.purge_relay.specs.declared.message.Message.{Message}
use Rattle.purge_relay.specs.declared.ledger_row.LedgerRow.{LedgerRow}
use Rattle.farm_core.specs.FarmParts.{FarmParts}
use Rattle.farm_core.specs.Runs.{Stands}
use Rattle.region_round.specs.Jobs.{is_purge_body}
use Rattle.region_round.specs.declared.job.Job.{Job as CodeJob}
use Rattle.region_round.specs.declared.job.Job.TheVariants as job
use Rattle.wiki_serve.specs.declared.held_purges.HeldPurges.{HeldPurges}
use Rattle.wiki_serve.specs.Turns.{MakesTurns, MakesStep}

-- a message as it is told of
abbrev pub taken_of : Message → Taken
taken_of message = record { number = message.number; body = body_of message.body }

abbrev pub all_taken : List Message → List Taken
all_taken messages = map taken_of messages

-- the purges that are held back, in the order in which they were taken
abbrev pub held_of : HeldPurges → List Taken
held_of held = all_taken held.messages.items

-- no more are held than may be, and there is room for all that may be
pub record HasRoom (held : HeldPurges) : Type 0 where
  pub fits : held.room ≤ held.messages.cap
  pub few : length held.messages.items ≤ held.room

-- none is held yet, and there is room
pub record IsEmpty (held : HeldPurges) : Type 0 where
  pub fits : held.room ≤ held.messages.cap
  pub none : held.messages.items ≡ []

-- Receivable

-- the row's message is a purge that has this body and was not dropped
abbrev pub is_open_as : world.Body → Option LedgerRow → Bool
is_open_as body None = false
is_open_as body (Some row) =
    if is_purge_body row.message.body then is_same_body body (body_of row.message.body) && not row.dropped else false

-- the message is a purge that was issued under its number as it was taken, and not dropped: carry would answer none
abbrev pub is_receivable : List LedgerRow → Taken → Bool
is_receivable rows t = is_open_as t.body (row_at rows t.number)

-- it is held back, if fewer are than may be
abbrev pub is_held : List LedgerRow → (room count : ℕ) → Taken → Bool
is_held rows room count t = nat_lt count room && is_receivable rows t

-- the receipts that a round may have of these messages
abbrev pub receipts_in : List LedgerRow → List Taken → List CodeJob
receipts_in rows [] = []
receipts_in rows (t ∷ taken) =
    if is_receivable rows t then job.Receipt t.number ∷ receipts_in rows taken else receipts_in rows taken

-- Holding back

-- A message that was taken is held back, or carried.
abbrev pub TakesOne : {K S : Type 0} → (K → Option (List Entry)) → (K → ℕ) → (S → CacheMap Bytes) → (hold : Bool)
    → (old new : FarmParts K S) → Readings → Taken → (before now : List Taken) → Type 0
TakesOne content faults cache_of true old new at t before now = (new ≡ old) × (now ≡ before ++ t ∷ [])
TakesOne content faults cache_of false old new at t before now =
    MakesStep content faults cache_of old new at (Step.Carry t.number (Some t.body)) × (now ≡ before)

-- by the world of each run for which the farm stands, the messages that were taken split into these
abbrev pub SplitsAs : {K S : Type 0} → (K → Option (List Entry)) → (K → ℕ) → (S → CacheMap Bytes) → FarmParts K S
    → (room : ℕ) → (taken at_once held : List Taken) → Type 0
SplitsAs content faults cache_of farm room taken at_once held =
    (start : World) (earlier : List Turn) (v : World) → Stands content faults cache_of farm start earlier v
    → Splits v room taken at_once held

-- Each of these messages was carried, in their order.
pub record CarriesAll {K S : Type 0} (content : K → Option (List Entry)) (faults : K → ℕ)
    (cache_of : S → CacheMap Bytes) (old new : FarmParts K S) (at : Readings) (messages : List Taken) : Type 0 where
  pub turns : List Turn
  pub made : MakesTurns content faults cache_of old new turns
  pub are : AllMade at (carries messages) turns
