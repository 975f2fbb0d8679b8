-- What is done before each request that is served: unsent messages are sent, messages that came are carried or held
-- back for a round, a beat is made if it is due, and each replica applies.
use Rattle.std.specs.Prelude.{ℕ, zero, suc, ◌≡◌, ◌<◌, ◌≤◌, ◌+◌, ◌-◌, Bool, true, false, if◌then◌else◌, List, [], ◌∷◌}
use Rattle.std.specs.Prelude.{◌++◌, length, reverse, Option, Some, None, option_map}
use Rattle.farm_base.specs.Causes.{counted}
use Rattle.wiki_model.specs.declared.Region.{Region}
use Rattle.wiki_model.specs.declared.Readings.{Readings}
use Rattle.wiki_model.specs.Bytes.{Bytes}
use Rattle.wiki_model.specs.Limits.{messages_max}
use Rattle.wiki_model.specs.History.{Entry}
use Rattle.wiki_model.specs.Cache.{CacheMap}
use Rattle.wiki_model.specs.World.{World, Asked}
use Rattle.wiki_model.specs.Answers.{Answer}
use Rattle.wiki_model.specs.Steps.{Step}
use Rattle.wiki_model.specs.Runs.{Turn}
use Rattle.wiki_model.specs.Serving.{AllMade, Taken, carries, is_due, beat_if, Housekeeps}
use Rattle.purge_relay.specs.Carried.{Carried}
use Rattle.purge_relay.specs.AsModel.{body_of}
use Rattle.purge_relay.specs.declared.ledger_row.LedgerRow.{LedgerRow}
use Rattle.purge_relay.specs.Ledger.{row_at}
use Rattle.farm_steps.specs.RequestMap.{open_at}
use Rattle.farm_core.specs.FarmParts.{FarmParts, SameShape}
use Rattle.farm_core.specs.Agreement.{Agrees}
use Rattle.farm_core.specs.Runs.{Stands}
use Rattle.wiki_serve.specs.Exchanges.{with_messages}
use Rattle.wiki_serve.specs.Services.{numbers_from}
use Rattle.wiki_serve.specs.Turns.{MakesTurns, MakesAsked}
use Rattle.wiki_serve.specs.HoldingBack.{SplitsAs}

-- a count, after something that may have raised it
abbrev pub counted_if : Bool → ℕ → ℕ
counted_if test n = if test then counted n else n

-- What a wire exposes and counts.
pub record WireSeen : Type 0 where
  pub carried : Option Carried
  pub refused : ℕ
  pub empty : ℕ

abbrev pub wire_seen : Option Carried → (refused empty : ℕ) → WireSeen
wire_seen carried refused empty = record { carried = carried; refused = refused; empty = empty }

-- Sending

-- the message of this number in the ledger is this one
abbrev pub IsRow : List LedgerRow → ℕ → Taken → Type 0
IsRow rows number sent =
    (sent.number ≡ number) × (option_map (λ row. body_of row.message.body) (row_at rows number) ≡ Some sent.body)

abbrev pub AreRows : List LedgerRow → List ℕ → List Taken → Type 0
AreRows rows [] [] = Unit {0}
AreRows rows [] (taken ∷ more) = ⊥
AreRows rows (number ∷ numbers) [] = ⊥
AreRows rows (number ∷ numbers) (sent ∷ more) = IsRow rows number sent × AreRows rows numbers more

-- messages were sent in order, from after the first of these numbers up to the second
pub record SendsTo (rows : List LedgerRow) (before now : ℕ) (old new : WireSeen) (sent : List Taken) (halted : Bool)
    : Type 0 where
  pub later : before ≤ now
  pub within : before ≤ length rows → now ≤ length rows
  pub are : AreRows rows (numbers_from (before + 1) (now - before)) sent
  pub carried : new.carried ≡ option_map (with_messages sent []) old.carried
  pub refused : new.refused ≡ counted_if halted old.refused
  pub empty : new.empty ≡ old.empty

-- between two sends
pub record IsSending (rows : List LedgerRow) (before now : ℕ) (old new : WireSeen) : Type 0 where
  pub sent : List Taken
  pub sends : SendsTo rows before now old new sent false

-- The unsent messages were sent, all of them unless one was refused.
pub record SendsAll (rows : List LedgerRow) (before now : ℕ) (old new : WireSeen) : Type 0 where
  pub sent : List Taken
  pub halted : Bool
  pub sends : SendsTo rows before now old new sent halted
  pub all : halted ≡ false → length rows ≤ now
  pub left : halted ≡ true → now < length rows

-- Taking

-- these messages were taken: some are held, of which there may be so many, and the others were carried at once
pub record TakesSome {K S : Type 0} (content : K → Option (List Entry)) (faults : K → ℕ)
    (cache_of : S → CacheMap Bytes) (old new : FarmParts K S) (at : Readings) (before now : WireSeen) (room : ℕ)
    (held taken : List Taken) (emptied : Bool) : Type 0 where
  pub at_once : List Taken
  pub turns : List Turn
  pub made : MakesTurns content faults cache_of old new turns
  pub are : AllMade at (carries at_once) turns
  pub splits : SplitsAs content faults cache_of old room taken at_once held
  pub carried : now.carried ≡ option_map (with_messages [] taken) before.carried
  pub refused : now.refused ≡ before.refused
  pub empty : now.empty ≡ counted_if emptied before.empty

-- between two takes
pub record IsTaking {K S : Type 0} (content : K → Option (List Entry)) (faults : K → ℕ)
    (cache_of : S → CacheMap Bytes) (old new : FarmParts K S) (at : Readings) (before now : WireSeen) (room : ℕ)
    (held : List Taken) (count : ℕ) : Type 0 where
  pub taken : List Taken
  pub takes : TakesSome content faults cache_of old new at before now room held taken false
  pub number : length taken ≡ count

-- Messages were taken, and held or carried, until none came or there were enough.
pub record TakesAll {K S : Type 0} (content : K → Option (List Entry)) (faults : K → ℕ)
    (cache_of : S → CacheMap Bytes) (old new : FarmParts K S) (at : Readings) (before now : WireSeen) (room : ℕ)
    (held : List Taken) : Type 0 where
  pub taken : List Taken
  pub emptied : Bool
  pub takes : TakesSome content faults cache_of old new at before now room held taken emptied
  pub few : emptied ≡ true → length taken < messages_max
  pub full : emptied ≡ false → length taken ≡ messages_max

-- Beats

-- A beat was made if it is due.
pub record BeatsIfDue {K S : Type 0} (content : K → Option (List Entry)) (faults : K → ℕ)
    (cache_of : S → CacheMap Bytes) (old new : FarmParts K S) (at : Readings) : Type 0 where
  pub turns : List Turn
  pub made : MakesTurns content faults cache_of old new turns
  pub due : Bool
  pub are : AllMade at (beat_if due) turns
  pub is : (w : World) → Agrees content faults cache_of old w → is_due w at ≡ due

-- Applying

-- a step of each replica from i on, so many
abbrev pub applies_to : Region → (pace i count : ℕ) → List Step
applies_to r pace i zero = []
applies_to r pace i (suc count) = Step.Apply r i pace ∷ applies_to r pace (i + 1) count

-- So many replicas of a region applied, from the first on.
pub record AppliesTo {K S : Type 0} (content : K → Option (List Entry)) (faults : K → ℕ)
    (cache_of : S → CacheMap Bytes) (old new : FarmParts K S) (at : Readings) (r : Region) (pace count : ℕ)
    : Type 0 where
  pub turns : List Turn
  pub made : MakesTurns content faults cache_of old new turns
  pub are : AllMade at (applies_to r pace 0 count) turns

-- All together

-- each run goes on by a housekeeping
abbrev pub KeepsHouse : {K S : Type 0} → (K → Option (List Entry)) → (K → ℕ) → (S → CacheMap Bytes)
    → (old new : FarmParts K S) → Readings → (pace : ℕ) → (at_once : List Taken) → List Turn → Type 0
KeepsHouse content faults cache_of old new at pace at_once turns =
    (start : World) (earlier : List Turn) (v : World) → Stands content faults cache_of old start earlier v
    → (w : World) × Stands content faults cache_of new start (reverse turns ++ earlier) w
    × Housekeeps at pace at_once v turns w

-- The housekeeping of one request, for whose round these messages are held, of which there may be so many.
pub record DoesHousework {K S : Type 0} (content : K → Option (List Entry)) (faults : K → ℕ)
    (cache_of : S → CacheMap Bytes) (old new : FarmParts K S) (sent_old sent_new : ℕ) (at : Readings)
    (before now : WireSeen) (room : ℕ) (held : List Taken) : Type 0 where
  pub sent : List Taken
  pub halted : Bool
  pub taken : List Taken
  pub emptied : Bool
  -- the messages that were carried; with those that are held they are all that were taken
  pub at_once : List Taken
  pub splits : SplitsAs content faults cache_of old room taken at_once held
  pub turns : List Turn
  pub keeps : KeepsHouse content faults cache_of old new at old.plan.pace at_once turns
  pub later : sent_old ≤ sent_new
  pub within : sent_old ≤ length old.ledger.rows → sent_new ≤ length old.ledger.rows
  pub are : AreRows old.ledger.rows (numbers_from (sent_old + 1) (sent_new - sent_old)) sent
  pub all : halted ≡ false → length old.ledger.rows ≤ sent_new
  pub left : halted ≡ true → sent_new < length old.ledger.rows
  pub few : emptied ≡ true → length taken < messages_max
  pub full : emptied ≡ false → length taken ≡ messages_max
  pub carried : now.carried ≡ option_map (with_messages sent taken) before.carried
  pub refused : now.refused ≡ counted_if halted before.refused
  pub empty : now.empty ≡ counted_if emptied before.empty
  pub closed : open_at old.requests 0 ≡ None → open_at new.requests 0 ≡ None
  pub shape : SameShape old new
  pub counts : faults old.keeper ≤ faults new.keeper

-- A whole request was made after its housekeeping, for which nothing is held.
pub record ServesAsked {K S : Type 0} (content : K → Option (List Entry)) (faults : K → ℕ)
    (cache_of : S → CacheMap Bytes) (old new : FarmParts K S) (sent_old sent_new : ℕ) (at : Readings)
    (before now : WireSeen) (asked : Asked) (answer : Answer) : Type 0 where
  pub middle : FarmParts K S
  pub housework : DoesHousework content faults cache_of old middle sent_old sent_new at before now 0 []
  pub own : MakesAsked content faults cache_of middle new at asked answer
