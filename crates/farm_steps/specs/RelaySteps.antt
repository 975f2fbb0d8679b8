-- What carrying, dropping and issuing messages do to the ledger and to a region.
use Rattle.std.specs.Prelude.{ℕ, ◌≡◌, ◌⊎◌, ◌+◌, ◌≤◌, Bool, true, false, if◌then◌else◌, List, [], ◌∷◌, Option, Some, None}
use Rattle.wiki_model.specs.declared.Region.{Region}
use Rattle.wiki_model.specs.declared.Region.TheVariants.{West}
use Rattle.wiki_model.specs.Bytes.{Bytes}
use Rattle.wiki_model.specs.Limits.{greatest_moment, position_life}
use Rattle.wiki_model.specs.Cache.{CacheMap}
use Rattle.wiki_model.specs.CacheCalls.{TakesPurge}
use Rattle.wiki_model.specs.World as world
use Rattle.wiki_model.specs.Answers.{Answer, Unknown, Gone, NoMemory}
use Rattle.purge_relay.specs.declared.message.Body.{Body}
use Rattle.purge_relay.specs.declared.message.Body.TheVariants.{Purge, Position}
use Rattle.purge_relay.specs.declared.message.Message.{Message}
use Rattle.purge_relay.specs.declared.ledger_row.LedgerRow.{LedgerRow}
use Rattle.farm_steps.specs.declared.relay_steps.Carriage.{Carriage}
use Rattle.farm_steps.specs.declared.relay_steps.Carriage.TheVariants as carriage
use Rattle.purge_relay.specs.LedgerRow.{with_receipt, dropped}
use Rattle.purge_relay.specs.Ledger.{LedgerState, row_at, changed_at}
use Rattle.purge_relay.specs.AsModel.{body_of}
use Rattle.purge_relay.specs.Body.{is_same_body}
use Rattle.chronology_store.specs.ChronologyStore.{TellsPosition}
use Rattle.region_state.specs.RegionState.{RegionParts, OnCache, OnPositions}

-- a region takes what a message says, if it is a purge
abbrev pub TakesBody : {S : Type 0} → (S → CacheMap Bytes) → (before after : RegionParts S) → (now : ℕ) → Body → Type 0
TakesBody cache_of before after now (Purge purge title issued) =
    OnCache cache_of before after (λ b a. TakesPurge b a title now)
TakesBody cache_of before after now (Position client index entry stamp) = after ≡ before

abbrev pub TakesRow : {S : Type 0} → (S → CacheMap Bytes) → (before after : RegionParts S) → (now : ℕ)
    → Option LedgerRow → Type 0
TakesRow cache_of before after now None = after ≡ before
TakesRow cache_of before after now (Some row) = TakesBody cache_of before after now row.message.body

-- a region receives a purge, and its receipt is noted
abbrev pub Receives : {S : Type 0} → (S → CacheMap Bytes) → Region → (before after : RegionParts S)
    → (old new : LedgerState) → (purge now : ℕ) → Type 0
Receives cache_of region before after old new purge now =
    (new ≡ changed_at (with_receipt region now) purge old) × TakesRow cache_of before after now (row_at old.rows purge)

-- a region hears a position
abbrev pub Hears : {S : Type 0} → (before after : RegionParts S) → (client : List ℕ) → (index entry stamp : ℕ) → Type 0
Hears before after client index entry stamp =
    OnPositions before after (TellsPosition client index entry (stamp + position_life))

-- a message that can be carried is carried
abbrev pub CarriesBody : {S : Type 0} → (S → CacheMap Bytes) → (before after : RegionParts S) → (old new : LedgerState)
    → (number now : ℕ) → Option Answer → Body → Type 0
CarriesBody cache_of before after old new number now answer (Purge purge title issued) =
    (answer ≡ None) × Receives cache_of West before after old new number now
CarriesBody cache_of before after old new number now answer (Position client index entry stamp) =
    (new ≡ old) × (((answer ≡ None) × Hears before after client index entry stamp)
    ⊎ ((answer ≡ Some NoMemory) × (after ≡ before)))

-- a message that was dropped is gone
abbrev pub CarriesShown : {S : Type 0} → (S → CacheMap Bytes) → (before after : RegionParts S) → (old new : LedgerState)
    → (number now : ℕ) → Option world.Body → Option Answer → LedgerRow → (dropped : Bool) → Type 0
CarriesShown cache_of before after old new number now shown answer row true =
    (answer ≡ Some (Gone number)) × (new ≡ old) × (after ≡ before)
CarriesShown cache_of before after old new number now shown answer row false =
    CarriesBody cache_of before after old new number now answer row.message.body

-- whether a body that is shown is the message's own; it need not be shown
abbrev pub shows : Option world.Body → world.Body → Bool
shows None body = true
shows (Some shown) body = is_same_body shown body

abbrev pub CarriesIf : {S : Type 0} → (S → CacheMap Bytes) → (before after : RegionParts S) → (old new : LedgerState)
    → (number now : ℕ) → Option world.Body → Option Answer → LedgerRow → (shown : Bool) → Type 0
CarriesIf cache_of before after old new number now shown answer row false =
    (answer ≡ Some (Unknown number)) × (new ≡ old) × (after ≡ before)
CarriesIf cache_of before after old new number now shown answer row true =
    CarriesShown cache_of before after old new number now shown answer row row.dropped

abbrev pub Carries : {S : Type 0} → (S → CacheMap Bytes) → (before after : RegionParts S) → (old new : LedgerState)
    → (number now : ℕ) → Option world.Body → Option Answer → Option LedgerRow → Type 0
Carries cache_of before after old new number now shown answer None =
    (answer ≡ Some (Unknown number)) × (new ≡ old) × (after ≡ before)
Carries cache_of before after old new number now shown answer (Some row) =
    CarriesIf cache_of before after old new number now shown answer row (shows shown (body_of row.message.body))

-- what becomes of a message, by its body, whether it was dropped, and a body that is shown

abbrev pub carriage_in : Body → Carriage
carriage_in (Purge purge title issued) = carriage.Purge
carriage_in (Position client index entry stamp) = carriage.Position client index entry stamp

abbrev pub carriage_of : Option world.Body → Option Message → (dropped : Bool) → Carriage
carriage_of shown None dropped = carriage.Unknown
carriage_of shown (Some message) dropped =
    if shows shown (body_of message.body) then (if dropped then carriage.Gone else carriage_in message.body) else
    carriage.Unknown

abbrev pub IsSmallCarriage : Carriage → Type 0
IsSmallCarriage (carriage.Position client index entry stamp) = stamp ≤ greatest_moment
IsSmallCarriage _ = Unit {0}

abbrev pub CarriesAs : {S : Type 0} → (S → CacheMap Bytes) → (before after : RegionParts S) → (old new : LedgerState)
    → (number now : ℕ) → Option Answer → Carriage → Type 0
CarriesAs cache_of before after old new number now answer carriage.Unknown =
    (answer ≡ Some (Unknown number)) × (new ≡ old) × (after ≡ before)
CarriesAs cache_of before after old new number now answer carriage.Gone =
    (answer ≡ Some (Gone number)) × (new ≡ old) × (after ≡ before)
CarriesAs cache_of before after old new number now answer carriage.Purge =
    (answer ≡ None) × Receives cache_of West before after old new number now
CarriesAs cache_of before after old new number now answer (carriage.Position client index entry stamp) =
    (new ≡ old) × (((answer ≡ None) × Hears before after client index entry stamp)
    ⊎ ((answer ≡ Some NoMemory) × (after ≡ before)))

abbrev pub Drops : (old new : LedgerState) → (number : ℕ) → Option Answer → Option LedgerRow → Type 0
Drops old new number answer None = (answer ≡ Some (Unknown number)) × (new ≡ old)
Drops old new number answer (Some row) = (answer ≡ None) × (new ≡ changed_at dropped number old)

-- the ledger after these purges were received at a moment
abbrev pub received_all : Region → (at : ℕ) → List ℕ → LedgerState → LedgerState
received_all r at [] ledger = ledger
received_all r at (purge ∷ purges) ledger = received_all r at purges (changed_at (with_receipt r at) purge ledger)
