-- What messages and the ledger's rows stand for in the model's definitions.
use Rattle.std.specs.Prelude.{ℕ, ◌≡◌, Bool, true, false, if◌then◌else◌, List, map, Option, Some, None, option_map, Result, Ok, Err}
use Rattle.farm_base.specs.Causes.{counted}
use Rattle.wiki_model.specs.World as model
use Rattle.purge_relay.specs.Carried.{CarriedMessage, Carried, with_sent, with_taken}
use Rattle.purge_relay.specs.declared.message.Body.{Body}
use Rattle.purge_relay.specs.declared.message.Body.TheVariants.{Purge, Position}
use Rattle.purge_relay.specs.declared.message.Message.{Message}
use Rattle.purge_relay.specs.declared.ledger_row.LedgerRow.{LedgerRow}

abbrev pub body_of : Body → model.Body
body_of (Purge purge title issued) = model.Purge purge title issued
body_of (Position client index entry stamp) = model.Position client index entry stamp

-- a message on a wire
abbrev pub message_of : Message → CarriedMessage
message_of m = record { number = m.number; body = body_of m.body }

-- the ledger's rows as a world's messages
abbrev pub row_message : LedgerRow → model.Message
row_message row = record { body = body_of row.message.body; dropped = row.dropped }

abbrev pub messages_of : List LedgerRow → List model.Message
messages_of rows = map row_message rows

abbrev pub maybe_taken : Option Message → Carried → Carried
maybe_taken None c = c
maybe_taken (Some m) c = with_taken (message_of m) c

-- a wire was given this message, and nothing else has changed
abbrev pub HasSent : (old new : Option Carried) → Message → Type 0
HasSent old new m = new ≡ option_map (with_sent (message_of m)) old

-- a wire gave this message, or none
abbrev pub HasTaken : (old new : Option Carried) → Option Message → Type 0
HasTaken old new m = new ≡ option_map (maybe_taken m) old

abbrev pub gives_message : {E : Type 0} → Result (Option Message) E → Bool
gives_message (Ok (Some m)) = true
gives_message (Ok None) = false
gives_message (Err e) = false

-- the count of takes that gave no message
abbrev pub empty_after : {E : Type 0} → Result (Option Message) E → ℕ → ℕ
empty_after result count = if gives_message result then count else counted count
