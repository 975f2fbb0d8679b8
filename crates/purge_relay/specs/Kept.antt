-- What a wire in memory keeps for the takes to come, in place of all that was ever sent.
use Rattle.std.specs.Prelude.{ℕ, ◌≡◌, ◌≤◌, ◌==◌, Bool, true, false, if◌then◌else◌, List, [], ◌∷◌, ◌++◌, length, find, drop, Option, Some, None, option_map, slice_get, Result, Ok, Err}
use Rattle.std.specs.List.{list_any}
use Rattle.purge_relay.specs.declared.message.Message.{Message}
use Rattle.purge_relay.specs.declared.farm_wire.Deal.{Deal}
use Rattle.purge_relay.specs.declared.farm_wire.Deal.TheVariants.{Carry, Skip, Fail}
use Rattle.purge_relay.specs.declared.wire.WireFault.{WireFault}
use Rattle.purge_relay.specs.declared.wire.WireFault.TheVariants.{Failed, Memory}
use Rattle.purge_relay.specs.FarmWire.{Next, Gives, GivesNone, Fails, has_number, next_in, with_given}

-- the deals that are left, and the messages that they name
pub record ScriptState : Type 0 where
  pub deals : List Deal
  pub kept : List Message

abbrev pub plan_of : Option ScriptState → Option (List Deal)
plan_of script = option_map (λ s. s.deals) script

-- whether the deal is to carry the message of this number
abbrev pub names : (number : ℕ) → Deal → Bool
names number (Carry n) = n == number
names number Skip = false
names number Fail = false

-- a message is kept if a deal that is left names it
abbrev pub with_kept : Message → ScriptState → ScriptState
with_kept m s = if list_any (names m.number) s.deals then record s { kept = s.kept ++ m ∷ [] } else s

-- with no script, each message waits
abbrev pub with_waiting : Option ScriptState → Message → List Message → List Message
with_waiting None m waiting = waiting ++ m ∷ []
with_waiting (Some s) m waiting = waiting

-- What is kept serves each take to come as all that was sent would. In order, it is what was not yet taken; by a
-- script, it finds what a deal names.
abbrev pub Keeps : Option ScriptState → (waiting sent taken : List Message) → Type 0
Keeps None waiting sent taken = (length taken ≤ length sent) × (waiting ≡ drop (length taken) sent)
Keeps (Some s) waiting sent taken =
    (number : ℕ) → list_any (names number) s.deals ≡ true
    → find (has_number number) s.kept ≡ find (has_number number) sent

-- a deal of the script is done, or stays if memory was refused
abbrev pub Answers : (deals new_deals : List Deal) → Next → Result (Option Message) WireFault → Type 0
Answers deals new_deals (Gives m) (Ok (Some given)) = (given ≡ m) × (new_deals ≡ drop 1 deals)
Answers deals new_deals (Gives m) (Err Memory) = new_deals ≡ deals
Answers deals new_deals GivesNone (Ok None) = new_deals ≡ drop 1 deals
Answers deals new_deals Fails (Err Failed) = new_deals ≡ drop 1 deals
Answers deals new_deals next result = ⊥

pub record DealsOut (old new : ScriptState) (result : Result (Option Message) WireFault) : Type 0 where
  pub answers : Answers old.deals new.deals (next_in old.kept old.deals) result
  pub kept : new.kept ≡ old.kept

-- a take gives the first that waits, or does the next deal
abbrev pub Deals :
    (old new : Option ScriptState) (waiting new_waiting : List Message) → Result (Option Message) WireFault → Type 0
Deals None None waiting new_waiting result = (result ≡ Ok (slice_get waiting 0)) × (new_waiting ≡ drop 1 waiting)
Deals (Some old) (Some new) waiting new_waiting result = (new_waiting ≡ waiting) × DealsOut old new result
Deals old new waiting new_waiting result = ⊥

abbrev pub taken_after : Result (Option Message) WireFault → List Message → List Message
taken_after (Ok m) taken = with_given m taken
taken_after (Err e) taken = taken
