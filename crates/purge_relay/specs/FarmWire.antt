-- What a wire in memory holds, and what a take gives by its plan.
use Rattle.std.specs.Prelude.{ℕ, ◌≡◌, ◌==◌, Bool, if◌then◌else◌, List, [], ◌∷◌, ◌++◌, length, map, find, drop, Option, Some, None, option_map, slice_get, Result, Ok, Err}
use Rattle.farm_base.specs.Causes.{counted}
use Rattle.purge_relay.specs.declared.message.Message.{Message}
use Rattle.purge_relay.specs.declared.farm_wire.Deal.{Deal}
use Rattle.purge_relay.specs.declared.farm_wire.Deal.TheVariants.{Carry, Skip, Fail}
use Rattle.purge_relay.specs.declared.wire.WireFault.{WireFault}
use Rattle.purge_relay.specs.declared.wire.WireFault.TheVariants.{Failed, Memory}
use Rattle.purge_relay.specs.Carried.{Carried}
use Rattle.purge_relay.specs.AsModel.{message_of, gives_message}

-- all that was sent and taken, and what the next takes are to do: as they were sent, or by a list
pub record Line : Type 0 where
  pub sent : List Message
  pub taken : List Message
  pub plan : Option (List Deal)
  pub faults : ℕ
  pub refused : ℕ
  pub empty : ℕ

-- nothing was sent or taken yet
abbrev pub new_line : Option (List Deal) → Line
new_line plan = record { sent = []; taken = []; plan = plan; faults = 0; refused = 0; empty = 0 }

abbrev pub carried_by : Line → Option Carried
carried_by line = Some (record { sent = map message_of line.sent; taken = map message_of line.taken })

-- what a take is to do
pub data Next : Type 0 where
  Gives : Message → Next
  GivesNone : Next
  Fails : Next

abbrev pub next_by : Option Message → Next
next_by None = GivesNone
next_by (Some m) = Gives m

abbrev pub has_number : (number : ℕ) → Message → Bool
has_number number m = m.number == number

abbrev pub next_in : (sent : List Message) → List Deal → Next
next_in sent [] = GivesNone
next_in sent (Skip ∷ deals) = GivesNone
next_in sent (Fail ∷ deals) = Fails
next_in sent (Carry number ∷ deals) = next_by (find (has_number number) sent)

abbrev pub next_of : (sent : List Message) (taken : ℕ) → Option (List Deal) → Next
next_of sent taken None = next_by (slice_get sent taken)
next_of sent taken (Some deals) = next_in sent deals

-- a take uses up one deal of the plan
abbrev pub without_deal : Option (List Deal) → Option (List Deal)
without_deal plan = option_map (drop 1) plan

abbrev pub with_given : Option Message → List Message → List Message
with_given None taken = taken
with_given (Some m) taken = taken ++ m ∷ []

-- what a take does to the messages taken and to the plan; if memory was refused, the message stays ready
abbrev pub TakesFrom :
    (taken new_taken : List Message) (plan new_plan : Option (List Deal)) → Next → Result (Option Message) WireFault
    → Type 0
TakesFrom taken new_taken plan new_plan (Gives m) (Ok (Some given)) =
    (given ≡ m) × (new_taken ≡ taken ++ m ∷ []) × (new_plan ≡ without_deal plan)
TakesFrom taken new_taken plan new_plan (Gives m) (Err Memory) = (new_taken ≡ taken) × (new_plan ≡ plan)
TakesFrom taken new_taken plan new_plan GivesNone (Ok None) = (new_taken ≡ taken) × (new_plan ≡ without_deal plan)
TakesFrom taken new_taken plan new_plan Fails (Err Failed) = (new_taken ≡ taken) × (new_plan ≡ without_deal plan)
TakesFrom taken new_taken plan new_plan next result = ⊥

-- what a take counts
abbrev pub faults_after : {T : Type 0} → Result T WireFault → ℕ → ℕ
faults_after (Err Failed) faults = counted faults
faults_after (Err Memory) faults = faults
faults_after (Ok x) faults = faults

-- a take, and what it counts
pub record Takes (old new : Line) (result : Result (Option Message) WireFault) : Type 0 where
  pub from : TakesFrom old.taken new.taken old.plan new.plan (next_of old.sent (length old.taken) old.plan) result
  pub sent : new.sent ≡ old.sent
  pub faults : new.faults ≡ faults_after result old.faults
  pub empty : new.empty ≡ (if gives_message result then old.empty else counted old.empty)
  pub refused : new.refused ≡ old.refused

-- a send is refused only if memory was
abbrev pub Sends : (old new : Line) → Message → {T : Type 0} → Result T WireFault → Type 0
Sends old new m (Ok done) = new ≡ record old { sent = old.sent ++ m ∷ [] }
Sends old new m (Err Memory) = new ≡ record old { refused = counted old.refused }
Sends old new m (Err Failed) = ⊥
