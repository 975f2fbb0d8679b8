-- What applying the next entries of a history does to a replica.
use Rattle.std.specs.Prelude.{ℕ, ◌≡◌, ◌+◌, ◌≤◌, min, Bool, true, false, List, length, Result, Ok, Err, OnOk}
use Rattle.wiki_model.specs.History.{Entry}
use Rattle.farm_base.specs.declared.memory.Memory.{Memory}
use Rattle.revision_keeper.specs.declared.keeper.KeepFault.{KeepFault}
use Rattle.revision_keeper.specs.declared.keeper.KeepFault.TheVariants as fault
use Rattle.replica_apply.specs.declared.replica.Applied.{Applied}
use Rattle.replica_apply.specs.Replica.{ReplicaState, IsPrefixOf}
use Rattle.replica_apply.specs.Applied.{Applies, Follows, GoesOn}

-- an entry of this number was handed to a replica; if it is a history's next, the replica stays
-- a prefix of that history
pub record TakesEntry (old new : ReplicaState) (n : ℕ) (entry : Entry) (result : Result Applied Memory) : Type 0 where
  pub applies : Applies old new n entry result
  pub follows : Follows old new entry result
  pub goes_on : GoesOn old new n entry result

abbrev pub says_applied : Result Applied Memory → Result Bool KeepFault
says_applied (Ok made) = Ok true
says_applied (Err want) = Err fault.Memory

-- the next entry was applied; or there is none; or out of memory, or the keeper failed
abbrev pub EndsOne : List Entry → (old new : ReplicaState) → Result Bool KeepFault → Type 0
EndsOne h old new (Ok true) = IsPrefixOf h new × (new.applied ≡ old.applied + 1) × (new.applied ≤ length h)
EndsOne h old new (Ok false) = (new ≡ old) × (old.applied ≡ length h)
EndsOne h old new (Err why) = new ≡ old

abbrev pub AppliesOne : List Entry → (old new : ReplicaState) → Result Bool KeepFault → Type 0
AppliesOne h old new result = IsPrefixOf h old → old.applied ≤ length h → EndsOne h old new result

-- at most `count` entries were applied; all of them if nothing was refused
pub record HasApplied (h : List Entry) (count : ℕ) (old new : ReplicaState)
    (result : Result (Unit {0}) KeepFault) : Type 0 where
  pub prefix : IsPrefixOf h new
  pub up : old.applied ≤ new.applied
  pub within : new.applied ≤ min (old.applied + count) (length h)
  pub all : OnOk result (new.applied ≡ min (old.applied + count) (length h))

abbrev pub AppliesTo : List Entry → (count : ℕ) → (old new : ReplicaState) → Result (Unit {0}) KeepFault → Type 0
AppliesTo h count old new result = IsPrefixOf h old → old.applied ≤ length h → HasApplied h count old new result
