-- What a keeper in memory holds, as contracts see it.
-- Appends are counted from 1, and a list names those that are to fail.
use Rattle.std.specs.Prelude.{ℕ, Bool, true, false, List, nat_eq, Result, Ok, Err}
use Rattle.std.specs.List.{list_any}
use Rattle.wiki_model.specs.History.{Entry}
use Rattle.farm_base.specs.Causes.{counted}
use Rattle.revision_keeper.specs.declared.keeper.KeepFault.{KeepFault}
use Rattle.revision_keeper.specs.declared.keeper.KeepFault.TheVariants.{Fault, Memory}

pub record MemKeeperState : Type 0 where
  pub history : List Entry
  pub failing : List ℕ
  pub calls : ℕ
  pub faults : ℕ

abbrev pub is_named : (number : ℕ) → List ℕ → Bool
is_named number numbers = list_any (λ n. nat_eq n number) numbers

-- the list names the next append
abbrev pub fails_next : MemKeeperState → Bool
fails_next state = is_named (counted state.calls) state.failing

abbrev pub is_fault : {T : Type 0} → Result T KeepFault → Bool
is_fault (Ok value) = false
is_fault (Err Fault) = true
is_fault (Err Memory) = false
