-- What contracts see of a keeper over a database: whether the opening was refused, and the count of faults.
-- The history is not exposed.
use Rattle.std.specs.Prelude.{ℕ, ◌≡◌, Option, Some, None, Result, Ok, Err, IfSome}
use Rattle.farm_base.specs.Causes.{counted}
use Rattle.sqlite.specs.declared.error.Error.{Error}
use Rattle.revision_keeper.specs.declared.keeper.KeepFault.{KeepFault}
use Rattle.revision_keeper.specs.declared.keeper.KeepFault.TheVariants.{Fault, Memory}
use Rattle.sqlite_keeper.specs.TableFault.{fault_of, keep_fault}

pub record SqliteKeeperState : Type 0 where
  -- why there is no database, if there is none
  pub refusal : Option Error
  pub faults : ℕ

abbrev pub refusal_of : {T : Type 0} → Result T Error → Option Error
refusal_of (Ok opened) = None
refusal_of (Err error) = Some error

-- If the opening was refused, every call is answered so: out of memory if memory was refused then, and else a fault.
abbrev pub IsRefusedIf : {T : Type 0} → Option Error → Result T KeepFault → Type 0
IsRefusedIf refusal result = IfSome refusal (λ error. result ≡ Err (keep_fault (fault_of error)))

-- The count after an answer: a fault is counted, and nothing else is.
abbrev pub faults_after : {T : Type 0} → Result T KeepFault → (before : ℕ) → ℕ
faults_after (Ok value) before = before
faults_after (Err Fault) before = counted before
faults_after (Err Memory) before = before
