-- When a keeper may answer a fault: only if its count of faults rose in that call.
-- Out of memory is not counted.
use Rattle.std.specs.Prelude.{ℕ, ◌≤◌, Result, IsErrOf}
use Rattle.wiki_model.specs.Steps.{Rose}
use Rattle.revision_keeper.specs.declared.keeper.KeepFault.{KeepFault}
use Rattle.revision_keeper.specs.declared.keeper.KeepFault.TheVariants.{Fault}

pub record HasFault {T : Type 0} (before now : ℕ) (result : Result T KeepFault) : Type 0 where
  pub later : before ≤ now
  pub fault : IsErrOf result Fault → Rose before now
