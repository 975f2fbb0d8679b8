-- A sink in memory, as contracts see it.
use Rattle.std.specs.Prelude.{ℕ, List}
use Rattle.farm_base.specs.FailingCalls.{Calls}

-- the bytes that were written, its calls, and how many of them failed
pub record Writer : Type 0 where
  pub written : List ℕ
  pub calls : Calls
  pub faults : ℕ
