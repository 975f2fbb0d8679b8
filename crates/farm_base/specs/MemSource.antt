-- A source in memory, as contracts see it.
use Rattle.std.specs.Prelude.{ℕ, List}
use Rattle.farm_base.specs.FailingCalls.{Calls}

-- the bytes that are left, its calls, and how many of them failed
pub record Reader : Type 0 where
  pub left : List ℕ
  pub calls : Calls
  pub faults : ℕ
