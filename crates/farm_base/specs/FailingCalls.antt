-- The calls of a form in memory, as contracts see them.
use Rattle.std.specs.Prelude.{ℕ, List}
use Rattle.farm_base.specs.Causes.{counted}

-- the numbers of those that are to fail, counted from 1, and how many were made
pub record Calls : Type 0 where
  pub numbers : List ℕ
  pub made : ℕ

abbrev pub none_made : (numbers : List ℕ) → Calls
none_made numbers = record { numbers = numbers; made = 0 }

-- one more was made
abbrev pub one_more : Calls → Calls
one_more calls = record { numbers = calls.numbers; made = counted calls.made }
