-- Which row a number draws: the shares stand in a line, and the number is a place on it.
use Rattle.std.specs.Prelude.{ℕ, ◌+◌, ◌<◌, ◌≤◌, List, take, sum}

-- the running sum of the shares exceeds the drawn number at this place, and not before
pub record IsDrawn (shares : List ℕ) (drawn place : ℕ) : Type 0 where
  pub before : sum (take place shares) ≤ drawn
  pub after : drawn < sum (take (place + 1) shares)
