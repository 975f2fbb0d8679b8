-- The numbers of seats. A share begins with one seat that can be cut into all, and ends with one that has taken all in.
use Rattle.std.specs.Prelude.{ℕ, ◌≡◌, ◌+◌, ◌-◌, ◌<◌, ◌≤◌, List, [], ◌∷◌}
use mathlib.Core.Option as home
use lib.ListN.{get_elem?}
use Rattle.slot_share.specs.declared.view.Rank.{Rank}

-- numbers that the seat has, or will give to seats that are cut from it
abbrev pub Owns : Rank → ℕ → Type 0
Owns r k = (0 < r.number) × (r.number ≤ k) × (k < r.number + r.parts)

-- the last of its numbers goes to a new seat
abbrev pub left_rank : Rank → Rank
left_rank r = record { number = r.number; parts = r.parts - 1; seats = r.seats }

abbrev pub right_rank : Rank → Rank
right_rank r = record { number = r.number + (r.parts - 1); parts = 1; seats = r.seats }

-- a seat that took another in has no number any more
abbrev pub both_ranks : Rank → Rank → Rank
both_ranks r q = record { number = 0; parts = r.parts + q.parts; seats = r.seats }

abbrev pub no_rank : Rank
no_rank = record { number = 0; parts = 0; seats = 0 }

abbrev pub parts_of : List Rank → ℕ
parts_of [] = 0
parts_of (r ∷ rs) = r.parts + parts_of rs

-- What holds of all ranks between any two steps.
pub record AreRanked (seats : ℕ) (ranks : List Rank) : Type 0 where
  -- all parts together are the seats
  pub all : parts_of ranks ≡ seats
  pub within : (id : ℕ) (r : Rank) → get_elem? ranks id ≡ home.some r → 0 < r.number
      → (r.number + r.parts ≤ seats + 1) × (r.seats ≡ seats)
  -- no two seats own one number
  pub apart : (i j k : ℕ) (r q : Rank) → get_elem? ranks i ≡ home.some r → get_elem? ranks j ≡ home.some q
      → Owns r k → Owns q k → i ≡ j
