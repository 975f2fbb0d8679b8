-- A door in memory, as contracts see it: each connection is given with its place, counted from 0.
use Rattle.std.specs.Prelude.{ℕ, suc, ◌+◌, ◌≤◌, ◌==◌, List, [], ◌∷◌, Option}
use Rattle.std.specs.List.{find}
use Rattle.farm_base.specs.FailingCalls.{Calls}
use Rattle.farm_base.specs.MemConn.{Talker, with_place}
use Rattle.farm_base.specs.Offered.{Offered}

-- its connections, its calls of `next`, how many of them failed, and how many gave none
pub record Doorway : Type 0 where
  pub offered : Offered Talker
  pub calls : Calls
  pub faults : ℕ
  pub nones : ℕ

-- the connections with their places, from the first one's on
abbrev pub numbered : (first : ℕ) → List Talker → List Talker
numbered first [] = []
numbered first (conn ∷ conns) = with_place first conn ∷ numbered (suc first) conns

-- the connection that was given from this place
abbrev pub from_place : (place : ℕ) → List Talker → Option Talker
from_place place conns = find (λ conn. conn.place == place) conns

-- how a door keeps its connections: those that are left, and then those handed back
pub record HasRoom (left kept out total capacity : ℕ) : Type 0 where
  -- 1. those that are left stand first among those kept
  pub first : left ≤ kept
  -- 2. no more are left than there were
  pub fewer : left ≤ total
  -- 3. each is kept or out
  pub each : kept + out ≤ total
  -- 4. so there is room for each that comes back
  pub room : total ≤ capacity

-- none was given yet, and no call was made
abbrev pub unused_door : List Talker → Calls → Doorway
unused_door conns calls = record {
  offered = record { left = numbered 0 conns; out = 0; returned = [] };
  calls = calls;
  faults = 0;
  nones = 0;
}
