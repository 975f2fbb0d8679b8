-- A connection in memory, as contracts see it.
use Rattle.std.specs.Prelude.{ℕ, List, Some}
use Rattle.farm_base.specs.Half.{Half}
use Rattle.farm_base.specs.MemSource.{Reader}
use Rattle.farm_base.specs.MemSink.{Writer}

-- what it reads and what it writes, who is at the other end, how many bytes a call moves at most, and its place in
-- the door that gave it
pub record Talker : Type 0 where
  pub input : Reader
  pub output : Writer
  pub peer : List ℕ
  pub piece : ℕ
  pub place : ℕ

abbrev pub reading_half_of : Talker → Half
reading_half_of conn = record { bytes = Some conn.input.left; faults = conn.input.faults; peer = conn.peer }

abbrev pub writing_half_of : Talker → Half
writing_half_of conn = record { bytes = Some conn.output.written; faults = conn.output.faults; peer = conn.peer }

-- a read changes what it reads alone
abbrev pub with_input : Reader → Talker → Talker
with_input input conn = record conn { input = input }

-- a write changes what it writes alone
abbrev pub with_output : Writer → Talker → Talker
with_output output conn = record conn { output = output }

abbrev pub with_place : ℕ → Talker → Talker
with_place place conn = record conn { place = place }
