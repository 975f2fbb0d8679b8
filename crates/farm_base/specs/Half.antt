-- One direction of a connection, as the other one shows it: a stream that reads and writes is two halves, and a call
-- of one half leaves the other as it was.
use Rattle.std.specs.Prelude.{ℕ, List, [], Option, None}

-- the bytes that the half exposes, its count of faults, and who is at the other end
pub record Half : Type 0 where
  pub bytes : Option (List ℕ)
  pub faults : ℕ
  pub peer : List ℕ

-- that of a stream which is nothing else
abbrev pub no_half : Half
no_half = record { bytes = None; faults = 0; peer = [] }
