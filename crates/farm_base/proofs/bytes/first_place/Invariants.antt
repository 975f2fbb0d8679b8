use Rattle.std.proofs.Common.{◌≡◌, ◌+◌, drop}
use Rattle.farm_base.specs.Bytes.{first_place}
use Rattle.farm_base.proofs.bytes.first_place.Given as goal

abbrev pub invariant-loop-i : goal.invariant-loop-i
invariant-loop-i l = first_place l.byte l.bytes ≡ l.i + first_place l.byte (drop l.i l.bytes)
