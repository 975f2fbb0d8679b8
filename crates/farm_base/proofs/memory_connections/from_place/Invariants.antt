use Rattle.std.proofs.Common.{◌≡◌, drop}
use Rattle.farm_base.specs.MemDoor.{from_place}
use Rattle.farm_base.proofs.memory_connections.from_place.Given as goal

abbrev pub invariant-loop-conn : goal.invariant-loop-conn
invariant-loop-conn l = from_place l.place l.conns ≡ from_place l.place (drop l.conn-index l.conns)
