use Rattle.std.proofs.Common.{◌<◌, ◌≤◌, length, arith, rules}
use Rattle.farm_base.proofs.Doors.{gives_first}
use Rattle.farm_base.proofs.memory_connections.MemDoorDoor.next.Goals as goal

pub returns-clause-conns : goal.returns-clause-conns
returns-clause-conns c =
    let d = c.self.inside in
    let some : 0 < d.left = omega (arith, c.if-self-eq0.false) in
    let within : d.left ≤ length d.conns.items = search rules in
    let given = gives_first d.conns.items c.remove-conn.new.self.items c.remove-conn.result d.left d.total d.out c.remove-conn.ensures.value c.remove-conn.ensures.items some c.self.invariant.fewer within in
    rw (← c.self.view_is, c.at_place.ensures) given
