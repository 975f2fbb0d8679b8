use Rattle.std.proofs.Common.{◌≡◌, replicate}
use Rattle.slot_cache.proofs.slot_cache.open_floors.Given as goal

abbrev pub invariant-loop : goal.invariant-loop
invariant-loop l = l.floors.items ≡ replicate l.counter 0
