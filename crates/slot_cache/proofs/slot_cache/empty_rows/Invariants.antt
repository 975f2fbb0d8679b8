use Rattle.std.proofs.Common.{◌≡◌, length}
use Rattle.slot_cache.specs.SlotCache.{AreEmpty}
use Rattle.slot_cache.proofs.slot_cache.empty_rows.Given as goal

abbrev pub invariant-loop : goal.invariant-loop
invariant-loop g l = (length l.rows.items ≡ l.counter) × AreEmpty l.rows.items
