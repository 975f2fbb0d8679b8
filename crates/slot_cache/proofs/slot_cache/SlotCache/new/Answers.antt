use Rattle.slot_cache.proofs.Begins.{begins_empty}
use Rattle.slot_cache.proofs.slot_cache.SlotCache.new.Goals as goal

pub returns-clause-empty : goal.returns-clause-empty
returns-clause-empty g c = begins_empty c.args.slots c.args.hold_off c.in_ok-open_floors.field-0.items c.in_ok-empty_rows.field-0.items c.in_ok-open_floors.ensures c.in_ok-empty_rows.ensures.empty
