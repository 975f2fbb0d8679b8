use Rattle.farm_steps.proofs.Rooms.{room_inserted, updated}
use Rattle.farm_steps.proofs.request_map.put.Goals as goal

pub returns-in-Ok-clause-places : goal.returns-in-Ok-clause-places
returns-in-Ok-clause-places c = updated _ _ c.args.id _ c.in-Ok.ensures.updates.1 c.in-Ok.ensures.updates.2 (room_inserted _ _ c.args.id c.args.request c.in-Ok.ensures.entries)
