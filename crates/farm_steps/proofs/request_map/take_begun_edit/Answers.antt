use Rattle.farm_steps.proofs.Rooms.{room_closed, updated}
use Rattle.farm_steps.proofs.request_map.take_begun_edit.Goals as goal

pub returns-in-Some-EditBegun-remove-clause-closed : goal.returns-in-Some-EditBegun-remove-clause-closed
returns-in-Some-EditBegun-remove-clause-closed c = updated _ _ c.args.id _ c.remove.ensures.updates.1 c.remove.ensures.updates.2 (room_closed _ _ c.args.id c.remove.ensures.entries)
