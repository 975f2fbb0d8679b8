use Rattle.slot_share.proofs.Opening.{begins_as}
use Rattle.slot_share.proofs.table_steps.open_table.Goals as goal

pub new-requires : goal.new-requires
new-requires g c = begins_as g.M.Marker.is_true c.args.start.now c.args.words.now c.args.rows.items c.requires.words c.requires.rows c.requires.truth
