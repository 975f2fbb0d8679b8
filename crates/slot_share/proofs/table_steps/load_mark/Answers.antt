use Rattle.std.proofs.Common.{rules}
use Rattle.slot_share.proofs.Steps.{loads}
use Rattle.slot_share.proofs.table_steps.load_mark.Goals as goal

pub load-requires : goal.load-requires
load-requires g c = (search rules, search rules, loads g.M.Marker.is_true c.args.table.now.key c.args.table.now.table_id.slots c.args.chair.now.id c.args.chair.now.me.0 c.args.chair.now.me.1 c.args.word c.requires.mark c.requires.seen_long)
