use Rattle.std.proofs.Common.{rules}
use Rattle.slot_share.proofs.Steps.{notes}
use Rattle.slot_share.proofs.table_steps.load_noting.Goals as goal

pub load-requires : goal.load-requires
load-requires g c = (search rules, search rules, notes g.M.Marker.is_true c.args.table.now.key c.args.table.now.table_id.slots c.args.chair.now.id c.args.chair.now.me.0 g.B.Handing.what c.args.chair.now.me.1 c.args.word c.requires.part c.requires.mark c.requires.seen_long)
