use Rattle.std.proofs.Common.{rules}
use Rattle.slot_share.proofs.Splitting.{splits}
use Rattle.slot_share.proofs.table_steps.split.Goals as goal

pub split_seat-requires : goal.split_seat-requires
split_seat-requires g c = (search rules, search rules, splits g.M.Marker.is_true c.args.table.now.key c.args.chair.now.id c.args.chair.now.me.0 c.requires.two.0 c.requires.two.1 c.requires.free_hands c.requires.seen_long)
