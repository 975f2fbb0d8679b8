use Rattle.std.proofs.Common.{rules}
use Rattle.slot_share.proofs.Joining.{joins}
use Rattle.slot_share.proofs.table_steps.join.Goals as goal

pub join_seat-requires : goal.join_seat-requires
join_seat-requires g c = (search rules, search rules, search rules, search rules, joins g.M.Marker.is_true c.args.table.now.key c.args.chair.now.id c.args.chair.now.me.0 c.args.other.id c.args.other.me.0 c.requires.seen_long c.requires.part c.requires.free_hands.0 c.requires.free_hands.1)
