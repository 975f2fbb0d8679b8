use Rattle.std.proofs.Common.{rules}
use Rattle.slot_share.proofs.Steps.{raises}
use Rattle.slot_share.proofs.table_steps.raise_mark.Goals as goal

pub fetch_max-requires : goal.fetch_max-requires
fetch_max-requires g c = (search rules, search rules, raises g.M.Marker.is_true c.args.table.now.key c.args.table.now.table_id.slots c.args.chair.now.id c.args.chair.now.me.0 c.args.chair.now.me.1 c.args.word c.args.to c.requires.part c.requires.mark.0 c.requires.mark.1 c.requires.seen_long c.requires.made_long)
