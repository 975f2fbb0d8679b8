use Rattle.std.proofs.Common.{rules}
use Rattle.slot_share.proofs.Steps.{tries}
use Rattle.slot_share.proofs.table_steps.claim.Goals as goal

pub compare_exchange-requires : goal.compare_exchange-requires
compare_exchange-requires g c = (search rules, search rules, tries g.M.Marker.is_true c.args.table.now.key c.args.table.now.table_id.slots c.args.chair.now.id c.args.chair.now.me.0 c.args.chair.now.me.1 c.args.word c.args.slot c.args.number c.requires.word.0 c.requires.word.1 c.requires.long c.requires.seen_long c.requires.mine.0 c.requires.mine.1 c.requires.mine.2 c.requires.free_hands)
