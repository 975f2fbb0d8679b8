use Rattle.std.proofs.Common.{rules}
use Rattle.slot_share.proofs.Steps.{releases}
use Rattle.slot_share.proofs.table_steps.release.Goals as goal

pub store-requires : goal.store-requires
store-requires g c = (search rules, search rules, releases g.M.Marker.is_true c.args.table.now.key c.args.table.now.table_id.slots c.args.chair.now.id c.args.chair.now.me.0 c.args.chair.now.me.1 c.args.word c.args.slot c.requires.owes.old c.requires.owes.new c.requires.word.0 c.requires.slots c.requires.owes.holding c.requires.owes.renews)
