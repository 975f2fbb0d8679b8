use Rattle.std.proofs.Common.{rules, ◌≡◌}
use Rattle.replica_apply.proofs.Lists.{listed}
use Rattle.replica_apply.proofs.gather.in_order.Goals as goal

pub returns : goal.returns
returns c =
    let whole : c.loop-title.list.items ≡ c.args.taken.entries = search rules in
    listed c.args.taken c.loop-title.list.items c.into_iter-title-iterator.ensures.into_iter_gives.5 whole
