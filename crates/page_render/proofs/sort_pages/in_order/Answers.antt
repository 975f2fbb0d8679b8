use Rattle.std.proofs.Common.{rules, ◌≡◌}
use Rattle.page_render.proofs.Sorting.{listed_rises, listed_same}
use Rattle.page_render.proofs.sort_pages.in_order.Goals as goal

pub returns-clause-rising : goal.returns-clause-rising
returns-clause-rising c =
    let whole : c.loop-title.list.items ≡ c.args.map.entries = search rules in
    listed_rises c.args.map c.loop-title.list.items c.into_iter-title-iterator.ensures.into_iter_gives.5 whole

pub returns-clause-same : goal.returns-clause-same
returns-clause-same c =
    let whole : c.loop-title.list.items ≡ c.args.map.entries = search rules in
    listed_same c.args.map c.loop-title.list.items whole
