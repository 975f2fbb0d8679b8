use Rattle.std.proofs.Common.{◌≡◌, ◌++◌}
use Rattle.page_render.proofs.sort_pages.in_order.Given as goal

abbrev pub invariant-loop-title : goal.invariant-loop-title
invariant-loop-title l = l.list.items ++ l.title-iterator ≡ l.fn.map.entries
