use Rattle.std.proofs.Common.{◌≡◌, ◌++◌}
use Rattle.replica_apply.proofs.gather.in_order.Given as goal

abbrev pub invariant-loop-title : goal.invariant-loop-title
invariant-loop-title l = l.list.items ++ l.title-iterator ≡ l.fn.taken.entries
