use Rattle.std.proofs.Common.{◌-◌, length}
use Rattle.sticky_routes.proofs.Marks.{Skipped}
use Rattle.sticky_routes.proofs.escapes.cut_meant.Given as goal

abbrev pub invariant-loop-at : goal.invariant-loop-at
invariant-loop-at l = Skipped l.mark l.text l.at

abbrev pub decreases-loop-at : goal.decreases-loop-at
decreases-loop-at l = length l.text - l.at
