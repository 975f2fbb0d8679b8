use Rattle.load_balancer.specs.AsModel.{row_of, rows_of}
use Rattle.load_balancer.proofs.Rows.{IsBestOf}
use Rattle.load_balancer.proofs.most_applied.Given as goal

abbrev pub invariant-loop-i : goal.invariant-loop-i
invariant-loop-i l = IsBestOf (rows_of l.rows) l.i l.best.0 (row_of l.best.1)
