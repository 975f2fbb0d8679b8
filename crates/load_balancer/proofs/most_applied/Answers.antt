use Rattle.std.proofs.Common.{ℕ, ◌+◌, subst, sym}
use Rattle.load_balancer.specs.declared.Row.{Row}
use Rattle.load_balancer.specs.AsModel.{row_of, rows_of}
use Rattle.load_balancer.proofs.Rows.{no_row, IsBestOf, best_stays, best_moves, best_of_all}
use Rattle.load_balancer.proofs.most_applied.Goals as goal
use Rattle.load_balancer.proofs.most_applied.Goals.{then-best-row, else-best-row}

pub loop-i-preserved : goal.loop-i-preserved
loop-i-preserved c =
    let rows = c.args.rows.now in
    let i = c.loop-i.i in
    let Keeps : ℕ × Row → Type 0 = λ best. IsBestOf (rows_of rows) (i + 1) best.0 (row_of best.1) in
    elim c.if-best-row.branch [
      | then-best-row w ↦ subst Keeps (sym w.best-is) (best_moves rows i c.loop-i.best.0 c.loop-i.best.1 no_row c.loop-i-test.true c.loop-i.invariant w.if-best-row.true)
      | else-best-row w ↦ subst Keeps (sym w.best-is) (best_stays rows i c.loop-i.best.0 c.loop-i.best.1 no_row c.loop-i-test.true c.loop-i.invariant w.if-best-row.false)
    ]

pub returns : goal.returns
returns c = best_of_all c.args.rows.now c.loop-i.i c.loop-i.best.0 (row_of c.loop-i.best.1) c.loop-i-test.false c.loop-i.invariant
