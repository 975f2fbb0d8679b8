use Rattle.std.proofs.Common.{arith}
use Rattle.load_balancer.proofs.Rows.{share_more, no_row}
use Rattle.load_balancer.proofs.total.Goals as goal

pub loop-row-preserved : goal.loop-row-preserved
loop-row-preserved c =
    let more = share_more c.args.need c.args.rows.now c.loop-row.row-index no_row c.loop-row-test.true in
    record { summed = omega (arith, more, c.share.ensures, c.from-total.ensures); fits = omega (arith, c.share.type_inv, c.from-total.ensures) }
