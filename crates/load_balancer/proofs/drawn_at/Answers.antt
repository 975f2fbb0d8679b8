use Rattle.std.proofs.Common.{arith}
use Rattle.load_balancer.proofs.Rows.{share_more, no_row}
use Rattle.load_balancer.proofs.drawn_at.Goals as goal

pub returns-then-drawn-after : goal.returns-then-drawn-after
returns-then-drawn-after c =
    let more = share_more c.args.need c.args.rows.now c.loop-i.i no_row c.loop-i-test.true in
    record { before = omega (arith, c.loop-i.invariant.summed); after = omega (arith, more, c.share.ensures, c.from.ensures) }

pub loop-i-preserved : goal.loop-i-preserved
loop-i-preserved c =
    let more = share_more c.args.need c.args.rows.now c.loop-i.i no_row c.loop-i-test.true in
    record {
      summed = omega (arith, more, c.share.ensures, c.from.ensures);
      fits = omega (arith, c.share.type_inv, c.from.ensures);
      passed = omega arith;
    }
