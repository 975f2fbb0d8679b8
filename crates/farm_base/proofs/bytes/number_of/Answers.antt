use Rattle.std.proofs.Common.{arith}
use Rattle.farm_base.proofs.Digits.{digit_at, small_enough}
use Rattle.farm_base.proofs.bytes.number_of.Goals as goal

pub overflow_mul-number : goal.overflow_mul-number
overflow_mul-number c =
    let small = small_enough c.loop-i.number c.loop-i.i c.loop-i.invariant.small (omega (arith, c.loop-i-test.true, c.requires.few)) in
    omega (arith, small)

pub overflow_add-number : goal.overflow_add-number
overflow_add-number c =
    let small = small_enough c.loop-i.number c.loop-i.i c.loop-i.invariant.small (omega (arith, c.loop-i-test.true, c.requires.few)) in
    let digit = digit_at c.args.digits.now c.loop-i.i c.loop-i-test.true c.requires.digits in
    omega (arith, small, digit.1, c.from.ensures)
