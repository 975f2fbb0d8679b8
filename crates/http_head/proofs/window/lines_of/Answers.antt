use Rattle.std.proofs.Common.{◌+◌, subst, sym, ◌∙◌, arith}
use Rattle.std.proofs.Math.Seq.{take-length}
use Rattle.http_head.specs.Window.{Passed}
use Rattle.http_head.proofs.Windows.{passed_turn, passed_all}
use Rattle.http_head.proofs.window.lines_of.Goals as goal

pub loop-i-preserved : goal.loop-i-preserved
loop-i-preserved c =
    subst (λ left. Passed c.args.count left (c.loop-i.i + 1) c.args.bytes.now) (sym c.left_after-left.ensures)
    (passed_turn c.args.count c.loop-i.left c.loop-i.i c.args.bytes.now _ (omega (arith, c.loop-i-test.true, c.loop-i.auto)) (omega (arith, c.if-left-eq0.false)) c.loop-i.invariant)

pub returns-clause-bytes : goal.returns-clause-bytes
returns-clause-bytes c = take-length c.args.bytes.now ∙ sym (passed_all c.args.count c.loop-i.left c.loop-i.i c.args.bytes.now (omega (arith, c.loop-i-test.false)) c.loop-i.invariant).0
