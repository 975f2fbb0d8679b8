use Rattle.http_head.specs.Window.{Passed}
use Rattle.http_head.proofs.window.lines_of.Given as goal

abbrev pub invariant-loop-i : goal.invariant-loop-i
invariant-loop-i l = Passed l.count l.left l.i l.bytes
