use Rattle.std.proofs.Common.{length}
use Rattle.drill_script.specs.ReadScript.{lines_of}
use Rattle.drill_script.specs.ReadSoFar.{IsReadSoFar}
use Rattle.drill_script.proofs.whole_script.read_lines.Given as goal

abbrev pub invariant-loop-line : goal.invariant-loop-line
invariant-loop-line l = IsReadSoFar l.bytes l.rest (lines_of l.lines.items) l.state l.room

abbrev pub decreases-loop-line : goal.decreases-loop-line
decreases-loop-line l = length l.rest
