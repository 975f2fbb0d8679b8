use Rattle.std.proofs.Common.{◌≡◌, ◌++◌, take, drop}
use Rattle.http_head.specs.Window.{first_lines, has_first_lines}
use Rattle.http_head.proofs.window.first_lines.Given as goal

abbrev pub invariant-loop-i : goal.invariant-loop-i
invariant-loop-i l = record {
  bytes : first_lines l.count l.bytes ≡ take l.i l.bytes ++ first_lines l.count (drop l.i l.bytes);
  full : has_first_lines l.count l.bytes ≡ has_first_lines l.count (drop l.i l.bytes);
}
