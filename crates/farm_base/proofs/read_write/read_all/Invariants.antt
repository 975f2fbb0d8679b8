use Rattle.std.proofs.Common.{◌≡◌, ◌≤◌, ◌-◌, ◌+◌, length}
use Rattle.std.specs.Io.KnownBytes.{Consumes}
use Rattle.farm_base.proofs.read_write.read_all.Given as goal

abbrev pub invariant-loop-buf : goal.invariant-loop-buf
invariant-loop-buf g l = record {
  within : length l.bytes.items ≤ l.limit + 1;
  room : length l.buf ≡ 4096;
  taken : Consumes (g.I.Source.left l.fn.source) (g.I.Source.left l.source) l.bytes.items;
  later : g.I.Source.faults l.fn.source ≤ g.I.Source.faults l.source;
  other : g.I.Source.writing_half l.source ≡ g.I.Source.writing_half l.fn.source;
}

abbrev pub decreases-loop-buf : goal.decreases-loop-buf
decreases-loop-buf g l = l.limit + 1 - length l.bytes.items
