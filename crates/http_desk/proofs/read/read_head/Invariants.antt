use Rattle.std.proofs.Common.{◌≡◌, ◌≤◌, ◌-◌, length}
use Rattle.wiki_model.specs.Limits.{head_max}
use Rattle.http_desk.specs.Incoming.{Grows}
use Rattle.http_desk.proofs.read.read_head.Given as goal

abbrev pub invariant-reads : goal.invariant-reads
invariant-reads g l = record {
  grows : Grows l.fn.kept.items (g.X.Source.left l.fn.conn) l.kept.items (g.X.Source.left l.conn);
  other : g.X.Source.writing_half l.conn ≡ g.X.Source.writing_half l.fn.conn;
  later : g.X.Source.faults l.fn.conn ≤ g.X.Source.faults l.conn;
}

abbrev pub decreases-reads : goal.decreases-reads
decreases-reads g l = head_max - length l.kept.items
