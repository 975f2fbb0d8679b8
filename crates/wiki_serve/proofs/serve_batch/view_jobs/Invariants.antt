use Rattle.std.specs.Vec.Iter.{into_iter_items, into_iter_len}
use Rattle.std.proofs.Common.{◌≡◌, ◌≤◌, length}
use Rattle.wiki_serve.proofs.Drawing.{IsAdding}
use Rattle.wiki_serve.proofs.serve_batch.view_jobs.Given as goal

abbrev pub invariant-loop-one : goal.invariant-loop-one
invariant-loop-one l =
    goal.iterator-loop-one.can_next l.one-iterator
    × goal.iterator-loop-one.is_finite l.one-iterator
    × (into_iter_len l.one-iterator ≡ length (into_iter_items l.one-iterator))
    × (length l.fn.drawn.items ≤ l.jobs.cap)
    × (l.fn.room.cap ≤ l.jobs.cap)
    × IsAdding l.need l.fn.drawn.items (into_iter_items l.one-iterator) l.jobs.items
