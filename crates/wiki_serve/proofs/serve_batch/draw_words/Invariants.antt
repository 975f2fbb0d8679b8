use Rattle.std.specs.Vec.Iter.{into_iter_items, into_iter_len}
use Rattle.std.proofs.Common.{◌≡◌, ◌≤◌, length}
use Rattle.wiki_serve.proofs.Drawing.{IsDrawing}
use Rattle.wiki_serve.proofs.serve_batch.draw_words.Given as goal

abbrev pub invariant-loop-title : goal.invariant-loop-title
invariant-loop-title g l =
    (goal.iterator-loop-title g).can_next l.title-iterator
    × (goal.iterator-loop-title g).is_finite l.title-iterator
    × (into_iter_len l.title-iterator ≡ length (into_iter_items l.title-iterator))
    × (length l.fn.titles.items ≤ l.drawn.cap)
    × IsDrawing (g.L.Lots.exposed l.fn.lots) (g.L.Lots.exposed l.lots) l.fn.titles.items (into_iter_items l.title-iterator) l.drawn.items
