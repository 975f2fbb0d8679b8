use Rattle.std.proofs.Common.{arith}
use Rattle.std.specs.Vec.Iter.{into_iter_items, into_iter_len}
use Rattle.wiki_serve.proofs.Drawing.{left_length, drawing_more}
use Rattle.wiki_serve.proofs.serve_batch.draw_words.Goals as goal

pub loop-title-preserved : goal.loop-title-preserved
loop-title-preserved g c = (
  tt,
  tt,
  left_length (into_iter_len c.loop-title.title-iterator) (into_iter_len c.next.new.self) (into_iter_items c.loop-title.title-iterator) (into_iter_items c.next.new.self) c.in-Some.title c.loop-title.invariant.2 c.in-Some.ensures.steps,
  (let small = c.loop-title.invariant.3 in let more = c.draw_one.ensures.room in omega (arith, small, more)),
  drawing_more (g.L.Lots.exposed c.args.lots.now) (g.L.Lots.exposed c.loop-title.lots) (g.L.Lots.exposed c.draw_one.new.lots) c.args.titles.items (into_iter_items c.loop-title.title-iterator) (into_iter_items c.next.new.self) c.in-Some.title c.loop-title.drawn.items c.draw_one.new.drawn.items
      c.in-Some.ensures.steps.0 c.loop-title.invariant.4 c.draw_one.ensures.drawn,
)
