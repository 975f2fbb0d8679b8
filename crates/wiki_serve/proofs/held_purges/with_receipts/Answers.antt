use Rattle.std.specs.Vec.Iter.{into_iter_items, into_iter_len}
use Rattle.wiki_serve.proofs.Drawing.{left_length}
use Rattle.wiki_serve.proofs.Receiving.{receiving_more}
use Rattle.wiki_serve.proofs.held_purges.with_receipts.Goals as goal

pub loop-message-preserved : goal.loop-message-preserved
loop-message-preserved g c = (
  tt,
  tt,
  left_length (into_iter_len c.loop-message.message-iterator) (into_iter_len c.next.new.self) (into_iter_items c.loop-message.message-iterator) (into_iter_items c.next.new.self) c.in-Some.message c.loop-message.invariant.2 c.in-Some.ensures.steps,
  receiving_more c.args.farm.now.ledger.rows c.args.jobs.items c.args.messages.items (into_iter_items c.loop-message.message-iterator) (into_iter_items c.next.new.self) c.in-Some.message c.loop-message.all.items c.push_receipt.new.jobs.items c.loop-message.all.cap c.push_receipt.new.jobs.cap
      c.in-Some.ensures.steps.0 c.push_receipt.ensures.room c.loop-message.invariant.3 c.push_receipt.ensures.pushed,
)
