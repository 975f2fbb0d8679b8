use Rattle.std.proofs.Common.{[]}
use Rattle.replica_apply.specs.Replica.{page_at}
use Rattle.replica_apply.proofs.Gathering.{text_more}
use Rattle.replica_apply.proofs.gather.next_stage.Goals as goal

pub loop-text-preserved : goal.loop-text-preserved
loop-text-preserved c =
    text_more (page_at c.args.pages.now) (page_at c.args.taken.now) (page_at c.loop-text.taken) (page_at c.read_text.new.taken) [] c.loop-text.unread.items c.read_text.new.unread.items
    c.args.texts.now c.text-item.result c.loop-text.text-index c.loop-text-test.true c.text-item.is c.loop-text.invariant c.in_ok-read_text.ensures
