use Rattle.std.specs.Vec.Iter.{into_iter_items, into_iter_len}
use Rattle.std.proofs.Common.{◌≡◌, length}
use Rattle.wiki_serve.proofs.Receiving.{IsReceiving}
use Rattle.wiki_serve.proofs.held_purges.with_receipts.Given as goal

abbrev pub invariant-loop-message : goal.invariant-loop-message
invariant-loop-message g l =
    (goal.iterator-loop-message g).can_next l.message-iterator
    × (goal.iterator-loop-message g).is_finite l.message-iterator
    × (into_iter_len l.message-iterator ≡ length (into_iter_items l.message-iterator))
    × IsReceiving l.farm.ledger.rows l.fn.jobs.items l.fn.messages.items (into_iter_items l.message-iterator) l.all.items l.all.cap
