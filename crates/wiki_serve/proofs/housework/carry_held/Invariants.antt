use Rattle.std.specs.Vec.Iter.{into_iter_items, into_iter_len}
use Rattle.std.proofs.Common.{◌≡◌, length}
use Rattle.slot_cache.specs.AsModel.{map_of}
use Rattle.wiki_serve.proofs.Holding.{IsCarrying}
use Rattle.wiki_serve.proofs.housework.carry_held.Given as goal

abbrev pub invariant-loop-message : goal.invariant-loop-message
invariant-loop-message g l =
    (goal.iterator-loop-message g).can_next l.message-iterator
    × (goal.iterator-loop-message g).is_finite l.message-iterator
    × (into_iter_len l.message-iterator ≡ length (into_iter_items l.message-iterator))
    × IsCarrying g.K.Keeper.content g.K.Keeper.faults map_of l.fn.farm l.farm l.at l.fn.messages.items (into_iter_items l.message-iterator)
