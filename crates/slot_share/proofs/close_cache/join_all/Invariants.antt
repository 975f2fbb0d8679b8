use Rattle.std.proofs.Common.{length}
use Rattle.slot_share.specs.Rule.{size_of}
use Rattle.slot_share.proofs.Gathering.{IsJoining}
use Rattle.slot_share.proofs.close_cache.join_all.Given as goal

abbrev pub decreases-loop-seat : goal.decreases-loop-seat
decreases-loop-seat g l = length l.seats.items

abbrev pub invariant-loop-seat : goal.invariant-loop-seat
invariant-loop-seat g l = IsJoining l.fn.seats.items l.seats.items (size_of l.fn.table.key) l.fn.table.table_id l.all.table_id l.all.me
