use Rattle.std.proofs.Common.{◌≡◌, ◌+◌, length, All}
use Rattle.share_stress.proofs.storm.workers_of.Given as goal

abbrev pub decreases-loop-seat : goal.decreases-loop-seat
decreases-loop-seat l = length l.seats.items

abbrev pub invariant-loop-seat : goal.invariant-loop-seat
invariant-loop-seat l = All (λ seat. seat.table ≡ l.fn.shared.table) l.seats.items × All (λ worker. worker.seat.table ≡ l.fn.shared.table) l.workers.items
    × (length l.workers.items + length l.seats.items ≡ length l.fn.seats.items)
