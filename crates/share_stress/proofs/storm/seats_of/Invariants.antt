use Rattle.std.proofs.Common.{◌≡◌, ◌+◌, length, All}
use Rattle.share_stress.proofs.storm.seats_of.Given as goal

abbrev pub decreases-loop-worker : goal.decreases-loop-worker
decreases-loop-worker l = length l.workers.items

abbrev pub invariant-loop-worker : goal.invariant-loop-worker
invariant-loop-worker l = All (λ worker. worker.seat.table ≡ l.fn.shared.table) l.workers.items × All (λ seat. seat.table ≡ l.fn.shared.table) l.seats.items
    × (length l.seats.items + length l.workers.items ≡ length l.fn.workers.items)
