use Rattle.std.proofs.Common.{◌≡◌}
use Rattle.share_stress.proofs.worker.work.Given as goal

abbrev pub invariant-loop : goal.invariant-loop
invariant-loop l = l.worker.seat.table ≡ l.shared.table

abbrev pub invariant-loop-place : goal.invariant-loop-place
invariant-loop-place l = l.worker.seat.table ≡ l.shared.table
