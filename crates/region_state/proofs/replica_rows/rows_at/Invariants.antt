use Rattle.std.proofs.Common.{◌≡◌, ◌++◌, drop, length}
use Rattle.load_balancer.specs.AsModel.{rows_of}
use Rattle.region_state.specs.SnapView.{seen_rows}
use Rattle.region_state.proofs.replica_rows.rows_at.Given as goal

abbrev pub invariant-loop-i : goal.invariant-loop-i
invariant-loop-i l = (length l.rows.items ≡ l.i) × (rows_of l.rows.items ++ seen_rows l.now (drop l.i l.weights) (drop l.i l.replicas) ≡ seen_rows l.now l.weights l.replicas)
