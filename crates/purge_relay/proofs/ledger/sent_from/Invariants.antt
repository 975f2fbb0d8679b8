use Rattle.std.proofs.Common.{length, ◌-◌, ◌≤◌}
use Rattle.purge_relay.specs.Ledger.{AreSent}
use Rattle.purge_relay.proofs.ledger.sent_from.Given as goal

abbrev pub invariant-loop-place : goal.invariant-loop-place
invariant-loop-place l = record { within : l.place ≤ length l.rows; before : AreSent l.rows l.place }

abbrev pub decreases-loop-place : goal.decreases-loop-place
decreases-loop-place l = length l.rows - l.place
