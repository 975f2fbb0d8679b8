use Rattle.std.proofs.Common.{ℕ, ◌<◌, ◌≤◌, slice_index_or}
use Rattle.slot_share.specs.Shares.{SeatState}
use Rattle.share_stress.proofs.storm.latest.Given as goal

abbrev pub invariant-loop-seat : goal.invariant-loop-seat
invariant-loop-seat l = (k : ℕ) (d : SeatState ℕ) → k < l.seat-index → (slice_index_or l.seats k d).greatest ≤ l.latest
