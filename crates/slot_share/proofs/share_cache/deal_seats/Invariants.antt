use Rattle.std.proofs.Common.{◌≡◌, ◌<◌, ◌≤◌, ◌+◌, [], length, All}
use Rattle.slot_share.specs.Rule.{marks_at, fresh}
use Rattle.slot_share.specs.Shares.{IsDealt}
use Rattle.slot_share.proofs.share_cache.deal_seats.Given as goal

abbrev pub decreases-loop-number : goal.decreases-loop-number
decreases-loop-number g l = l.number

abbrev pub invariant-loop-number : goal.invariant-loop-number
invariant-loop-number g l =
    (0 < l.number) × (length l.seats.items + l.number ≡ l.fn.count) × (l.fn.count ≤ l.seats.cap)
    × (l.chair.table_id ≡ l.fn.table.table_id)
    × (l.chair.me ≡ (fresh (marks_at l.fn.table.key) (record { number = 1; parts = l.number; seats = l.fn.table.key.seats }), []))
    × All (IsDealt l.fn.table.table_id l.fn.table.key l.fn.greatest) l.seats.items
