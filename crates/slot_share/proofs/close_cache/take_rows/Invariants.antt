use Rattle.std.proofs.Common.{◌≡◌, ℕ, ◌<◌, ◌≤◌, true, false, slice_index_or}
use Rattle.std.specs.Slots.{slots_items, slots_filled, slots_len}
use Rattle.slot_share.specs.Closing.{IsTakenBack}
use Rattle.slot_share.proofs.close_cache.take_rows.Given as goal

abbrev pub invariant-loop-slot : goal.invariant-loop-slot
invariant-loop-slot g l =
    (l.closed.words ≡ l.initial.closed.words) × (slots_items l.closed.slots ≡ slots_items l.initial.closed.slots) × (slots_len l.closed.slots ≡ slots_len l.initial.closed.slots)
    × ((k : ℕ) → k < l.slot → slice_index_or (slots_filled l.closed.slots) k false ≡ false)
    × ((k : ℕ) → l.slot ≤ k → k < slots_len l.closed.slots → slice_index_or (slots_filled l.closed.slots) k false ≡ true)
    × (l.initial.parts.rows.cap ≤ l.parts.rows.cap)
    × IsTakenBack l.slot (slots_items l.initial.closed.words) (slots_items l.initial.closed.slots) l.initial.parts l.parts
