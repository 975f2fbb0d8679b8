-- The end of a value's life: one that is shown at the very end is expired.
use Rattle.std.specs.Prelude.{ℕ, ◌+◌, if◌then◌else◌, nat_le, Option, Some, None}

-- the end, if it is not after now
abbrev pub ended : (set_at life now : ℕ) → Option ℕ
ended set_at life now = if nat_le (set_at + life) now then Some (set_at + life) else None
