-- How much of an input is looked at for a head: the first bytes, up to the limit, and of these the empty lines at
-- the start and then the lines up to that of one field more than there may be.
use Rattle.std.specs.Prelude.{ℕ, zero, suc, Bool, true, false, ◌==◌, ◌||◌, ◌≡◌, ◌++◌, ◌-◌, drop, if◌then◌else◌, [], ◌∷◌, length, take, nat_le}
use Rattle.wiki_model.specs.Bytes.{Bytes}

-- a byte of an empty line
abbrev pub is_end : ℕ → Bool
is_end c = (c == 13) || (c == 10)

-- the bytes up to the line feed of this number, counted from 1, and whether there are as many
abbrev pub lines_of : (count : ℕ) → Bytes → Bytes
lines_of zero bytes = []
lines_of (suc n) [] = []
lines_of (suc n) (c ∷ bytes) = c ∷ (if c == 10 then lines_of n bytes else lines_of (suc n) bytes)

abbrev pub has_lines : (count : ℕ) → Bytes → Bool
has_lines zero bytes = true
has_lines (suc n) [] = false
has_lines (suc n) (c ∷ bytes) = if c == 10 then has_lines n bytes else has_lines (suc n) bytes

-- the same after the empty lines at the start
abbrev pub first_lines : (count : ℕ) → Bytes → Bytes
first_lines n [] = []
first_lines n (c ∷ bytes) = if is_end c then c ∷ first_lines n bytes else lines_of n (c ∷ bytes)

abbrev pub has_first_lines : (count : ℕ) → Bytes → Bool
has_first_lines n [] = false
has_first_lines n (c ∷ bytes) = if is_end c then has_first_lines n bytes else has_lines n (c ∷ bytes)

abbrev pub window_of : (limit count : ℕ) → Bytes → Bytes
window_of limit count bytes = first_lines count (take limit bytes)

-- whether more bytes would not be looked at
abbrev pub is_full_of : (limit count : ℕ) → Bytes → Bool
is_full_of limit count bytes = nat_le limit (length bytes) || has_first_lines count (take limit bytes)

-- the line feeds of the bytes, and of those after the empty lines at the start
abbrev pub feeds : Bytes → ℕ
feeds [] = 0
feeds (c ∷ bytes) = if c == 10 then suc (feeds bytes) else feeds bytes

abbrev pub later_feeds : Bytes → ℕ
later_feeds [] = 0
later_feeds (c ∷ bytes) = if is_end c then later_feeds bytes else feeds (c ∷ bytes)

-- i bytes were passed, and `left` lines are still to come
pub record Passed (count left i : ℕ) (bytes : Bytes) : Type 0 where
  pub bytes_are : lines_of count bytes ≡ take i bytes ++ lines_of left (drop i bytes)
  pub full_is : has_lines count bytes ≡ has_lines left (drop i bytes)

abbrev pub left_after : (left c : ℕ) → ℕ
left_after left c = if c == 10 then left - 1 else left
