-- Which slot a title has, and which titles share one.
use Rattle.std.specs.Prelude.{ℕ, Bool, ◌%◌, ◌==◌, take}
use Rattle.std.specs.Int.{from_be_bytes, w64}
use Rattle.md5.specs.Md5.{md5}
use Rattle.wiki_model.specs.Titles.{Title}

-- the first eight bytes of the title's MD5 digest as a number, high byte first, modulo the number of slots
abbrev pub slot_of : Title → (slots : ℕ) → ℕ
slot_of title slots = from_be_bytes w64 (take 8 (md5 title)) % slots

-- the two titles have one slot
abbrev pub same_slot : (slots : ℕ) → Title → Title → Bool
same_slot slots a b = slot_of a slots == slot_of b slots
