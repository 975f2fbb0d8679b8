-- Floors and checks of a shared cache, which are its marks: a word each, which never falls.
use Rattle.std.specs.Prelude.{ℕ, ◌≡◌, ◌+◌, ◌<◌, ◌≤◌, max, List, [], ◌∷◌, map, length, slice_index, slice_set}
use mathlib.Core.Option as home
use lib.ListN.{get_elem?}
use Rattle.slot_share.specs.declared.view.Marks.{Marks}

-- Word 0 is no mark and stays 0. Then come the check of templates, that of messages, and a floor for each slot.
abbrev pub template_word : ℕ
template_word = 1

abbrev pub message_word : ℕ
message_word = 2

abbrev pub floor_word : (slot : ℕ) → ℕ
floor_word slot = slot + 3

-- the greatest of these
abbrev pub greatest : ℕ → List ℕ → ℕ
greatest first [] = first
greatest first (x ∷ xs) = max x (greatest first xs)

abbrev pub seen_at : (word : ℕ) → Marks → ℕ
seen_at word marks = slice_index marks.seen word

abbrev pub made_at : (word : ℕ) → Marks → ℕ
made_at word marks = slice_index marks.made word

-- What holds of the words of marks between any two steps.
pub record AreMarked (start words : List ℕ) (marks : List Marks) : Type 0 where
  pub first : slice_index words 0 ≡ 0
  -- a mark is as it began, or the highest that any seat made of it since
  pub greatest_is : (word : ℕ) → word < length start
      → slice_index words word ≡ greatest (slice_index start word) (map (made_at word) marks)
  -- no seat has seen more
  pub seen : (id word : ℕ) (m : Marks) → get_elem? marks id ≡ home.some m → word < length start
      → seen_at word m ≤ slice_index words word
  -- and each has seen what stood at sharing
  pub least : (id word : ℕ) (m : Marks) → get_elem? marks id ≡ home.some m → length m.seen ≡ length start
      → word < length start → slice_index start word ≤ seen_at word m

-- a mark was raised
abbrev pub raised : Marks → (word found to : ℕ) → Marks
raised m word found to =
    record { seen = slice_set m.seen word (max found to); made = slice_set m.made word (max (made_at word m) to) }

-- a mark was loaded
abbrev pub loaded : Marks → (word found : ℕ) → Marks
loaded m word found = record { seen = slice_set m.seen word found; made = m.made }

-- the greater at each place
abbrev pub higher : List ℕ → List ℕ → List ℕ
higher [] ys = ys
higher (x ∷ xs) [] = x ∷ xs
higher (x ∷ xs) (y ∷ ys) = max x y ∷ higher xs ys
