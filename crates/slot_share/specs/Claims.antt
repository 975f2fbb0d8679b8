-- Claims: each slot has a word that is 0, or the number of the one seat that holds the slot.
use Rattle.std.specs.Prelude.{ℕ, ◌≡◌, ◌+◌, ◌<◌, List, slice_index, Option, Some}
use mathlib.Core.Option as home
use lib.ListN.{get_elem?}
use Rattle.slot_share.specs.declared.view.Rank.{Rank}

-- a seat's rank, and the slot that it holds
abbrev pub Claim : Type 0
Claim = Rank × Option ℕ

-- What holds of the words of claims between any two steps. They come after the marks, of which there are `size`.
pub record AreClaimed {S : Type 0} (size slots : ℕ) (words : List ℕ) (homes : List (home.Option S))
    (claims : List Claim) : Type 0 where
  pub held : (id slot : ℕ) (c : Claim) → get_elem? claims id ≡ home.some c → c.1 ≡ Some slot
      → (slot < slots) × (0 < c.0.number) × (0 < c.0.parts) × (slice_index words (size + slot) ≡ c.0.number)
  pub holder : (slot : ℕ) → slot < slots → 0 < slice_index words (size + slot)
      → (id : ℕ) × (c : Claim) × (get_elem? claims id ≡ home.some c)
      × (c.0.number ≡ slice_index words (size + slot)) × (c.1 ≡ Some slot)
  -- where the word is 0 the row is at home
  pub at_home : (slot : ℕ) → slot < slots → slice_index words (size + slot) ≡ 0
      → (x : S) × (get_elem? homes slot ≡ home.some (home.some x))
