-- The values of a shared cache: each is true in its place, and was there at sharing or handed to a put.
use Rattle.std.specs.Prelude.{ℕ, ◌≡◌, ◌⊎◌, ◌≤◌, List, map, length, slice_get, slice_index, Contains, Some}
use Rattle.std.specs.Global.{Box}
use mathlib.Core.Option as home
use lib.ListN.{get_elem?}
use Rattle.wiki_model.specs.Titles.{Title}
use Rattle.wiki_model.specs.Cache.{Cached}
use Rattle.wan_value.specs.AsModel.{value_of}
use Rattle.slot_cache.specs.declared.slot_row.SlotRow.{SlotRow}
use Rattle.slot_cache.specs.Slots.{slot_of}
use Rattle.slot_share.specs.declared.part.Part.{Part}
use Rattle.slot_share.specs.declared.part.Part.TheVariants.{Main, Interim}
use Rattle.slot_share.specs.declared.view.Handed.{Handed}
use Rattle.slot_share.specs.declared.view.Met.{Met}
use Rattle.slot_share.specs.declared.view.Start.{Start}

-- which values are true for a key, in a place
abbrev pub Truth : Type 0 → Type 1
Truth P = Part → Title → Cached P → Type 0

abbrev pub Row : Type 0 → Type 0
Row P = Box (SlotRow P)

-- what a seat found in slots, and what it handed in
abbrev pub Keeping : Type 0 → Type 0
Keeping P = List (Met P) × List (Handed P)

module _ {P : Type 0} where
  -- the value stands in this place, and the row is its key's
  abbrev pub IsIn : Part → Row P → Handed P → Type 0
  IsIn Main row kept = (row.value.key ≡ kept.key) × (row.value.main ≡ Some kept.value)
  IsIn Interim row kept = (row.value.key ≡ kept.key) × (row.value.interim ≡ Some kept.value)

  -- the value counts there: the slot is its key's, and a main value was not set before the floor
  abbrev pub Counts : (slots floor slot : ℕ) → Part → Handed P → Type 0
  Counts slots floor slot Main kept = (slot_of kept.key slots ≡ slot) × (floor ≤ kept.value.set_at)
  Counts slots floor slot Interim kept = slot_of kept.key slots ≡ slot

  abbrev pub holds_true : Truth P → Part → Handed P → Type 0
  holds_true is_true p kept = is_true p kept.key (value_of kept.value)

  -- what counts in this row is true
  abbrev pub AllTrue : Truth P → (slots floor slot : ℕ) → Row P → Type 0
  AllTrue is_true slots floor slot row =
      (p : Part) (kept : Handed P) → IsIn p row kept → Counts slots floor slot p kept → holds_true is_true p kept

  abbrev pub slots_of : Start P → ℕ
  slots_of start = length start.rows.value.items

  abbrev pub start_floor : Start P → (slot : ℕ) → ℕ
  start_floor start slot = slice_index start.floors.value.items slot

  -- the value counted in its place at sharing
  pub record StoodIn (start : Start P) (slot : ℕ) (p : Part) (kept : Handed P) : Type 0 where
    pub row : Row P
    pub there : slice_get start.rows.value.items slot ≡ Some row
    pub is_in : IsIn p row kept

  -- a seat was handed the value
  pub record IsHandedIn (lists : List (List (Handed P))) (kept : Handed P) : Type 0 where
    pub id : ℕ
    pub list : List (Handed P)
    pub there : get_elem? lists id ≡ home.some list
    pub one : Contains list kept

  pub record IsGood (is_true : Truth P) (start : Start P) (lists : List (List (Handed P))) (slot : ℕ) (p : Part)
      (kept : Handed P) : Type 0 where
    pub is_true_there : holds_true is_true p kept
    pub known : StoodIn start slot p kept ⊎ IsHandedIn lists kept

  abbrev pub AllGood : Truth P → Start P → List (List (Handed P)) → (slot : ℕ) → Row P → Type 0
  AllGood is_true start lists slot row = (p : Part) (kept : Handed P) → IsIn p row kept
      → Counts (slots_of start) (start_floor start slot) slot p kept → IsGood is_true start lists slot p kept

  abbrev pub lists_of : List (Keeping P) → List (List (Handed P))
  lists_of keepings = map (λ k. k.1) keepings

  -- What holds of all values between any two steps: of those at home, and of those that a seat has met.
  pub record AreValues (is_true : Truth P) (start : Start P) (homes : List (home.Option (Row P)))
      (keepings : List (Keeping P)) : Type 0 where
    pub home_good : (slot : ℕ) (row : Row P) → get_elem? homes slot ≡ home.some (home.some row)
        → AllGood is_true start (lists_of keepings) slot row
    pub met_good : (id : ℕ) (k : Keeping P) (met : Met P) → get_elem? keepings id ≡ home.some k
        → Contains k.0 met → AllGood is_true start (lists_of keepings) met.slot met.row

  -- each value was there, or is true and was handed in
  abbrev pub Renews : Truth P → List (Handed P) → (old new : Row P) → Type 0
  Renews is_true handed old new = (p : Part) (kept : Handed P) → IsIn p new kept
      → IsIn p old kept ⊎ (holds_true is_true p kept × Contains handed kept)
