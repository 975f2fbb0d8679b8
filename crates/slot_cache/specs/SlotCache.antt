-- A cache of fixed slots: what it holds, what always holds of that, and what a put or a purge may change of it.
use Rattle.std.specs.Prelude.{ℕ, ◌≡◌, ◌≢◌, ◌<◌, ◌≤◌, max, List, length, slice_get, slice_index, Option, Some, None, option_map, box_value}
use Rattle.std.specs.Global.{Box}
use Rattle.wiki_model.specs.declared.Put.{Put}
use Rattle.wiki_model.specs.Titles.{Title}
use Rattle.wan_value.specs.declared.Value.{Value}
use Rattle.wiki_model.specs.Limits.{hold_off_max}
use Rattle.slot_cache.specs.declared.slot_parts.SlotParts.{SlotParts}
use Rattle.slot_cache.specs.declared.slot_row.SlotRow.{SlotRow}
use Rattle.slot_cache.specs.Slots.{slot_of}
use Rattle.slot_cache.specs.SlotRow.{Stores}

pub record SlotState (P : Type 0) : Type 0 where
  pub slots : ℕ
  -- by slot: until this moment its keys are held off
  pub floors : List ℕ
  -- by slot: its key and its two places
  pub rows : List (Box (SlotRow P))
  pub template_check : ℕ
  pub message_check : ℕ
  pub greatest : ℕ
  pub hold_off : ℕ

-- what a cache holds, from its parts
abbrev pub state_of : {P : Type 0} → SlotParts P → SlotState P
state_of parts = record {
  slots = parts.slots;
  floors = parts.floors.items;
  rows = parts.rows.items;
  template_check = parts.template_check;
  message_check = parts.message_check;
  greatest = parts.greatest;
  hold_off = parts.hold_off;
}

module _ {P : Type 0} where
  abbrev pub row_in : List (Box (SlotRow P)) → (slot : ℕ) → Option (SlotRow P)
  row_in rows slot = option_map box_value (slice_get rows slot)

  abbrev pub slot_at : SlotState P → Title → ℕ
  slot_at state key = slot_of key state.slots

  abbrev pub floor_at : SlotState P → Title → ℕ
  floor_at state key = slice_index state.floors (slot_at state key)

  abbrev pub row_at : SlotState P → Title → Option (SlotRow P)
  row_at state key = row_in state.rows (slot_at state key)

  -- What always holds of a cache.
  pub record IsKept (state : SlotState P) : Type 0 where
    -- (1) there is a slot
    pub some : 0 < state.slots
    -- (2) each slot has a floor
    pub floors : length state.floors ≡ state.slots
    -- (3) each slot has a row
    pub rows : length state.rows ≡ state.slots
    -- (4) a hold-off is at most three minutes
    pub short : state.hold_off ≤ hold_off_max

  -- no row has a value
  abbrev pub AreEmpty : List (Box (SlotRow P)) → Type 0
  AreEmpty rows = (slot : ℕ) (row : SlotRow P) → row_in rows slot ≡ Some row → (row.main ≡ None) × (row.interim ≡ None)

  -- One slot is as a put with this answer leaves it, and the others stay.
  pub record StoresIn (old new : List (Box (SlotRow P))) (slot : ℕ) (key : Title) (value : Value P)
      (answer : Put) : Type 0 where
    pub before : SlotRow P
    pub after : SlotRow P
    pub there : row_in old slot ≡ Some before
    pub now_there : row_in new slot ≡ Some after
    pub stores : Stores before after key value answer
    pub others : (i : ℕ) → i ≢ slot → row_in new i ≡ row_in old i

  -- The main value of one slot is gone, and the others stay.
  pub record DropsIn (old new : List (Box (SlotRow P))) (slot : ℕ) : Type 0 where
    pub before : SlotRow P
    pub there : row_in old slot ≡ Some before
    pub now_there : row_in new slot ≡ Some (record before { main = None })
    pub others : (i : ℕ) → i ≢ slot → row_in new i ≡ row_in old i

  -- Keys of other slots stay exactly: their floor, and both places.
  pub record KeepsOthers (old new : SlotState P) (key : Title) : Type 0 where
    pub slots : new.slots ≡ old.slots
    pub floors : (q : Title) → slot_at old q ≢ slot_at old key → floor_at new q ≡ floor_at old q
    pub rows : (q : Title) → slot_at old q ≢ slot_at old key → row_at new q ≡ row_at old q

  -- A purge of the key: its slot's floor is at least this, the main value is gone, and the interim value stays.
  pub record HoldsSlot (old new : SlotState P) (key : Title) (until : ℕ) : Type 0 where
    pub floor : floor_at new key ≡ max (floor_at old key) until
    pub drops : DropsIn old.rows new.rows (slot_at old key)

  -- A touch: nothing that is kept for a slot changes.
  pub record KeepsAll (old new : SlotState P) : Type 0 where
    pub slots : new.slots ≡ old.slots
    pub floors : new.floors ≡ old.floors
    pub rows : new.rows ≡ old.rows
