-- How a cache is shared, and what it is when it comes back.
use Rattle.std.specs.Prelude.{ℕ, ◌≡◌, ◌⊎◌, ◌+◌, ◌<◌, ◌≤◌, List, ◌∷◌, All, map, length, slice_get, slice_index, slice_set, [], ◌++◌, Contains, Some}
use mathlib.Core.Option as home
use lib.ListN.{get_elem?}
use Rattle.wiki_model.specs.Titles.{Title}
use Rattle.wiki_model.specs.Cache.{CacheMap, Cached}
use Rattle.wan_value.specs.declared.Value.{Value}
use Rattle.wan_value.specs.AsModel.{value_of}
use Rattle.slot_cache.specs.declared.slot_parts.SlotParts.{SlotParts}
use Rattle.slot_cache.specs.Slots.{slot_of}
use Rattle.slot_cache.specs.SlotRow.{not_before}
use Rattle.slot_cache.specs.SlotCache.{SlotState}
use Rattle.slot_cache.specs.AsModel.{map_of}
use Rattle.slot_share.specs.declared.part.Part.{Part}
use Rattle.slot_share.specs.declared.part.Part.TheVariants.{Main, Interim}
use Rattle.slot_share.specs.declared.view.Handed.{Handed}
use Rattle.slot_share.specs.declared.view.Met.{Met}
use Rattle.slot_share.specs.declared.view.View.{View}
use Rattle.slot_share.specs.Marks.{template_word, message_word, floor_word, greatest, made_at, seen_at}
use Rattle.slot_share.specs.Values.{Truth, Row}
use Rattle.slot_share.specs.Shares.{ShareState, SeatState}
use Rattle.slot_share.specs.Calls.{HasMet}

module _ {P : Type 0} where
  -- the marks of a cache that is taken apart
  abbrev pub marks_in : SlotParts P → List ℕ
  marks_in parts = 0 ∷ parts.template_check ∷ parts.message_check ∷ parts.floors.items

  -- the cache that was shared, as it was
  abbrev pub lent_state : ShareState P → SlotState P
  lent_state share = record {
    slots = share.slots;
    floors = share.start.floors.value.items;
    rows = share.start.rows.value.items;
    template_check = share.start.template_check;
    message_check = share.start.message_check;
    greatest = share.greatest;
    hold_off = share.hold_off;
  }

  abbrev pub place_of : Part → CacheMap P → Title → Cached P → Type 0
  place_of Main cache key cached = cache.main key ≡ Some cached
  place_of Interim cache key cached = cache.interim key ≡ Some cached

  -- each value that the cache shows is true in its place
  abbrev pub AllTrueIn : Truth P → CacheMap P → Type 0
  AllTrueIn is_true cache =
      (p : Part) (key : Title) (cached : Cached P) → place_of p cache key cached → is_true p key cached

  -- all seats of the share come back, and no call was given a later moment
  pub record AreAllSeats (share : ShareState P) (seats : List (SeatState P)) (now : ℕ) : Type 0 where
    pub count : length seats ≡ share.start.seats
    pub mine : All (λ seat. seat.table ≡ share.table) seats
    pub later : All (λ seat. seat.greatest ≤ now) seats

  abbrev pub made_by : (word : ℕ) → SeatState P → ℕ
  made_by word seat = made_at word seat.view.marks

  -- a seat was handed this value for the key
  pub record IsHandedBy (seats : List (SeatState P)) (key : Title) (cached : Cached P) : Type 0 where
    pub seat : SeatState P
    pub one : Contains seats seat
    pub value : Value P
    pub handed : Contains seat.view.handed (record { key = key; value = value })
    pub shows : value_of value ≡ cached

  -- the value was in its place at sharing, or was handed to a put
  abbrev pub IsKnown : ShareState P → List (SeatState P) → Part → Title → Cached P → Type 0
  IsKnown share seats p key cached = place_of p (map_of (lent_state share)) key cached ⊎ IsHandedBy seats key cached

  -- a main value that was not set before this floor
  abbrev pub IsAbove : (floor : ℕ) → Part → Cached P → Type 0
  IsAbove floor Main cached = floor ≤ cached.set_at
  IsAbove floor Interim cached = Unit {0}

  -- What the seats did is in the cache that comes back.
  pub record Closes (is_true : Truth P) (share : ShareState P) (seats : List (SeatState P)) (now : ℕ)
      (new : SlotState P) : Type 0 where
    -- a floor or check is as it began, or the highest that any seat made of it since
    pub floors : (slot : ℕ) → slot < share.slots → slice_index new.floors slot
        ≡ greatest (slice_index share.start.floors.value.items slot) (map (made_by (floor_word slot)) seats)
    pub template : new.template_check ≡ greatest share.start.template_check (map (made_by template_word) seats)
    pub message : new.message_check ≡ greatest share.start.message_check (map (made_by message_word) seats)
    -- and is at least what each seat has seen
    pub seen_floors : (seat : SeatState P) (slot : ℕ) → Contains seats seat → slot < share.slots
        → seen_at (floor_word slot) seat.view.marks ≤ slice_index new.floors slot
    pub seen_template : (seat : SeatState P) → Contains seats seat
        → seen_at template_word seat.view.marks ≤ new.template_check
    pub seen_message : (seat : SeatState P) → Contains seats seat
        → seen_at message_word seat.view.marks ≤ new.message_check
    -- each value is true in its place, and was there at sharing or handed to a put of these seats
    pub values : (p : Part) (key : Title) (cached : Cached P) → place_of p (map_of new) key cached
        → is_true p key cached × IsKnown share seats p key cached
    -- and so is each that a seat met and that counted
    pub met : (seat : SeatState P) (p : Part) (key : Title) (cached : Cached P) → Contains seats seat
        → HasMet seat.view share.slots p key cached
        → IsAbove (slice_index share.start.floors.value.items (slot_of key share.slots)) p cached
        → is_true p key cached × IsKnown share seats p key cached
    pub greatest_is : new.greatest ≡ now
    pub slots_are : new.slots ≡ share.slots
    pub hold_off_is : new.hold_off ≡ share.hold_off

  -- Steps of closing

  -- what a seat knows that has taken these in
  pub record Gathers (seats : List (SeatState P)) (view : View P) : Type 0 where
    pub made : (word : ℕ) → made_at word view.marks ≡ greatest 0 (map (made_by word) seats)
    pub seen : (seat : SeatState P) (word : ℕ) → Contains seats seat
        → seen_at word seat.view.marks ≤ seen_at word view.marks
    pub handed : (kept : Handed P) → Contains view.handed kept
        → (seat : SeatState P) × Contains seats seat × Contains seat.view.handed kept
    pub met : (seat : SeatState P) (met : Met P) → Contains seats seat → Contains seat.view.met met
        → Contains view.met met

  -- a row whose floor is this: a main value from before it may be gone
  abbrev pub IsLowered : (floor : ℕ) → (old new : Row P) → Type 0
  IsLowered floor old new =
      (new.value ≡ old.value) ⊎ (new.value ≡ record old.value { main = not_before floor old.value.main })

  -- all but floors and rows
  pub record SameNumbers (old new : SlotParts P) : Type 0 where
    pub slots : new.slots ≡ old.slots
    pub template : new.template_check ≡ old.template_check
    pub message : new.message_check ≡ old.message_check
    pub greatest : new.greatest ≡ old.greatest
    pub hold_off : new.hold_off ≡ old.hold_off

  -- the floors and rows of this many slots are those of the table
  pub record IsTakenBack (count : ℕ) (words : List ℕ) (lent : List (Row P)) (old new : SlotParts P) : Type 0 where
    pub same : SameNumbers old new
    pub floors_long : length new.floors.items ≡ length old.floors.items
    pub rows_long : length new.rows.items ≡ count
    pub floors : (slot : ℕ) → slot < count → get_elem? words (slot + 3) ≡ home.some (slice_index new.floors.items slot)
    pub rows : (slot : ℕ) (row : Row P) → slice_get new.rows.items slot ≡ Some row
        → (was : Row P) × (get_elem? lent slot ≡ home.some was) × IsLowered (slice_index new.floors.items slot) was row

  -- the floor and the row of one slot more
  pub record TakesRow (words : List ℕ) (lent : List (Row P)) (slot : ℕ) (old new : SlotParts P) : Type 0 where
    pub floor : ℕ
    pub was : Row P
    pub row : Row P
    pub word : get_elem? words (slot + 3) ≡ home.some floor
    pub there : get_elem? lent slot ≡ home.some was
    pub lowered : IsLowered floor was row
    pub floors : new.floors.items ≡ slice_set old.floors.items slot floor
    pub rows : new.rows.items ≡ old.rows.items ++ row ∷ []
    pub same : SameNumbers old new
