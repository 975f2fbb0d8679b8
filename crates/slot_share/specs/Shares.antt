-- A share and its seats between calls, and how they begin.
use Rattle.std.specs.Prelude.{ℕ, ◌≡◌, ◌⊎◌, ◌+◌, ◌<◌, ◌≤◌, List, [], length, slice_get, Some, None, Contains}
use Rattle.atomic_table.specs.Table.{Me}
use Rattle.atomic_table.specs.Seated.{TableId}
use Rattle.wiki_model.specs.Limits.{hold_off_max}
use Rattle.slot_cache.specs.declared.slot_parts.SlotParts.{SlotParts}
use Rattle.slot_share.specs.declared.part.Part.{Part}
use Rattle.slot_share.specs.declared.view.Handed.{Handed}
use Rattle.slot_share.specs.declared.view.View.{View}
use Rattle.slot_share.specs.declared.view.Start.{Start}
use Rattle.slot_share.specs.Values.{Truth, Row, IsIn, Counts, StoodIn, AllTrue, holds_true, slots_of, start_floor}
use Rattle.slot_share.specs.Rule.{marks_at, size_of, fresh}

abbrev pub seats_max : ℕ
seats_max = 8

-- What clauses see of a share.
pub record ShareState (P : Type 0) : Type 0 where
  pub table : TableId
  -- what stood at sharing
  pub start : Start P
  pub slots : ℕ
  pub hold_off : ℕ
  -- the greatest moment that a call on the cache was given before
  pub greatest : ℕ

-- What clauses see of a seat.
pub record SeatState (P : Type 0) : Type 0 where
  -- the table of its share
  pub table : TableId
  pub view : View P
  -- the greatest moment that a call on the cache or with the seat was given
  pub greatest : ℕ

module _ {P : Type 0} where
  -- What always holds of a share:
  -- 1. its table has a word for each mark and a claim for each slot, and a row for each slot;
  -- 2. the marks are the slots' floors and three words more;
  -- 3. it has a slot at least, and one to eight seats;
  -- 4. it holds a slot off no longer than a hold-off may last.
  pub record IsShare (share : ShareState P) : Type 0 where
    pub words_are : share.table.words ≡ size_of share.start + slots_of share.start
    pub rows_are : share.table.slots ≡ slots_of share.start
    pub slots_are : share.slots ≡ slots_of share.start
    pub size_is : size_of share.start ≡ share.slots + 3
    pub some : 0 < share.slots
    pub any : 0 < share.start.seats
    pub seats : share.start.seats ≤ seats_max
    pub short : share.hold_off ≤ hold_off_max

  -- what is left of the cache has its floors, and room for its rows
  pub record HasRoom (rest : SlotParts P) : Type 0 where
    pub floors : length rest.floors.items ≡ rest.slots
    pub rows : rest.rows.items ≡ []
    pub room : rest.slots ≤ rest.rows.cap

  -- What always holds of a seat between two calls:
  -- 1. its number is that of its view, from 1 to how many seats there are;
  -- 2. it is one part, and not to be cut;
  -- 3. it holds no slot, and carries no row;
  -- 4. it knows of each mark what it has seen and made.
  pub record IsSeat (table : TableId) (me : Me (Row P) (View P)) (number : ℕ) : Type 0 where
    pub number_is : number ≡ me.0.rank.number
    pub positive : 0 < number
    pub parts : me.0.rank.parts ≡ 1
    pub within : number ≤ me.0.rank.seats
    pub few : me.0.rank.seats ≤ seats_max
    pub holds : me.0.holds ≡ None
    pub carries : me.1 ≡ []
    pub seen_long : length me.0.marks.seen + table.slots ≡ table.words
    pub made_long : length me.0.marks.made + table.slots ≡ table.words

  -- what counts at sharing is true
  abbrev pub AllTrueAt : Truth P → Start P → Type 0
  AllTrueAt is_true start = (slot : ℕ) (row : Row P) → slice_get start.rows.value.items slot ≡ Some row
      → AllTrue is_true (slots_of start) (start_floor start slot) slot row

  -- a seat that was just dealt: it has seen what stood at sharing
  pub record IsDealt (table : TableId) (start : Start P) (greatest : ℕ) (seat : SeatState P) : Type 0 where
    pub table_is : seat.table ≡ table
    pub view_is : seat.view
        ≡ fresh (marks_at start) (record { number = seat.view.rank.number; parts = 1; seats = start.seats })
    pub positive : 0 < seat.view.rank.number
    pub within : seat.view.rank.number ≤ start.seats
    pub greatest_is : seat.greatest ≡ greatest

  -- what counts in a row is true, and stood there at sharing or was handed in
  abbrev pub IsLeft : Truth P → Start P → (handed : List (Handed P)) → (slot : ℕ) → Row P → Type 0
  IsLeft is_true start handed slot row = (p : Part) (kept : Handed P) → IsIn p row kept
      → Counts (slots_of start) (start_floor start slot) slot p kept
      → holds_true is_true p kept × (StoodIn start slot p kept ⊎ Contains handed kept)
