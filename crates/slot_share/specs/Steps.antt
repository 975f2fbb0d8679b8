-- What each kind of step tells the seat that makes it.
use Rattle.std.specs.Prelude.{ℕ, ◌≡◌, ◌≢◌, ◌+◌, ◌-◌, ◌≤◌, List, [], ◌∷◌, length, Option, Some, None}
use Rattle.std.specs.List.{cons_option}
use Rattle.atomic_table.specs.Table.{Me, Step}
use Rattle.slot_share.specs.declared.view.Marks.{Marks}
use Rattle.slot_share.specs.declared.view.Handed.{Handed}
use Rattle.slot_share.specs.declared.view.Met.{Met}
use Rattle.slot_share.specs.declared.view.View.{View}
use Rattle.slot_share.specs.Marks.{seen_at, floor_word, raised, loaded}
use Rattle.slot_share.specs.Values.{Truth, Row, AllTrue, Renews}

-- how many slots there are, by the marks of a seat
abbrev pub slots_by : Marks → ℕ
slots_by marks = length marks.seen - 3

module _ {P : Type 0} where
  -- a mark is raised
  abbrev pub Raises : Step (Row P) → Me (Row P) (View P) → ℕ → Me (Row P) (View P) → Type 0
  Raises step me found after =
      (after ≡ (record me.0 { marks = raised me.0.marks step.word found step.first }, me.1))
      × (seen_at step.word me.0.marks ≤ found)

  -- a mark is loaded
  abbrev pub Loads : Step (Row P) → Me (Row P) (View P) → ℕ → Me (Row P) (View P) → Type 0
  Loads step me found after =
      (after ≡ (record me.0 { marks = loaded me.0.marks step.word found }, me.1))
      × (seen_at step.word me.0.marks ≤ found)

  -- a mark is loaded by a put, and what the put was handed is noted
  abbrev pub noted : View P → (word found : ℕ) → Option (Handed P) → View P
  noted v word found what = record v { marks = loaded v.marks word found; handed = cons_option what v.handed }

  abbrev pub Notes : Option (Handed P) → Step (Row P) → Me (Row P) (View P) → ℕ → Me (Row P) (View P) → Type 0
  Notes what step me found after =
      (after ≡ (noted me.0 step.word found what, me.1)) × (seen_at step.word me.0.marks ≤ found)

  -- a claim is tried once

  abbrev pub tried : View P → (slot found : ℕ) → View P
  tried v slot found = record v { claims = v.claims + 1; last_slot = slot; last_found = found }

  abbrev pub met_row : View P → (slot : ℕ) → Row P → View P
  met_row v slot row = record v {
    claims = v.claims + 1;
    last_slot = slot;
    last_found = 0;
    met = (record { slot = slot; row = row }) ∷ v.met;
  }

  abbrev pub took : View P → (slot : ℕ) → Row P → View P
  took v slot row = record (met_row v slot row) { holds = Some slot }

  -- what counts in this row, by the floor that the seat has seen, is true
  abbrev pub TrueBy : Truth P → Marks → (slot : ℕ) → Row P → Type 0
  TrueBy is_true marks slot row = AllTrue is_true (slots_by marks) (seen_at (floor_word slot) marks) slot row

  -- it found another seat's number, or the row is the seat's
  pub record Tries (is_true : Truth P) (step : Step (Row P)) (me : Me (Row P) (View P)) (found : ℕ)
      (after : Me (Row P) (View P)) : Type 0 where
    pub slot : ℕ
    pub word_is : step.word ≡ length me.0.marks.seen + slot
    pub busy : found ≢ 0
        → (after ≡ (tried me.0 slot found, me.1)) × (found ≢ me.0.rank.number) × (found ≤ me.0.rank.seats)
    pub free : found ≡ 0
        → (row : Row P) × (after ≡ (took me.0 slot row, (slot, row) ∷ me.1)) × TrueBy is_true me.0.marks slot row

  -- a claim is given back

  abbrev pub released : View P → View P
  released v = record v { holds = None }

  -- the seat holds this slot, in which it met `old`, and has `new` for it
  pub record IsHolding (me : Me (Row P) (View P)) (slot : ℕ) (old new : Row P) : Type 0 where
    pub holds : me.0.holds ≡ Some slot
    pub before : List (Met P)
    pub met : me.0.met ≡ (record { slot = slot; row = old }) ∷ before
    pub carries : me.1 ≡ (slot, new) ∷ []

  -- What a seat owes with the slot: each value in its row was there, or is true and was handed in.
  pub record Owes (is_true : Truth P) (me : Me (Row P) (View P)) (slot : ℕ) : Type 0 where
    pub old : Row P
    pub new : Row P
    pub holding : IsHolding me slot old new
    pub renews : Renews is_true me.0.handed old new

  abbrev pub Releases : Step (Row P) → Me (Row P) (View P) → ℕ → Me (Row P) (View P) → Type 0
  Releases step me found after = after ≡ (released me.0, [])
