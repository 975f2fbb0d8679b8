-- What is kept for the key that has a slot, and what a put makes of that.
use Rattle.std.specs.Prelude.{ℕ, ◌≡◌, Bool, if◌then◌else◌, Option, Some, None, nat_lt, bytes_eq}
use Rattle.wiki_model.specs.declared.Put.{Put}
use Rattle.wiki_model.specs.declared.Put.TheVariants.{Main, Interim, Held, Busy, Memory}
use Rattle.wiki_model.specs.Titles.{Title}
use Rattle.wan_value.specs.declared.Value.{Value}
use Rattle.slot_cache.specs.declared.slot_row.SlotRow.{SlotRow}

module _ {P : Type 0} where
  abbrev pub if_same : (same : Bool) → Option (Value P) → Option (Value P)
  if_same same None = None
  if_same same (Some value) = if same then Some value else None

  -- the value, if it was not set before the floor
  abbrev pub not_before : (floor : ℕ) → Option (Value P) → Option (Value P)
  not_before floor None = None
  not_before floor (Some value) = if nat_lt value.set_at floor then None else Some value

  -- the row's values, if it is this key's
  abbrev pub main_of : SlotRow P → Title → Option (Value P)
  main_of row key = if_same (bytes_eq row.key key) row.main

  abbrev pub interim_of : SlotRow P → Title → Option (Value P)
  interim_of row key = if_same (bytes_eq row.key key) row.interim

  abbrev pub main_for : Option (SlotRow P) → Title → Option (Value P)
  main_for None key = None
  main_for (Some row) key = main_of row key

  abbrev pub interim_for : Option (SlotRow P) → Title → Option (Value P)
  interim_for None key = None
  interim_for (Some row) key = interim_of row key

  -- the row is this key's, with what it had for it
  pub record IsGivenTo (old new : SlotRow P) (key : Title) : Type 0 where
    pub owner : new.key ≡ key
    pub main : new.main ≡ main_of old key
    pub interim : new.interim ≡ interim_of old key

  -- a put with this answer: the row is the key's, and the value is in the place that the answer names
  abbrev pub Stores : (old new : SlotRow P) → Title → Value P → Put → Type 0
  Stores old new key value Main = (new.key ≡ key) × (new.main ≡ Some value) × (new.interim ≡ interim_of old key)
  Stores old new key value Interim = (new.key ≡ key) × (new.interim ≡ Some value) × (new.main ≡ main_of old key)
  Stores old new key value (Held until) = new ≡ old
  Stores old new key value (Busy holder) = ⊥
  Stores old new key value Memory = ⊥
