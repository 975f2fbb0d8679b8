-- What is kept for one key, and what a use, a put and a purge make of it.
use Rattle.std.specs.Prelude.{ℕ, ◌≡◌, max, Bool, true, false, if◌then◌else◌, nat_lt, Option, Some, None, option_map}
use Rattle.std.specs.BTreeMap.{is_at}
use Rattle.wiki_titles.specs.Order.{bytes_cmp}
use Rattle.wiki_model.specs.Titles.{Title}
use Rattle.wiki_model.specs.declared.Put.{Put}
use Rattle.wiki_model.specs.declared.Put.TheVariants.{Main, Interim, Held, Busy, Memory}
use Rattle.wiki_model.specs.Cache.{Cached, Ask, Found, found, is_held, not_below}
use Rattle.wan_value.specs.AsModel.{value_of}
use Rattle.wan_cache.specs.declared.cache_row.CacheRow.{CacheRow}
use Rattle.wan_cache.specs.declared.find_value.LookTimes.{LookTimes}

module _ {P : Type 0} where
  abbrev pub floor_in : Option (CacheRow P) → ℕ
  floor_in None = 0
  floor_in (Some row) = row.floor

  abbrev pub main_in : Option (CacheRow P) → Option (Cached P)
  main_in None = None
  main_in (Some row) = option_map value_of row.main

  abbrev pub interim_in : Option (CacheRow P) → Option (Cached P)
  interim_in None = None
  interim_in (Some row) = option_map value_of row.interim

  abbrev pub last_use : Option (CacheRow P) → Option ℕ
  last_use None = None
  last_use (Some row) = Some row.used

  abbrev pub IsNewRow : CacheRow P → (used : ℕ) → Type 0
  IsNewRow row used = (row.floor ≡ 0) × (row.main ≡ None) × (row.interim ≡ None) × (row.used ≡ used)

  -- the floor and the last use stay
  abbrev pub SameMarks : (old new : CacheRow P) → Type 0
  SameMarks old new = (new.floor ≡ old.floor) × (new.used ≡ old.used)

  abbrev pub SameMain : (old new : CacheRow P) → Type 0
  SameMain old new = option_map value_of new.main ≡ option_map value_of old.main

  abbrev pub SameInterim : (old new : CacheRow P) → Type 0
  SameInterim old new = option_map value_of new.interim ≡ option_map value_of old.interim

  -- a put into one row, by the floor under all keys
  abbrev pub Places : (old new : CacheRow P) → (floor check : ℕ) → Cached P → Put → Type 0
  Places old new floor check value Main =
      (is_held floor check value.set_at ≡ false) × (option_map value_of new.main ≡ Some value) × SameInterim old new
  Places old new floor check value Interim =
      (is_held floor check value.set_at ≡ true) × (value.lagged ≡ false)
      × (option_map value_of new.interim ≡ Some value) × SameMain old new
  Places old new floor check value (Held until) =
      (is_held floor check value.set_at ≡ true) × (value.lagged ≡ true)
      × (until ≡ (if nat_lt value.set_at floor then floor else check))
      × SameInterim old new × SameMain old new
  Places old new floor check value (Busy holder) = ⊥
  Places old new floor check value Memory = ⊥

  abbrev pub Stores : (old new : CacheRow P) → (base check : ℕ) → Cached P → Put → Type 0
  Stores old new base check value answer = SameMarks old new × Places old new (max base old.floor) check value answer

  -- the row stays but for its use; if there was none it is empty
  abbrev pub IsRenewed : (old new : Option (CacheRow P)) → (next : ℕ) → Type 0
  IsRenewed old None next = ⊥
  IsRenewed None (Some new) next = IsNewRow new next
  IsRenewed (Some old) (Some new) next =
      (new.floor ≡ old.floor) × (new.used ≡ next) × SameMain old new × SameInterim old new

  -- what a look finds in a row, by the floor under all keys
  abbrev pub found_in : LookTimes → Ask → Option (CacheRow P) → Found P
  found_in times ask row =
      let floor = max times.floor (floor_in row) in
      found times.hold_off floor times.check times.at ask (not_below floor (main_in row)) (interim_in row)

  -- a put into the row of a key
  abbrev pub StoresAt : (old new : Option (CacheRow P)) → (base check : ℕ) → Cached P → Put → Type 0
  StoresAt (Some old) (Some new) base check value answer = Stores old new base check value answer
  StoresAt old new base check value answer = ⊥

  -- a purge of a row
  abbrev pub Raises : (old new : CacheRow P) → (until : ℕ) → Type 0
  Raises old new until =
      (new.floor ≡ max old.floor until) × (new.main ≡ None) × SameInterim old new × (new.used ≡ old.used)

  abbrev pub RaisesAt : (old new : Option (CacheRow P)) → (until : ℕ) → Type 0
  RaisesAt (Some old) (Some new) until = Raises old new until
  RaisesAt old new until = ⊥

  -- the main value is gone, and nothing else
  abbrev pub DropsMain : (old new : Option (CacheRow P)) → Type 0
  DropsMain None None = Unit {0}
  DropsMain (Some old) (Some new) =
      (new.floor ≡ old.floor) × (new.main ≡ None) × SameInterim old new × (new.used ≡ old.used)
  DropsMain old new = ⊥

-- whether it is this key
abbrev pub is_key : Option Title → Title → Bool
is_key None key = false
is_key (Some other) key = is_at (bytes_cmp other) key

-- the floor of this key, and 0 if there is none
abbrev pub floor_under : {P : Type 0} → (Title → Option (CacheRow P)) → Option Title → ℕ
floor_under rows None = 0
floor_under rows (Some key) = floor_in (rows key)

-- this key goes, and no other
abbrev pub Goes : {P : Type 0} → (old new : Title → Option (CacheRow P)) → (gone : Option Title) → Type 0
Goes old new gone = (q : Title) → new q ≡ (if is_key gone q then None else old q)
