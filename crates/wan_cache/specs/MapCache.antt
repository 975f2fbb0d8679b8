-- A cache of bounded size: what it holds, what always holds of that, and what a put or a purge may change of it.
use Rattle.std.specs.Prelude.{ℕ, ◌≡◌, ◌≢◌, ◌⊎◌, ◌+◌, ◌<◌, ◌≤◌, max, if◌then◌else◌, nat_lt, List, length, Option, Some, None}
use Rattle.std.specs.BTreeMap.{BTreeMap, get, is_at}
use Rattle.std.specs.Map.{lookup}
use Rattle.wiki_titles.specs.Order.{bytes_cmp}
use Rattle.wiki_model.specs.Limits.{hold_off_max}
use Rattle.wiki_model.specs.Titles.{Title}
use Rattle.wiki_model.specs.declared.Put.{Put}
use Rattle.wiki_model.specs.declared.Put.TheVariants.{Main, Interim, Held, Busy, Memory}
use Rattle.wiki_model.specs.Cache.{Cached}
use Rattle.wan_cache.specs.declared.cache_row.CacheRow.{CacheRow}
use Rattle.wan_cache.specs.CacheRow.{floor_in, last_use, IsRenewed, StoresAt, RaisesAt, DropsMain}
use Rattle.wan_cache.specs.RecentUses.{UseOrder, key_in, IsInOrder}

pub record MapState (P : Type 0) : Type 0 where
  -- what is kept for each key
  pub rows : List (Title × CacheRow P)
  -- the order in which these keys were last used
  pub uses : UseOrder
  -- how many keys may be kept
  pub capacity : ℕ
  -- no key's floor is below this
  pub base : ℕ
  pub template_check : ℕ
  pub message_check : ℕ
  pub greatest : ℕ
  pub hold_off : ℕ

abbrev pub row_in : {P : Type 0} → List (Title × CacheRow P) → Title → Option (CacheRow P)
row_in rows key = lookup (is_at (bytes_cmp key)) rows

abbrev pub row_at : {P : Type 0} → BTreeMap Title (CacheRow P) → Title → Option (CacheRow P)
row_at rows key = get bytes_cmp rows key

-- the number of a key's last use
abbrev pub used_in : {P : Type 0} → List (Title × CacheRow P) → Title → Option ℕ
used_in rows key = last_use (row_in rows key)

abbrev pub used_at : {P : Type 0} → BTreeMap Title (CacheRow P) → Title → Option ℕ
used_at rows key = last_use (row_at rows key)

-- the key's use is the oldest
pub record IsOldest (uses : Title → Option ℕ) (key : Title) : Type 0 where
  pub number : ℕ
  pub there : uses key ≡ Some number
  pub least : (q : Title) (other : ℕ) → uses q ≡ Some other → number ≤ other

-- A use of a key that is not kept, if there is no room, lets the key go whose use is oldest; no other key goes.
pub record MakesRoom (uses new_uses : Title → Option ℕ) (key : Title) (count capacity : ℕ) : Type 0 where
  pub goes :
      (q : Title) → q ≢ key → uses q ≢ new_uses q → (uses key ≡ None) × (capacity ≤ count) × IsOldest uses q
      × (new_uses q ≡ None)
  pub leaves : (q : Title) → uses key ≡ None → capacity ≤ count → IsOldest uses q → new_uses q ≡ None

-- the floor under all keys, after a key with this floor was let go
abbrev pub raised : (base now gone : ℕ) → ℕ
raised base now gone = if nat_lt now gone then max base gone else base

-- What always holds of the rows and the order of their last use.
pub record IsTable {P : Type 0} (rows : List (Title × CacheRow P)) (keys : List (ℕ × Title))
    (capacity : ℕ) : Type 0 where
  -- (1) each kept key has the number of its last use, and each such number its key
  pub in_order : IsInOrder (used_in rows) (key_in keys)
  -- (2) no more keys are kept than may be
  pub fits : length rows ≤ capacity
  -- (3) a key may be kept
  pub room : 0 < capacity

module _ {P : Type 0} where
  -- What always holds of a cache.
  pub record IsKept (state : MapState P) : Type 0 where
    -- (1) to (3) of the rows and their order
    pub table : IsTable state.rows state.uses.keys state.capacity
    -- (4) no floor is further ahead of the greatest moment than a hold-off
    pub bounded : (key : Title) → floor_in (row_in state.rows key) ≤ state.greatest + state.hold_off
    -- (5) a hold-off is at most three minutes
    pub short : state.hold_off ≤ hold_off_max

  -- A use of a key that is not kept lets this key go: the cache is full, and no use is older.
  pub record Evicts (old new : MapState P) (key gone : Title) : Type 0 where
    pub other : gone ≢ key
    pub absent : used_in old.rows key ≡ None
    pub full : old.capacity ≤ length old.rows
    pub oldest : IsOldest (used_in old.rows) gone
    pub went : row_in new.rows gone ≡ None

  -- This key went before its floor, which is now under all keys.
  pub record LeavesFloor (old new : MapState P) (key gone : Title) (now : ℕ) : Type 0 where
    pub evicts : Evicts old new key gone
    pub to_come : now < floor_in (row_in old.rows gone)
    pub raise : new.base ≡ max old.base (floor_in (row_in old.rows gone))

  -- Other keys stay exactly, but for eviction of the oldest use.
  pub record KeepsOthers (old new : MapState P) (key : Title) (now : ℕ) : Type 0 where
    -- (1) another key keeps its floor, its values and its use, unless it is evicted
    pub rows : (q : Title) → q ≢ key → (row_in new.rows q ≡ row_in old.rows q) ⊎ Evicts old new key q
    -- (2) the floor under all keys stays, unless a key is evicted whose floor is still to come
    pub base : (new.base ≡ old.base) ⊎ ((gone : Title) × LeavesFloor old new key gone now)
    -- (3) no more keys may be kept than before
    pub capacity : new.capacity ≡ old.capacity

  -- The key has the newest use, and if it is new in a full cache, the key of the oldest use has gone.
  pub record Renews (old new : MapState P) (key : Title) : Type 0 where
    pub newest : used_in new.rows key ≡ Some old.uses.next
    pub room : MakesRoom (used_in old.rows) (used_in new.rows) key (length old.rows) old.capacity

  -- A purge of the key: its floor is at least this, and other keys stay but for eviction.
  pub record HoldsKey (old new : MapState P) (key : Title) (now until : ℕ) : Type 0 where
    pub floor : floor_in (row_in new.rows key) ≡ max (floor_in (row_in old.rows key)) until
    pub others : KeepsOthers old new key now
    pub renews : Renews old new key

  -- A purge that found no memory: the floor under all keys is at least this, and each other key stays.
  pub record HoldsAll (old new : MapState P) (key : Title) (until : ℕ) : Type 0 where
    pub base : new.base ≡ max old.base until
    pub rows : (q : Title) → q ≢ key → row_in new.rows q ≡ row_in old.rows q
    pub floor : floor_in (row_in new.rows key) ≡ floor_in (row_in old.rows key)
    pub capacity : new.capacity ≡ old.capacity

  abbrev pub HoldsKeyOrAll : (old new : MapState P) → Title → (now until : ℕ) → Type 0
  HoldsKeyOrAll old new key now until = HoldsKey old new key now until ⊎ HoldsAll old new key until

  -- A touch: nothing that is kept for a key changes.
  pub record KeepsAll (old new : MapState P) : Type 0 where
    pub rows : new.rows ≡ old.rows
    pub uses : new.uses ≡ old.uses
    pub capacity : new.capacity ≡ old.capacity
    pub base : new.base ≡ old.base

  -- Steps of a put and of a purge over the rows

  -- the row of another key stays, or is gone with this floor
  abbrev pub StaysOrGoes : (old new : Option (CacheRow P)) → (gone : ℕ) → Type 0
  StaysOrGoes old new gone = (new ≡ old) ⊎ ((new ≡ None) × (floor_in old ≡ gone))

  -- this is the floor of another key, which is gone
  pub record IsFloorOfGone (old new : Title → Option (CacheRow P)) (key : Title) (gone : ℕ) : Type 0 where
    pub from : Title
    pub other : from ≢ key
    pub went : new from ≡ None
    pub floor : gone ≡ floor_in (old from)

  -- The key's row has the newest use; one other row may be gone, whose floor is given, and 0 if none is.
  pub record Claims (old new : Title → Option (CacheRow P)) (key : Title) (next gone : ℕ) : Type 0 where
    pub itself : IsRenewed (old key) (new key) next
    pub others : (q : Title) → q ≢ key → StaysOrGoes (old q) (new q) gone
    pub source : (from : Title) × (gone ≤ floor_in (old from))
    pub whose : (gone ≡ 0) ⊎ IsFloorOfGone old new key gone

  -- a use of the key, at this moment
  pub record Uses (old new : Title → Option (CacheRow P)) (base new_base : ℕ) (key : Title)
      (next now : ℕ) : Type 0 where
    pub gone : ℕ
    pub claims : Claims old new key next gone
    pub raise : new_base ≡ raised base now gone

  -- a put of the value into the key's row, which has got the newest use
  pub record Stored (old new : Title → Option (CacheRow P)) (base new_base : ℕ) (key : Title) (next check : ℕ)
      (value : Cached P) (answer : Put) : Type 0 where
    pub middle : Title → Option (CacheRow P)
    pub used : Uses old middle base new_base key next value.set_at
    pub others : (q : Title) → q ≢ key → new q ≡ middle q
    pub itself : StoresAt (middle key) (new key) new_base check value answer

  -- a purge of the key's row, which has got the newest use
  pub record Purged (old new : Title → Option (CacheRow P)) (base new_base : ℕ) (key : Title)
      (next now until : ℕ) : Type 0 where
    pub middle : Title → Option (CacheRow P)
    pub used : Uses old middle base new_base key next now
    pub others : (q : Title) → q ≢ key → new q ≡ middle q
    pub itself : RaisesAt (middle key) (new key) until

  -- a purge of all keys
  pub record PurgedAll (old new : Title → Option (CacheRow P)) (base new_base : ℕ) (key : Title)
      (until : ℕ) : Type 0 where
    pub raise : new_base ≡ max base until
    pub others : (q : Title) → q ≢ key → new q ≡ old q
    pub itself : DropsMain (old key) (new key)

  -- all rows and the floor under all keys stay
  abbrev pub SameRows : (old new : Title → Option (CacheRow P)) (base new_base : ℕ) → Type 0
  SameRows old new base new_base = ((q : Title) → new q ≡ old q) × (new_base ≡ base)

  -- what a put did: if memory was refused, nothing
  abbrev pub PutDoes :
      (old new : Title → Option (CacheRow P)) (base new_base : ℕ) (key : Title) (next check : ℕ) → Cached P → Put
      → Type 0
  PutDoes old new base new_base key next check value Memory = SameRows old new base new_base
  PutDoes old new base new_base key next check value Main = Stored old new base new_base key next check value Main
  PutDoes old new base new_base key next check value Interim = Stored old new base new_base key next check value Interim
  PutDoes old new base new_base key next check value (Held until) =
      Stored old new base new_base key next check value (Held until)
  PutDoes old new base new_base key next check value (Busy holder) = ⊥

  -- what a purge did
  abbrev pub PurgeDoes :
      (old new : Title → Option (CacheRow P)) (base new_base : ℕ) (key : Title) (next now until count capacity : ℕ)
      → Type 0
  PurgeDoes old new base new_base key next now until count capacity =
      (Purged old new base new_base key next now until
      × MakesRoom (λ q. last_use (old q)) (λ q. last_use (new q)) key count capacity)
      ⊎ PurgedAll old new base new_base key until
