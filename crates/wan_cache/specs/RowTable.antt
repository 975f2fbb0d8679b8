-- What a put, a purge and a use make of the rows of a cache and of the floor under all keys.
use Rattle.std.specs.Prelude.{ℕ}
use Rattle.std.specs.BTreeMap.{btree_map_len}
use Rattle.wiki_model.specs.declared.Put.{Put}
use Rattle.wiki_model.specs.Titles.{Title}
use Rattle.wiki_model.specs.Cache.{Cached}
use Rattle.wan_cache.specs.declared.row_table.RowTable.{RowTable}
use Rattle.wan_cache.specs.MapCache.{row_at, used_at, IsTable, Uses, MakesRoom, PutDoes, PurgeDoes}

module _ {P : Type 0} where
  abbrev pub IsTableOf : RowTable P → Type 0
  IsTableOf table = IsTable table.rows.entries table.uses.keys table.capacity

  abbrev pub MakesRoomIn : (old new : RowTable P) → Title → Type 0
  MakesRoomIn old new key = MakesRoom (used_at old.rows) (used_at new.rows) key (btree_map_len old.rows) old.capacity

  abbrev pub UsesIn : (old new : RowTable P) → Title → (now : ℕ) → Type 0
  UsesIn old new key now = Uses (row_at old.rows) (row_at new.rows) old.base new.base key old.uses.next now

  abbrev pub PutsIn : (old new : RowTable P) → Title → (check : ℕ) → Cached P → Put → Type 0
  PutsIn old new key check value answer =
      PutDoes (row_at old.rows) (row_at new.rows) old.base new.base key old.uses.next check value answer

  abbrev pub PurgesIn : (old new : RowTable P) → Title → (now until : ℕ) → Type 0
  PurgesIn old new key now until =
      PurgeDoes (row_at old.rows) (row_at new.rows) old.base new.base key old.uses.next now until
      (btree_map_len old.rows) old.capacity
