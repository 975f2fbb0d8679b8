-- What a store of positions keeps of one client, and what each call makes of it.
use Rattle.std.specs.Prelude.{ℕ, ◌≡◌, ◌+◌, ◌||◌, is_some, Bool, true, false, if◌then◌else◌, List, [], ◌∷◌, Option, Some, None, option_map, option_and_then, nat_lt, bytes_eq}
use Rattle.wiki_model.specs.Titles.{Client}
use Rattle.wiki_model.specs.Limits.{position_life}
use Rattle.wiki_model.specs.Sessions as model
use Rattle.chronology_store.specs.declared.position_row.HeldPosition.{HeldPosition}
use Rattle.chronology_store.specs.declared.position_row.PositionRow.{PositionRow}
use Rattle.chronology_store.specs.declared.ClientCommit.{ClientCommit}
use Rattle.chronology_store.specs.declared.KnownPosition.{KnownPosition}
use Rattle.chronology_store.specs.declared.RelayAnswer.{RelayAnswer}
use Rattle.chronology_store.specs.declared.RelayAnswer.TheVariants.{Newer, Older}

abbrev pub nothing : PositionRow
nothing = record { reserved = false; held = None }

-- whether an index is told for the first time, or is above the one that is held
abbrev pub is_newer : Option HeldPosition → (index : ℕ) → Bool
is_newer None index = true
is_newer (Some held) index = nat_lt held.index index

-- the held one with the greater index
abbrev pub later : Option HeldPosition → HeldPosition → HeldPosition
later None told = told
later (Some held) told = if nat_lt held.index told.index then told else held

abbrev pub with_told : HeldPosition → PositionRow → PositionRow
with_told told row = record row { held = Some (later row.held told) }

abbrev pub with_reserved : PositionRow → PositionRow
with_reserved row = record row { reserved = true }

abbrev pub unless_past : (now : ℕ) → HeldPosition → Option HeldPosition
unless_past now held = if nat_lt now held.expires then Some held else None

-- the row without a position whose moment has come
abbrev pub swept : (now : ℕ) → PositionRow → PositionRow
swept now row = record row { held = option_and_then (unless_past now) row.held }

abbrev pub known_by : HeldPosition → model.Known
known_by held = record { index = held.index; position = held.position }

-- whether a row says anything: it is reserved, or it holds a position
abbrev pub is_needed : PositionRow → Bool
is_needed row = row.reserved || is_some row.held

abbrev pub row_with : Bool → Option HeldPosition → PositionRow
row_with reserved held = record { reserved = reserved; held = held }

abbrev pub IsNeeded : PositionRow → Type 0
IsNeeded row = is_needed row ≡ true

-- what is known of a client at a moment
abbrev pub found : (now : ℕ) → PositionRow → Option model.Known
found now row = option_map known_by (option_and_then (unless_past now) row.held)

abbrev pub taken : Option HeldPosition → (index : ℕ) → RelayAnswer
taken held index = if is_newer held index then Newer else Older

-- what the answers stand for in the model
abbrev pub shown : KnownPosition → model.Known
shown known = record { index = known.index; position = known.position }

-- a commit that was written is held for the life of a position
abbrev pub held_by : ClientCommit → HeldPosition
held_by written = record { index = written.index; position = written.entry; expires = written.stamp + position_life }

-- the row of a client after each of the commits was told in turn
abbrev pub told_one : Client → ClientCommit → PositionRow → PositionRow
told_one client written row = if bytes_eq written.client client then with_told (held_by written) row else row

abbrev pub told_by : List ClientCommit → Client → PositionRow → PositionRow
told_by [] client row = row
told_by (written ∷ rest) client row = told_by rest client (told_one client written row)
