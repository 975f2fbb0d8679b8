-- A store of positions as its list of rows, one for each client at most, and how a call changes it.
use Rattle.std.specs.Prelude.{ℕ, ◌≡◌, ◌<◌, Bool, false, List, length, take, Option, unwrap_or, bytes_eq, IsSome, IfSome}
use Rattle.std.specs.Map.{lookup}
use Rattle.wiki_model.specs.Titles.{Client}
use Rattle.wiki_model.specs.Sessions as model
use Rattle.chronology_store.specs.declared.position_row.PositionRow.{PositionRow}
use Rattle.chronology_store.specs.declared.ClientCommit.{ClientCommit}
use Rattle.chronology_store.specs.PositionRow.{nothing, swept, found, with_told, told_by, IsNeeded}

abbrev pub Positions : Type 0
Positions = List (Client × PositionRow)

-- the row of a client, and an empty one if there is none
abbrev pub row_of : Positions → Client → PositionRow
row_of positions client = unwrap_or (lookup (bytes_eq client) positions) nothing

abbrev pub is_reserved : Positions → Client → Bool
is_reserved positions client = (row_of positions client).reserved

-- what the store finds for a client at a moment
abbrev pub find_in : Positions → Client → (now : ℕ) → Option model.Known
find_in positions client now = found now (row_of positions client)

-- each row is reserved or holds a position
abbrev pub AreNeeded : Positions → Type 0
AreNeeded positions = (client : Client) → IfSome (lookup (bytes_eq client) positions) IsNeeded

-- What always holds of a store, beside the order of its rows.
pub record IsStore (positions : Positions) : Type 0 where
  -- (1) no row is kept for nothing
  pub needed : AreNeeded positions

-- the client's row is changed, and the row of each other client stays
pub record Changes (client : Client) (change : PositionRow → PositionRow) (old new : Positions) : Type 0 where
  pub here : row_of new client ≡ change (row_of old client)
  pub others : (other : Client) → bytes_eq client other ≡ false → row_of new other ≡ row_of old other

-- the client is told a position of this index
abbrev pub TellsPosition : Client → (index position expires : ℕ) → (old new : Positions) → Type 0
TellsPosition client index position expires old new =
    Changes client (with_told (record { index = index; position = position; expires = expires })) old new

-- each client's row is swept
pub record Sweeps (now : ℕ) (old new : Positions) : Type 0 where
  pub each : (client : Client) → row_of new client ≡ swept now (row_of old client)

-- the commits were told in turn
pub record TellsAll (rows : List ClientCommit) (old new : Positions) : Type 0 where
  pub each : (client : Client) → row_of new client ≡ told_by rows client (row_of old client)

-- a prefix of the commits was told in turn, and not all
abbrev pub TellsPrefix : List ClientCommit → (old new : Positions) → Type 0
TellsPrefix rows old new = (count : ℕ) × (count < length rows) × TellsAll (take count rows) old new

-- the client has a row, if only an empty one
abbrev pub HasRow : Positions → Client → Type 0
HasRow positions client = IsSome (lookup (bytes_eq client) positions)

abbrev pub IsSetTo : Client → PositionRow → (old new : Positions) → Type 0
IsSetTo client row = Changes client (λ _. row)
