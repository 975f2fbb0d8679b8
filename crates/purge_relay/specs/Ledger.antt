-- What a ledger holds: the messages in the order of their numbers from 1, with what became of them, and the room that
-- is reserved.
use Rattle.std.specs.Prelude.{ℕ, zero, suc, ◌≡◌, ◌+◌, ◌-◌, ◌<◌, ◌≤◌, true, false, not, if◌then◌else◌, ◌&&◌, nat_lt, nat_le, List, [], ◌∷◌, ◌++◌, length, filter, Option, Some, None, option_map, slice_get, slice_set, IfSome}
use Rattle.purge_relay.specs.declared.message.Body.{Body}
use Rattle.purge_relay.specs.declared.message.Body.TheVariants.{Purge, Position}
use Rattle.purge_relay.specs.declared.ledger_row.LedgerRow.{LedgerRow}
use Rattle.purge_relay.specs.LedgerRow.{new_row, IsSmallRow}

pub record LedgerState : Type 0 where
  pub rows : List LedgerRow
  pub spare : ℕ

abbrev pub next_number : LedgerState → ℕ
next_number state = length state.rows + 1

abbrev pub row_at : List LedgerRow → (number : ℕ) → Option LedgerRow
row_at rows zero = None
row_at rows (suc n) = slice_get rows n

-- the place of a number in a list of this length
abbrev pub place_of : (len number : ℕ) → Option ℕ
place_of len number = if nat_lt 0 number && nat_le number len then Some (number - 1) else None

-- the rows with this one at the number, if there is one
abbrev pub with_row : List LedgerRow → (number : ℕ) → Option LedgerRow → List LedgerRow
with_row rows number None = rows
with_row rows zero (Some row) = rows
with_row rows (suc n) (Some row) = slice_set rows n row

-- the message of this number is changed so, if there is one
abbrev pub changed_at : (LedgerRow → LedgerRow) → (number : ℕ) → LedgerState → LedgerState
changed_at change number state =
    record state { rows = with_row state.rows number (option_map change (row_at state.rows number)) }

-- a new message takes one of the places that were reserved
abbrev pub with_message : Body → LedgerState → LedgerState
with_message body state = record state {
  rows = state.rows ++ new_row (next_number state) body ∷ [];
  spare = state.spare - 1;
}

abbrev pub with_purge : (title : List ℕ) → (at : ℕ) → LedgerState → LedgerState
with_purge title at state = with_message (Purge (next_number state) title at) state

abbrev pub with_position : (client : List ℕ) → (index entry stamp : ℕ) → LedgerState → LedgerState
with_position client index entry stamp = with_message (Position client index entry stamp)

-- each of the first k messages was sent
abbrev pub AreSent : List LedgerRow → (k : ℕ) → Type 0
AreSent rows k = (i : ℕ) → i < k → IfSome (slice_get rows i) (λ row. row.sent ≡ true)

-- the first message that was not sent has this number
pub record IsFirstUnsent (rows : List LedgerRow) (number : ℕ) : Type 0 where
  pub positive : 0 < number
  pub there : number ≤ length rows
  pub unsent : IfSome (slice_get rows (number - 1)) (λ row. row.sent ≡ false)
  pub before : AreSent rows (number - 1)

-- the messages are numbered from 1
abbrev pub AreNumbered : List LedgerRow → Type 0
AreNumbered rows = (i : ℕ) → IfSome (slice_get rows i) (λ row. row.message.number ≡ i + 1)

-- the first k messages were sent, and the next was not
pub record IsSentTo (rows : List LedgerRow) (k : ℕ) : Type 0 where
  pub within : k ≤ length rows
  pub before : AreSent rows k
  pub next : IfSome (slice_get rows k) (λ row. row.sent ≡ false)

-- the messages that no wire has taken, in their order
abbrev pub unsent_in : List LedgerRow → List LedgerRow
unsent_in rows = filter (λ row. not row.sent) rows

-- each moment is within the limit
abbrev pub AreSmall : List LedgerRow → Type 0
AreSmall rows = (i : ℕ) → IfSome (slice_get rows i) IsSmallRow

-- What always holds of a ledger.
pub record IsLedger (rows : List LedgerRow) (spare capacity sent_to : ℕ) : Type 0 where
  -- (1) there is room for the messages that were promised
  pub room : length rows + spare ≤ capacity
  -- (2) messages are numbered from 1, in order
  pub numbered : AreNumbered rows
  -- (3) the messages up to here were sent, and the next was not
  pub sent : IsSentTo rows sent_to
  -- (4) no moment is above the greatest
  pub small : AreSmall rows
