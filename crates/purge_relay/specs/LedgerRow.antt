-- What a ledger keeps of one message, and what becomes of it.
use Rattle.std.specs.Prelude.{ℕ, ◌≤◌, Bool, true, false, Option, Some, None, IfSome}
use Rattle.wiki_model.specs.declared.Region.{Region}
use Rattle.wiki_model.specs.declared.Region.TheVariants.{Home, West}
use Rattle.wiki_model.specs.Limits.{greatest_moment}
use Rattle.purge_relay.specs.declared.message.Body.{Body}
use Rattle.purge_relay.specs.declared.message.Body.TheVariants.{Purge, Position}
use Rattle.purge_relay.specs.declared.ledger_row.Receipt.{Receipt}
use Rattle.purge_relay.specs.declared.ledger_row.LedgerRow.{LedgerRow}

abbrev pub new_row : (number : ℕ) → Body → LedgerRow
new_row number body = record {
  message = record { number = number; body = body };
  dropped = false;
  sent = false;
  home = None;
  west = None;
}

abbrev pub dropped : LedgerRow → LedgerRow
dropped row = record row { dropped = true }

abbrev pub sent : LedgerRow → LedgerRow
sent row = record row { sent = true }

abbrev pub received_at : Option Receipt → (at : ℕ) → Receipt
received_at None at = record { first = at; last = at }
received_at (Some receipt) at = record { first = receipt.first; last = at }

abbrev pub receipt_in : Region → LedgerRow → Option Receipt
receipt_in Home row = row.home
receipt_in West row = row.west

abbrev pub with_receipt_in : Region → (at : ℕ) → LedgerRow → LedgerRow
with_receipt_in Home at row = record row { home = Some (received_at row.home at) }
with_receipt_in West at row = record row { west = Some (received_at row.west at) }

-- a purge is received, a position is not
abbrev pub received_by : Body → Region → (at : ℕ) → LedgerRow → LedgerRow
received_by (Purge purge title issued) region at row = with_receipt_in region at row
received_by (Position client index entry stamp) region at row = row

abbrev pub with_receipt : Region → (at : ℕ) → LedgerRow → LedgerRow
with_receipt region at row = received_by row.message.body region at row

abbrev pub receipt_at : Region → Option LedgerRow → Option Receipt
receipt_at region None = None
receipt_at region (Some row) = receipt_in region row

abbrev pub is_dropped_row : Option LedgerRow → Bool
is_dropped_row None = false
is_dropped_row (Some row) = row.dropped

-- moments are within the limit

abbrev pub IsSmallBody : Body → Type 0
IsSmallBody (Purge purge title issued) = issued ≤ greatest_moment
IsSmallBody (Position client index entry stamp) = stamp ≤ greatest_moment

abbrev pub IsSmallReceipt : Receipt → Type 0
IsSmallReceipt receipt = (receipt.first ≤ greatest_moment) × (receipt.last ≤ greatest_moment)

pub record IsSmallRow (row : LedgerRow) : Type 0 where
  pub body : IsSmallBody row.message.body
  pub home : IfSome row.home IsSmallReceipt
  pub west : IfSome row.west IsSmallReceipt
