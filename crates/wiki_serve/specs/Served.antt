-- A connection that was served so far: what was read, written, heard and done between two points, with the exchanges in
-- their order.
use Rattle.std.specs.Prelude.{ℕ, ◌≡◌, ◌≤◌, false, List, [], ◌∷◌, ◌++◌, length, reverse, Option, Some, None, option_map}
use Rattle.farm_base.specs.Exposed.{Adds, Stays}
use Rattle.farm_base.specs.Series.{Gives}
use Rattle.wiki_model.specs.Bytes.{Bytes}
use Rattle.wiki_model.specs.World.{World}
use Rattle.wiki_model.specs.Runs.{Turn}
use Rattle.http_desk.specs.Incoming.{Incoming, IsRead}
use Rattle.wiki_serve.specs.Exchanges.{Exchange, Service, Heard, AreHeard, GivesAll, with_messages, services, turns_of}
use Rattle.wiki_serve.specs.Exchanges.{incoming_of, responses}
use Rattle.wiki_serve.specs.Callers.{Desk}
use Rattle.wiki_serve.specs.Services.{DoesOne, DoesAll}
use Rattle.wiki_serve.specs.Connections.{Conn, ReadsAll, MayGoOn}
use Rattle.wiki_serve.specs.Turns.{Standing}
use Rattle.wiki_serve.specs.Housework.{counted_if}

-- What is seen at one point: the connection, the bytes that were read of it and not used yet, what the outside exposes,
-- and the numbers of the messages that were not sent.
pub record Seen : Type 0 where
  pub conn : Conn
  pub kept : Bytes
  pub heard : Heard
  pub unsent : List ℕ

abbrev pub seen_at : Conn → (kept : Bytes) → Heard → (unsent : List ℕ) → Seen
seen_at conn kept heard unsent = record { conn = conn; kept = kept; heard = heard; unsent = unsent }

-- it is the same connection, and no count of it fell
pub record IsLater (before now : Conn) : Type 0 where
  pub peer : now.peer ≡ before.peer
  pub read_faults : before.read_faults ≤ now.read_faults
  pub write_faults : before.write_faults ≤ now.write_faults

-- the connection was read, or nothing was done: nothing was written
pub record Waits (before now : Conn) : Type 0 where
  pub later : IsLater before now
  pub written : Stays before.written now.written

-- a request, a refusal or an end was read, and nothing was written
pub record ReadsFrom (before now : Conn) (kept_before kept_now : Bytes) (got : Incoming) : Type 0 where
  pub later : IsLater before now
  pub read : IsRead false kept_before before.left kept_now now.left got
  pub written : Stays before.written now.written

-- the piece was written whole, and nothing was read
pub record WritesTo (before now : Conn) (piece : Bytes) : Type 0 where
  pub later : IsLater before now
  pub left : now.left ≡ before.left
  pub written : Adds before.written now.written piece

-- these exchanges were read from all that was left, and what is kept with what is left now is the rest
abbrev pub HasReadAll : {A : Type 0} → (before : Option Bytes) → (kept : Bytes) → (now : Option Bytes)
    → List (Exchange A) → Type 0
HasReadAll None kept now exchanges = Unit {0}
HasReadAll (Some input) kept None exchanges = ⊥
HasReadAll (Some input) kept (Some left) exchanges = ReadsAll input exchanges (kept ++ left)

-- each run for which the farm stood goes on by the turns of these exchanges to one for which it stands
abbrev pub GoesOnBy : Desk → (Stood Now : Standing) → (unsent_before unsent_now : List ℕ) → List (Exchange Service)
    → Type 0
GoesOnBy desk Stood Now unsent_before unsent_now exchanges =
    (start : World) (turns : List Turn) (v : World) → Stood start turns v
    → (w : World) × Now start (reverse (turns_of exchanges) ++ turns) w
    × DoesAll (DoesOne desk) exchanges (record { world = v; unsent = unsent_before })
    (record { world = w; unsent = unsent_now })

-- From one point to another there were these exchanges, and this text was written.
pub record ServedSoFar (desk : Desk) (before now : Seen) (Stood Now : Standing) (exchanges : List (Exchange Service))
    (text : Bytes) : Type 0 where
  pub later : IsLater before.conn now.conn
  pub read : HasReadAll before.conn.left now.kept now.conn.left exchanges
  pub written : Adds before.conn.written now.conn.written text
  pub heard : AreHeard before.heard now.heard (services exchanges)
  pub goes_on : GoesOnBy desk Stood Now before.unsent now.unsent exchanges

-- So many exchanges were had and answered, and the connection may go on.
pub record MayServeOn (desk : Desk) (before now : Seen) (Stood Now : Standing) (count : ℕ) : Type 0 where
  pub exchanges : List (Exchange Service)
  pub number : length exchanges ≡ count
  pub may_go_on : MayGoOn exchanges
  pub so_far : ServedSoFar desk before now Stood Now exchanges (responses exchanges)

-- One exchange was had, and is not answered yet.
pub record HasOne (desk : Desk) (before now : Seen) (Stood Now : Standing) (exchange : Exchange Service) : Type 0 where
  pub reads : ReadsFrom before.conn now.conn before.kept now.kept (incoming_of exchange)
  pub heard : AreHeard before.heard now.heard (services (exchange ∷ []))
  pub goes_on : GoesOnBy desk Stood Now before.unsent now.unsent (exchange ∷ [])

-- What one service heard.
pub record HearsOne (old new : Heard) (service : Service) : Type 0 where
  pub clock : Gives old.clock new.clock service.at
  pub lots : GivesAll old.lots service.words new.lots
  pub wire : new.wire ≡ option_map (with_messages service.sent service.taken) old.wire
  pub refused : new.refused ≡ counted_if service.halted old.refused
  pub empty : new.empty ≡ counted_if service.emptied old.empty
