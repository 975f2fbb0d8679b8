-- Who asks: the region that a request goes to, its client, and the view or edit that it asks for.
use Rattle.std.specs.Prelude.{ℕ, Bool, true, false, Option, option_map, option_and_then, unwrap_or}
use Rattle.wiki_model.specs.declared.Region.{Region}
use Rattle.wiki_model.specs.declared.Readings.{Readings}
use Rattle.wiki_model.specs.Bytes.{Bytes}
use Rattle.wiki_model.specs.Titles.{Title, Client}
use Rattle.wiki_model.specs.History.{Edit}
use Rattle.wiki_model.specs.World.{World, View, Cookie, moment, at_readings}
use Rattle.wiki_model.specs.Sessions.{if_live}
use Rattle.wiki_model.specs.Cookies.{region_of_host, route}
use Rattle.wiki_model.specs.Asking.{Call, EditCall, PageCall, BatchCall, FeedCall, MessagesCall, Request}
use Rattle.wiki_titles.specs.ClientId.{client_after}
use Rattle.region_state.specs.declared.ask.ViewAsk.{ViewAsk}
use Rattle.wiki_serve.specs.declared.callers.Caller.{Caller}

-- what a connection and its farm have for good: the other end's address, and how many entries a replica applies
pub record Desk : Type 0 where
  pub peer : Bytes
  pub pace : ℕ

abbrev pub is_edit : Call → Bool
is_edit (EditCall title base token text) = true
is_edit (PageCall title) = false
is_edit (BatchCall titles) = false
is_edit (FeedCall from) = false
is_edit (MessagesCall from) = false

abbrev pub region_of : Request → Region
region_of request = route (is_edit request.call) request.host request.cookies

-- the position cookie, if it is live by the moment of the request's region
abbrev pub live_cookie : (now : ℕ) → Request → Option Cookie
live_cookie now request = option_and_then (if_live now) request.cookies.position

-- the client of an address and an agent
unfoldable pub stranger_of : (peer agent : Bytes) → Client
stranger_of peer agent = client_after peer agent

abbrev pub client_of_cookie : Option Cookie → (stranger : Client) → Client
client_of_cookie cookie stranger = unwrap_or (option_map (λ c. c.client) cookie) stranger

-- the client of a live cookie, or else that of the address and the agent
abbrev pub client_for : Desk → (now : ℕ) → Request → Client
client_for desk now request = client_of_cookie (live_cookie now request) (stranger_of desk.peer request.agent)

-- the moment of the request's region after its reading
abbrev pub moment_for : World → Readings → Request → ℕ
moment_for v at request = moment (region_of request) (at_readings at v)

abbrev pub view_for : Desk → (now : ℕ) → Request → (word : ℕ) → Title → View
view_for desk now request word title = record {
  host = region_of_host request.host;
  client = client_for desk now request;
  cookie = live_cookie now request;
  use_master = request.cookies.use_master;
  word = word;
  title = title;
}

-- the caller's view of a title, with this word
abbrev pub view_by : Caller → (word : ℕ) → Title → ViewAsk
view_by caller word title = record {
  host = caller.host;
  client = caller.client;
  cookie = caller.cookie;
  use_master = caller.use_master;
  word = word;
  title = title;
}

abbrev pub edit_for : Desk → (now : ℕ) → Request → Title → (base : ℕ) → (token text : Bytes) → Edit
edit_for desk now request title base token text =
    record { client = client_for desk now request; token = token; title = title; base = base; text = text }
