-- What the values of this crate stand for in the definitions.
use Rattle.std.specs.Prelude.{◌≡◌, ℕ, true, false, Result, Ok, Err, Option, Some, None, List, map, string_bytes}
use Rattle.std.specs.List.{list_all}
use Rattle.wiki_model.specs.Bytes.{Bytes}
use Rattle.wiki_model.specs.Titles.{title_of}
use Rattle.wiki_model.specs.Asking as model
use Rattle.sticky_routes.specs.AsModel.{cookies_of}
use Rattle.http_desk.specs.Heads.{Head, fields_of}
use Rattle.http_desk.specs.Calls as calls
use Rattle.http_desk.specs.Calls.{is_title, the_title}
use Rattle.http_desk.specs.Incoming as reading
use Rattle.http_reply.specs.AsModel.{fault_of, refusal_of}
use Rattle.http_reply.specs.declared.refusal.Fault.{Fault}
use Rattle.http_desk.specs.declared.routes.Route.{Route}
use Rattle.http_desk.specs.declared.routes.Route.TheVariants as to
use Rattle.http_desk.specs.declared.titles.MaybeTitle.{MaybeTitle}
use Rattle.http_desk.specs.declared.titles.MaybeTitle.TheVariants as maybe
use Rattle.http_desk.specs.declared.titles.Titles.{Titles}
use Rattle.http_desk.specs.declared.titles.Titles.TheVariants as titles
use Rattle.http_desk.specs.declared.request.Call.{Call}
use Rattle.http_desk.specs.declared.request.Call.TheVariants as call
use Rattle.http_desk.specs.declared.request.Request.{Request}
use Rattle.http_desk.specs.declared.request.Incoming.{Incoming}
use Rattle.http_desk.specs.declared.request.Incoming.TheVariants as got
use Rattle.http_desk.specs.declared.calls.Outcome.{Outcome}
use Rattle.http_desk.specs.declared.calls.Outcome.TheVariants as outcome
use Rattle.http_desk.specs.declared.head_parts.HeadParts.{HeadParts}

-- Refusals

-- the refusal that a head gives, if it gives one
abbrev pub fault_found : Result ℕ Fault → Option model.Fault
fault_found (Err fault) = Some (fault_of fault)
fault_found (Ok length) = None

-- Heads and calls

abbrev pub said_in : HeadParts → Head
said_in parts = record {
  method = parts.method.now;
  target = parts.target.now;
  minor = parts.minor;
  fields = fields_of parts.buf.now parts.fields.now;
}

abbrev pub route_shown : Route → calls.Route
route_shown (to.Page rest) = calls.PageRoute rest.now
route_shown to.Edit = calls.EditRoute
route_shown to.Batch = calls.BatchRoute

abbrev pub HasTitle : MaybeTitle → (text : Bytes) → Type 0
HasTitle (maybe.Title title) text = title_of text ≡ Ok title
HasTitle maybe.None text = is_title text ≡ false
HasTitle maybe.Memory text = Unit {0}

abbrev pub HasTitles : Titles → (texts : List Bytes) → Type 0
HasTitles (titles.All found) texts = (list_all is_title texts ≡ true) × (found.items ≡ map the_title texts)
HasTitles titles.Bad texts = list_all is_title texts ≡ false
HasTitles titles.Memory texts = Unit {0}

abbrev pub call_shown : Call → model.Call
call_shown (call.Page title) = model.PageCall title
call_shown (call.Edit title base token text) = model.EditCall title base token text
call_shown (call.Batch titles) = model.BatchCall titles.items

-- this call or refusal was read, if there was memory
abbrev pub ReadsCall : Outcome → Result model.Call model.Fault → Type 0
ReadsCall (outcome.Call call) read = read ≡ Ok (call_shown call)
ReadsCall (outcome.Refused fault) read = read ≡ Err (fault_of fault)
ReadsCall outcome.Memory read = Unit {0}

-- Requests

abbrev pub request_shown : Request → model.Request
request_shown r = record {
  get = r.get;
  head = r.head;
  close = r.close;
  host = string_bytes r.host;
  agent = string_bytes r.agent;
  cookies = cookies_of r.cookies;
  call = call_shown r.call;
}

-- what was read, unless a fault or memory hid it
abbrev pub incoming_shown : Incoming → Option reading.Incoming
incoming_shown (got.Ready request) = Some (reading.Ready (request_shown request))
incoming_shown (got.Refused refusal) = Some (reading.Refused (refusal_of refusal))
incoming_shown got.Closed = Some reading.Closed
incoming_shown got.Cut = Some reading.Cut
incoming_shown got.ReadFault = None
incoming_shown got.Memory = None

-- this was read, unless a fault or memory hid it
abbrev pub IsShown : Option reading.Incoming → reading.Incoming → Type 0
IsShown None wanted = Unit {0}
IsShown (Some got) wanted = got ≡ wanted
