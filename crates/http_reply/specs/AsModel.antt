-- What the values of this crate stand for in the definitions.
use Rattle.std.specs.Prelude.{ℕ, List, map, string_bytes, String}
use Rattle.wiki_model.specs.Bytes.{Bytes}
use Rattle.wiki_model.specs.Asking as model
use Rattle.http_reply.specs.Reply as replies
use Rattle.http_reply.specs.declared.reply.Reply.{Reply}
use Rattle.http_reply.specs.declared.reply.Status.{Status}
use Rattle.http_reply.specs.declared.reply.Status.TheVariants as status
use Rattle.http_reply.specs.declared.refusal.Fault.{Fault}
use Rattle.http_reply.specs.declared.refusal.Fault.TheVariants as fault
use Rattle.http_reply.specs.declared.refusal.Refusal.{Refusal}

-- Responses

abbrev pub status_of : Status → ℕ
status_of status.Ok = 200
status_of status.SeeOther = 303
status_of status.BadRequest = 400
status_of status.NotFound = 404
status_of status.MethodNotAllowed = 405
status_of status.Conflict = 409
status_of status.TooLarge = 413
status_of status.Unprocessable = 422
status_of status.HeadTooLarge = 431
status_of status.NotImplemented = 501
status_of status.BadGateway = 502
status_of status.Unavailable = 503
status_of status.NoStorage = 507

abbrev pub lines_of : {A B : Type 0} → List (String A × String B) → List (Bytes × Bytes)
lines_of lines = map (λ line. (string_bytes line.0, string_bytes line.1)) lines

abbrev pub reply_of : Reply → replies.Reply
reply_of r = record {
  status = status_of r.status;
  html = r.html;
  body = r.body.items;
  lines = lines_of r.lines.items;
  head = r.head;
  close = r.close;
}

-- Refusals

abbrev pub fault_of : Fault → model.Fault
fault_of fault.HeadTooLarge = model.HeadTooLarge
fault_of fault.NoHead = model.NoHead
fault_of fault.Transfer = model.Transfer
fault_of fault.BadHost = model.BadHost
fault_of fault.BadLength = model.BadLength
fault_of (fault.LargeBody bytes) = model.LargeBody bytes
fault_of fault.BadTarget = model.BadTarget
fault_of fault.NoRoute = model.NoRoute
fault_of (fault.WrongMethod post) = model.WrongMethod post
fault_of fault.BadTitle = model.BadTitle
fault_of fault.BadField = model.BadField
fault_of (fault.LargeText bytes) = model.LargeText bytes

abbrev pub refusal_of : Refusal → model.Refusal
refusal_of r = record { fault = fault_of r.fault; head = r.head; close = r.close }
