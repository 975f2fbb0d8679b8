-- Which bytes of a connection are a request, and how its input ends.
use Rattle.std.specs.Prelude.{◌≡◌, ◌≢◌, ◌⊎◌, ◌<◌, Bool, true, false, [], ◌++◌, length, Option, Some, None, Result, Ok, Err}
use Rattle.std.specs.Io.KnownBytes.{Consumes}
use Rattle.httparse.specs.Grammar.{RequestHead}
use Rattle.wiki_model.specs.Bytes.{Bytes}
use Rattle.wiki_model.specs.Asking.{Call, Request, Refusal, Fault, HeadTooLarge, NoHead}
use Rattle.http_head.specs.Input.{is_full, HasHead, IsOpen, Shows}
use Rattle.http_desk.specs.Heads.{Head, said_by, head_fault, body_length, asks_to_close, is_head_method}
use Rattle.http_desk.specs.Calls.{call_of, request_of}

-- what a read of one request gives
pub data Incoming : Type 0 where
  Ready : Request → Incoming
  Refused : Refusal → Incoming
  Closed : Incoming
  Cut : Incoming

abbrev pub closing : Fault → (head : Bool) → Refusal
closing fault head = record { fault = fault; head = head; close = true }

-- a head and its whole body
abbrev pub incoming : Head → Result Call Fault → Incoming
incoming h (Ok call) = Ready (request_of h call)
incoming h (Err fault) = Refused (record { fault = fault; head = is_head_method h; close = asks_to_close h })

-- What follows a head that the head alone does not refuse: its body, or the end of input inside it.
abbrev pub ReadsBody : (linked : Bool) → Head → (after : Bytes) → Incoming → (rest : Bytes) → Type 0
ReadsBody linked h after Cut rest = length after < body_length h
ReadsBody linked h after got rest =
    (body : Bytes) × (after ≡ body ++ rest) × (length body ≡ body_length h)
    × (got ≡ incoming h (call_of linked h body))

abbrev pub ReadsAfter :
    (linked : Bool) → Head → Option Fault → (after : Bytes) → Incoming → (rest : Bytes) → Type 0
ReadsAfter linked h (Some fault) after got rest = got ≡ Refused (closing fault (is_head_method h))
ReadsAfter linked h None after got rest = ReadsBody linked h after got rest

-- The input, which is all that is left of a connection's bytes, begins with this, and rest is left. After a refusal
-- that closes the connection, nothing is said of the rest.
abbrev pub Reads : (linked : Bool) → (input : Bytes) → Incoming → (rest : Bytes) → Type 0
Reads linked input got rest =
    ((got ≡ Closed) × (input ≡ []) × (rest ≡ []))
    ⊎ ((got ≡ Cut) × (input ≢ []) × (is_full input ≡ false) × IsOpen input)
    ⊎ ((got ≡ Refused (closing HeadTooLarge false)) × Shows input HeadTooLarge)
    ⊎ ((got ≡ Refused (closing NoHead false)) × Shows input NoHead)
    ⊎ ((h : RequestHead) × (after : Bytes) × HasHead input h after
    × ReadsAfter linked (said_by h) (head_fault (said_by h)) after got rest)

-- One read over a source that exposes its bytes: what was kept from before and what was left of the source begin with
-- this, and the same two afterwards are the rest. A source that exposed its bytes goes on exposing them.
abbrev pub IsRead : (linked : Bool) → (kept_before : Bytes) → (left_before : Option Bytes) → (kept_after : Bytes)
    → (left_after : Option Bytes) → Incoming → Type 0
IsRead linked kept_before (Some left_before) kept_after (Some left_after) got =
    Reads linked (kept_before ++ left_before) got (kept_after ++ left_after)
IsRead linked kept_before (Some left_before) kept_after None got = ⊥
IsRead linked kept_before None kept_after left_after got = Unit {0}

-- The parts of one read

-- what is kept grows by bytes of the source
pub record Grows (kept_before : Bytes) (left_before : Option Bytes) (kept_after : Bytes)
    (left_after : Option Bytes) : Type 0 where
  pub more : Bytes
  pub kept : kept_after ≡ kept_before ++ more
  pub taken : Consumes left_before left_after more
