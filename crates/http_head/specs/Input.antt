-- How an input begins: with a head, or with bytes that may become one, or with bytes that never will.
use Rattle.std.specs.Prelude.{ℕ, ◌+◌, ◌≡◌, ◌≤◌, Bool, true, List, length, drop, take}
use Rattle.httparse.specs.declared.spans.HeaderSpan.{HeaderSpan}
use Rattle.httparse.specs.declared.spans.RequestSpans.{RequestSpans}
use Rattle.httparse.specs.Grammar.{RequestHead, print_request, ReadsRequest, HasNoRequest, NeverHasRequest, MayBecomeRequest}
use Rattle.httparse.specs.Spans.{IsRequestAt, IsRequestWithin}
use Rattle.wiki_model.specs.Bytes.{Bytes}
use Rattle.wiki_model.specs.Limits.{head_max, fields_max}
use Rattle.wiki_model.specs.Asking.{Fault, HeadTooLarge, NoHead}
use Rattle.http_head.specs.Window.{window_of, is_full_of}

-- After the empty lines at the start, the line of one field too many is the last that is looked at: before it come the
-- first line and those of the fields that there may be.
abbrev pub line_limit : ℕ
line_limit = fields_max + 2

-- The part of an input that is looked at for a head, and whether more bytes would not be.
unfoldable pub window : Bytes → Bytes
window bytes = window_of head_max line_limit bytes

unfoldable pub is_full : Bytes → Bool
is_full bytes = is_full_of head_max line_limit bytes

-- The bytes begin with this head, which is within the limits.
pub record HasHead (bytes : Bytes) (h : RequestHead) (rest : Bytes) : Type 0 where
  pub reads : ReadsRequest bytes h rest
  pub small : length (print_request h) ≤ head_max
  pub few : length h.fields ≤ fields_max

-- the bytes are no head yet, and may become one
pub record IsOpen (bytes : Bytes) : Type 0 where
  pub no_head : HasNoRequest bytes
  pub may_become : MayBecomeRequest bytes

-- the bytes show that an input that begins with them is refused so
abbrev pub Shows : (bytes : Bytes) → Fault → Type 0
Shows bytes HeadTooLarge = (is_full bytes ≡ true) × IsOpen (window bytes)
Shows bytes NoHead = NeverHasRequest (window bytes)
Shows bytes _ = ⊥

-- the first bytes, as many as are seen, hold a head that lies where the spans say
pub record IsHeadIn (kept : Bytes) (seen : ℕ) (headers : List HeaderSpan) (spans : RequestSpans)
    (h : RequestHead) : Type 0 where
  pub within : seen ≤ length kept
  pub inside : IsRequestWithin (take seen kept) headers spans
  pub at : IsRequestAt (take seen kept) headers spans h
  pub head : HasHead kept h (drop spans.len kept)
