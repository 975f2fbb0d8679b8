-- The bytes of a response, and the response of each refusal.
use Rattle.std.specs.Prelude.{ℕ, Bool, false, ◌==◌, if◌then◌else◌, List, [], ◌∷◌, ◌++◌, length, flat_map, codes, decimal}
use Rattle.wiki_model.specs.Bytes.{Bytes, line_feed}
use Rattle.wiki_model.specs.Asking.{Fault, HeadTooLarge, NoHead, Transfer, BadHost, BadLength, LargeBody, BadTarget, NoRoute, WrongMethod, BadTitle, BadField, LargeText, Refusal}

-- a response
pub record Reply : Type 0 where
  pub status : ℕ
  pub html : Bool
  pub body : Bytes
  -- the lines that only some responses have: names and values
  pub lines : List (Bytes × Bytes)
  pub head : Bool
  pub close : Bool

-- the phrase of a status; those of a response all have one
abbrev pub phrase : (status : ℕ) → Bytes
phrase status =
    if status == 200 then codes "OK" else (if status == 303 then codes "See Other"
    else (if status == 400 then codes "Bad Request" else (if status == 404 then codes "Not Found"
    else (if status == 405 then codes "Method Not Allowed" else (if status == 409 then codes "Conflict"
    else (if status == 413 then codes "Content Too Large" else (if status == 422 then codes "Unprocessable Content"
    else (if status == 431 then codes "Request Header Fields Too Large"
    else (if status == 501 then codes "Not Implemented" else (if status == 502 then codes "Bad Gateway"
    else (if status == 503 then codes "Service Unavailable"
    else (if status == 507 then codes "Insufficient Storage" else []))))))))))))

abbrev pub end_of_line : Bytes
end_of_line = 13 ∷ 10 ∷ []

abbrev pub field_line : Bytes × Bytes → Bytes
field_line (name, value) = name ++ codes ": " ++ value ++ end_of_line

abbrev pub content_type : (html : Bool) → Bytes
content_type html = codes "text/" ++ (if html then codes "html" else codes "plain") ++ codes "; charset=utf-8"

-- the line of the status, and the two fields that every response has
abbrev pub first_fields : (status : ℕ) (html : Bool) (length : ℕ) → Bytes
first_fields status html count =
    codes "HTTP/1.1 " ++ decimal status ++ codes " " ++ phrase status ++ end_of_line
    ++ field_line (codes "Content-Type", content_type html)
    ++ field_line (codes "Content-Length", decimal count)

abbrev pub connection_line : (close : Bool) → Bytes
connection_line close = field_line (codes "Connection", if close then codes "close" else codes "keep-alive")

-- the same as it is printed, put together from the right
abbrev pub printed_first_fields : (status : ℕ) (phrase kind : Bytes) (count : ℕ) → Bytes
printed_first_fields status phrase kind count =
    codes "HTTP/1.1 " ++ (decimal status ++ (codes " " ++ (phrase ++ (codes "\r\nContent-Type: text/" ++ (kind
    ++ (codes "; charset=utf-8\r\nContent-Length: " ++ (decimal count ++ codes "\r\n")))))))

-- what stands before the body, which has this length
abbrev pub head_of_length :
    (status : ℕ) (html : Bool) (length : ℕ) (lines : List (Bytes × Bytes)) (close : Bool) → Bytes
head_of_length status html count lines close =
    first_fields status html count ++ flat_map field_line lines ++ connection_line close ++ end_of_line

abbrev pub head_bytes : Reply → Bytes
head_bytes reply = head_of_length reply.status reply.html (length reply.body) reply.lines reply.close

-- to a HEAD request the body is not sent
abbrev pub sent_body : Reply → Bytes
sent_body reply = if reply.head then [] else reply.body

-- The bytes of a response.
abbrev pub answer_bytes : Reply → Bytes
answer_bytes reply = head_bytes reply ++ sent_body reply

-- Refusals

abbrev pub malformed : (rule : Bytes) → ℕ × Bytes
malformed rule = (400, codes "malformed rule=" ++ rule)

abbrev pub large : (bytes : ℕ) → ℕ × Bytes
large bytes = (413, codes "large bytes=" ++ decimal bytes)

-- the status of a refusal, and its text
abbrev pub fault_text : Fault → ℕ × Bytes
fault_text HeadTooLarge = (431, codes "head")
fault_text NoHead = malformed (codes "1")
fault_text Transfer = (501, codes "transfer")
fault_text BadHost = malformed (codes "2")
fault_text BadLength = malformed (codes "3")
fault_text (LargeBody bytes) = large bytes
fault_text BadTarget = malformed (codes "4")
fault_text NoRoute = (404, codes "no-route")
fault_text (WrongMethod post) = (405, codes "method")
fault_text BadTitle = malformed (codes "5")
fault_text BadField = malformed (codes "6")
fault_text (LargeText bytes) = large bytes

-- the methods of the route
abbrev pub allow_lines : (post : Bool) → List (Bytes × Bytes)
allow_lines post = (codes "Allow", if post then codes "POST" else codes "GET, HEAD") ∷ []

abbrev pub fault_lines : Fault → List (Bytes × Bytes)
fault_lines (WrongMethod post) = allow_lines post
fault_lines _ = []

abbrev pub text_line : Bytes → Bytes
text_line text = text ++ line_feed ∷ []

abbrev pub refusal_reply : Refusal → (close : Bool) → Reply
refusal_reply refusal close = record {
  status = (fault_text refusal.fault).0;
  html = false;
  body = text_line (fault_text refusal.fault).1;
  lines = fault_lines refusal.fault;
  head = refusal.head;
  close = close;
}
