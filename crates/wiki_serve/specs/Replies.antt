-- The response that each answer of the wiki gets.
use Rattle.std.specs.Prelude.{ℕ, ◌+◌, Bool, true, false, if◌then◌else◌, List, [], ◌∷◌, ◌++◌, map, codes, decimal}
use Rattle.wiki_model.specs.Bytes.{Bytes}
use Rattle.wiki_model.specs.Titles.{Title, url_of}
use Rattle.wiki_model.specs.World.{Cookie}
use Rattle.wiki_model.specs.Answers.{Answer, Saved}
use Rattle.wiki_model.specs.Answers.Answer.{Page, EditSaved, NoPage, Conflict, TokenUsed, Lagging, StoreFault}
use Rattle.wiki_model.specs.Report.{answer_text, origin_text, report_line}
use Rattle.wiki_model.specs.Cookies.{cookies_set}
use Rattle.http_reply.specs.Reply.{Reply, text_line}

abbrev pub answer_status : Answer → ℕ
answer_status (Page p) = 200
answer_status (EditSaved s) = 303
answer_status (NoPage source) = 404
answer_status (Conflict base current) = 409
answer_status (TokenUsed entry) = 422
answer_status (Lagging by needed reached) = 503
answer_status StoreFault = 502
answer_status _ = 507

abbrev pub is_html : Answer → Bool
is_html (Page p) = true
is_html _ = false

-- a page, or the answer's text as a line
abbrev pub answer_body : Answer → Bytes
answer_body (Page p) = p.page
answer_body answer = text_line (answer_text false answer)

-- the position of the session that made the edit
abbrev pub cookie_of_saved : Saved → Cookie
cookie_of_saved s = record { index = s.index; seconds = s.seconds; client = s.client }

abbrev pub source_lines : (source : ℕ) → List (Bytes × Bytes)
source_lines source = (codes "Wiki-Source", decimal source) ∷ []

-- which prefix the page is of, where it comes from, and whether it may lack young commits
abbrev pub page_lines : (source : ℕ) → (from : Bytes) → (lagged : Bool) → List (Bytes × Bytes)
page_lines source from lagged =
    (codes "Wiki-Source", decimal source) ∷ (codes "Wiki-From", from)
    ∷ (codes "Wiki-Lagged", if lagged then codes "1" else codes "0") ∷ []

abbrev pub location_of : Title → Bytes
location_of title = codes "/wiki/" ++ url_of title

-- where the saved page is, and the cookies of the session
abbrev pub saved_lines : (location : Bytes) → Saved → List (Bytes × Bytes)
saved_lines location s =
    (codes "Location", location) ∷ map (λ value. (codes "Set-Cookie", value)) (cookies_set (cookie_of_saved s))

-- the fields that only some responses have; the location is that of the title that was edited
abbrev pub answer_lines : (location : Bytes) → Answer → List (Bytes × Bytes)
answer_lines location (Page p) = page_lines p.source (origin_text p.origin) p.lagged
answer_lines location (NoPage source) = source_lines source
answer_lines location (EditSaved s) = saved_lines location s
answer_lines location _ = []

abbrev pub answer_reply : (location : Bytes) → Answer → (head close : Bool) → Reply
answer_reply location answer head close = record {
  status = answer_status answer;
  html = is_html answer;
  body = answer_body answer;
  lines = answer_lines location answer;
  head = head;
  close = close;
}

-- the same of an answer that is no page, with these fields
abbrev pub text_reply : Answer → (lines : List (Bytes × Bytes)) → (head close : Bool) → Reply
text_reply answer lines head close = record {
  status = answer_status answer;
  html = false;
  body = text_line (answer_text false answer);
  lines = lines;
  head = head;
  close = close;
}

-- the answers of a batch, numbered from n on: the line of each, and after it the page's bytes
abbrev pub batch_body : (n : ℕ) → List Answer → Bytes
batch_body n [] = []
batch_body n (answer ∷ answers) = report_line n true answer ++ batch_body (n + 1) answers

abbrev pub listed_reply : List Answer → (head close : Bool) → Reply
listed_reply answers head close = record {
  status = 200;
  html = false;
  body = batch_body 1 answers;
  lines = [];
  head = head;
  close = close;
}
