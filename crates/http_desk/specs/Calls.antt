-- What a request asks for, by its head and its body, or the first refusal.
use Rattle.std.specs.Prelude.{ℕ, ◌+◌, Bool, true, false, not, ◌==◌, ◌&&◌, ◌||◌, if◌then◌else◌, List, [], ◌∷◌, length, drop, map, filter, flat_map, take_while, Option, Some, None, unwrap_or, Result, Ok, Err, codes, nat_lt, nat_le, bytes_eq}
use Rattle.std.specs.List.{list_all}
use Rattle.std.specs.Str.{is_utf8}
use Rattle.std.specs.Str.Lossy.{utf8_lossy}
use Rattle.percent_encoding.specs.Percent.{percent_decode}
use Rattle.form_urlencoded.specs.Form.{raw_pairs, decode}
use Rattle.wiki_model.specs.Bytes.{Bytes, begins, pieces, first_of_list}
use Rattle.wiki_model.specs.Limits.{text_max, number_limit, jobs_max}
use Rattle.wiki_model.specs.Titles.{Title, TitleRefusal, title_of, is_token, with_line_feeds}
use Rattle.wiki_model.specs.Cookies.{are_digits, number_in}
use Rattle.wiki_model.specs.Asking.{Call, PageCall, EditCall, BatchCall, FeedCall, MessagesCall, Request, Fault, BadTarget, NoRoute, WrongMethod, BadTitle, BadField, LargeText}
use Rattle.http_desk.specs.Heads.{Head, asks_to_close, is_head_method, first_value, cookies_of}

-- Routes

pub data Route : Type 0 where
  PageRoute : (rest : Bytes) → Route
  EditRoute : Route
  BatchRoute : Route
  FeedRoute : Route
  MessagesRoute : Route

-- the path of a target, and the query after its first `?`
abbrev pub path_of : Bytes → Bytes
path_of target = take_while (λ c. not (c == 63)) target

abbrev pub query_of : Bytes → Bytes
query_of target = drop (length (path_of target) + 1) target

abbrev pub wiki_path : Bytes
wiki_path = codes "/wiki/"

-- the route of a path; two of them are there if the wiki is linked
abbrev pub route_of : (linked : Bool) → (path : Bytes) → Option Route
route_of linked path =
    if begins wiki_path path && nat_lt 6 (length path) then Some (PageRoute (drop 6 path))
    else (if bytes_eq path (codes "/edit") then Some EditRoute
    else (if bytes_eq path (codes "/batch") then Some BatchRoute
    else (if linked && bytes_eq path (codes "/feed") then Some FeedRoute
    else (if linked && bytes_eq path (codes "/messages") then Some MessagesRoute
    else None))))

abbrev pub takes_post : Route → Bool
takes_post EditRoute = true
takes_post (PageRoute rest) = false
takes_post BatchRoute = false
takes_post FeedRoute = false
takes_post MessagesRoute = false

abbrev pub has_method : Route → (method : Bytes) → Bool
has_method route method =
    if takes_post route then bytes_eq method (codes "POST")
    else bytes_eq method (codes "GET") || bytes_eq method (codes "HEAD")

-- Fields of a form or a query

abbrev pub Pairs : Type 0
Pairs = List (Bytes × Bytes)

-- names and values; what is no UTF-8 becomes U+FFFD
abbrev pub decoded : Bytes → Bytes
decoded bytes = utf8_lossy (decode bytes)

abbrev pub pairs_in : Bytes → Pairs
pairs_in bytes = map (λ (name, value). (decoded name, decoded value)) (raw_pairs bytes)

abbrev pub named : Bytes → Pairs → List Bytes
named name pairs = map (λ p. p.1) (filter (λ p. bytes_eq p.0 name) pairs)

abbrev pub stands_once : Bytes → Pairs → Bool
stands_once name pairs = length (named name pairs) == 1

abbrev pub value_of : Bytes → Pairs → Bytes
value_of name pairs = unwrap_or (first_of_list (named name pairs)) []

-- Titles

abbrev pub if_title : Result Title TitleRefusal → Option Title
if_title (Ok title) = Some title
if_title (Err refusal) = None

abbrev pub is_some : {A : Type 0} → Option A → Bool
is_some None = false
is_some (Some a) = true

abbrev pub is_title : Bytes → Bool
is_title text = is_some (if_title (title_of text))

-- the title that a text names; only asked if it names one
abbrev pub the_title : Bytes → Title
the_title text = unwrap_or (if_title (title_of text)) []

-- Calls

abbrev pub page_call : (rest : Bytes) → Result Call Fault
page_call rest =
    let text = percent_decode rest in
    if is_utf8 text && is_title text then Ok (PageCall (the_title text)) else Err BadTitle

abbrev pub is_base : Bytes → Bool
is_base text = are_digits 19 text && nat_lt (number_in text) number_limit

abbrev pub base_in : Bytes → Option ℕ
base_in text = if is_base text then Some (number_in text) else None

-- the one text of a list that has one
abbrev pub only : List Bytes → Option Bytes
only (x ∷ []) = Some x
only texts = None

-- the values of a name in what is left of a form, and the value of one pair
abbrev pub named_raw : Bytes → List (Bytes × Bytes) → List Bytes
named_raw name raws = named name (map (λ (name, value). (decoded name, decoded value)) raws)

abbrev pub if_named : (name own value : Bytes) → List Bytes
if_named name own value = if bytes_eq own name then value ∷ [] else []

-- a text as it is stored; one that is too long is refused last
abbrev pub edit_text : (title : Bytes) (base : ℕ) (token text : Bytes) → Result Call Fault
edit_text title base token text =
    if nat_lt text_max (length text) then Err (LargeText (length text)) else Ok (EditCall title base token text)

abbrev pub edit_fields : (title : Bytes) → (base token text : Option Bytes) → Result Call Fault
edit_fields title (Some base) (Some token) (Some text) =
    if is_base base && is_token token then edit_text title (number_in base) token (with_line_feeds text)
    else Err BadField
edit_fields title _ _ _ = Err BadField

-- if there is not one title, all of them are tested
abbrev pub edit_titled : (title : Option Bytes) (all : Bool) (bases tokens texts : List Bytes) → Result Call Fault
edit_titled (Some title) all bases tokens texts =
    if is_title title then edit_fields (the_title title) (only bases) (only tokens) (only texts) else Err BadTitle
edit_titled None all bases tokens texts = if all then Err BadField else Err BadTitle

abbrev pub edit_with : (titles bases tokens texts : List Bytes) → Result Call Fault
edit_with titles bases tokens texts = edit_titled (only titles) (list_all is_title titles) bases tokens texts

abbrev pub edit_call : Pairs → Result Call Fault
edit_call form =
    edit_with (named (codes "title") form) (named (codes "base") form)
    (named (codes "token") form) (named (codes "text") form)

-- the texts between the bars
abbrev pub batch_texts : Pairs → List Bytes
batch_texts query = flat_map (pieces 124) (named (codes "titles") query)

-- a batch has one to `jobs_max` titles
abbrev pub batch_with : (once : Bool) (texts : List Bytes) → Result Call Fault
batch_with once texts =
    if list_all is_title texts then
    (if once && nat_le (length texts) jobs_max then Ok (BatchCall (map the_title texts)) else Err BadField)
    else Err BadTitle

abbrev pub batch_call : Pairs → Result Call Fault
batch_call query = batch_with (stands_once (codes "titles") query) (batch_texts query)

-- the number from which a linked wiki is asked for entries
abbrev pub is_from : Pairs → Bool
is_from query =
    stands_once (codes "from") query && is_base (value_of (codes "from") query)
    && nat_lt 0 (number_in (value_of (codes "from") query))

abbrev pub from_call : (ℕ → Call) → Pairs → Result Call Fault
from_call call query =
    if is_from query then Ok (call (number_in (value_of (codes "from") query))) else Err BadField

abbrev pub call_of_route : Route → (query body : Bytes) → Result Call Fault
call_of_route (PageRoute rest) query body = page_call rest
call_of_route EditRoute query body = edit_call (pairs_in body)
call_of_route BatchRoute query body = batch_call (pairs_in query)
call_of_route FeedRoute query body = from_call FeedCall (pairs_in query)
call_of_route MessagesRoute query body = from_call MessagesCall (pairs_in query)

abbrev pub call_on : Option Route → (method query body : Bytes) → Result Call Fault
call_on None method query body = Err NoRoute
call_on (Some route) method query body =
    if has_method route method then call_of_route route query body else Err (WrongMethod (takes_post route))

-- what a method, a target and a whole body ask for, or the first refusal that they give
abbrev pub call_in : (linked : Bool) → (method target body : Bytes) → Result Call Fault
call_in linked method target body =
    if begins (codes "/") target then call_on (route_of linked (path_of target)) method (query_of target) body
    else Err BadTarget

abbrev pub call_of : (linked : Bool) → Head → (body : Bytes) → Result Call Fault
call_of linked h body = call_in linked h.method h.target body

abbrev pub request_of : Head → Call → Request
request_of h call = record {
  get = bytes_eq h.method (codes "GET");
  head = is_head_method h;
  close = asks_to_close h;
  host = first_value (codes "host") h.fields;
  agent = first_value (codes "user-agent") h.fields;
  cookies = cookies_of h;
  call = call;
}
