-- What a request's head says: its fields, the length of its body, and the refusals that need no body.
use Rattle.std.specs.Prelude.{ℕ, Bool, not, ◌==◌, ◌&&◌, ◌||◌, if◌then◌else◌, List, [], ◌∷◌, ◌++◌, length, take, drop, flat_map, map, filter_map, All, Option, Some, None, codes, nat_lt, nat_le, bytes_eq, unwrap_or}
use Rattle.std.specs.List.{list_all, list_any}
use Rattle.std.specs.Str.{is_utf8, str_eq_ignore_ascii_case}
use Rattle.httparse.specs.declared.spans.HeaderSpan.{HeaderSpan}
use Rattle.httparse.specs.declared.spans.RequestSpans.{RequestSpans}
use Rattle.httparse.specs.Grammar.{RequestHead}
use Rattle.httparse.specs.Spans.{IsHeaderWithin, span_bytes, header_bytes, name_and_value}
use Rattle.wiki_model.specs.Bytes.{Bytes, first_of_list}
use Rattle.wiki_model.specs.Limits.{body_max}
use Rattle.wiki_model.specs.Cookies.{Cookies, cookies_in, are_digits, number_in}
use Rattle.wiki_model.specs.Asking.{Fault, Transfer, BadHost, BadLength, LargeBody}

-- what a head says
pub record Head : Type 0 where
  pub method : Bytes
  pub target : Bytes
  pub minor : ℕ
  -- names and values
  pub fields : List (Bytes × Bytes)

abbrev pub said_by : RequestHead → Head
said_by h = record {
  method = h.method;
  target = h.target;
  minor = h.minor;
  fields = map name_and_value h.fields;
}

-- what the spans say
abbrev pub said_at : (buf : Bytes) → List HeaderSpan → RequestSpans → Head
said_at buf headers r = record {
  method = span_bytes buf r.method;
  target = span_bytes buf r.path;
  minor = r.version;
  fields = map (header_bytes buf) (take r.headers headers);
}

abbrev pub Fields : Type 0
Fields = List (Bytes × Bytes)

-- the fields that lie where the spans say, and that each lies within the bytes
abbrev pub fields_of : (buf : Bytes) → List HeaderSpan → Fields
fields_of buf headers = map (header_bytes buf) headers

abbrev pub AreWithin : (buf : Bytes) → List HeaderSpan → Type 0
AreWithin buf headers = All (IsHeaderWithin (length buf)) headers

-- the values of the fields of this name, in any ASCII case
abbrev pub value_if : (name : Bytes) → Bytes × Bytes → Option Bytes
value_if name field = if str_eq_ignore_ascii_case field.0 name then Some field.1 else None

abbrev pub values : (name : Bytes) → Fields → List Bytes
values name fields = filter_map (value_if name) fields

-- the same of the spans from a place on
abbrev pub values_from : (buf : Bytes) → List HeaderSpan → (at : ℕ) → (name : Bytes) → List Bytes
values_from buf headers at name = values name (map (header_bytes buf) (drop at headers))

abbrev pub has_field : (name : Bytes) → Fields → Bool
has_field name fields = not (length (values name fields) == 0)

abbrev pub are_text : (name : Bytes) → Fields → Bool
are_text name fields = list_all is_utf8 (values name fields)

-- version 1.1 has one host, version 1.0 at most one
abbrev pub has_good_host : (minor : ℕ) → Fields → Bool
has_good_host minor fields =
    nat_le (length (values (codes "host") fields)) 1 && (nat_lt minor 1 || has_field (codes "host") fields)

abbrev pub are_texts : Fields → Bool
are_texts fields =
    are_text (codes "host") fields && are_text (codes "cookie") fields && are_text (codes "user-agent") fields

-- the lengths that a head gives for its body; each has 1 to 15 digits, and they are one number
abbrev pub length_name : Bytes
length_name = codes "content-length"

abbrev pub length_in : List Bytes → ℕ
length_in lengths = unwrap_or (first_of_list (map number_in lengths)) 0

abbrev pub is_length : (number : ℕ) → Bytes → Bool
is_length number value = are_digits 15 value && (number_in value == number)

abbrev pub are_lengths : List Bytes → Bool
are_lengths lengths = list_all (is_length (length_in lengths)) lengths

-- the length that a head gives, if it gives one
abbrev pub declared_length : List Bytes → Option ℕ
declared_length lengths = if are_lengths lengths then Some (length_in lengths) else None

abbrev pub length_fault : Option ℕ → Option Fault
length_fault None = Some BadLength
length_fault (Some n) = if nat_lt body_max n then Some (LargeBody n) else None

-- the first refusal that the head alone gives
abbrev pub fault_in : (minor : ℕ) → Fields → Option Fault
fault_in minor fields =
    if has_field (codes "transfer-encoding") fields then Some Transfer
    else (if not (has_good_host minor fields && are_texts fields) then Some BadHost
    else length_fault (declared_length (values length_name fields)))

abbrev pub head_fault : Head → Option Fault
head_fault h = fault_in h.minor h.fields

abbrev pub body_length : Head → ℕ
body_length h = length_in (values length_name h.fields)

-- the request asks to close the connection
abbrev pub closes : List Bytes → Bool
closes values = list_any (λ value. str_eq_ignore_ascii_case value (codes "close")) values

abbrev pub asks_to_close : Head → Bool
asks_to_close h = (h.minor == 0) || closes (values (codes "connection") h.fields)

abbrev pub is_head_method : Head → Bool
is_head_method h = bytes_eq h.method (codes "HEAD")

-- the first value of a field, or nothing
abbrev pub first_value : (name : Bytes) → Fields → Bytes
first_value name fields = unwrap_or (first_of_list (values name fields)) []

-- several fields of cookies are one, with `; ` between them
abbrev pub after_first : List Bytes → Bytes
after_first values = flat_map (λ value. codes "; " ++ value) values

abbrev pub joined : List Bytes → Bytes
joined [] = []
joined (value ∷ values) = value ++ after_first values

abbrev pub cookies_of : Head → Cookies
cookies_of h = cookies_in (joined (values (codes "cookie") h.fields))
