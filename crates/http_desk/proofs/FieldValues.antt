-- The values of a name, span by span.
use Rattle.std.proofs.Common.{◌≡◌, ◌≤◌, ◌<◌, ℕ, ◌+◌, List, [], ◌∷◌, length, get_or, refl, Some, None}
use Rattle.std.proofs.lemmas.List.{drop_more, drop_all}
use Rattle.httparse.specs.declared.spans.HeaderSpan.{HeaderSpan}
use Rattle.httparse.specs.Spans.{header_bytes}
use Rattle.wiki_model.specs.Bytes.{Bytes}
use Rattle.http_desk.specs.Heads.{value_if, values_from}

pub value_none : (buf : Bytes) (headers : List HeaderSpan) (at : ℕ) (d : HeaderSpan) (name : Bytes) → at < length headers → value_if name (header_bytes buf (get_or headers at d)) ≡ None
    → values_from buf headers at name ≡ values_from buf headers (at + 1) name
value_none buf headers at d name small e = rw (drop_more headers at d small, e) refl

pub value_some : (buf : Bytes) (headers : List HeaderSpan) (at : ℕ) (d : HeaderSpan) (name value : Bytes) → at < length headers → value_if name (header_bytes buf (get_or headers at d)) ≡ Some value
    → values_from buf headers at name ≡ value ∷ values_from buf headers (at + 1) name
value_some buf headers at d name value small e = rw (drop_more headers at d small, e) refl

pub value_end : (buf : Bytes) (headers : List HeaderSpan) (at : ℕ) (name : Bytes) → length headers ≤ at → values_from buf headers at name ≡ []
value_end buf headers at name all = rw (drop_all at headers all) refl
