-- The HTML of a link.
use Rattle.std.specs.Prelude.{ℕ, Bool, ◌++◌, ◌==◌, ◌||◌, codes}
use Rattle.std.specs.List.{list_any}
use Rattle.wiki_model.specs.Bytes.{Bytes}
use Rattle.wiki_model.specs.Titles.{Title, is_digit, is_letter, url_of}
use Rattle.wiki_model.specs.Html.{element, escaped, target_and_label}

-- the tag that leads to a title
abbrev pub link_opening : Title → Bytes
link_opening title = codes "<a href=\"/wiki/" ++ url_of title ++ codes "\">"

-- what is shown for a link whose brackets enclose this text
abbrev pub label_html : (inner : Bytes) → Bytes
label_html inner = escaped (target_and_label inner).1

abbrev pub link_html : Title → (inner : Bytes) → Bytes
link_html title inner = element (link_opening title) (codes "</a>") (label_html inner)

-- this byte of a title stands in a path as it is
abbrev pub is_plain : ℕ → Bool
is_plain c = is_letter c || is_digit c || list_any (λ plain. plain == c) (codes "-._~/:")
