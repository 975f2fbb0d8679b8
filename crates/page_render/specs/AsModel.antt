-- What stands for the model's template pages in this crate: a list of titles with their texts.
use Rattle.std.specs.Prelude.{ℕ, List, [], ◌∷◌, Option, None, Some, if◌then◌else◌}
use Rattle.std.specs.Str.{bytes_eq}
use Rattle.wiki_model.specs.Bytes.{Bytes}
use Rattle.wiki_model.specs.Titles.{Text, Title}
use Rattle.wiki_model.specs.Html.{Templates, page_html}

abbrev pub Pairs : Type 0
Pairs = List (Bytes × Bytes)

-- the texts of the template pages that are there; of pages with one title the first counts
abbrev pub template_text : Pairs → Templates
template_text [] title = None
template_text (p ∷ pairs) title = if bytes_eq p.0 title then Some p.1 else template_text pairs title

-- the page that is rendered from these template pages
abbrev pub page_from : (markup : ℕ) → Title → Text → Pairs → (notice : Option Text) → Bytes
page_from markup title text pairs notice = page_html markup title text (template_text pairs) notice
