-- The templates that a text names, one for each place where its braces name one.
use Rattle.std.specs.Prelude.{ℕ, Bool, List, [], ◌∷◌, ◌++◌, length, Option, Some, None, option_and_then, codes, ◌↔◌, ◌&&◌, ◌||◌, nat_lt, nat_le}
use Rattle.std.specs.List.{All, Contains, list_all}
use Rattle.std.specs.List.Sorted.{IsStrictlySortedBy}
use Rattle.wiki_titles.specs.Order.{bytes_cmp}
use Rattle.wiki_model.specs.Bytes.{Bytes, line_feed, replaced, space}
use Rattle.wiki_model.specs.Titles.{Title, is_letter, is_digit}
use Rattle.wiki_model.specs.Html.{bracketed, template_named}
use Rattle.page_markup.specs.declared.collect_names.Lines.{Lines}
use Rattle.page_markup.specs.declared.collect_names.Lines.TheVariants.{Kept, AsSpaces}
use Rattle.page_markup.specs.declared.collect_names.Span.{Span}
use Rattle.page_markup.specs.ClosingPlaces.{between}

abbrev pub listed : Option Title → List Title
listed None = []
listed (Some title) = title ∷ []

-- the template that a text which begins with braces names
abbrev pub name_here : Bytes → List Title
name_here text = listed (option_and_then (λ p. template_named p.0) (bracketed (codes "{{") (codes "}}") text))

abbrev pub names_from : Bytes → List Title
names_from [] = []
names_from (c ∷ rest) = name_here (c ∷ rest) ++ names_from rest

-- the same titles, each below those after it
pub record AreNames (named names : List Title) : Type 0 where
  pub sorted : IsStrictlySortedBy bytes_cmp names
  pub same : (title : Title) → Contains names title ↔ Contains named title

-- a text as it is read
abbrev pub read_as : Lines → Bytes → Bytes
read_as Kept text = text
read_as AsSpaces text = replaced line_feed space text

-- the title that a text between braces names
abbrev pub named_between : Lines → Bytes → List Title
named_between lines name = listed (template_named (read_as lines name))

-- the titles are those before and these more
abbrev pub AddsNames : (old new more : List Title) → Type 0
AddsNames old new more = (title : Title) → Contains new title ↔ Contains (old ++ more) title

-- what is named at each of these places is among the titles
abbrev pub IsRecent : Lines → (text : Bytes) → List Title → Span → Type 0
IsRecent lines text titles span =
    (title : Title) → Contains (named_between lines (between span.start span.end text)) title → Contains titles title

-- a place at which nothing is named
abbrev pub nothing : Span
nothing = record { start = 0; end = 0 }

abbrev pub AreRecent : Lines → (text : Bytes) → List Title → List Span → Type 0
AreRecent lines text titles spans = All (IsRecent lines text titles) spans

-- a name of bytes and digits alone, which is short enough for the title of a template
abbrev pub is_word : ℕ → Bool
is_word c = is_letter c || is_digit c

abbrev pub is_plain : Bytes → Bool
is_plain name = nat_lt 0 (length name) && nat_le (length name) 246 && list_all is_word name
