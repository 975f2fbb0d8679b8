-- The template pages that a text reaches, and their list in a snapshot.
use Rattle.std.specs.Prelude.{ℕ, zero, suc, ◌≡◌, ◌⊎◌, ◌↔◌, List, [], Option, None, Some}
use Rattle.std.specs.List.{Contains}
use Rattle.std.specs.List.Sorted.{IsStrictlySortedBy}
use Rattle.std.specs.Map.{keys_of}
use Rattle.wiki_titles.specs.Order.{bytes_cmp}
use Rattle.wiki_model.specs.Bytes.{Bytes, replaced, line_feed, space}
use Rattle.wiki_model.specs.Limits.{nesting_max}
use Rattle.wiki_model.specs.Titles.{Title, Text}
use Rattle.wiki_model.specs.Html.{Templates}
use Rattle.page_markup.specs.Names.{names_from}

-- an included text is read in one line
abbrev pub in_line : Text → Bytes
in_line text = replaced line_feed space text

-- The text names the template, or names one whose text reaches it in one stage less.
abbrev pub Reached : (pages : Templates) → (stages : ℕ) → Bytes → Title → Type 0
Reached pages zero text title = ⊥
Reached pages (suc stages) text title =
    Contains (names_from text) title
    ⊎ ((via : Title) × (inner : Text) × Contains (names_from text) via × (pages via ≡ Some inner)
    × Reached pages stages (in_line inner) title)

-- these pages, each below those after it
pub record IsListOf (pages : Templates) (list : List (Title × Text)) : Type 0 where
  pub sorted : IsStrictlySortedBy bytes_cmp (keys_of list)
  pub same : (name : Title) (inner : Text) → Contains list (name, inner) ↔ (pages name ≡ Some inner)

-- the pages that are there of the templates that a text reaches, in title order
pub record AreTemplates (pages : Templates) (stages : ℕ) (text : Bytes) (templates : List (Title × Text)) : Type 0 where
  pub sorted : IsStrictlySortedBy bytes_cmp (keys_of templates)
  pub same : (name : Title) (inner : Text) → Contains templates (name, inner)
      ↔ (Reached pages stages text name × (pages name ≡ Some inner))

-- templates nest only so deep
abbrev pub AreTemplatesOf : (pages : Templates) → (page : Option Text) → List (Title × Text) → Type 0
AreTemplatesOf pages None templates = templates ≡ []
AreTemplatesOf pages (Some text) templates = AreTemplates pages nesting_max text templates
