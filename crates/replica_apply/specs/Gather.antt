-- Template pages on the way into a snapshot: what a step takes of those that are named, and what is taken after so many
-- stages.
use Rattle.std.specs.Prelude.{ℕ, ◌≡◌, ◌⊎◌, List, Some}
use Rattle.std.specs.List.{Contains}
use Rattle.std.specs.BTreeMap.{BTreeMap}
use Rattle.wiki_model.specs.Bytes.{Bytes}
use Rattle.wiki_model.specs.Limits.{nesting_max}
use Rattle.wiki_model.specs.Titles.{Title, Text}
use Rattle.wiki_model.specs.Html.{Templates}
use Rattle.page_markup.specs.Names.{names_from}
use Rattle.replica_apply.specs.Replica.{page_at}
use Rattle.replica_apply.specs.Reached.{Reached, in_line}

abbrev pub IsPart : (pages taken : Templates) → Type 0
IsPart pages taken = (name : Title) (text : Text) → taken name ≡ Some text → pages name ≡ Some text

-- the text of some page that is taken
abbrev pub IsTaken : (taken : Templates) → Text → Type 0
IsTaken taken text = (name : Title) × (taken name ≡ Some text)

-- Of the titles that are named the pages that are there are taken, and the texts of those that were not taken before
-- are listed.
pub record Gathers (pages old new : Templates) (before after : List Text) (named : Title → Type 0) : Type 0 where
  pub there : IsPart pages new
  pub stays : (name : Title) (text : Text) → old name ≡ Some text → new name ≡ Some text
  pub all : (name : Title) (text : Text) → named name → pages name ≡ Some text → new name ≡ Some text
  pub only : (name : Title) (text : Text) → new name ≡ Some text → (old name ≡ Some text) ⊎ named name
  pub lists : (name : Title) (text : Text) → new name ≡ Some text → (old name ≡ Some text) ⊎ Contains after text
  pub keeps : (text : Text) → Contains before text → Contains after text
  pub fresh : (text : Text) → Contains after text → Contains before text ⊎ IsTaken new text

-- the same of maps
abbrev pub GathersInto : (pages old new : BTreeMap Title Text) → (before after : List Text) → (named : Title → Type 0)
    → Type 0
GathersInto pages old new before after named = Gathers (page_at pages) (page_at old) (page_at new) before after named

-- named by one of the texts, read in one line
pub record IsNamedBy (texts : List Text) (name : Title) : Type 0 where
  pub text : Text
  pub one : Contains texts text
  pub named : Contains (names_from (in_line text)) name

-- What is taken after so many stages, and the texts whose names were not read yet.
pub record IsStage (pages : Templates) (text : Bytes) (stages : ℕ) (taken : Templates)
    (unread : List Text) : Type 0 where
  pub sound : (name : Title) (inner : Text) → taken name ≡ Some inner → Reached pages stages text name
      × (pages name ≡ Some inner)
  pub whole : (name : Title) (inner : Text) → Reached pages stages text name → pages name ≡ Some inner
      → taken name ≡ Some inner
  pub unread_ones : (inner : Text) → Contains unread inner → IsTaken taken inner
  pub others : (via : Title) (inner : Text) → taken via ≡ Some inner
      → Contains unread inner ⊎ ((name : Title) (more : Text) → Contains (names_from (in_line inner)) name
      → pages name ≡ Some more → taken name ≡ Some more)

abbrev pub IsGathered : (pages : Templates) (text : Bytes) (taken : Templates) → Type 0
IsGathered pages text taken = (unread : List Text) × IsStage pages text nesting_max taken unread
