-- The marks that can be used in a text, at each of its places.
use Rattle.std.specs.Prelude.{ℕ, suc, ◌+◌, ◌≤◌, ◌≡◌, List, [], ◌∷◌, ◌++◌, length, drop, Option, Some, None, if◌then◌else◌, codes}
use Rattle.wiki_model.specs.Bytes.{Bytes, begins}
use Rattle.wiki_model.specs.Titles.{Title, title_of}
use Rattle.wiki_model.specs.Html.{enclosed, bracketed, target_and_label, ok_of, template_named}
use Rattle.page_markup.specs.declared.inline.Mark.{Mark}
use Rattle.page_markup.specs.declared.brackets.Names.{Names}
use Rattle.page_markup.specs.declared.brackets.Names.TheVariants.{Links, Templates}
use Rattle.page_markup.specs.declared.closing_places.ClosingPlaces.{ClosingPlaces}

abbrev pub link_target : Bytes → Option Title
link_target inner = ok_of (title_of (target_and_label inner).0)

abbrev pub mark_with : (rule at opening : ℕ) (inner : Bytes) (title : Option Title) → Mark
mark_with rule at opening inner title = record {
  place = at;
  rule = rule;
  close = at + opening + length inner;
  title = title;
}

-- a pair of quotes round a text that is not empty
abbrev pub quote_marks_of : (rule at opening : ℕ) → Option (Bytes × Bytes) → List Mark
quote_marks_of rule at opening None = []
quote_marks_of rule at opening (Some p) = mark_with rule at opening p.0 None ∷ []

abbrev pub quote_marks : (rule : ℕ) (mark : Bytes) (at : ℕ) (text : Bytes) → List Mark
quote_marks rule mark at text = quote_marks_of rule at (length mark) (enclosed mark text)

-- the title that a text between brackets names
abbrev pub named_by : Names → Bytes → Option Title
named_by Links inner = link_target inner
named_by Templates inner = template_named inner

abbrev pub rule_of : Names → ℕ
rule_of Links = 4
rule_of Templates = 5

abbrev pub opening_of : Names → Bytes
opening_of Links = codes "[["
opening_of Templates = codes "{{"

abbrev pub closing_of : Names → Bytes
closing_of Links = codes "]]"
closing_of Templates = codes "}}"

-- brackets round a text that names a title
abbrev pub named_marks_of : (rule at : ℕ) (inner : Bytes) → Option Title → List Mark
named_marks_of rule at inner None = []
named_marks_of rule at inner (Some title) = mark_with rule at 2 inner (Some title) ∷ []

abbrev pub bracket_marks_of : (rule at : ℕ) (named : Bytes → Option Title) → Option (Bytes × Bytes) → List Mark
bracket_marks_of rule at named None = []
bracket_marks_of rule at named (Some p) = named_marks_of rule at p.0 (named p.0)

abbrev pub bracket_marks :
    (rule : ℕ) (opening closing : Bytes) (named : Bytes → Option Title) (at : ℕ) (text : Bytes) → List Mark
bracket_marks rule opening closing named at text = bracket_marks_of rule at named (bracketed opening closing text)

-- the mark of such brackets at a place of a text, if one can be used there
abbrev pub bracket_marks_at : Names → (at : ℕ) → (text : Bytes) → List Mark
bracket_marks_at names at text =
    bracket_marks (rule_of names) (opening_of names) (closing_of names) (named_by names) at (drop at text)

-- the marks of quotes at a place, longer quotes first
abbrev pub all_quotes : (at : ℕ) (text : Bytes) → List Mark
all_quotes at text =
    quote_marks 1 (codes "'''''") at text ++ (quote_marks 2 (codes "'''") at text ++ quote_marks 3 (codes "''") at text)

abbrev pub marks_here : (at : ℕ) (text : Bytes) → List Mark
marks_here at text =
    all_quotes at text
    ++ (bracket_marks 4 (codes "[[") (codes "]]") link_target at text
    ++ bracket_marks 5 (codes "{{") (codes "}}") template_named at text)

-- the marks of a text that stands at this place, in order of place and then of rule
abbrev pub marks_from : (at : ℕ) (text : Bytes) → List Mark
marks_from at [] = []
marks_from at (c ∷ rest) = marks_here at (c ∷ rest) ++ marks_from (suc at) rest

-- how many bytes stand before the first place where the mark stands; all of them where there is none
abbrev pub distance : (mark text : Bytes) → ℕ
distance mark [] = 0
distance mark (c ∷ text) = if begins mark (c ∷ text) then 0 else suc (distance mark text)

-- the first place at or after this one where the mark stands, or the text's end
abbrev pub next_place : (mark : Bytes) (from : ℕ) (text : Bytes) → ℕ
next_place mark from text = from + distance mark (drop from text)

-- the place is that of the mark, unless it lies behind
abbrev pub Remembers : (mark text : Bytes) (from place : ℕ) → Type 0
Remembers mark text from place = from ≤ place → place ≡ next_place mark from text

-- what is remembered at a place: the next place of each closing mark that may be asked for there
pub record IsKnown (text : Bytes) (at : ℕ) (known : ClosingPlaces) : Type 0 where
  pub five : Remembers (codes "'''''") text (at + 6) known.five
  pub three : Remembers (codes "'''") text (at + 4) known.three
  pub two : Remembers (codes "''") text (at + 3) known.two
  pub brackets : Remembers (codes "]]") text (at + 2) known.brackets
  pub braces : Remembers (codes "}}") text (at + 2) known.braces
