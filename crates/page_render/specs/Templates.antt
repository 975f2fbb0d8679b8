-- The template pages in title order, and the titles that are looked for.
use Rattle.std.specs.Prelude.{ℕ, ◌∷◌, ◌++◌, ◌+◌, ◌<◌, ◌≡◌, length, get_or, Option, option_and_then}
use Rattle.std.specs.BTreeMap.{BTreeMap, get}
use Rattle.std.specs.declared.cmp.Ordering.TheVariants.{Less}
use Rattle.wiki_titles.specs.Order.{bytes_cmp}
use Rattle.wiki_model.specs.Bytes.{Bytes}
use Rattle.wiki_model.specs.Titles.{Title, Text, template_prefix}
use Rattle.wiki_model.specs.Html.{template_named}
use Rattle.page_render.specs.AsModel.{Pairs, template_text}
use Rattle.page_render.specs.declared.templates.Wanted.{Wanted}
use Rattle.page_render.specs.declared.templates.Wanted.TheVariants.{Whole, After}

-- each title is below the next
abbrev pub IsRising : Pairs → Type 0
IsRising pairs =
    (i : ℕ) (d : Bytes × Bytes) → i + 1 < length pairs
    → bytes_cmp (get_or pairs i d).0 (get_or pairs (i + 1) d).0 ≡ Less

-- each title has the same text in both
abbrev pub HasSameTexts : (one other : Pairs) → Type 0
HasSameTexts one other = (title : Title) → template_text one title ≡ template_text other title

-- the map has each title's text
abbrev pub IsMapOf : BTreeMap Title Text → Pairs → Type 0
IsMapOf map pairs = (title : Title) → get bytes_cmp map title ≡ template_text pairs title

-- the text of the template that a text between braces names
abbrev pub text_named : Pairs → Bytes → Option Text
text_named pairs name = option_and_then (template_text pairs) (template_named name)

-- the title that is looked for
abbrev pub title_wanted : Wanted → Title
title_wanted (Whole title) = title.now
title_wanted (After first rest) = template_prefix ++ (first ∷ rest.now)
