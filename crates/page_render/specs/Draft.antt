-- A page on its way, and what is written next.
use Rattle.std.specs.Prelude.{ℕ, ◌≡◌, ◌+◌, ◌++◌}
use Rattle.page_markup.specs.ClosingPlaces.{between}
use Rattle.wiki_model.specs.Bytes.{Bytes}
use Rattle.wiki_model.specs.Html.{Reader, Reading, inline}
use Rattle.page_render.specs.AsModel.{Pairs, template_text}

pub record Draft : Type 0 where
  -- the page's bytes so far
  pub html : Bytes
  -- how many bytes of templates it has included
  pub included : ℕ
  -- the template pages that it may include
  pub templates : Pairs

-- with these bytes at its end
abbrev pub put : Draft → Bytes → Draft
put d bytes = record { html = d.html ++ bytes; included = d.included; templates = d.templates }

-- with so many more bytes included
abbrev pub including : Draft → ℕ → Draft
including d bytes = record { html = d.html; included = d.included + bytes; templates = d.templates }

-- with what was read at its end
abbrev pub then_reads : Draft → Reading → Draft
then_reads d reading = record { html = d.html ++ reading.html; included = reading.included; templates = d.templates }

-- how a text is read in which templates nest to this depth
abbrev pub reader : Draft → (depth : ℕ) → Reader
reader d depth = inline (template_text d.templates) depth

-- what a text is read as, next
abbrev pub reads : Draft → (depth : ℕ) → Bytes → Reading
reads d depth text = reader d depth d.included text

-- with a text at its end
abbrev pub with_text : Draft → (depth : ℕ) → Bytes → Draft
with_text d depth text = then_reads d (reads d depth text)

-- of the text from one place to the end, what stands before the next place was written
abbrev pub IsWritten : (old new : Draft) → (depth at next to : ℕ) → Bytes → Type 0
IsWritten old new depth at next to text =
    with_text new depth (between next to text) ≡ with_text old depth (between at to text)
