-- A text in one line, as the code holds it.
use Rattle.std.specs.String.{string_bytes}
use Rattle.std.specs.Prelude.{◌++◌}
use Rattle.wiki_model.specs.Bytes.{Bytes, line_feed, replaced, space}
use Rattle.page_markup.specs.declared.one_line.OneLine.{OneLine}
use Rattle.page_markup.specs.declared.one_line.OneLine.TheVariants.{Same, Spaced}

abbrev pub line_text : OneLine → Bytes
line_text (Same text) = text.now
line_text (Spaced text) = string_bytes text

-- what is made so far, with the rest of the text in one line
abbrev pub with_rest : (made rest : Bytes) → Bytes
with_rest made rest = made ++ replaced line_feed space rest
