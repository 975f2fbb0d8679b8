-- What a line of a text is, as the code holds it.
use Rattle.std.specs.Prelude.{ℕ, ◌≤◌, ◌≡◌, length}
use Rattle.wiki_model.specs.Bytes.{Bytes}
use Rattle.wiki_model.specs.Html.{line_of, Blank, HeadingLine, ItemLine, PlainLine}
use Rattle.page_markup.specs.declared.line.Line.{Line}
use Rattle.page_markup.specs.declared.line.Line.TheVariants as lines

abbrev pub IsLine : Bytes → Line → Type 0
IsLine line lines.Blank = line_of line ≡ Blank
IsLine line (lines.Heading level middle) = line_of line ≡ HeadingLine level middle.now
IsLine line (lines.Item text) = line_of line ≡ ItemLine text.now
IsLine line lines.Plain = line_of line ≡ PlainLine line

-- the texts in the line have at most this many bytes
abbrev pub IsShort : (bytes : ℕ) → Line → Type 0
IsShort bytes lines.Blank = Unit {0}
IsShort bytes (lines.Heading level middle) = length middle.now ≤ bytes
IsShort bytes (lines.Item text) = length text.now ≤ bytes
IsShort bytes lines.Plain = Unit {0}
