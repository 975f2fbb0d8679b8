-- The tree of a text: its blocks, and the marks of each text inside them.
use Rattle.std.specs.Prelude.{List, [], ◌∷◌, map}
use Rattle.wiki_model.specs.Bytes.{Bytes, pieces, line_feed}
use Rattle.wiki_model.specs.Titles.{Text}
use Rattle.wiki_model.specs.Html.{Gap, Items, blocks_of, line_of}
use Rattle.wiki_model.specs.Html as html
use Rattle.page_markup.specs.Mark.{marks_from}
use Rattle.page_markup.specs.declared.inline.Inline.{Inline}
use Rattle.page_markup.specs.declared.tree.Block.{Block}
use Rattle.page_markup.specs.declared.tree.BlockKind.TheVariants.{Heading, List as ListOf, Paragraph}
use Rattle.page_markup.specs.declared.tree.Tree.{Tree}

abbrev pub inline_of : Bytes → Inline
inline_of text = record { text = text; marks = marks_from 0 text }

-- a heading and a paragraph have one part, and a list has one for each item
abbrev pub block_of : html.Block → List Block → List Block
block_of Gap blocks = blocks
block_of (html.Heading level text) blocks = record { kind = Heading level; parts = inline_of text ∷ [] } ∷ blocks
block_of (Items texts) blocks = record { kind = ListOf; parts = map inline_of texts } ∷ blocks
block_of (html.Paragraph text) blocks = record { kind = Paragraph; parts = inline_of text ∷ [] } ∷ blocks

-- the blocks of a page's text, without the gaps between them
abbrev pub tree_blocks : List html.Block → List Block
tree_blocks [] = []
tree_blocks (block ∷ blocks) = block_of block (tree_blocks blocks)

abbrev pub tree_from : Bytes → List Block
tree_from text = tree_blocks (blocks_of (map line_of (pieces line_feed text)))

abbrev pub tree_of : Text → Tree
tree_of text = record { blocks = tree_from text }
