-- A list or a paragraph whose first lines are read: the lines that follow may go on with it.
use Rattle.std.specs.Prelude.{ℕ, ◌≡◌, ◌+◌, List, [], ◌∷◌, ◌++◌, drop, map}
use Rattle.page_markup.specs.ClosingPlaces.{between}
use Rattle.wiki_model.specs.Bytes.{Bytes, pieces, line_feed}
use Rattle.wiki_model.specs.Html.{Items, blocks_of, line_of}
use Rattle.wiki_model.specs.Html as html
use Rattle.page_markup.specs.declared.tree.Block.{Block}
use Rattle.page_markup.specs.declared.tree.BlockKind.TheVariants.{List as ListOf, Paragraph}
use Rattle.page_markup.specs.declared.inline.Inline.{Inline}
use Rattle.page_markup.specs.Tree.{inline_of, tree_blocks, tree_from}

-- the blocks of the lines of a text, with its gaps
abbrev pub lines_from : Bytes → List html.Block
lines_from text = blocks_of (map line_of (pieces line_feed text))

abbrev pub list_block : List Inline → Block
list_block parts = record { kind = ListOf; parts = parts }

abbrev pub paragraph_block : Bytes → Block
paragraph_block text = record { kind = Paragraph; parts = inline_of text ∷ [] }

-- the tree of a list's first items and of the blocks after them
abbrev pub items_then : List Inline → List html.Block → List Block
items_then parts (Items texts ∷ blocks) = list_block (parts ++ map inline_of texts) ∷ tree_blocks blocks
items_then parts blocks = list_block parts ∷ tree_blocks blocks

-- the tree of a paragraph's first lines and of the blocks after them
abbrev pub paragraph_then : Bytes → List html.Block → List Block
paragraph_then text (html.Paragraph more ∷ blocks) = paragraph_block (text ++ line_feed ∷ more) ∷ tree_blocks blocks
paragraph_then text blocks = paragraph_block text ∷ tree_blocks blocks

-- after the line that ends at `end` stand the other items of a list, whose last line ends at `last`
abbrev pub AreItemsRead : (old new : List Inline) → (end last : ℕ) → Bytes → Type 0
AreItemsRead old new end last text =
    items_then old (lines_from (drop (end + 1) text)) ≡ list_block new ∷ tree_from (drop (last + 1) text)

-- after the line that ends at `end` the paragraph that began at `from` goes on to `last`
abbrev pub IsParagraphEnd : (from end last : ℕ) → Bytes → Type 0
IsParagraphEnd from end last text =
    paragraph_then (between from end text) (lines_from (drop (end + 1) text)) ≡ paragraph_block (between from last text)
    ∷ tree_from (drop (last + 1) text)
