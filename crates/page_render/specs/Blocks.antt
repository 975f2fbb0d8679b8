-- A page with the blocks of the rest of a text at its end, and what stands round them.
use Rattle.std.specs.Prelude.{ℕ, ◌≡◌, ◌+◌, List, ◌∷◌, ◌++◌, drop, Option, codes}
use Rattle.wiki_model.specs.Bytes.{Bytes}
use Rattle.wiki_model.specs.Titles.{Text, Title}
use Rattle.wiki_model.specs.Html.{Reader, Reading, Items, between, blocks, heading_tag, line_end, element, each_between, notice}
use Rattle.wiki_model.specs.Html as html
use Rattle.page_markup.specs.Runs.{lines_from}
use Rattle.page_render.specs.AsModel.{page_from, template_text}
use Rattle.page_render.specs.Draft.{Draft, reader, then_reads}

-- the blocks of a text, where a number of template bytes was included before
abbrev pub blocks_from : Reader → (included : ℕ) → Bytes → Bytes
blocks_from read n text = (blocks read n (lines_from text)).html

-- the end of a list, and the blocks of the text after it
abbrev pub ended_list : Reader → (included : ℕ) → Bytes → Bytes
ended_list read n text = (codes "</ul>" ++ line_end) ++ blocks_from read n text

-- what is left where a list is open: the first of the blocks may go on with it
abbrev pub list_then : Reader → (included : ℕ) → List html.Block → Bytes
list_then read n (Items texts ∷ others) =
    let items = each_between read (codes "<li>") (codes "</li>" ++ line_end) texts n in
    items.html ++ ((codes "</ul>" ++ line_end) ++ (blocks read items.included others).html)
list_then read n others = (codes "</ul>" ++ line_end) ++ (blocks read n others).html

abbrev pub list_from : Reader → (included : ℕ) → Bytes → Bytes
list_from read n text = list_then read n (lines_from text)

-- a list with this first item, and what is left after its line
abbrev pub list_of : Reader → (included : ℕ) → (first text : Bytes) → Bytes
list_of read n first text =
    let item = read n first in
    (codes "<ul>" ++ line_end)
    ++ (element (codes "<li>") (codes "</li>" ++ line_end) item.html ++ list_from read item.included text)

-- the page with the blocks of a text at its end; with a list that goes on with its first lines; with the end of a list
-- before them
abbrev pub with_blocks : Draft → (depth : ℕ) → Bytes → Bytes
with_blocks d depth text = d.html ++ blocks_from (reader d depth) d.included text

abbrev pub with_list : Draft → (depth : ℕ) → Bytes → Bytes
with_list d depth text = d.html ++ list_from (reader d depth) d.included text

abbrev pub with_list_end : Draft → (depth : ℕ) → Bytes → Bytes
with_list_end d depth text = d.html ++ ended_list (reader d depth) d.included text

-- the page with a list at its end that has this first item
abbrev pub with_new_list : Draft → (depth : ℕ) → (first text : Bytes) → Bytes
with_new_list d depth first text = d.html ++ list_of (reader d depth) d.included first text

-- what was read, as a heading of this level; as an item of a list
abbrev pub in_heading : (level : ℕ) → Reading → Reading
in_heading level read = between (heading_tag (codes "<h") level) (heading_tag (codes "</h") level ++ line_end) read

abbrev pub in_item : Reading → Reading
in_item read = between (codes "<li>") (codes "</li>" ++ line_end) read

-- the page with the notice at its end
abbrev pub with_notice : Draft → (text : Option Text) → Draft
with_notice d text = then_reads d (notice (template_text d.templates) text)

-- what is written, and then the page
abbrev pub page_after : Draft → (markup : ℕ) → Title → Text → (notice : Option Text) → Bytes
page_after d markup title text notice = d.html ++ page_from markup title text d.templates notice

-- of the blocks from one place on, those before the next place were written
abbrev pub AreWritten : (old new : Draft) → (depth at next : ℕ) → Bytes → Type 0
AreWritten old new depth at next text = with_blocks new depth (drop next text) ≡ with_blocks old depth (drop at text)

-- so was a list with this first item, whose first line ends at `end`
abbrev pub IsListWritten : (old new : Draft) → (depth : ℕ) → (first : Bytes) → (end next : ℕ) → Bytes → Type 0
IsListWritten old new depth first end next text =
    with_blocks new depth (drop next text) ≡ with_new_list old depth first (drop (end + 1) text)

-- so were the items after that line
abbrev pub AreItemsWritten : (old new : Draft) → (depth end next : ℕ) → Bytes → Type 0
AreItemsWritten old new depth end next text =
    with_list_end new depth (drop next text) ≡ with_list old depth (drop (end + 1) text)
