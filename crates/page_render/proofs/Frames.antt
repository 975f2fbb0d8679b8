-- Blocks and the page around them, a line at a time.
use Rattle.std.proofs.Common.{[], ◌∷◌, ◌++◌, List, length, drop, map, ◌≡◌, ℕ, ◌≤◌, ◌+◌, refl, arith, ap, sym, ◌∙◌, append_assoc, append-nil}
use Rattle.std.specs.Prelude.{codes, Option, ⊤}
use Rattle.std.proofs.lemmas.List.{drop_all}
use Rattle.wiki_model.specs.Bytes.{Bytes}
use Rattle.wiki_model.specs.Html.{Reader, Reading, inline, notice, Line, Blank, HeadingLine, ItemLine, PlainLine, Gap, Items, element, each_between, between, block, blocks, with_prefix, with_item, with_line, line_of, heading_tag, line_end}
use Rattle.wiki_model.specs.Html as html
use Rattle.page_markup.specs.declared.inline.Inline.{Inline}
use Rattle.page_markup.specs.declared.tree.Block.{Block}
use Rattle.page_markup.specs.declared.tree.BlockKind.{BlockKind}
use Rattle.page_markup.specs.declared.tree.BlockKind.TheVariants.{Heading, List as ListOf, Paragraph}
use Rattle.page_markup.specs.Mark.{next_place}
use Rattle.page_markup.specs.Tree.{inline_of, tree_blocks, tree_from}
use Rattle.page_markup.specs.Runs.{lines_from, paragraph_then, paragraph_block}
use Rattle.page_markup.proofs.Trees.{feed, line_between, line_more, tree_line, paragraph_begins}
use Rattle.page_render.specs.AsModel.{Pairs, template_text, page_from}
use Rattle.page_render.specs.Blocks.{blocks_from, ended_list, list_then, list_from, list_of, with_blocks, with_list, with_list_end, with_new_list, page_after}
use Rattle.page_render.specs.Draft.{Draft, put, reader, reads, then_reads}

-- a tree is read as its blocks are
abbrev pub texts_of : List Inline → List Bytes
texts_of parts = map (λ part. part.text) parts

abbrev pub of_kind : Reader → BlockKind → List Inline → ℕ → Reading
of_kind read (Heading level) parts n = each_between read (heading_tag (codes "<h") level) (heading_tag (codes "</h") level ++ line_end) (texts_of parts) n
of_kind read ListOf parts n = between (codes "<ul>" ++ line_end) (codes "</ul>" ++ line_end) (each_between read (codes "<li>") (codes "</li>" ++ line_end) (texts_of parts) n)
of_kind read Paragraph parts n = each_between read (codes "<p>") (codes "</p>" ++ line_end) (texts_of parts) n

abbrev pub read_blocks : Reader → List Block → ℕ → Reading
read_blocks read [] n = record { html = []; included = n }
read_blocks read (block ∷ blocks) n =
    let first = of_kind read block.kind block.parts n in
    let others = read_blocks read blocks first.included in
    record { html = first.html ++ others.html; included = others.included }

texts_same : (texts : List Bytes) → texts_of (map inline_of texts) ≡ texts
texts_same [] = refl
texts_same (t ∷ texts) = ap (λ ts. t ∷ ts) (texts_same texts)

one_between : (read : Reader) (opening closing text : Bytes) (n : ℕ) → each_between read opening closing (text ∷ []) n ≡ between opening closing (read n text)
one_between read opening closing text n = ap (λ h. let r : Reading = record { html = h; included = (read n text).included } in r) (append-nil (element opening closing (read n text).html))

then_others : (read : Reader) (bs : List Block) (cs : List html.Block) (first other : Reading) → first ≡ other → ((n : ℕ) → read_blocks read bs n ≡ blocks read n cs)
    → (let r : Reading = record { html = first.html ++ (read_blocks read bs first.included).html; included = (read_blocks read bs first.included).included } in r)
    ≡ (record { html = other.html ++ (blocks read other.included cs).html; included = (blocks read other.included cs).included })
then_others read bs cs first other e h =
    ap (λ f. let r : Reading = record { html = f.html ++ (read_blocks read bs f.included).html; included = (read_blocks read bs f.included).included } in r) e
    ∙ ap (λ g. let r : Reading = record { html = other.html ++ g.html; included = g.included } in r) (h other.included)

tree_read : (read : Reader) (cs : List html.Block) (n : ℕ) → read_blocks read (tree_blocks cs) n ≡ blocks read n cs
tree_read read [] n = refl
tree_read read (Gap ∷ cs) n = tree_read read cs n
tree_read read (html.Heading level text ∷ cs) n =
    then_others read (tree_blocks cs) cs (of_kind read (Heading level) (inline_of text ∷ []) n) (block read n (html.Heading level text))
    (one_between read (heading_tag (codes "<h") level) (heading_tag (codes "</h") level ++ line_end) text n) (λ m. tree_read read cs m)
tree_read read (Items texts ∷ cs) n =
    then_others read (tree_blocks cs) cs (of_kind read ListOf (map inline_of texts) n) (block read n (Items texts))
    (ap (λ ts. between (codes "<ul>" ++ line_end) (codes "</ul>" ++ line_end) (each_between read (codes "<li>") (codes "</li>" ++ line_end) ts n)) (texts_same texts)) (λ m. tree_read read cs m)
tree_read read (html.Paragraph text ∷ cs) n =
    then_others read (tree_blocks cs) cs (of_kind read Paragraph (inline_of text ∷ []) n) (block read n (html.Paragraph text))
    (one_between read (codes "<p>") (codes "</p>" ++ line_end) text n) (λ m. tree_read read cs m)

-- the text's end and a gap make no difference
blocks_same : (read : Reader) (n : ℕ) (l : Line) → (blocks read n (with_prefix l [])).html ≡ (blocks read n (with_prefix l (Gap ∷ []))).html
blocks_same read n Blank = refl
blocks_same read n (HeadingLine level middle) = refl
blocks_same read n (ItemLine t) = refl
blocks_same read n (PlainLine t) = refl

list_same : (read : Reader) (n : ℕ) (l : Line) → list_then read n (with_prefix l []) ≡ list_then read n (with_prefix l (Gap ∷ []))
list_same read n Blank = refl
list_same read n (HeadingLine level middle) = refl
list_same read n (ItemLine t) = refl
list_same read n (PlainLine t) = refl

-- the first line of a text
first_line : (read : Reader) (n : ℕ) (text : Bytes) (at end : ℕ) (l : Line) → end ≡ next_place feed at text → line_of (line_between text at end) ≡ l
    → blocks_from read n (drop at text) ≡ (blocks read n (with_prefix l (lines_from (drop (end + 1) text)))).html
first_line read n text at end l e k =
    line_more (λ bs. (blocks read n bs).html) text at end (blocks_same read n) e ∙ ap (λ x. (blocks read n (with_prefix x (lines_from (drop (end + 1) text)))).html) k

pub blank_goes : (read : Reader) (n : ℕ) (text old : Bytes) (at end : ℕ) → end ≡ next_place feed at text → line_of (line_between text at end) ≡ Blank
    → old ++ blocks_from read n (drop (end + 1) text) ≡ old ++ blocks_from read n (drop at text)
blank_goes read n text old at end e k = ap (λ x. old ++ x) (sym (first_line read n text at end Blank e k))

written : (old new a b c : Bytes) → new ≡ old ++ a → c ≡ a ++ b → new ++ b ≡ old ++ c
written old new a b c e f = ap (λ x. x ++ b) e ∙ append_assoc old a b ∙ ap (λ x. old ++ x) (sym f)

pub heading_written : (read : Reader) (n m level : ℕ) (text old new middle : Bytes) (at end : ℕ) → end ≡ next_place feed at text → line_of (line_between text at end) ≡ HeadingLine level middle
    → new ≡ old ++ element (heading_tag (codes "<h") level) (heading_tag (codes "</h") level ++ line_end) (read n middle).html → m ≡ (read n middle).included
    → new ++ blocks_from read m (drop (end + 1) text) ≡ old ++ blocks_from read n (drop at text)
heading_written read n m level text old new middle at end e k w i =
    let first = element (heading_tag (codes "<h") level) (heading_tag (codes "</h") level ++ line_end) (read n middle).html in
    written old new first (blocks_from read m (drop (end + 1) text)) (blocks_from read n (drop at text)) w
    (first_line read n text at end (HeadingLine level middle) e k ∙ ap (λ j. first ++ blocks_from read j (drop (end + 1) text)) (sym i))

-- lists
abbrev pub one_item : Bytes → Bytes
one_item html = element (codes "<li>") (codes "</li>" ++ line_end) html

first_alone : (a e b rest : Bytes) → ((a ++ (e ++ [])) ++ b) ++ rest ≡ a ++ (e ++ (b ++ rest))
first_alone a e b rest = ap (λ x. ((a ++ x) ++ b) ++ rest) (append-nil e) ∙ (let j : ((a ++ e) ++ b) ++ rest ≡ a ++ (e ++ (b ++ rest)) = simp append_assoc in j)

first_of_more : (a e f b rest : Bytes) → ((a ++ (e ++ f)) ++ b) ++ rest ≡ a ++ (e ++ (f ++ (b ++ rest)))
first_of_more a e f b rest = simp append_assoc

list_begins : (read : Reader) (n : ℕ) (t : Bytes) (bs : List html.Block)
    → (blocks read n (with_item t bs)).html ≡ (codes "<ul>" ++ line_end) ++ (one_item (read n t).html ++ list_then read (read n t).included bs)
list_begins read n t [] = first_alone (codes "<ul>" ++ line_end) (one_item (read n t).html) (codes "</ul>" ++ line_end) []
list_begins read n t (Gap ∷ bs) = first_alone (codes "<ul>" ++ line_end) (one_item (read n t).html) (codes "</ul>" ++ line_end) (blocks read (read n t).included (Gap ∷ bs)).html
list_begins read n t (html.Heading level middle ∷ bs) =
    first_alone (codes "<ul>" ++ line_end) (one_item (read n t).html) (codes "</ul>" ++ line_end) (blocks read (read n t).included (html.Heading level middle ∷ bs)).html
list_begins read n t (html.Paragraph q ∷ bs) =
    first_alone (codes "<ul>" ++ line_end) (one_item (read n t).html) (codes "</ul>" ++ line_end) (blocks read (read n t).included (html.Paragraph q ∷ bs)).html
list_begins read n t (Items us ∷ bs) =
    let others = each_between read (codes "<li>") (codes "</li>" ++ line_end) us (read n t).included in
    first_of_more (codes "<ul>" ++ line_end) (one_item (read n t).html) others.html (codes "</ul>" ++ line_end) (blocks read others.included bs).html

item_alone : (read : Reader) (n : ℕ) (t : Bytes) (bs : List html.Block)
    → (one_item (read n t).html ++ []) ++ ((codes "</ul>" ++ line_end) ++ (blocks read (read n t).included bs).html)
    ≡ one_item (read n t).html ++ ((codes "</ul>" ++ line_end) ++ (blocks read (read n t).included bs).html)
item_alone read n t bs = ap (λ x. x ++ ((codes "</ul>" ++ line_end) ++ (blocks read (read n t).included bs).html)) (append-nil (one_item (read n t).html))

item_then : (read : Reader) (n : ℕ) (t : Bytes) (bs : List html.Block) → list_then read n (with_item t bs) ≡ one_item (read n t).html ++ list_then read (read n t).included bs
item_then read n t [] = item_alone read n t []
item_then read n t (Gap ∷ bs) = item_alone read n t (Gap ∷ bs)
item_then read n t (html.Heading level middle ∷ bs) = item_alone read n t (html.Heading level middle ∷ bs)
item_then read n t (html.Paragraph q ∷ bs) = item_alone read n t (html.Paragraph q ∷ bs)
item_then read n t (Items us ∷ bs) =
    let others = each_between read (codes "<li>") (codes "</li>" ++ line_end) us (read n t).included in
    append_assoc (one_item (read n t).html) others.html ((codes "</ul>" ++ line_end) ++ (blocks read others.included bs).html)

item_written : (read : Reader) (n m : ℕ) (text old new t : Bytes) (end next : ℕ) → next ≡ next_place feed (end + 1) text → line_of (line_between text (end + 1) next) ≡ ItemLine t
    → new ≡ old ++ element (codes "<li>") (codes "</li>" ++ line_end) (read n t).html → m ≡ (read n t).included
    → new ++ list_from read m (drop (next + 1) text) ≡ old ++ list_from read n (drop (end + 1) text)
item_written read n m text old new t end next e k w i =
    let first = element (codes "<li>") (codes "</li>" ++ line_end) (read n t).html in
    written old new first (list_from read m (drop (next + 1) text)) (list_from read n (drop (end + 1) text)) w
    (line_more (list_then read n) text (end + 1) next (list_same read n) e ∙ ap (λ x. list_then read n (with_prefix x (lines_from (drop (next + 1) text)))) k
    ∙ item_then read n t (lines_from (drop (next + 1) text)) ∙ ap (λ j. first ++ list_from read j (drop (next + 1) text)) (sym i))

line_ends : (read : Reader) (n : ℕ) (t : Bytes) (bs : List html.Block) → list_then read n (with_line t bs) ≡ (codes "</ul>" ++ line_end) ++ (blocks read n (with_line t bs)).html
line_ends read n t [] = refl
line_ends read n t (Gap ∷ bs) = refl
line_ends read n t (html.Heading level middle ∷ bs) = refl
line_ends read n t (Items us ∷ bs) = refl
line_ends read n t (html.Paragraph q ∷ bs) = refl

abbrev pub IsNoItem : Line → Type 0
IsNoItem Blank = ⊤
IsNoItem (HeadingLine level middle) = ⊤
IsNoItem (ItemLine t) = ⊥
IsNoItem (PlainLine t) = ⊤

list_ends : (read : Reader) (n : ℕ) (l : Line) (bs : List html.Block) → IsNoItem l → list_then read n (with_prefix l bs) ≡ (codes "</ul>" ++ line_end) ++ (blocks read n (with_prefix l bs)).html
list_ends read n Blank bs h = refl
list_ends read n (HeadingLine level middle) bs h = refl
list_ends read n (ItemLine t) bs h = absurd h
list_ends read n (PlainLine t) bs h = line_ends read n t bs

list_to : (read : Reader) (n : ℕ) (text : Bytes) (end next : ℕ) (l : Line) → next ≡ next_place feed (end + 1) text → line_of (line_between text (end + 1) next) ≡ l → IsNoItem l
    → list_from read n (drop (end + 1) text) ≡ ended_list read n (drop (end + 1) text)
list_to read n text end next l e k h =
    line_more (list_then read n) text (end + 1) next (list_same read n) e ∙ ap (λ x. list_then read n (with_prefix x (lines_from (drop (next + 1) text)))) k
    ∙ list_ends read n l (lines_from (drop (next + 1) text)) h
    ∙ ap (λ x. (codes "</ul>" ++ line_end) ++ x) (sym (first_line read n text (end + 1) next l e k))

pub list_to_blank : (read : Reader) (n : ℕ) (text : Bytes) (end next : ℕ) → next ≡ next_place feed (end + 1) text → line_of (line_between text (end + 1) next) ≡ Blank
    → list_from read n (drop (end + 1) text) ≡ ended_list read n (drop (end + 1) text)
list_to_blank read n text end next e k = list_to read n text end next Blank e k tt

pub list_to_heading : (read : Reader) (n level : ℕ) (text middle : Bytes) (end next : ℕ) → next ≡ next_place feed (end + 1) text → line_of (line_between text (end + 1) next) ≡ HeadingLine level middle
    → list_from read n (drop (end + 1) text) ≡ ended_list read n (drop (end + 1) text)
list_to_heading read n level text middle end next e k = list_to read n text end next (HeadingLine level middle) e k tt

pub list_to_plain : (read : Reader) (n : ℕ) (text t : Bytes) (end next : ℕ) → next ≡ next_place feed (end + 1) text → line_of (line_between text (end + 1) next) ≡ PlainLine t
    → list_from read n (drop (end + 1) text) ≡ ended_list read n (drop (end + 1) text)
list_to_plain read n text t end next e k = list_to read n text end next (PlainLine t) e k tt

pub list_last : (read : Reader) (n : ℕ) (text : Bytes) (end : ℕ) → length text ≤ end → list_from read n (drop (end + 1) text) ≡ ended_list read n (drop (end + 1) text)
list_last read n text end h =
    let none : drop (end + 1) text ≡ [] = drop_all (end + 1) text (omega (arith, h)) in
    ap (list_from read n) none ∙ sym (ap (ended_list read n) none)

-- paragraphs
pub paragraph_written : (read : Reader) (n m : ℕ) (text old new p : Bytes) (at end last : ℕ) → end ≡ next_place feed at text → line_of (line_between text at end) ≡ PlainLine (line_between text at end)
    → paragraph_then (line_between text at end) (lines_from (drop (end + 1) text)) ≡ paragraph_block p ∷ tree_from (drop (last + 1) text)
    → new ≡ old ++ element (codes "<p>") (codes "</p>" ++ line_end) (read n p).html → m ≡ (read n p).included
    → new ++ blocks_from read m (drop (last + 1) text) ≡ old ++ blocks_from read n (drop at text)
paragraph_written read n m text old new p at end last e k run w i =
    let first = element (codes "<p>") (codes "</p>" ++ line_end) (read n p).html in
    let rest = drop (last + 1) text in
    let tree : tree_from (drop at text) ≡ paragraph_block p ∷ tree_from rest =
    tree_line text at end (PlainLine (line_between text at end)) e k ∙ paragraph_begins (line_between text at end) (lines_from (drop (end + 1) text)) ∙ run in
    let whole : blocks_from read n (drop at text) ≡ first ++ blocks_from read (read n p).included rest =
    ap (λ r. r.html) (sym (tree_read read (lines_from (drop at text)) n)) ∙ ap (λ bs. (read_blocks read bs n).html) tree
    ∙ ap (λ x. x ++ (read_blocks read (tree_from rest) (read n p).included).html) (append-nil first)
    ∙ ap (λ r. first ++ r.html) (tree_read read (lines_from rest) (read n p).included) in
    written old new first (blocks_from read m rest) (blocks_from read n (drop at text)) w (whole ∙ ap (λ j. first ++ blocks_from read j rest) (sym i))

-- what a page is after each kind of block

pub heading_goes : (d e : Draft) (depth level : ℕ) (text middle : Bytes) (at end : ℕ) → end ≡ next_place feed at text → line_of (line_between text at end) ≡ HeadingLine level middle
    → e ≡ then_reads d (between (heading_tag (codes "<h") level) (heading_tag (codes "</h") level ++ line_end) (reads d depth middle))
    → with_blocks e depth (drop (end + 1) text) ≡ with_blocks d depth (drop at text)
heading_goes d e depth level text middle at end p l w =
    let read = reads d depth middle in
    ap (λ x. with_blocks x depth (drop (end + 1) text)) w
    ∙ heading_written (reader d depth) d.included read.included level text d.html
    (d.html ++ element (heading_tag (codes "<h") level) (heading_tag (codes "</h") level ++ line_end) read.html) middle at end p l refl refl

pub paragraph_goes : (d e : Draft) (depth : ℕ) (text paragraph : Bytes) (at end last : ℕ) → end ≡ next_place feed at text → line_of (line_between text at end) ≡ PlainLine (line_between text at end)
    → paragraph_then (line_between text at end) (lines_from (drop (end + 1) text)) ≡ paragraph_block paragraph ∷ tree_from (drop (last + 1) text)
    → e ≡ then_reads d (between (codes "<p>") (codes "</p>" ++ line_end) (reads d depth paragraph))
    → with_blocks e depth (drop (last + 1) text) ≡ with_blocks d depth (drop at text)
paragraph_goes d e depth text paragraph at end last p l run w =
    let read = reads d depth paragraph in
    ap (λ x. with_blocks x depth (drop (last + 1) text)) w
    ∙ paragraph_written (reader d depth) d.included read.included text d.html (d.html ++ element (codes "<p>") (codes "</p>" ++ line_end) read.html) paragraph at end last p l run refl refl

pub list_goes : (d : Draft) (depth : ℕ) (text first made : Bytes) (at end : ℕ) → end ≡ next_place feed at text → line_of (line_between text at end) ≡ ItemLine first
    → made ≡ with_new_list d depth first (drop (end + 1) text) → made ≡ with_blocks d depth (drop at text)
list_goes d depth text first made at end p l w =
    let read = reader d depth in
    w ∙ ap (λ x. d.html ++ x) (sym (first_line read d.included text at end (ItemLine first) p l ∙ list_begins read d.included first (lines_from (drop (end + 1) text))))

pub item_goes : (d e : Draft) (depth : ℕ) (text item : Bytes) (end next : ℕ) → next ≡ next_place feed (end + 1) text → line_of (line_between text (end + 1) next) ≡ ItemLine item
    → e ≡ then_reads d (between (codes "<li>") (codes "</li>" ++ line_end) (reads d depth item))
    → with_list e depth (drop (next + 1) text) ≡ with_list d depth (drop (end + 1) text)
item_goes d e depth text item end next p l w =
    let read = reads d depth item in
    ap (λ x. with_list x depth (drop (next + 1) text)) w
    ∙ item_written (reader d depth) d.included read.included text d.html (d.html ++ element (codes "<li>") (codes "</li>" ++ line_end) read.html) item end next p l refl refl

-- a list put together
pub list_joined : (old one two three new : Draft) (depth : ℕ) (first rest left : Bytes) → one ≡ put old (codes "<ul>" ++ line_end)
    → two ≡ then_reads one (between (codes "<li>") (codes "</li>" ++ line_end) (reads one depth first))
    → with_list_end three depth left ≡ with_list two depth rest → new ≡ put three (codes "</ul>" ++ line_end)
    → with_blocks new depth left ≡ with_new_list old depth first rest
list_joined old one two three new depth first rest left a b c e =
    let read = reader old depth in
    let item = read old.included first in
    ap (λ d. with_blocks d depth left) e
    ∙ append_assoc three.html (codes "</ul>" ++ line_end) (blocks_from (reader three depth) three.included left)
    ∙ c
    ∙ ap (λ d. with_list d depth rest) (b ∙ ap (λ d. then_reads d (between (codes "<li>") (codes "</li>" ++ line_end) (reads d depth first))) a)
    ∙ append_assoc (old.html ++ (codes "<ul>" ++ line_end)) (one_item item.html) (list_from read item.included rest)
    ∙ append_assoc old.html (codes "<ul>" ++ line_end) (one_item item.html ++ list_from read item.included rest)

-- the page put together
five_joined : (o a b c d e : Bytes) → ((((o ++ a) ++ b) ++ c) ++ d) ++ e ≡ o ++ ((((a ++ b) ++ c) ++ d) ++ e)
five_joined o a b c d e = simp append_assoc

pub page_joined : (old one two three four : Draft) (a b d page html : Bytes) (above : Option Bytes) (depth : ℕ) → one ≡ put old a → two ≡ put one b
    → three ≡ then_reads two (notice (template_text two.templates) above) → four ≡ put three d → html ≡ with_blocks four depth page
    → html ≡ old.html ++ ((((a ++ b) ++ (notice (template_text old.templates) above).html) ++ d)
    ++ blocks_from (inline (template_text old.templates) depth) (notice (template_text old.templates) above).included page)
page_joined old one two three four a b d page html above depth h1 h2 h3 h4 h5 =
    let top = notice (template_text old.templates) above in
    h5
    ∙ ap (λ w. with_blocks w depth page)
    (h4 ∙ ap (λ w. put w d) (h3 ∙ ap (λ w. then_reads w (notice (template_text w.templates) above)) (h2 ∙ ap (λ w. put w b) h1)))
    ∙ five_joined old.html a b top.html d (blocks_from (inline (template_text old.templates) depth) top.included page)

-- a page that was empty when it was begun is the page of its inputs
pub page_begun : (old : Draft) (html : Bytes) (pairs : Pairs) (markup : ℕ) (title text : Bytes) (notice : Option Bytes) → old ≡ record { html = []; included = 0; templates = pairs }
    → html ≡ page_after old markup title text notice → html ≡ page_from markup title text pairs notice
page_begun old html pairs markup title text notice empty made = made ∙ ap (λ (d : Draft). page_after d markup title text notice) empty
