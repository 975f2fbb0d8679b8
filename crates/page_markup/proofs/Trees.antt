-- The blocks of a text, a line at a time.
use Rattle.std.proofs.Common.{zero, suc, [], ◌∷◌, ◌++◌, List, length, take, drop, map, ◌≡◌, ℕ, ◌≤◌, ◌<◌, ◌+◌, ◌-◌, Bool, true, false, refl, arith, ap, sym, ◌∙◌, get_or, nat_eq, inl, inr, ◌⊎◌, append_assoc, subst}
use Rattle.std.specs.Prelude.{codes, ⊤}
use Rattle.std.proofs.lemmas.Bool.Decides.{nat_tests}
use Rattle.std.proofs.lemmas.List.{length-drop, take_all, drop_all, get_or-drop}
use Rattle.std.proofs.Math.Nat.{eq-or-lt_of_le}
use Rattle.wiki_model.specs.Bytes.{Bytes, line_feed, pieces, in_first}
use Rattle.wiki_model.specs.Html.{Line, Blank, HeadingLine, ItemLine, PlainLine, Gap, Items, line_of, blocks_of, with_prefix, with_item, with_line}
use Rattle.wiki_model.specs.Html as html
use Rattle.page_markup.specs.declared.tree.Block.{Block}
use Rattle.page_markup.specs.declared.tree.BlockKind.TheVariants.{Heading}
use Rattle.page_markup.specs.declared.inline.Inline.{Inline}
use Rattle.page_markup.specs.Mark.{distance, next_place}
use Rattle.page_markup.specs.Tree.{inline_of, tree_blocks, tree_from}
use Rattle.page_markup.specs.Runs.{lines_from, items_then, paragraph_then, list_block, paragraph_block}
use Rattle.page_markup.proofs.Places.{distance_here, distance_on, distance_within, drop_drop}
use Rattle.page_markup.proofs.Cuts.{begins_one}

turned : (a b : ℕ) (t : Bool) → nat_eq a b ≡ t → nat_eq b a ≡ t
turned a b t e = (let z : nat_eq b a ≡ nat_eq a b = grind (arith, nat_tests) in z) ∙ e

abbrev pub feed : Bytes
feed = codes "\n"

-- the first of the pieces
last_piece_by : (c : ℕ) (s : Bytes) (b : Bool) → nat_eq 10 c ≡ b → (length s ≤ distance feed s → pieces 10 s ≡ s ∷ [])
    → length (c ∷ s) ≤ distance feed (c ∷ s) → pieces 10 (c ∷ s) ≡ (c ∷ s) ∷ []
last_piece_by c s true e ih h = let d : distance feed (c ∷ s) ≡ 0 = distance_here feed (c ∷ s) (begins_one 10 c s true e) in let no : ⊥ = omega (arith, d, h) in absurd no
last_piece_by c s false e ih h =
    let d : distance feed (c ∷ s) ≡ suc (distance feed s) = distance_on feed (c ∷ s) (omega arith) (begins_one 10 c s false e) in
    rw (turned 10 c false e) (ap (in_first c) (ih (omega (arith, h, d))))

last_piece : (s : Bytes) → length s ≤ distance feed s → pieces 10 s ≡ s ∷ []
last_piece [] h = refl
last_piece (c ∷ s) h = last_piece_by c s (nat_eq 10 c) refl (last_piece s) h

abbrev pub PiecesAt : (s : Bytes) (d : ℕ) → Type 0
PiecesAt s d = pieces 10 s ≡ take d s ∷ pieces 10 (drop (suc d) s)

first_piece_by : (c : ℕ) (s : Bytes) (b : Bool) → nat_eq 10 c ≡ b → (distance feed s < length s → PiecesAt s (distance feed s))
    → distance feed (c ∷ s) < length (c ∷ s) → PiecesAt (c ∷ s) (distance feed (c ∷ s))
first_piece_by c s true e ih h =
    let d : distance feed (c ∷ s) ≡ 0 = distance_here feed (c ∷ s) (begins_one 10 c s true e) in
    subst (PiecesAt (c ∷ s)) (sym d) (rw (turned 10 c true e) refl)
first_piece_by c s false e ih h =
    let d : distance feed (c ∷ s) ≡ suc (distance feed s) = distance_on feed (c ∷ s) (omega arith) (begins_one 10 c s false e) in
    subst (PiecesAt (c ∷ s)) (sym d) (rw (turned 10 c false e) (ap (in_first c) (ih (omega (arith, h, d)))))

first_piece : (s : Bytes) → distance feed s < length s → PiecesAt s (distance feed s)
first_piece [] h = let no : ⊥ = omega (arith, h) in absurd no
first_piece (c ∷ s) h = first_piece_by c s (nat_eq 10 c) refl (first_piece s) h

-- A line more, for what makes no difference between the text's end and a gap.
line_more_by : {X : Type 0} (F : List html.Block → X) (s : Bytes) → F (with_prefix (line_of s) []) ≡ F (with_prefix (line_of s) (Gap ∷ []))
    → (distance feed s ≡ length s) ⊎ (distance feed s < length s)
    → F (lines_from s) ≡ F (with_prefix (line_of (take (distance feed s) s)) (lines_from (drop (suc (distance feed s)) s)))
line_more_by F s same (inl e) =
    let d = distance feed s in
    let whole : take d s ≡ s = take_all d s (omega (arith, e)) in
    let none : drop (suc d) s ≡ [] = drop_all (suc d) s (omega (arith, e)) in
    ap (λ ps. F (blocks_of (map line_of ps))) (last_piece s (omega (arith, e))) ∙ same
    ∙ ap (λ t. F (with_prefix (line_of t) (Gap ∷ []))) (sym whole) ∙ ap (λ t. F (with_prefix (line_of (take d s)) (lines_from t))) (sym none)
line_more_by F s same (inr l) = ap (λ ps. F (blocks_of (map line_of ps))) (first_piece s l)

pub line_more : {X : Type 0} (F : List html.Block → X) (text : Bytes) (at end : ℕ) → ((l : Line) → F (with_prefix l []) ≡ F (with_prefix l (Gap ∷ [])))
    → end ≡ next_place feed at text
    → F (lines_from (drop at text)) ≡ F (with_prefix (line_of (take (end - at) (drop at text))) (lines_from (drop (end + 1) text)))
line_more F text at end same e =
    let s = drop at text in
    let d = distance feed s in
    line_more_by F s (same (line_of s)) (eq-or-lt_of_le (distance_within feed s))
    ∙ ap (λ k. F (with_prefix (line_of (take k s)) (lines_from (drop (suc d) s)))) (let z : d ≡ end - at = omega (arith, e) in z)
    ∙ ap (λ t. F (with_prefix (line_of (take (end - at) s)) (lines_from t))) (drop_drop (suc d) at text ∙ ap (λ k. drop k text) (let z : at + suc d ≡ end + 1 = omega (arith, e) in z))

-- no difference
tree_same : (l : Line) → tree_blocks (with_prefix l []) ≡ tree_blocks (with_prefix l (Gap ∷ []))
tree_same Blank = refl
tree_same (HeadingLine n m) = refl
tree_same (ItemLine t) = refl
tree_same (PlainLine t) = refl

items_same : (ps : List Inline) (l : Line) → items_then ps (with_prefix l []) ≡ items_then ps (with_prefix l (Gap ∷ []))
items_same ps Blank = refl
items_same ps (HeadingLine n m) = refl
items_same ps (ItemLine t) = refl
items_same ps (PlainLine t) = refl

paragraph_same : (p : Bytes) (l : Line) → paragraph_then p (with_prefix l []) ≡ paragraph_then p (with_prefix l (Gap ∷ []))
paragraph_same p Blank = refl
paragraph_same p (HeadingLine n m) = refl
paragraph_same p (ItemLine t) = refl
paragraph_same p (PlainLine t) = refl

-- a run begins, goes on, ends
items_begin : (t : Bytes) (bs : List html.Block) → tree_blocks (with_item t bs) ≡ items_then (inline_of t ∷ []) bs
items_begin t [] = refl
items_begin t (Gap ∷ bs) = refl
items_begin t (html.Heading n m ∷ bs) = refl
items_begin t (Items us ∷ bs) = refl
items_begin t (html.Paragraph q ∷ bs) = refl

items_go : (ps : List Inline) (t : Bytes) (bs : List html.Block) → items_then ps (with_item t bs) ≡ items_then (ps ++ (inline_of t ∷ [])) bs
items_go ps t [] = refl
items_go ps t (Gap ∷ bs) = refl
items_go ps t (html.Heading n m ∷ bs) = refl
items_go ps t (Items us ∷ bs) = ap (λ qs. list_block qs ∷ tree_blocks bs) (sym (append_assoc ps (inline_of t ∷ []) (map inline_of us)))
items_go ps t (html.Paragraph q ∷ bs) = refl

items_end_plain : (ps : List Inline) (t : Bytes) (bs : List html.Block) → items_then ps (with_line t bs) ≡ list_block ps ∷ tree_blocks (with_line t bs)
items_end_plain ps t [] = refl
items_end_plain ps t (Gap ∷ bs) = refl
items_end_plain ps t (html.Heading n m ∷ bs) = refl
items_end_plain ps t (Items us ∷ bs) = refl
items_end_plain ps t (html.Paragraph q ∷ bs) = refl

abbrev pub IsNoItem : Line → Type 0
IsNoItem Blank = ⊤
IsNoItem (HeadingLine n m) = ⊤
IsNoItem (ItemLine t) = ⊥
IsNoItem (PlainLine t) = ⊤

items_end : (ps : List Inline) (l : Line) (bs : List html.Block) → IsNoItem l → items_then ps (with_prefix l bs) ≡ list_block ps ∷ tree_blocks (with_prefix l bs)
items_end ps Blank bs h = refl
items_end ps (HeadingLine n m) bs h = refl
items_end ps (ItemLine t) bs h = absurd h
items_end ps (PlainLine t) bs h = items_end_plain ps t bs

pub paragraph_begins : (t : Bytes) (bs : List html.Block) → tree_blocks (with_line t bs) ≡ paragraph_then t bs
paragraph_begins t [] = refl
paragraph_begins t (Gap ∷ bs) = refl
paragraph_begins t (html.Heading n m ∷ bs) = refl
paragraph_begins t (Items us ∷ bs) = refl
paragraph_begins t (html.Paragraph q ∷ bs) = refl

paragraph_goes_on : (p t : Bytes) (bs : List html.Block) → paragraph_then p (with_line t bs) ≡ paragraph_then (p ++ (line_feed ∷ t)) bs
paragraph_goes_on p t [] = refl
paragraph_goes_on p t (Gap ∷ bs) = refl
paragraph_goes_on p t (html.Heading n m ∷ bs) = refl
paragraph_goes_on p t (Items us ∷ bs) = refl
paragraph_goes_on p t (html.Paragraph q ∷ bs) = ap (λ r. paragraph_block r ∷ tree_blocks bs) (sym (append_assoc p (line_feed ∷ t) (line_feed ∷ q)))

paragraph_end_item : (p t : Bytes) (bs : List html.Block) → paragraph_then p (with_item t bs) ≡ paragraph_block p ∷ tree_blocks (with_item t bs)
paragraph_end_item p t [] = refl
paragraph_end_item p t (Gap ∷ bs) = refl
paragraph_end_item p t (html.Heading n m ∷ bs) = refl
paragraph_end_item p t (Items us ∷ bs) = refl
paragraph_end_item p t (html.Paragraph q ∷ bs) = refl

abbrev pub IsNotPlain : Line → Type 0
IsNotPlain Blank = ⊤
IsNotPlain (HeadingLine n m) = ⊤
IsNotPlain (ItemLine t) = ⊤
IsNotPlain (PlainLine t) = ⊥

paragraph_end : (p : Bytes) (l : Line) (bs : List html.Block) → IsNotPlain l → paragraph_then p (with_prefix l bs) ≡ paragraph_block p ∷ tree_blocks (with_prefix l bs)
paragraph_end p Blank bs h = refl
paragraph_end p (HeadingLine n m) bs h = refl
paragraph_end p (ItemLine t) bs h = paragraph_end_item p t bs
paragraph_end p (PlainLine t) bs h = absurd h

-- the same at places of a text
abbrev pub line_between : (text : Bytes) (at end : ℕ) → Bytes
line_between text at end = take (end - at) (drop at text)

pub tree_line : (text : Bytes) (at end : ℕ) (l : Line) → end ≡ next_place feed at text → line_of (line_between text at end) ≡ l
    → tree_from (drop at text) ≡ tree_blocks (with_prefix l (lines_from (drop (end + 1) text)))
tree_line text at end l e k = line_more tree_blocks text at end tree_same e ∙ ap (λ x. tree_blocks (with_prefix x (lines_from (drop (end + 1) text)))) k

pub blank_goes : (old : List Block) (text : Bytes) (at end : ℕ) → end ≡ next_place feed at text → line_of (line_between text at end) ≡ Blank
    → old ++ tree_from (drop (end + 1) text) ≡ old ++ tree_from (drop at text)
blank_goes old text at end e k = ap (λ bs. old ++ bs) (sym (tree_line text at end Blank e k))

one_more : (old new : List Block) (b : Block) (left whole : List Block) → new ≡ old ++ (b ∷ []) → whole ≡ b ∷ left → new ++ left ≡ old ++ whole
one_more old new b left whole e h = ap (λ bs. bs ++ left) e ∙ append_assoc old (b ∷ []) left ∙ ap (λ bs. old ++ bs) (sym h)

pub heading_goes : (old new : List Block) (text m : Bytes) (n at end : ℕ) → end ≡ next_place feed at text → line_of (line_between text at end) ≡ HeadingLine n m
    → new ≡ old ++ (record { kind = Heading n; parts = inline_of m ∷ [] } ∷ [])
    → new ++ tree_from (drop (end + 1) text) ≡ old ++ tree_from (drop at text)
heading_goes old new text m n at end e k w =
    one_more old new (record { kind = Heading n; parts = inline_of m ∷ [] }) (tree_from (drop (end + 1) text)) (tree_from (drop at text)) w (tree_line text at end (HeadingLine n m) e k)

pub list_goes : (old new : List Block) (text t : Bytes) (ps : List Inline) (at end last : ℕ) → end ≡ next_place feed at text → line_of (line_between text at end) ≡ ItemLine t
    → items_then (inline_of t ∷ []) (lines_from (drop (end + 1) text)) ≡ list_block ps ∷ tree_from (drop (last + 1) text)
    → new ≡ old ++ (list_block ps ∷ [])
    → new ++ tree_from (drop (last + 1) text) ≡ old ++ tree_from (drop at text)
list_goes old new text t ps at end last e k run w =
    one_more old new (list_block ps) (tree_from (drop (last + 1) text)) (tree_from (drop at text)) w
    (tree_line text at end (ItemLine t) e k ∙ items_begin t (lines_from (drop (end + 1) text)) ∙ run)

pub paragraph_goes : (old new : List Block) (text p : Bytes) (at end last : ℕ) → end ≡ next_place feed at text → line_of (line_between text at end) ≡ PlainLine (line_between text at end)
    → paragraph_then (line_between text at end) (lines_from (drop (end + 1) text)) ≡ paragraph_block p ∷ tree_from (drop (last + 1) text)
    → new ≡ old ++ (paragraph_block p ∷ [])
    → new ++ tree_from (drop (last + 1) text) ≡ old ++ tree_from (drop at text)
paragraph_goes old new text p at end last e k run w =
    one_more old new (paragraph_block p) (tree_from (drop (last + 1) text)) (tree_from (drop at text)) w
    (tree_line text at end (PlainLine (line_between text at end)) e k ∙ paragraph_begins (line_between text at end) (lines_from (drop (end + 1) text)) ∙ run)

-- a line more of a list
pub item_more : (ps qs : List Inline) (text t : Bytes) (end next : ℕ) → next ≡ next_place feed (end + 1) text → line_of (line_between text (end + 1) next) ≡ ItemLine t
    → qs ≡ ps ++ (inline_of t ∷ [])
    → items_then qs (lines_from (drop (next + 1) text)) ≡ items_then ps (lines_from (drop (end + 1) text))
item_more ps qs text t end next e k w =
    sym (line_more (items_then ps) text (end + 1) next (items_same ps) e
    ∙ ap (λ l. items_then ps (with_prefix l (lines_from (drop (next + 1) text)))) k ∙ items_go ps t (lines_from (drop (next + 1) text))
    ∙ ap (λ us. items_then us (lines_from (drop (next + 1) text))) (sym w))

items_stop : (ps : List Inline) (text : Bytes) (end next : ℕ) → next ≡ next_place feed (end + 1) text → IsNoItem (line_of (line_between text (end + 1) next))
    → items_then ps (lines_from (drop (end + 1) text)) ≡ list_block ps ∷ tree_from (drop (end + 1) text)
items_stop ps text end next e h =
    let l = line_of (line_between text (end + 1) next) in
    let bs = lines_from (drop (next + 1) text) in
    line_more (items_then ps) text (end + 1) next (items_same ps) e ∙ items_end ps l bs h
    ∙ ap (λ b. list_block ps ∷ b) (sym (line_more tree_blocks text (end + 1) next tree_same e))

pub items_last : (ps : List Inline) (text : Bytes) (end : ℕ) → length text ≤ end → items_then ps (lines_from (drop (end + 1) text)) ≡ list_block ps ∷ tree_from (drop (end + 1) text)
items_last ps text end h =
    let none : drop (end + 1) text ≡ [] = drop_all (end + 1) text (omega (arith, h)) in
    ap (λ t. items_then ps (lines_from t)) none ∙ sym (ap (λ t. list_block ps ∷ tree_from t) none)

-- a line more of a paragraph
pub take_on : (s : Bytes) (a b : ℕ) → a < length s → take (a + suc b) s ≡ take a s ++ (get_or s a 0 ∷ take b (drop (suc a) s))
take_on [] a b h = let no : ⊥ = omega (arith, h) in absurd no
take_on (c ∷ s) zero b h = ap (λ k. take k (c ∷ s)) (let z : 0 + suc b ≡ suc b = omega arith in z)
take_on (c ∷ s) (suc a) b h =
    ap (λ k. take k (c ∷ s)) (let z : suc a + suc b ≡ suc (a + suc b) = omega arith in z)
    ∙ ap (λ t. c ∷ t) (take_on s a b (omega (arith, h)))

joined : (text : Bytes) (from end next : ℕ) → from ≤ end → end < next → end < length text → get_or text end 0 ≡ line_feed
    → line_between text from next ≡ line_between text from end ++ (line_feed ∷ line_between text (end + 1) next)
joined text from end next a b l f =
    let s = drop from text in
    let x = end - from in
    let y = next - (end + 1) in
    let len : length s ≡ length text - from = length-drop from text in
    let there : get_or s x 0 ≡ line_feed = get_or-drop from text x 0 ∙ ap (λ k. get_or text k 0) (let z : from + x ≡ end = omega (arith, a) in z) ∙ f in
    let rest : drop (suc x) s ≡ drop (end + 1) text = drop_drop (suc x) from text ∙ ap (λ k. drop k text) (let z : from + suc x ≡ end + 1 = omega (arith, a) in z) in
    ap (λ k. take k s) (let z : next - from ≡ x + suc y = omega (arith, a, b) in z)
    ∙ take_on s x y (omega (arith, a, l, len))
    ∙ ap (λ c. take x s ++ (c ∷ take y (drop (suc x) s))) there ∙ ap (λ t. take x s ++ (line_feed ∷ take y t)) rest

pub line_joined : (text : Bytes) (from end next : ℕ) → from ≤ end → end < next → end < length text → get_or text end 0 ≡ line_feed
    → next ≡ next_place feed (end + 1) text → line_of (line_between text (end + 1) next) ≡ PlainLine (line_between text (end + 1) next)
    → paragraph_then (line_between text from next) (lines_from (drop (next + 1) text)) ≡ paragraph_then (line_between text from end) (lines_from (drop (end + 1) text))
line_joined text from end next a b l f e k =
    let p = line_between text from end in
    let t = line_between text (end + 1) next in
    let bs = lines_from (drop (next + 1) text) in
    ap (λ q. paragraph_then q bs) (joined text from end next a b l f) ∙ sym (paragraph_goes_on p t bs)
    ∙ sym (line_more (paragraph_then p) text (end + 1) next (paragraph_same p) e ∙ ap (λ x. paragraph_then p (with_prefix x bs)) k)

paragraph_stops : (p text : Bytes) (end next : ℕ) → next ≡ next_place feed (end + 1) text → IsNotPlain (line_of (line_between text (end + 1) next))
    → paragraph_then p (lines_from (drop (end + 1) text)) ≡ paragraph_block p ∷ tree_from (drop (end + 1) text)
paragraph_stops p text end next e h =
    let l = line_of (line_between text (end + 1) next) in
    let bs = lines_from (drop (next + 1) text) in
    line_more (paragraph_then p) text (end + 1) next (paragraph_same p) e ∙ paragraph_end p l bs h
    ∙ ap (λ b. paragraph_block p ∷ b) (sym (line_more tree_blocks text (end + 1) next tree_same e))

pub paragraph_last : (p text : Bytes) (end : ℕ) → length text ≤ end → paragraph_then p (lines_from (drop (end + 1) text)) ≡ paragraph_block p ∷ tree_from (drop (end + 1) text)
paragraph_last p text end h =
    let none : drop (end + 1) text ≡ [] = drop_all (end + 1) text (omega (arith, h)) in
    ap (λ t. paragraph_then p (lines_from t)) none ∙ sym (ap (λ t. paragraph_block p ∷ tree_from t) none)

no_item : (line : Bytes) (l : Line) → line_of line ≡ l → IsNoItem l → IsNoItem (line_of line)
no_item line l e h = subst IsNoItem (sym e) h

not_plain : (line : Bytes) (l : Line) → line_of line ≡ l → IsNotPlain l → IsNotPlain (line_of line)
not_plain line l e h = subst IsNotPlain (sym e) h

pub items_to_blank : (ps : List Inline) (text : Bytes) (end next : ℕ) → next ≡ next_place feed (end + 1) text → line_of (line_between text (end + 1) next) ≡ Blank
    → items_then ps (lines_from (drop (end + 1) text)) ≡ list_block ps ∷ tree_from (drop (end + 1) text)
items_to_blank ps text end next e k = items_stop ps text end next e (no_item (line_between text (end + 1) next) Blank k tt)

pub items_to_heading : (ps : List Inline) (text m : Bytes) (n end next : ℕ) → next ≡ next_place feed (end + 1) text → line_of (line_between text (end + 1) next) ≡ HeadingLine n m
    → items_then ps (lines_from (drop (end + 1) text)) ≡ list_block ps ∷ tree_from (drop (end + 1) text)
items_to_heading ps text m n end next e k = items_stop ps text end next e (no_item (line_between text (end + 1) next) (HeadingLine n m) k tt)

pub items_to_plain : (ps : List Inline) (text t : Bytes) (end next : ℕ) → next ≡ next_place feed (end + 1) text → line_of (line_between text (end + 1) next) ≡ PlainLine t
    → items_then ps (lines_from (drop (end + 1) text)) ≡ list_block ps ∷ tree_from (drop (end + 1) text)
items_to_plain ps text t end next e k = items_stop ps text end next e (no_item (line_between text (end + 1) next) (PlainLine t) k tt)

pub paragraph_to_blank : (p text : Bytes) (end next : ℕ) → next ≡ next_place feed (end + 1) text → line_of (line_between text (end + 1) next) ≡ Blank
    → paragraph_then p (lines_from (drop (end + 1) text)) ≡ paragraph_block p ∷ tree_from (drop (end + 1) text)
paragraph_to_blank p text end next e k = paragraph_stops p text end next e (not_plain (line_between text (end + 1) next) Blank k tt)

pub paragraph_to_heading : (p text m : Bytes) (n end next : ℕ) → next ≡ next_place feed (end + 1) text → line_of (line_between text (end + 1) next) ≡ HeadingLine n m
    → paragraph_then p (lines_from (drop (end + 1) text)) ≡ paragraph_block p ∷ tree_from (drop (end + 1) text)
paragraph_to_heading p text m n end next e k = paragraph_stops p text end next e (not_plain (line_between text (end + 1) next) (HeadingLine n m) k tt)

pub paragraph_to_item : (p text t : Bytes) (end next : ℕ) → next ≡ next_place feed (end + 1) text → line_of (line_between text (end + 1) next) ≡ ItemLine t
    → paragraph_then p (lines_from (drop (end + 1) text)) ≡ paragraph_block p ∷ tree_from (drop (end + 1) text)
paragraph_to_item p text t end next e k = paragraph_stops p text end next e (not_plain (line_between text (end + 1) next) (ItemLine t) k tt)
