-- The texts of a page's blocks are parts of the page's text, and blocks whose texts are read alike give the same HTML.
use Rattle.std.proofs.Common.{suc, [], ◌∷◌, ◌++◌, List, length, take, drop, map, ◌≡◌, ℕ, ◌<◌, ◌+◌, ◌-◌, Bool, true, false, refl, arith, ap, sym, ◌∙◌, subst, nat_eq, append-nil}
use Rattle.std.specs.Prelude.{if◌then◌else◌, codes}
use Rattle.std.proofs.lemmas.Bool.Decides.{nat_tests}
use Rattle.std.proofs.Math.Seq.{take-length, take-append_seam, take-append-add}
use Rattle.wiki_model.specs.Bytes.{Bytes, line_feed, pieces, in_first, trimmed}
use Rattle.wiki_model.specs.Html.{Line, Blank, HeadingLine, ItemLine, PlainLine, Block, Gap, Heading, Items, Paragraph, line_of, is_heading, heading_level, middle_of, with_prefix, with_item, with_line, blocks_of, Reading, Reader, element, heading_tag, line_end, each_between, between, block, blocks}
use Rattle.replica_apply.proofs.Slices.{IsClosed, trimmed_part}

-- the lines of a text, joined again
abbrev behind : List Bytes → Bytes
behind [] = []
behind (l ∷ ls) = line_feed ∷ (l ++ behind ls)

abbrev joined : List Bytes → Bytes
joined [] = []
joined (l ∷ ls) = l ++ behind ls

some_first : (c : ℕ) (ls : List Bytes) → 0 < length (in_first c ls)
some_first c [] = omega arith
some_first c (l ∷ ls) = omega arith

some_pieces : (s : Bytes) → 0 < length (pieces 10 s)
some_pieces [] = omega arith
some_pieces (c ∷ s) = by (nat_eq c 10)
  where
    by : (b : Bool) → 0 < length (if b then [] ∷ pieces 10 s else in_first c (pieces 10 s))
    by true = omega arith
    by false = some_first c (pieces 10 s)

behind_some : (ls : List Bytes) → 0 < length ls → behind ls ≡ line_feed ∷ joined ls
behind_some [] h = let no : ⊥ = omega (arith, h) in absurd no
behind_some (l ∷ ls) h = refl

joined_first : (c : ℕ) (ls : List Bytes) → joined (in_first c ls) ≡ c ∷ joined ls
joined_first c [] = refl
joined_first c (l ∷ ls) = refl

joined_by : (c : ℕ) (s : Bytes) (b : Bool) → nat_eq c 10 ≡ b → joined (pieces 10 s) ≡ s → joined (if b then [] ∷ pieces 10 s else in_first c (pieces 10 s)) ≡ c ∷ s
joined_by c s true e h =
    let same : 10 ≡ c = grind (arith, nat_tests) in
    behind_some (pieces 10 s) (some_pieces s) ∙ ap (λ t. 10 ∷ t) h ∙ ap (λ k. k ∷ s) same
joined_by c s false e h = joined_first c (pieces 10 s) ∙ ap (λ t. c ∷ t) h

joined_pieces : (s : Bytes) → joined (pieces 10 s) ≡ s
joined_pieces [] = refl
joined_pieces (c ∷ s) = joined_by c s (nat_eq c 10) refl (joined_pieces s)

drop_past : (l : Bytes) (c : ℕ) (r : Bytes) → drop (suc (length l)) (l ++ (c ∷ r)) ≡ r
drop_past [] c r = refl
drop_past (x ∷ l) c r = drop_past l c r

-- the texts of blocks
abbrev pub AllOf : (P : Bytes → Type 0) → List Bytes → Type 0
AllOf P [] = Unit {0}
AllOf P (t ∷ ts) = P t × AllOf P ts

abbrev pub HeldBlocks : (P : Bytes → Type 0) → List Block → Type 0
HeldBlocks P [] = Unit {0}
HeldBlocks P (Gap ∷ bs) = HeldBlocks P bs
HeldBlocks P (Heading level text ∷ bs) = P text × HeldBlocks P bs
HeldBlocks P (Items texts ∷ bs) = AllOf P texts × HeldBlocks P bs
HeldBlocks P (Paragraph text ∷ bs) = P text × HeldBlocks P bs

-- a paragraph that comes first is a prefix of the text
abbrev Begins : List Block → Bytes → Type 0
Begins [] s = Unit {0}
Begins (Gap ∷ bs) s = Unit {0}
Begins (Heading level text ∷ bs) s = Unit {0}
Begins (Items texts ∷ bs) s = Unit {0}
Begins (Paragraph text ∷ bs) s = (k : ℕ) × (text ≡ take k s)

abbrev HeldLine : (P : Bytes → Type 0) → (line : Bytes) → Line → Type 0
HeldLine P line Blank = Unit {0}
HeldLine P line (HeadingLine level middle) = P middle
HeldLine P line (ItemLine text) = P text
HeldLine P line (PlainLine text) = text ≡ line

module _ (P : Bytes → Type 0) (closed : IsClosed P) where
  line_choice : (line : Bytes) (b : Bool) (l k : Line) → HeldLine P line l → HeldLine P line k → HeldLine P line (if b then l else k)
  line_choice line true l k h i = h
  line_choice line false l k h i = i

  line_held : (line : Bytes) → P line → HeldLine P line (line_of line)
  line_held line h =
      let n = heading_level line in
      let middle : P (middle_of n line) = trimmed_part P closed (take (length line - (n + n)) (drop n line)) (closed.prefixes (length line - (n + n)) (drop n line) (closed.backs n line h)) in
      let item : P (trimmed (drop 1 line)) = trimmed_part P closed (drop 1 line) (closed.backs 1 line h) in
      line_choice line _ Blank _ tt (line_choice line (is_heading line) (HeadingLine n (middle_of n line)) _ middle (line_choice line _ (ItemLine (trimmed (drop 1 line))) (PlainLine line) item refl))

  -- the last line, and a line before others
  last_held : (line : Bytes) (l : Line) → P line → HeldLine P line l → HeldBlocks P (with_prefix l []) × Begins (with_prefix l []) line
  last_held line Blank p h = (tt, tt)
  last_held line (HeadingLine n m) p h = ((h, tt), tt)
  last_held line (ItemLine t) p h = (((h, tt), tt), tt)
  last_held line (PlainLine t) p h = ((subst P (sym h) p, tt), (length line, h ∙ sym (take-length line)))

  item_held : (t : Bytes) (bs : List Block) (s : Bytes) → P t → HeldBlocks P bs → HeldBlocks P (with_item t bs) × Begins (with_item t bs) s
  item_held t [] s h i = (((h, tt), tt), tt)
  item_held t (Gap ∷ bs) s h i = (((h, tt), i), tt)
  item_held t (Heading n m ∷ bs) s h i = (((h, tt), i), tt)
  item_held t (Items us ∷ bs) s h i = (((h, i.0), i.1), tt)
  item_held t (Paragraph q ∷ bs) s h i = (((h, tt), i), tt)

  alone_held : (t r : Bytes) (bs : List Block) → P (t ++ (line_feed ∷ r)) → HeldBlocks P bs → HeldBlocks P (Paragraph t ∷ bs) × Begins (Paragraph t ∷ bs) (t ++ (line_feed ∷ r))
  alone_held t r bs p i =
      let e : take (length t) (t ++ (line_feed ∷ r)) ≡ t = take-append_seam t (line_feed ∷ r) in
      ((subst P e (closed.prefixes (length t) (t ++ (line_feed ∷ r)) p), i), (length t, sym e))

  paragraph_held : (t r : Bytes) (bs : List Block) → P (t ++ (line_feed ∷ r)) → HeldBlocks P bs → Begins bs r → HeldBlocks P (with_line t bs) × Begins (with_line t bs) (t ++ (line_feed ∷ r))
  paragraph_held t r [] p h b = alone_held t r [] p h
  paragraph_held t r (Gap ∷ bs) p h b = alone_held t r (Gap ∷ bs) p h
  paragraph_held t r (Heading n m ∷ bs) p h b = alone_held t r (Heading n m ∷ bs) p h
  paragraph_held t r (Items us ∷ bs) p h b = alone_held t r (Items us ∷ bs) p h
  paragraph_held t r (Paragraph q ∷ bs) p h b =
      let k = length t + suc b.0 in
      let e : t ++ (line_feed ∷ q) ≡ take k (t ++ (line_feed ∷ r)) = ap (λ u. t ++ (line_feed ∷ u)) b.1 ∙ sym (take-append-add t (line_feed ∷ r) (suc b.0)) in
      ((subst P (sym e) (closed.prefixes k (t ++ (line_feed ∷ r)) p), h.1), (k, e))

  prefix_held : (line r : Bytes) (l : Line) (bs : List Block) → P (line ++ (line_feed ∷ r)) → HeldLine P line l → HeldBlocks P bs → Begins bs r → HeldBlocks P (with_prefix l bs) × Begins (with_prefix l bs) (line ++ (line_feed ∷ r))
  prefix_held line r Blank bs p h i b = (i, tt)
  prefix_held line r (HeadingLine n m) bs p h i b = ((h, i), tt)
  prefix_held line r (ItemLine t) bs p h i b = item_held t bs (line ++ (line_feed ∷ r)) h i
  prefix_held line r (PlainLine t) bs p h i b = subst (λ x. HeldBlocks P (with_line x bs) × Begins (with_line x bs) (line ++ (line_feed ∷ r))) (sym h) (paragraph_held line r bs p i b)

  lines_held : (ls : List Bytes) → P (joined ls) → HeldBlocks P (blocks_of (map line_of ls)) × Begins (blocks_of (map line_of ls)) (joined ls)
  lines_held [] p = (tt, tt)
  lines_held (l ∷ []) p = by p
    where
      by : P (l ++ []) → HeldBlocks P (with_prefix (line_of l) []) × Begins (with_prefix (line_of l) []) (l ++ [])
      by q =
          let e : l ++ [] ≡ l = append-nil l in
          let here : P l = subst P e q in
          subst (λ s. HeldBlocks P (with_prefix (line_of l) []) × Begins (with_prefix (line_of l) []) s) (sym e) (last_held l (line_of l) here (line_held l here))
  lines_held (l ∷ m ∷ ls) p =
      let r = joined (m ∷ ls) in
      let here : P l = subst P (take-append_seam l (line_feed ∷ r)) (closed.prefixes (length l) (l ++ (line_feed ∷ r)) p) in
      let rest : P r = subst P (drop_past l line_feed r) (closed.backs (suc (length l)) (l ++ (line_feed ∷ r)) p) in
      let others = lines_held (m ∷ ls) rest in
      prefix_held l r (line_of l) (blocks_of (map line_of (m ∷ ls))) p (line_held l here) others.0 others.1

  pub blocks_held : (text : Bytes) → P text → HeldBlocks P (blocks_of (map line_of (pieces line_feed text)))
  blocks_held text p = (lines_held (pieces 10 text) (subst P (sym (joined_pieces text)) p)).0

-- blocks that are read alike
each_same : (r s : Reader) (P : Bytes → Type 0) (opening closing : Bytes) → ((text : Bytes) → P text → (n : ℕ) → r n text ≡ s n text) → (ts : List Bytes) → AllOf P ts → (n : ℕ)
    → each_between r opening closing ts n ≡ each_between s opening closing ts n
each_same r s P opening closing f [] h n = refl
each_same r s P opening closing f (t ∷ ts) h n =
    ap (λ a. let x : Reading = record { html = element opening closing a.html ++ (each_between r opening closing ts a.included).html; included = (each_between r opening closing ts a.included).included } in x) (f t h.0 n)
    ∙ ap (λ o. let x : Reading = record { html = element opening closing (s n t).html ++ o.html; included = o.included } in x) (each_same r s P opening closing f ts h.1 (s n t).included)

others_same : (r s : Reader) (bs : List Block) (a b : Reading) → a ≡ b → ((n : ℕ) → blocks r n bs ≡ blocks s n bs)
    → (let x : Reading = record { html = a.html ++ (blocks r a.included bs).html; included = (blocks r a.included bs).included } in x)
    ≡ (record { html = b.html ++ (blocks s b.included bs).html; included = (blocks s b.included bs).included })
others_same r s bs a b e h =
    ap (λ y. let x : Reading = record { html = y.html ++ (blocks r y.included bs).html; included = (blocks r y.included bs).included } in x) e
    ∙ ap (λ o. let x : Reading = record { html = b.html ++ o.html; included = o.included } in x) (h b.included)

pub blocks_same : (r s : Reader) (P : Bytes → Type 0) → ((text : Bytes) → P text → (n : ℕ) → r n text ≡ s n text) → (bs : List Block) → HeldBlocks P bs → (n : ℕ) → blocks r n bs ≡ blocks s n bs
blocks_same r s P f [] h n = refl
blocks_same r s P f (Gap ∷ bs) h n = others_same r s bs (block r n Gap) (block s n Gap) refl (λ m. blocks_same r s P f bs h m)
blocks_same r s P f (Heading l t ∷ bs) h n =
    others_same r s bs (block r n (Heading l t)) (block s n (Heading l t)) (ap (between (heading_tag (codes "<h") l) (heading_tag (codes "</h") l ++ line_end)) (f t h.0 n)) (λ m. blocks_same r s P f bs h.1 m)
blocks_same r s P f (Items ts ∷ bs) h n =
    others_same r s bs (block r n (Items ts)) (block s n (Items ts))
    (ap (between (codes "<ul>" ++ line_end) (codes "</ul>" ++ line_end)) (each_same r s P (codes "<li>") (codes "</li>" ++ line_end) f ts h.0 n)) (λ m. blocks_same r s P f bs h.1 m)
blocks_same r s P f (Paragraph t ∷ bs) h n =
    others_same r s bs (block r n (Paragraph t)) (block s n (Paragraph t)) (ap (between (codes "<p>") (codes "</p>" ++ line_end)) (f t h.0 n)) (λ m. blocks_same r s P f bs h.1 m)
