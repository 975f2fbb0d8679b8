-- The templates that a text names, as it stands or when it is read in one line. In one line, braces stand where they stand in the text,
-- since neither a line feed nor a space is one; so it is enough to read in one line what stands between them.
use Rattle.std.proofs.Common.{zero, suc, [], ◌∷◌, List, length, take, drop, ◌≡◌, ℕ, ◌+◌, ◌-◌, Bool, true, false, cond, refl, arith, ap, sym, ◌∙◌, Some, None, nat_eq, nat_le, subst}
use Rattle.std.specs.Prelude.{Option, codes, option_map, option_and_then, if◌then◌else◌, ◌&&◌, ⊤}
use Rattle.std.proofs.lemmas.Bool.Decides.{nat_tests}
use Rattle.std.proofs.lemmas.List.{length-map, length-drop, take_all}
use Rattle.wiki_model.specs.Bytes.{Bytes, begins, cut_at, line_feed, replaced, space}
use Rattle.wiki_model.specs.Titles.{Title}
use Rattle.wiki_model.specs.Html.{bracketed, if_short, template_named}
use Rattle.page_markup.specs.ClosingPlaces.{between, cut_within}
use Rattle.page_markup.specs.declared.collect_names.Lines.{Lines}
use Rattle.page_markup.specs.declared.collect_names.Lines.TheVariants.{Kept, AsSpaces}
use Rattle.page_markup.specs.Names.{AddsNames, listed, name_here, named_between, read_as}
use Rattle.page_markup.proofs.Named.{adds_nothing}

abbrev pub in_line : Bytes → Bytes
in_line s = replaced line_feed space s

abbrev in_line_byte : ℕ → ℕ
in_line_byte c = if nat_eq c 10 then 32 else c

abbrev both : Bytes × Bytes → Bytes × Bytes
both p = (in_line p.0, in_line p.1)

-- bytes that are neither line feeds nor spaces
abbrev AreSigns : Bytes → Type 0
AreSigns [] = ⊤
AreSigns (m ∷ ms) = (nat_eq m 10 ≡ false) × (nat_eq m 32 ≡ false) × AreSigns ms

sign_by : (m c : ℕ) (b : Bool) → nat_eq c 10 ≡ b → nat_eq m 10 ≡ false → nat_eq m 32 ≡ false → nat_eq m (if b then 32 else c) ≡ nat_eq m c
sign_by m c true e f g = g ∙ sym (let z : nat_eq m c ≡ false = grind (arith, nat_tests) in z)
sign_by m c false e f g = refl

begins_same : (ms s : Bytes) → AreSigns ms → begins ms (in_line s) ≡ begins ms s
begins_same [] [] h = refl
begins_same [] (c ∷ s) h = refl
begins_same (m ∷ ms) [] h = refl
begins_same (m ∷ ms) (c ∷ s) h =
    ap (λ b. b && begins ms (in_line s)) (sign_by m c (nat_eq c 10) refl h.0 h.1) ∙ ap (λ b. nat_eq m c && b) (begins_same ms s h.2)

cond_same : {A : Type 0} (b d : Bool) (x z y w : A) → b ≡ d → x ≡ z → y ≡ w → cond b x y ≡ cond d z w
cond_same b d x z y w e f g = ap (λ c. cond c x y) e ∙ ap (λ v. cond d v y) f ∙ ap (λ v. cond d z v) g

map_cond : (d : Bool) (x y : Option (Bytes × Bytes)) → cond d (option_map both x) (option_map both y) ≡ option_map both (cond d x y)
map_cond true x y = refl
map_cond false x y = refl

drop_same : (n : ℕ) (s : Bytes) → drop n (in_line s) ≡ in_line (drop n s)
drop_same zero s = refl
drop_same (suc n) [] = refl
drop_same (suc n) (c ∷ s) = drop_same n s

take_same : (n : ℕ) (s : Bytes) → take n (in_line s) ≡ in_line (take n s)
take_same zero s = refl
take_same (suc n) [] = refl
take_same (suc n) (c ∷ s) = ap (λ t. in_line_byte c ∷ t) (take_same n s)

with_first : (c : ℕ) (o : Option (Bytes × Bytes)) → option_map (λ p. (in_line_byte c ∷ p.0, p.1)) (option_map both o) ≡ option_map both (option_map (λ p. (c ∷ p.0, p.1)) o)
with_first c None = refl
with_first c (Some p) = refl

cut_same : (mark s : Bytes) → AreSigns mark → cut_at mark (in_line s) ≡ option_map both (cut_at mark s)
cut_same mark [] h = refl
cut_same mark (c ∷ s) h =
    cond_same (begins mark (in_line (c ∷ s))) (begins mark (c ∷ s))
    (Some ([], drop (length mark) (in_line (c ∷ s)))) (Some ([], in_line (drop (length mark) (c ∷ s))))
    (option_map (λ p. (in_line_byte c ∷ p.0, p.1)) (cut_at mark (in_line s))) (option_map both (option_map (λ p. (c ∷ p.0, p.1)) (cut_at mark s)))
    (begins_same mark (c ∷ s) h)
    (ap (λ t. Some ([], t)) (drop_same (length mark) (c ∷ s)))
    (ap (option_map (λ p. (in_line_byte c ∷ p.0, p.1))) (cut_same mark s h) ∙ with_first c (cut_at mark s))
    ∙ map_cond (begins mark (c ∷ s)) (Some ([], drop (length mark) (c ∷ s))) (option_map (λ p. (c ∷ p.0, p.1)) (cut_at mark s))

short_same : (o : Option (Bytes × Bytes)) → option_and_then if_short (option_map both o) ≡ option_map both (option_and_then if_short o)
short_same None = refl
short_same (Some p) =
    ap (λ n. cond (nat_le n 512) (Some (both p)) None) (length-map p.0 in_line_byte) ∙ map_cond (nat_le (length p.0) 512) (Some p) None

bracketed_same : (opening closing s : Bytes) → AreSigns opening → AreSigns closing → bracketed opening closing (in_line s) ≡ option_map both (bracketed opening closing s)
bracketed_same opening closing s h k =
    cond_same (begins opening (in_line s)) (begins opening s)
    (option_and_then if_short (cut_at closing (drop (length opening) (in_line s)))) (option_map both (option_and_then if_short (cut_at closing (drop (length opening) s))))
    None (option_map both None)
    (begins_same opening s h)
    (ap (λ t. option_and_then if_short (cut_at closing t)) (drop_same (length opening) s) ∙ ap (option_and_then if_short) (cut_same closing (drop (length opening) s) k)
    ∙ short_same (cut_at closing (drop (length opening) s)))
    refl
    ∙ map_cond (begins opening s) (option_and_then if_short (cut_at closing (drop (length opening) s))) None

abbrev names_of : Lines → Option (Bytes × Bytes) → List Title
names_of lines o = listed (option_and_then (λ p. template_named (read_as lines p.0)) o)

spaced : (o : Option (Bytes × Bytes)) → names_of AsSpaces o ≡ names_of Kept (option_map both o)
spaced None = refl
spaced (Some p) = refl

-- what braces at a place name
here : (lines : Lines) (s : Bytes) (o : Option (Bytes × Bytes)) → o ≡ bracketed (codes "{{") (codes "}}") s → names_of lines o ≡ name_here (read_as lines s)
here Kept s o e = ap (names_of Kept) e
here AsSpaces s o e =
    spaced o ∙ ap (λ q. names_of Kept (option_map both q)) e
    ∙ sym (ap (names_of Kept) (bracketed_same (codes "{{") (codes "}}") s (refl, refl, (refl, refl, tt)) (refl, refl, (refl, refl, tt))))

rest_is : (text : Bytes) (at : ℕ) → between at (length text) text ≡ drop at text
rest_is text at = take_all (length text - at) (drop at text) (omega (arith, length-drop at text))

at_place : (text : Bytes) (at : ℕ) (found : Option ℕ) → cut_within 2 at (length text) text found ≡ bracketed (codes "{{") (codes "}}") (between at (length text) text)
    → cut_within 2 at (length text) text found ≡ bracketed (codes "{{") (codes "}}") (drop at text)
at_place text at found e = e ∙ ap (bracketed (codes "{{") (codes "}}")) (rest_is text at)

pub name_found : (lines : Lines) (text : Bytes) (old new : List Title) (at close : ℕ)
    → cut_within 2 at (length text) text (Some close) ≡ bracketed (codes "{{") (codes "}}") (between at (length text) text)
    → AddsNames old new (named_between lines (between (at + 2) close text)) → AddsNames old new (name_here (read_as lines (drop at text)))
name_found lines text old new at close e adds =
    subst (AddsNames old new)
    (here lines (drop at text) (Some (between (at + 2) close text, between (close + 2) (length text) text)) (at_place text at (Some close) e)) adds

pub no_name : (lines : Lines) (text : Bytes) (old : List Title) (at : ℕ)
    → cut_within 2 at (length text) text None ≡ bracketed (codes "{{") (codes "}}") (between at (length text) text)
    → AddsNames old old (name_here (read_as lines (drop at text)))
no_name lines text old at e = subst (AddsNames old old) (here lines (drop at text) None (at_place text at None e)) (adds_nothing old)
