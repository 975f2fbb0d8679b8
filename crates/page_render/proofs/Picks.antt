-- Which rule holds at a place.
use Rattle.std.proofs.Common.{suc, ◌∷◌, length, take, drop, ◌≡◌, ℕ, ◌≤◌, ◌<◌, ◌+◌, ◌-◌, Bool, true, false, refl, arith, ap, sym, ◌∙◌, Some, None, nat_le, get_or}
use Rattle.std.specs.Prelude.{Option, codes, option_map, option_and_then, if◌then◌else◌, unwrap_or}
use Rattle.std.proofs.lemmas.Bool.Decides.{nat_tests}
use Rattle.std.proofs.Math.Seq.{drop-cons}
use Rattle.wiki_model.specs.Bytes.{Bytes}
use Rattle.wiki_model.specs.Limits.{included_max}
use Rattle.wiki_model.specs.Titles.{Title, Text}
use Rattle.wiki_model.specs.Html.{Templates, two, enclosed, bracketed, link, target_and_label, template_named, include, or_else, mark_at}
use Rattle.wiki_model.specs.Html as html
use Rattle.page_markup.specs.Mark.{link_target}
use Rattle.page_markup.specs.ClosingPlaces.{between, cut_within}
use Rattle.page_markup.proofs.Singles.{differs}
use Rattle.page_render.specs.Use.{IsUse, marked, mark_used, IsIncluded, first_quotes}
use Rattle.page_render.specs.AsModel.{Pairs, template_text}
use Rattle.page_render.specs.Templates.{text_named}
use Rattle.page_render.specs.declared.choose_mark.Use.{Use}
use Rattle.page_render.specs.declared.choose_mark.Use.TheVariants.{Byte, Quotes, Link, Include}
use Rattle.page_render.specs.declared.choose_mark.Emphasis.TheVariants.{BoldItalic, Bold, Italic}

-- quotes, one kind after another
pub five_used : (at to close : ℕ) (text : Bytes) → cut_within 5 at to text (Some close) ≡ enclosed (codes "'''''") (between at to text)
    → marked at to text (Quotes BoldItalic close) ≡ first_quotes (between at to text)
five_used at to close text e =
    ap (λ o. or_else (two html.BoldItalic o) (or_else (two html.Bold (enclosed (codes "'''") (between at to text))) (two html.Italic (enclosed (codes "''") (between at to text))))) e

pub three_used : (at to close : ℕ) (text : Bytes) → cut_within 5 at to text None ≡ enclosed (codes "'''''") (between at to text)
    → cut_within 3 at to text (Some close) ≡ enclosed (codes "'''") (between at to text) → marked at to text (Quotes Bold close) ≡ first_quotes (between at to text)
three_used at to close text a e =
    ap (λ o. or_else (two html.Bold o) (two html.Italic (enclosed (codes "''") (between at to text)))) e
    ∙ ap (λ o. or_else (two html.BoldItalic o) (or_else (two html.Bold (enclosed (codes "'''") (between at to text))) (two html.Italic (enclosed (codes "''") (between at to text))))) a

last_of_three : (at to : ℕ) (text : Bytes) (o : Option (Bytes × Bytes)) → cut_within 5 at to text None ≡ enclosed (codes "'''''") (between at to text)
    → cut_within 3 at to text None ≡ enclosed (codes "'''") (between at to text) → o ≡ enclosed (codes "''") (between at to text)
    → two html.Italic o ≡ first_quotes (between at to text)
last_of_three at to text o a b e =
    ap (two html.Italic) e
    ∙ ap (λ p. or_else (two html.Bold p) (two html.Italic (enclosed (codes "''") (between at to text)))) b
    ∙ ap (λ p. or_else (two html.BoldItalic p) (or_else (two html.Bold (enclosed (codes "'''") (between at to text))) (two html.Italic (enclosed (codes "''") (between at to text))))) a

pub two_used : (at to close : ℕ) (text : Bytes) → cut_within 5 at to text None ≡ enclosed (codes "'''''") (between at to text)
    → cut_within 3 at to text None ≡ enclosed (codes "'''") (between at to text) → cut_within 2 at to text (Some close) ≡ enclosed (codes "''") (between at to text)
    → marked at to text (Quotes Italic close) ≡ first_quotes (between at to text)
two_used at to close text a b e = last_of_three at to text (cut_within 2 at to text (Some close)) a b e

pub none_used : (at to : ℕ) (text : Bytes) → cut_within 5 at to text None ≡ enclosed (codes "'''''") (between at to text)
    → cut_within 3 at to text None ≡ enclosed (codes "'''") (between at to text) → cut_within 2 at to text None ≡ enclosed (codes "''") (between at to text)
    → marked at to text Byte ≡ first_quotes (between at to text)
none_used at to text a b e = last_of_three at to text None a b e

-- links
abbrev pub linked : Bytes × Bytes → Option Title → Option html.Mark
linked p target = option_map (λ t. html.Link t (target_and_label p.0).1 p.1) target

pub link_used : (at to close : ℕ) (text : Bytes) (title : Title) → cut_within 2 at to text (Some close) ≡ bracketed (codes "[[") (codes "]]") (between at to text)
    → Some title ≡ link_target (between (at + 2) close text)
    → marked at to text (Link title close) ≡ option_and_then link (bracketed (codes "[[") (codes "]]") (between at to text))
link_used at to close text title e t = ap (linked (between (at + 2) close text, between (close + 2) to text)) t ∙ ap (option_and_then link) e

pub link_unused : (at to close : ℕ) (text : Bytes) → cut_within 2 at to text (Some close) ≡ bracketed (codes "[[") (codes "]]") (between at to text)
    → (let none : Option Title = None in none) ≡ link_target (between (at + 2) close text)
    → marked at to text Byte ≡ option_and_then link (bracketed (codes "[[") (codes "]]") (between at to text))
link_unused at to close text e t = ap (linked (between (at + 2) close text, between (close + 2) to text)) t ∙ ap (option_and_then link) e

-- templates
abbrev pub fitting : ℕ → Bytes → Option Text → Option html.Mark
fitting n rest found = option_and_then (λ text. if nat_le (n + length text) included_max then Some (html.Include text rest) else None) found

fits_by : (n : ℕ) (rest : Bytes) (t : Text) (b : Bool) → nat_le (n + length t) included_max ≡ b → n + length t ≤ included_max → Some (html.Include t rest) ≡ fitting n rest (Some t)
fits_by n rest t true e h = rw e refl
fits_by n rest t false e h = let no : ⊥ = grind (arith, nat_tests) in absurd no

past_by : (n : ℕ) (rest : Bytes) (t : Text) (b : Bool) → nat_le (n + length t) included_max ≡ b → included_max < n + length t → None ≡ fitting n rest (Some t)
past_by n rest t false e h = rw e refl
past_by n rest t true e h = let no : ⊥ = grind (arith, nat_tests) in absurd no

if_fits : (at to n close : ℕ) (text : Bytes) (t : Text) (u : Use) → IsIncluded t n close u → marked at to text u ≡ fitting n (between (close + 2) to text) (Some t)
if_fits at to n close text t Byte h = past_by n (between (close + 2) to text) t (nat_le (n + length t) included_max) refl h
if_fits at to n close text t (Quotes emphasis place) h = absurd h
if_fits at to n close text t (Link title place) h = absurd h
if_fits at to n close text t (Include template place) h =
    ap (λ x. Some (html.Include x (between (place + 2) to text))) h.0 ∙ ap (λ k. Some (html.Include t (between (k + 2) to text))) h.1
    ∙ fits_by n (between (close + 2) to text) t (nat_le (n + length t) included_max) refl h.2

pub template_used : (pairs : Pairs) (at to n close : ℕ) (text : Bytes) (t : Text) (u : Use) → cut_within 2 at to text (Some close) ≡ bracketed (codes "{{") (codes "}}") (between at to text)
    → text_named pairs (between (at + 2) close text) ≡ Some t → IsIncluded t n close u
    → marked at to text u ≡ option_and_then (include (template_text pairs) n) (bracketed (codes "{{") (codes "}}") (between at to text))
template_used pairs at to n close text t u e f h =
    if_fits at to n close text t u h ∙ ap (fitting n (between (close + 2) to text)) (sym f) ∙ ap (option_and_then (include (template_text pairs) n)) e

pub template_unused : (pairs : Pairs) (at to n close : ℕ) (text : Bytes) → cut_within 2 at to text (Some close) ≡ bracketed (codes "{{") (codes "}}") (between at to text)
    → text_named pairs (between (at + 2) close text) ≡ None
    → marked at to text Byte ≡ option_and_then (include (template_text pairs) n) (bracketed (codes "{{") (codes "}}") (between at to text))
template_unused pairs at to n close text e f = ap (fitting n (between (close + 2) to text)) (sym f) ∙ ap (option_and_then (include (template_text pairs) n)) e

pub included_use : (at to n close : ℕ) (t : Text) (u : Use) → IsIncluded t n close u → at + 2 ≤ close → close + 2 ≤ to → IsUse at to n true u
included_use at to n close t Byte h a b = tt
included_use at to n close t (Quotes emphasis place) h a b = absurd h
included_use at to n close t (Link title place) h a b = absurd h
included_use at to n close t (Include template place) h a b = (omega (arith, a, h.1), omega (arith, b, h.1), refl, omega (arith, h.2, ap length h.0))

-- the first byte of a place says which rules can hold
quotes_none : (c : ℕ) (rest : Bytes) → (c ≡ 39 → ⊥) → first_quotes (c ∷ rest) ≡ None
quotes_none c rest h = rw (differs 39 c (λ e. h (sym e))) refl

links_none : (c : ℕ) (rest : Bytes) → (c ≡ 91 → ⊥) → bracketed (codes "[[") (codes "]]") (c ∷ rest) ≡ None
links_none c rest h = rw (differs 91 c (λ e. h (sym e))) refl

templates_none : (c : ℕ) (rest : Bytes) → (c ≡ 123 → ⊥) → bracketed (codes "{{") (codes "}}") (c ∷ rest) ≡ None
templates_none c rest h = rw (differs 123 c (λ e. h (sym e))) refl

-- the rules in their order, the three kinds of quotes as one
abbrev pub in_order : (quotes links included : Option html.Mark) → html.Mark → html.Mark
in_order quotes links included byte = unwrap_or (or_else quotes (or_else links included)) byte

abbrev pub if_read : Bool → Option html.Mark → Option html.Mark
if_read b o = if b then o else None

three_first : (a b c d e : Option html.Mark) (byte : html.Mark) → unwrap_or (or_else a (or_else b (or_else c (or_else d e)))) byte ≡ in_order (or_else a (or_else b c)) d e byte
three_first None None None d e byte = refl
three_first None None (Some z) d e byte = refl
three_first None (Some y) c d e byte = refl
three_first (Some x) b c d e byte = refl

mark_is : (templates : Templates) (b : Bool) (n c : ℕ) (rest : Bytes)
    → mark_at templates b n c rest
    ≡ in_order (first_quotes (c ∷ rest)) (option_and_then link (bracketed (codes "[[") (codes "]]") (c ∷ rest)))
    (if_read b (option_and_then (include templates n) (bracketed (codes "{{") (codes "}}") (c ∷ rest)))) (html.Byte c rest)
mark_is templates b n c rest =
    three_first (two html.BoldItalic (enclosed (codes "'''''") (c ∷ rest))) (two html.Bold (enclosed (codes "'''") (c ∷ rest))) (two html.Italic (enclosed (codes "''") (c ∷ rest)))
    (option_and_then link (bracketed (codes "[[") (codes "]]") (c ∷ rest)))
    (if_read b (option_and_then (include templates n) (bracketed (codes "{{") (codes "}}") (c ∷ rest)))) (html.Byte c rest)

unread : (b : Bool) → if_read b None ≡ None
unread true = refl
unread false = refl

alone : (a : Option html.Mark) (byte : html.Mark) → in_order a None None byte ≡ unwrap_or a byte
alone None byte = refl
alone (Some m) byte = refl

no_template : (templates : Templates) (b : Bool) (n c : ℕ) (rest : Bytes) → (c ≡ 123 → ⊥)
    → if_read b (option_and_then (include templates n) (bracketed (codes "{{") (codes "}}") (c ∷ rest))) ≡ None
no_template templates b n c rest h = ap (λ o. if_read b (option_and_then (include templates n) o)) (templates_none c rest h) ∙ unread b

pub quotes_mark : (templates : Templates) (b : Bool) (n c : ℕ) (rest : Bytes) → c ≡ 39 → mark_at templates b n c rest ≡ unwrap_or (first_quotes (c ∷ rest)) (html.Byte c rest)
quotes_mark templates b n c rest e =
    let q = first_quotes (c ∷ rest) in
    let t = if_read b (option_and_then (include templates n) (bracketed (codes "{{") (codes "}}") (c ∷ rest))) in
    mark_is templates b n c rest
    ∙ ap (λ o. in_order q (option_and_then link o) t (html.Byte c rest)) (links_none c rest (λ x. let no : ⊥ = omega (arith, e, x) in no))
    ∙ ap (λ o. in_order q None o (html.Byte c rest)) (no_template templates b n c rest (λ x. let no : ⊥ = omega (arith, e, x) in no))
    ∙ alone q (html.Byte c rest)

beside : (a : Option html.Mark) (byte : html.Mark) → in_order None a None byte ≡ unwrap_or a byte
beside None byte = refl
beside (Some m) byte = refl

pub link_mark : (templates : Templates) (b : Bool) (n c : ℕ) (rest : Bytes) → c ≡ 91
    → mark_at templates b n c rest ≡ unwrap_or (option_and_then link (bracketed (codes "[[") (codes "]]") (c ∷ rest))) (html.Byte c rest)
link_mark templates b n c rest e =
    let l = option_and_then link (bracketed (codes "[[") (codes "]]") (c ∷ rest)) in
    mark_is templates b n c rest
    ∙ ap (λ q. in_order q l (if_read b (option_and_then (include templates n) (bracketed (codes "{{") (codes "}}") (c ∷ rest)))) (html.Byte c rest)) (quotes_none c rest (λ x. let no : ⊥ = omega (arith, e, x) in no))
    ∙ ap (λ o. in_order None l o (html.Byte c rest)) (no_template templates b n c rest (λ x. let no : ⊥ = omega (arith, e, x) in no))
    ∙ beside l (html.Byte c rest)

pub template_mark : (templates : Templates) (n c : ℕ) (rest : Bytes) → c ≡ 123
    → mark_at templates true n c rest ≡ unwrap_or (option_and_then (include templates n) (bracketed (codes "{{") (codes "}}") (c ∷ rest))) (html.Byte c rest)
template_mark templates n c rest e =
    let t = option_and_then (include templates n) (bracketed (codes "{{") (codes "}}") (c ∷ rest)) in
    mark_is templates true n c rest
    ∙ ap (λ q. in_order q (option_and_then link (bracketed (codes "[[") (codes "]]") (c ∷ rest))) t (html.Byte c rest)) (quotes_none c rest (λ x. let no : ⊥ = omega (arith, e, x) in no))
    ∙ ap (λ o. in_order None (option_and_then link o) t (html.Byte c rest)) (links_none c rest (λ x. let no : ⊥ = omega (arith, e, x) in no))

pub byte_mark : (templates : Templates) (b : Bool) (n c : ℕ) (rest : Bytes) → (c ≡ 39 → ⊥) → (c ≡ 91 → ⊥) → (c ≡ 123 → ⊥) → mark_at templates b n c rest ≡ html.Byte c rest
byte_mark templates b n c rest x y z =
    mark_is templates b n c rest
    ∙ ap (λ q. in_order q (option_and_then link (bracketed (codes "[[") (codes "]]") (c ∷ rest))) (if_read b (option_and_then (include templates n) (bracketed (codes "{{") (codes "}}") (c ∷ rest)))) (html.Byte c rest)) (quotes_none c rest x)
    ∙ ap (λ o. in_order None (option_and_then link o) (if_read b (option_and_then (include templates n) (bracketed (codes "{{") (codes "}}") (c ∷ rest)))) (html.Byte c rest)) (links_none c rest y)
    ∙ ap (λ o. in_order None None o (html.Byte c rest)) (no_template templates b n c rest z)

-- a text from a place on
pub between_on : (at to : ℕ) (text : Bytes) → at < to → to ≤ length text → between at to text ≡ get_or text at 0 ∷ between (at + 1) to text
between_on at to text h k =
    ap (take (to - at)) (drop-cons text at 0 (omega (arith, h, k)))
    ∙ ap (λ n. take n (get_or text at 0 ∷ drop (suc at) text)) (let z : to - at ≡ suc (to - (at + 1)) = omega arith in z)
    ∙ ap (λ n. get_or text at 0 ∷ take (to - (at + 1)) (drop n text)) (let z : suc at ≡ at + 1 = omega arith in z)

-- the mark of the place, from what was found there
pub mark_found : (at to : ℕ) (text : Bytes) (u : Use) (found : Bytes → Option html.Mark) (mark : html.Mark) → at < to → to ≤ length text
    → marked at to text u ≡ found (between at to text)
    → mark ≡ unwrap_or (found (get_or text at 0 ∷ between (at + 1) to text)) (html.Byte (get_or text at 0) (between (at + 1) to text))
    → mark_used at to text u ≡ mark
mark_found at to text u found mark h k e m =
    ap (λ o. unwrap_or o (html.Byte (get_or text at 0) (between (at + 1) to text))) (e ∙ ap found (between_on at to text h k)) ∙ sym m
