-- One place of a text read, by what is used there.
use Rattle.std.proofs.Common.{zero, suc, [], ◌∷◌, ◌++◌, length, take, drop, ◌≡◌, ℕ, ◌≤◌, ◌<◌, ◌+◌, ◌-◌, Bool, true, false, refl, arith, ap, sym, ◌∙◌, nat_lt, get_or, append_assoc, append-nil}
use Rattle.std.proofs.lemmas.Bool.Decides.{nat_tests}
use Rattle.wiki_model.specs.Bytes.{Bytes, replaced, line_feed, space}
use Rattle.wiki_model.specs.Html.{Templates, Reader, Reading, mark_at, read_mark, then_rest, inline, escaped, escaped_byte, element}
use Rattle.wiki_model.specs.Html as html
use Rattle.page_markup.specs.ClosingPlaces.{between}
use Rattle.page_render.specs.declared.choose_mark.Emphasis.{Emphasis}
use Rattle.page_render.specs.declared.choose_mark.Emphasis.TheVariants.{BoldItalic, Bold, Italic}
use Rattle.page_render.specs.declared.choose_mark.Use.{Use}
use Rattle.page_render.specs.declared.choose_mark.Use.TheVariants.{Byte, Quotes, Link, Include}
use Rattle.page_render.specs.AsModel.{template_text}
use Rattle.page_render.specs.Draft.{Draft, then_reads, with_text}
use Rattle.page_render.specs.Use.{IsUse, mark_used, place_after, shown, with_shown, emphasized, width_of, opening_of, closing_of}
use Rattle.page_render.proofs.Picks.{between_on}
use Rattle.page_render.proofs.Fuel.{reading_on}

abbrev pub unread_text : Reader
unread_text m inner = record { html = []; included = m }

-- how an included text is read
abbrev pub inside : Templates → ℕ → Reader
inside templates zero = unread_text
inside templates (suc depth) = inline templates depth

some_depth : (d : ℕ) → nat_lt 0 (suc d) ≡ true
some_depth d = grind (arith, nat_tests)

pub inline_on : (templates : Templates) (depth n c : ℕ) (rest : Bytes)
    → inline templates depth n (c ∷ rest) ≡ read_mark (inline templates depth) (inside templates depth) n (mark_at templates (nat_lt 0 depth) n c rest)
inline_on templates zero n c rest = reading_on templates false unread_text n c rest
inline_on templates (suc d) n c rest =
    reading_on templates true (inline templates d) n c rest
    ∙ ap (λ b. read_mark (inline templates (suc d)) (inline templates d) n (mark_at templates b n c rest)) (sym (some_depth d))

-- the mark that stands at a place
abbrev pub mark_there : Templates → (depth n at to : ℕ) → Bytes → html.Mark
mark_there templates depth n at to text = mark_at templates (nat_lt 0 depth) n (get_or text at 0) (between (at + 1) to text)

-- the place that is read next
pub step_is : (templates : Templates) (depth n at to : ℕ) (text : Bytes) (mark : html.Mark) → at < to → to ≤ length text → mark ≡ mark_there templates depth n at to text
    → inline templates depth n (between at to text) ≡ read_mark (inline templates depth) (inside templates depth) n mark
step_is templates depth n at to text mark h k e =
    ap (inline templates depth n) (between_on at to text h k)
    ∙ inline_on templates depth n (get_or text at 0) (between (at + 1) to text)
    ∙ ap (read_mark (inline templates depth) (inside templates depth) n) (sym e)

pub quotes_read : (read include_text : Reader) (n : ℕ) (emphasis : Emphasis) (inner rest : Bytes)
    → read_mark read include_text n (emphasized emphasis inner rest) ≡ then_rest read (opening_of emphasis) (closing_of emphasis) rest (read n inner)
quotes_read read i n BoldItalic inner rest = refl
quotes_read read i n Bold inner rest = refl
quotes_read read i n Italic inner rest = refl

-- what is shown for a place, and then what is left
abbrev then_read : Reader → Reading → Bytes → Reading
then_read read first rest =
    let tail = read first.included rest in
    record { html = first.html ++ tail.html; included = tail.included }

no_tags : (read : Reader) (first : Reading) (rest : Bytes) → then_rest read [] [] rest first ≡ then_read read first rest
no_tags read first rest =
    let tail = read first.included rest in
    ap (λ x. let r : Reading = record { html = x ++ tail.html; included = tail.included } in r) (append-nil first.html)

pub some_width : (emphasis : Emphasis) → 2 ≤ width_of emphasis
some_width BoldItalic = omega arith
some_width Bold = omega arith
some_width Italic = omega arith

-- nothing is left
nothing_read : (templates : Templates) (depth n : ℕ) → inline templates depth n [] ≡ record { html = []; included = n }
nothing_read templates zero n = refl
nothing_read templates (suc depth) n = refl

pub at_the_end : (templates : Templates) (depth n at to : ℕ) (text : Bytes) → to ≤ at → inline templates depth n (between at to text) ≡ record { html = []; included = n }
at_the_end templates depth n at to text h =
    ap (λ k. inline templates depth n (take k (drop at text))) (let z : to - at ≡ 0 = omega (arith, h) in z) ∙ nothing_read templates depth n

deep : (d : ℕ) → nat_lt 0 d ≡ true → 0 < d
deep zero e = let no : ⊥ = cc in absurd no
deep (suc d) e = omega arith

-- an included text is read by the same call, one template less deep
inside_part : (templates : Templates) (depth n k : ℕ) (template : Bytes) → 0 < depth → k ≡ n + length template
    → inline templates (depth - 1) k (replaced line_feed space template) ≡ inside templates depth (n + length template) (replaced line_feed space template)
inside_part templates zero n k template h i = let no : ⊥ = omega (arith, h) in absurd no
inside_part templates (suc d) n k template h i =
    ap (λ x. inline templates x k (replaced line_feed space template)) (let z : suc d - 1 ≡ d = omega arith in z)
    ∙ ap (λ x. inline templates d x (replaced line_feed space template)) i

-- the mark that is used at a place is read as what is shown for it, and then the rest
use_read : (templates : Templates) (depth n at to : ℕ) (text : Bytes) (used : Use) → IsUse at to n (nat_lt 0 depth) used
    → read_mark (inline templates depth) (inside templates depth) n (mark_used at to text used)
    ≡ then_read (inline templates depth) (shown templates depth n at text used) (between (place_after at used) to text)
use_read templates depth n at to text Byte b = no_tags (inline templates depth) (shown templates depth n at text Byte) (between (at + 1) to text)
use_read templates depth n at to text (Quotes emphasis close) b =
    quotes_read (inline templates depth) (inside templates depth) n emphasis (between (at + width_of emphasis) close text) (between (close + width_of emphasis) to text)
use_read templates depth n at to text (Link title close) b = refl
use_read templates depth n at to text (Include template close) b =
    let rest = between (close + 2) to text in
    let size = n + length template.now in
    no_tags (inline templates depth) (inside templates depth size (replaced line_feed space template.now)) rest
    ∙ ap (λ r. then_read (inline templates depth) r rest) (sym (inside_part templates depth n size template.now (deep depth b.2) refl))

-- a page with a first reading and then the rest is the page with both
put_on : (d : Draft) (first tail whole : Reading) → whole ≡ (let r : Reading = record { html = first.html ++ tail.html; included = tail.included } in r)
    → then_reads (then_reads d first) tail ≡ then_reads d whole
put_on d first tail whole e =
    ap (λ x. (let z : Draft = record { html = x; included = tail.included; templates = d.templates } in z)) (append_assoc d.html first.html tail.html)
    ∙ ap (then_reads d) (sym e)

-- what is used at a place was written, and what stands after it is left
pub use_goes : (d e : Draft) (depth at to : ℕ) (text : Bytes) (used : Use) → at < to → to ≤ length text
    → IsUse at to d.included (nat_lt 0 depth) used → mark_used at to text used ≡ mark_there (template_text d.templates) depth d.included at to text
    → e ≡ with_shown d depth at text used
    → with_text e depth (between (place_after at used) to text) ≡ with_text d depth (between at to text)
use_goes d e depth at to text used h k b m w =
    let T = template_text d.templates in
    let first = shown T depth d.included at text used in
    let rest = between (place_after at used) to text in
    let tail = inline T depth first.included rest in
    let whole = step_is T depth d.included at to text (mark_used at to text used) h k m ∙ use_read T depth d.included at to text used b in
    ap (λ x. with_text x depth rest) w ∙ put_on d first tail (inline T depth d.included (between at to text)) whole

-- nothing is left
pub ended : (d : Draft) (depth at to : ℕ) (text : Bytes) → to ≤ at → with_text d depth (between at to text) ≡ d
ended d depth at to text h =
    ap (then_reads d) (at_the_end (template_text d.templates) depth d.included at to text h)
    ∙ ap (λ x. (let z : Draft = record { html = x; included = d.included; templates = d.templates } in z)) (append-nil d.html)

-- where what is used at a place ends
pub place_past : (at to n : ℕ) (reads : Bool) (used : Use) → at < to → IsUse at to n reads used → (at < place_after at used) × (place_after at used ≤ to)
place_past at to n reads Byte h b = (omega arith, omega (arith, h))
place_past at to n reads (Quotes emphasis close) h b = let some = some_width emphasis in (omega (arith, b.0, some), omega (arith, b.1))
place_past at to n reads (Link title close) h b = (omega (arith, b.0), omega (arith, b.1))
place_past at to n reads (Include template close) h b = (omega (arith, b.0), omega (arith, b.1))
