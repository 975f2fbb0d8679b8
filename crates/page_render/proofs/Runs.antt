-- A run of bytes at which no mark begins and which need no escape.
use Rattle.std.proofs.Common.{suc, [], ◌∷◌, ◌++◌, length, take, drop, ◌≡◌, ℕ, ◌≤◌, ◌<◌, ◌+◌, ◌-◌, Bool, true, false, refl, arith, ap, sym, ◌∙◌, nat_eq, nat_lt, get_or, append_assoc}
use Rattle.std.specs.Prelude.{not, ◌&&◌, ◌||◌}
use Rattle.std.specs.List.{list_all}
use Rattle.std.proofs.lemmas.Bool.Decides.{nat_tests}
use Rattle.std.proofs.lemmas.List.{length-drop, get_or-drop}
use Rattle.std.proofs.lemmas.List.Folds.{list_all-append}
use Rattle.std.proofs.Math.Seq.{take-add}
use Rattle.wiki_model.specs.Bytes.{Bytes}
use Rattle.wiki_model.specs.Html.{Templates, Reading, inline, escaped_byte, mark_at, read_mark}
use Rattle.wiki_model.specs.Html as html
use Rattle.page_markup.specs.ClosingPlaces.{between}
use Rattle.page_markup.proofs.Places.{drop_drop}
use Rattle.page_markup.proofs.Trees.{take_on}
use Rattle.page_render.specs.AsModel.{template_text}
use Rattle.page_render.specs.Draft.{Draft, put, then_reads, with_text}
use Rattle.page_render.specs.Use.{is_bare}
use Rattle.page_render.proofs.Picks.{byte_mark}
use Rattle.page_render.proofs.Steps.{inline_on, inside}

-- a byte more
one_more : (text : Bytes) (from at : ℕ) → from ≤ at → at < length text → between from (at + 1) text ≡ between from at text ++ (get_or text at 0 ∷ [])
one_more text from at o l =
    let s = drop from text in
    let x = at - from in
    ap (λ k. take k s) (let z : at + 1 - from ≡ x + suc 0 = omega (arith, o) in z)
    ∙ take_on s x 0 (omega (arith, o, l, length-drop from text))
    ∙ ap (λ c. take x s ++ (c ∷ [])) (get_or-drop from text x 0 ∙ ap (λ k. get_or text k 0) (let z : from + x ≡ at = omega (arith, o) in z))

pub bare_more : (text : Bytes) (from at : ℕ) → from ≤ at → at < length text → list_all is_bare (between from at text) ≡ true → is_bare (get_or text at 0) ≡ true
    → list_all is_bare (between from (at + 1) text) ≡ true
bare_more text from at o l h e =
    ap (list_all is_bare) (one_more text from at o l) ∙ list_all-append is_bare (between from at text) (get_or text at 0 ∷ []) ∙ rw (h, e) refl

-- what a bare byte is not
abbrev pub AreFalse : (a b c d e f g : Bool) → Type 0
AreFalse a b c d e f g = (a ≡ false) × (b ≡ false) × (c ≡ false) × (d ≡ false) × (e ≡ false) × (f ≡ false) × (g ≡ false)

seven : (a b c d e f g : Bool) → not (a || b || c || d || e || f || g) ≡ true → AreFalse a b c d e f g
seven false false false false false false false h = (refl, refl, refl, refl, refl, refl, refl)
seven true b c d e f g h = let no : ⊥ = cc in absurd no
seven false true c d e f g h = let no : ⊥ = cc in absurd no
seven false false true d e f g h = let no : ⊥ = cc in absurd no
seven false false false true e f g h = let no : ⊥ = cc in absurd no
seven false false false false true f g h = let no : ⊥ = cc in absurd no
seven false false false false false true g h = let no : ⊥ = cc in absurd no
seven false false false false false false true h = let no : ⊥ = cc in absurd no

none_of : (c : ℕ) → is_bare c ≡ true → AreFalse (nat_eq c 34) (nat_eq c 38) (nat_eq c 39) (nat_eq c 60) (nat_eq c 62) (nat_eq c 91) (nat_eq c 123)
none_of c h = seven (nat_eq c 34) (nat_eq c 38) (nat_eq c 39) (nat_eq c 60) (nat_eq c 62) (nat_eq c 91) (nat_eq c 123) h

is_not : (c k : ℕ) → nat_eq c k ≡ false → c ≡ k → ⊥
is_not c k e h = grind (arith, nat_tests)

bare_byte : (c : ℕ) → is_bare c ≡ true → escaped_byte c ≡ c ∷ []
bare_byte c h = let n = none_of c h in rw (n.1, n.3, n.4, n.0) refl

bare_mark : (templates : Templates) (b : Bool) (n c : ℕ) (rest : Bytes) → is_bare c ≡ true → mark_at templates b n c rest ≡ html.Byte c rest
bare_mark templates b n c rest h =
    let o = none_of c h in byte_mark templates b n c rest (is_not c 39 o.2) (is_not c 91 o.5) (is_not c 123 o.6)

bare_first : (a b : Bool) → a && b ≡ true → (a ≡ true) × (b ≡ true)
bare_first true b e = (refl, e)
bare_first false b e = let no : ⊥ = cc in absurd no

abbrev pub ReadsOn : Templates → (depth n : ℕ) → (run rest : Bytes) → Type 0
ReadsOn templates depth n run rest =
    ((inline templates depth n (run ++ rest)).html ≡ run ++ (inline templates depth n rest).html) × ((inline templates depth n (run ++ rest)).included ≡ (inline templates depth n rest).included)

reads_on : (templates : Templates) (depth n : ℕ) (run rest : Bytes) → list_all is_bare run ≡ true → ReadsOn templates depth n run rest
reads_on templates depth n [] rest h = (refl, refl)
reads_on templates depth n (c ∷ run) rest h =
    let parts = bare_first (is_bare c) (list_all is_bare run) h in
    let byte : inline templates depth n (c ∷ (run ++ rest)) ≡ read_mark (inline templates depth) (inside templates depth) n (html.Byte c (run ++ rest)) =
    inline_on templates depth n c (run ++ rest) ∙ ap (read_mark (inline templates depth) (inside templates depth) n) (bare_mark templates (nat_lt 0 depth) n c (run ++ rest) parts.0) in
    let left = reads_on templates depth n run rest parts.1 in (
      ap (λ r. r.html) byte ∙ ap (λ x. (x ++ []) ++ (inline templates depth n (run ++ rest)).html) (bare_byte c parts.0) ∙ ap (λ x. c ∷ x) left.0,
      ap (λ r. r.included) byte ∙ left.1,
    )

halves : (text : Bytes) (at end to : ℕ) → at ≤ end → end ≤ to → between at to text ≡ between at end text ++ between end to text
halves text at end to a b =
    ap (λ k. take k (drop at text)) (let z : to - at ≡ end - at + (to - end) = omega (arith, a, b) in z)
    ∙ take-add (end - at) (to - end) (drop at text)
    ∙ ap (λ s. between at end text ++ take (to - end) s) (drop_drop (end - at) at text ∙ ap (λ k. drop k text) (let z : at + (end - at) ≡ end = omega (arith, a) in z))

-- a page with a run and then the rest is the page with both
put_run : (d : Draft) (run : Bytes) (rest whole : Reading) → whole.html ≡ run ++ rest.html → whole.included ≡ rest.included → then_reads (put d run) rest ≡ then_reads d whole
put_run d run rest whole h i =
    ap (λ x. (let z : Draft = record { html = x; included = rest.included; templates = d.templates } in z)) (append_assoc d.html run rest.html ∙ ap (λ x. d.html ++ x) (sym h))
    ∙ ap (λ n. (let z : Draft = record { html = d.html ++ whole.html; included = n; templates = d.templates } in z)) (sym i)

-- the run written
pub run_goes : (d e : Draft) (depth at end to : ℕ) (text : Bytes) → at ≤ end → end ≤ to → list_all is_bare (between at end text) ≡ true → e ≡ put d (between at end text)
    → with_text e depth (between end to text) ≡ with_text d depth (between at to text)
run_goes d e depth at end to text a b h w =
    let T = template_text d.templates in
    let run = between at end text in
    let rest = between end to text in
    let left = reads_on T depth d.included run rest h in
    let whole : inline T depth d.included (between at to text) ≡ inline T depth d.included (run ++ rest) = ap (inline T depth d.included) (halves text at end to a b) in
    ap (λ x. with_text x depth rest) w
    ∙ put_run d run (inline T depth d.included rest) (inline T depth d.included (between at to text)) (ap (λ r. r.html) whole ∙ left.0) (ap (λ r. r.included) whole ∙ left.1)

pub bare_none : (text : Bytes) (at : ℕ) → list_all is_bare (between at at text) ≡ true
bare_none text at = ap (λ k. list_all is_bare (take k (drop at text))) (let z : at - at ≡ 0 = omega arith in z)
