-- Where a mark closes within a part of a text.
use Rattle.std.proofs.Common.{suc, ◌∷◌, length, take, drop, ◌≡◌, ℕ, ◌≤◌, ◌<◌, ◌+◌, ◌-◌, true, false, refl, arith, ap, sym, ◌∙◌, Some, None, get_or, inl, inr, ◌⊎◌}
use Rattle.std.specs.Prelude.{option_and_then}
use Rattle.std.proofs.lemmas.List.{length-drop}
use Rattle.std.proofs.Math.Seq.{drop-cons}
use Rattle.std.proofs.Math.Nat.{eq-or-lt_of_le}
use Rattle.wiki_model.specs.Bytes.{Bytes, begins}
use Rattle.wiki_model.specs.Html.{enclosed, bracketed}
use Rattle.page_markup.specs.declared.brackets.Names.{Names}
use Rattle.page_markup.specs.declared.brackets.Names.TheVariants.{Links, Templates}
use Rattle.page_markup.specs.Mark.{distance, next_place, opening_of, closing_of}
use Rattle.page_markup.specs.ClosingPlaces.{between}
use Rattle.page_markup.proofs.Places.{drop_drop, distance_within, enclosed_some, enclosed_none, brackets_at, bracketed_none, bracketed_long, length_taken}
use Rattle.page_markup.proofs.Cuts.{two_long}
use Rattle.page_markup.proofs.Taken.{clip, clip_kept, clip_lost, clip_never, begins_not, at_most_or_past, enclosed_prefix, bracketed_prefix}

pub next_within : (mark : Bytes) (from : ℕ) (text : Bytes) → from ≤ length text → next_place mark from text ≤ length text
next_within mark from text h = omega (arith, h, distance_within mark (drop from text), length-drop from text)

prefix_is : (mark text : Bytes) (at to : ℕ) → 0 < length mark → at ≤ to → to ≤ length text
    → enclosed mark (between at to text) ≡ option_and_then (clip (length mark) (length mark) (to - at)) (enclosed mark (drop at text))
prefix_is mark text at to some o h = enclosed_prefix mark (drop at text) (to - at) some (omega (arith, o, h, length-drop at text))

-- quotes
pub quotes_short : (mark text : Bytes) (at to : ℕ) → 0 < length mark → at ≤ to → to ≤ length text → to < at + length mark + length mark
    → enclosed mark (between at to text) ≡ None
quotes_short mark text at to some o h l = prefix_is mark text at to some o h ∙ clip_never (length mark) (length mark) (to - at) (enclosed mark (drop at text)) (omega (arith, l, o))

pub quotes_absent : (mark text : Bytes) (at to : ℕ) → begins mark (drop at text) ≡ false → enclosed mark (between at to text) ≡ None
quotes_absent mark text at to e = rw (begins_not mark (drop at text) (to - at) (at_most_or_past (length mark) (to - at)) e) refl

-- the bytes behind the opening quotes
behind : (mark text : Bytes) (at : ℕ) → at + length mark < length text
    → drop (length mark) (drop at text) ≡ get_or text (at + length mark) 0 ∷ drop (at + length mark + 1) text
behind mark text at l =
    drop_drop (length mark) at text ∙ drop-cons text (at + length mark) 0 l
    ∙ ap (λ k. get_or text (at + length mark) 0 ∷ drop k text) (let z : suc (at + length mark) ≡ at + length mark + 1 = omega arith in z)

enclosed_found : (mark text : Bytes) (at close : ℕ) → begins mark (drop at text) ≡ true → at + length mark < length text
    → close ≡ next_place mark (at + length mark + 1) text → close < length text
    → enclosed mark (drop at text) ≡ Some (between (at + length mark) close text, drop (close + length mark) text)
enclosed_found mark text at close e l c found =
    let n = at + length mark in
    let t = drop (n + 1) text in
    let d = distance mark t in
    let len : length t ≡ length text - (n + 1) = length-drop (n + 1) text in
    let inside : d < length t = omega (arith, len, c, found) in
    let prefix : between n close text ≡ get_or text n 0 ∷ take d t =
    ap (take (close - n)) (drop-cons text n 0 l) ∙ ap (λ k. take k (get_or text n 0 ∷ drop (suc n) text)) (let z : close - n ≡ suc d = omega (arith, c) in z)
    ∙ ap (λ k. get_or text n 0 ∷ take d (drop k text)) (let z : suc n ≡ n + 1 = omega arith in z) in
    let back : drop (length mark) (drop d t) ≡ drop (close + length mark) text =
    drop_drop (length mark) d t ∙ drop_drop (d + length mark) (n + 1) text ∙ ap (λ k. drop k text) (let z : n + 1 + (d + length mark) ≡ close + length mark = omega (arith, c) in z) in
    enclosed_some mark (drop at text) (get_or text n 0) t e (behind mark text at l) inside
    ∙ ap (λ x. Some (x, drop (length mark) (drop d t))) (sym prefix) ∙ ap (λ y. Some (between n close text, y)) back

inner_long : (text : Bytes) (from close : ℕ) → close ≤ length text → length (between from close text) ≡ close - from
inner_long text from close h = length_taken (close - from) (drop from text) (omega (arith, h, length-drop from text))

open_by : (mark text : Bytes) (at to close : ℕ) → begins mark (drop at text) ≡ true → 0 < length mark → at ≤ to → to ≤ length text → at + length mark < length text
    → close ≡ next_place mark (at + length mark + 1) text → to < close + length mark → (close ≡ length text) ⊎ (close < length text)
    → option_and_then (clip (length mark) (length mark) (to - at)) (enclosed mark (drop at text)) ≡ None
open_by mark text at to close e some o h l c past (inl end) =
    let n = at + length mark in
    let t = drop (n + 1) text in
    let len : length t ≡ length text - (n + 1) = length-drop (n + 1) text in
    ap (option_and_then (clip (length mark) (length mark) (to - at)))
    (enclosed_none mark (drop at text) (get_or text n 0) t e (behind mark text at l) (omega (arith, len, c, end, l)))
open_by mark text at to close e some o h l c past (inr found) =
    ap (option_and_then (clip (length mark) (length mark) (to - at))) (enclosed_found mark text at close e l c found)
    ∙ clip_lost (length mark) (length mark) (to - at) (close - (at + length mark)) (between (at + length mark) close text) (drop (close + length mark) text)
    (inner_long text (at + length mark) close (omega (arith, found))) (omega (arith, past, o, c))

from_there : (mark text : Bytes) (at close : ℕ) → close ≡ next_place mark (at + (length mark + 1)) text → close ≡ next_place mark (at + length mark + 1) text
from_there mark text at close c = c ∙ ap (λ k. next_place mark k text) (let z : at + (length mark + 1) ≡ at + length mark + 1 = omega arith in z)

pub quotes_open : (mark text : Bytes) (at to close : ℕ) → begins mark (drop at text) ≡ true → 0 < length mark → at ≤ to → to ≤ length text → at + length mark + length mark ≤ to
    → close ≡ next_place mark (at + (length mark + 1)) text → to < close + length mark → enclosed mark (between at to text) ≡ None
quotes_open mark text at to close e some o h fit c past =
    let d = from_there mark text at close c in
    let within : close ≤ length text = omega (arith, d, next_within mark (at + length mark + 1) text (omega (arith, fit, some, h))) in
    prefix_is mark text at to some o h ∙ open_by mark text at to close e some o h (omega (arith, fit, some, h)) d past (eq-or-lt_of_le within)

pub quotes_closed : (mark text : Bytes) (at to close : ℕ) → begins mark (drop at text) ≡ true → 0 < length mark → at ≤ to → to ≤ length text → at + length mark + length mark ≤ to
    → close ≡ next_place mark (at + (length mark + 1)) text → close + length mark ≤ to
    → enclosed mark (between at to text) ≡ Some (between (at + length mark) close text, between (close + length mark) to text)
quotes_closed mark text at to close e some o h fit c in_time =
    let w = length mark in
    let n = at + w in
    let d = from_there mark text at close c in
    prefix_is mark text at to some o h
    ∙ ap (option_and_then (clip w w (to - at))) (enclosed_found mark text at close e (omega (arith, fit, some, h)) d (omega (arith, in_time, some, h)))
    ∙ clip_kept w w (to - at) (close - n) (between n close text) (drop (close + w) text) (inner_long text n close (omega (arith, in_time, h))) (omega (arith, in_time, d))
    ∙ ap (λ k. Some (between n close text, take k (drop (close + w) text))) (let z : to - at - (w + (close - n) + w) ≡ to - (close + w) = omega (arith, d) in z)

-- brackets
two_closing : (names : Names) → length (closing_of names) ≡ 2
two_closing Links = refl
two_closing Templates = refl

brackets_prefix : (names : Names) (text : Bytes) (at to : ℕ) → at ≤ to → to ≤ length text
    → bracketed (opening_of names) (closing_of names) (between at to text) ≡ option_and_then (clip 2 2 (to - at)) (bracketed (opening_of names) (closing_of names) (drop at text))
brackets_prefix names text at to o h =
    let two = two_closing names in
    bracketed_prefix (opening_of names) (closing_of names) (drop at text) (to - at) (omega (arith, two)) (omega (arith, o, h, length-drop at text))
    ∙ ap (λ w. option_and_then (clip w (length (closing_of names)) (to - at)) (bracketed (opening_of names) (closing_of names) (drop at text))) (two_long names)
    ∙ ap (λ w. option_and_then (clip 2 w (to - at)) (bracketed (opening_of names) (closing_of names) (drop at text))) two

pub brackets_short : (names : Names) (text : Bytes) (at to : ℕ) → at ≤ to → to ≤ length text → to < at + 2 + 2
    → bracketed (opening_of names) (closing_of names) (between at to text) ≡ None
brackets_short names text at to o h l = brackets_prefix names text at to o h ∙ clip_never 2 2 (to - at) (bracketed (opening_of names) (closing_of names) (drop at text)) (omega (arith, l, o))

pub brackets_absent : (names : Names) (text opening : Bytes) (at to : ℕ) → opening ≡ opening_of names → begins opening (drop at text) ≡ false
    → bracketed (opening_of names) (closing_of names) (between at to text) ≡ None
brackets_absent names text opening at to i e =
    rw (begins_not (opening_of names) (drop at text) (to - at) (at_most_or_past (length (opening_of names)) (to - at)) (ap (λ m. begins m (drop at text)) (sym i) ∙ e)) refl

-- what the brackets enclose
abbrev pub Encloses : (names : Names) (text : Bytes) (at close : ℕ) → Type 0
Encloses names text at close = bracketed (opening_of names) (closing_of names) (drop at text) ≡ Some (between (at + 2) close text, drop (close + 2) text)

enclosing : (names : Names) (text : Bytes) (at close : ℕ) → begins (opening_of names) (drop at text) ≡ true
    → close ≡ next_place (closing_of names) (at + 2) text → close < length text → close - (at + 2) ≤ 512 → Encloses names text at close
enclosing names text at close e c found few =
    let closing = closing_of names in
    let start = at + 2 in
    let same : next_place closing start text ≡ close = sym c in
    let two = two_closing names in
    brackets_at (opening_of names) closing at text e (two_long names) (omega (arith, c, found)) (omega (arith, c, few))
    ∙ ap (λ n. Some (take (n - start) (drop start text), drop (length closing) (drop (n - start) (drop start text)))) same
    ∙ ap (λ w. Some (between start close text, drop w (drop (close - start) (drop start text)))) two
    ∙ ap (λ y. Some (between start close text, y))
    (drop_drop 2 (close - start) (drop start text) ∙ drop_drop (close - start + 2) start text ∙ ap (λ k. drop k text) (let z : start + (close - start + 2) ≡ close + 2 = omega (arith, c) in z))

clipped : (names : Names) (text : Bytes) (at to close : ℕ) → at ≤ to → to ≤ length text → close < length text → at + 2 ≤ close → to < close + 2 → Encloses names text at close
    → option_and_then (clip 2 2 (to - at)) (bracketed (opening_of names) (closing_of names) (drop at text)) ≡ None
clipped names text at to close o h found start past e =
    ap (option_and_then (clip 2 2 (to - at))) e
    ∙ clip_lost 2 2 (to - at) (close - (at + 2)) (between (at + 2) close text) (drop (close + 2) text) (inner_long text (at + 2) close (omega (arith, found))) (omega (arith, past, o, start))

-- brackets that do not close in the text, or too late
late : (names : Names) (text : Bytes) (at close : ℕ) → begins (opening_of names) (drop at text) ≡ true → at + 2 ≤ length text
    → close ≡ next_place (closing_of names) (at + 2) text → (close ≡ length text) ⊎ ((close < length text) × (512 < close - (at + 2)))
    → bracketed (opening_of names) (closing_of names) (drop at text) ≡ None
late names text at close e l c (inl end) =
    let t = drop (at + 2) text in
    let len : length t ≡ length text - (at + 2) = length-drop (at + 2) text in
    bracketed_none (opening_of names) (closing_of names) (drop at text) t e (drop_drop (length (opening_of names)) at text ∙ ap (λ k. drop (at + k) text) (two_long names)) (omega (arith, len, c, end, l))
late names text at close e l c (inr far) =
    let t = drop (at + 2) text in
    let len : length t ≡ length text - (at + 2) = length-drop (at + 2) text in
    let d : distance (closing_of names) t ≡ close - (at + 2) = omega (arith, c) in
    bracketed_long (opening_of names) (closing_of names) (drop at text) t (close - (at + 2)) e (drop_drop (length (opening_of names)) at text ∙ ap (λ k. drop (at + k) text) (two_long names)) d (omega (arith, len, far.0, c)) far.1

late_none : (names : Names) (text : Bytes) (at to : ℕ) → at ≤ to → to ≤ length text → bracketed (opening_of names) (closing_of names) (drop at text) ≡ None
    → bracketed (opening_of names) (closing_of names) (between at to text) ≡ None
late_none names text at to o h e = brackets_prefix names text at to o h ∙ ap (option_and_then (clip 2 2 (to - at))) e

begun : (names : Names) (text opening : Bytes) (at : ℕ) → opening ≡ opening_of names → begins opening (drop at text) ≡ true → begins (opening_of names) (drop at text) ≡ true
begun names text opening at i e = ap (λ m. begins m (drop at text)) (sym i) ∙ e

placed : (names : Names) (text closing : Bytes) (from close : ℕ) → closing ≡ closing_of names → close ≡ next_place closing from text → close ≡ next_place (closing_of names) from text
placed names text closing from close i e = e ∙ ap (λ m. next_place m from text) i

open_at : (names : Names) (text : Bytes) (at to close : ℕ) → begins (opening_of names) (drop at text) ≡ true → at ≤ to → to ≤ length text → at + 2 + 2 ≤ to
    → close ≡ next_place (closing_of names) (at + 2) text → to < close + 2 → (close ≡ length text) ⊎ (close < length text) → (close - (at + 2) ≤ 512) ⊎ (512 < close - (at + 2))
    → bracketed (opening_of names) (closing_of names) (between at to text) ≡ None
open_at names text at to close e o h fit c past (inl end) size = late_none names text at to o h (late names text at close e (omega (arith, fit, h)) c (inl end))
open_at names text at to close e o h fit c past (inr found) (inr many) = late_none names text at to o h (late names text at close e (omega (arith, fit, h)) c (inr (found, many)))
open_at names text at to close e o h fit c past (inr found) (inl few) =
    brackets_prefix names text at to o h ∙ clipped names text at to close o h found (omega (arith, c)) past (enclosing names text at close e c found few)

pub brackets_open : (names : Names) (text opening closing : Bytes) (at to close : ℕ) → opening ≡ opening_of names → begins opening (drop at text) ≡ true → at ≤ to → to ≤ length text → at + 2 + 2 ≤ to
    → closing ≡ closing_of names → close ≡ next_place closing (at + 2) text → to < close + 2
    → bracketed (opening_of names) (closing_of names) (between at to text) ≡ None
brackets_open names text opening closing at to close i e o h fit j c past =
    let d = placed names text closing (at + 2) close j c in
    let within : close ≤ length text = omega (arith, d, next_within (closing_of names) (at + 2) text (omega (arith, fit, h))) in
    open_at names text at to close (begun names text opening at i e) o h fit d past (eq-or-lt_of_le within) (at_most_or_past (close - (at + 2)) 512)

pub brackets_long : (names : Names) (text opening closing : Bytes) (at to close : ℕ) → opening ≡ opening_of names → begins opening (drop at text) ≡ true → at ≤ to → to ≤ length text
    → closing ≡ closing_of names → close ≡ next_place closing (at + 2) text → close + 2 ≤ to → 512 < close - (at + 2)
    → bracketed (opening_of names) (closing_of names) (between at to text) ≡ None
brackets_long names text opening closing at to close i e o h j c in_time many =
    let d = placed names text closing (at + 2) close j c in
    late_none names text at to o h (late names text at close (begun names text opening at i e) (omega (arith, d, in_time, h)) d (inr (omega (arith, in_time, h), many)))

pub brackets_closed : (names : Names) (text opening closing : Bytes) (at to close : ℕ) → opening ≡ opening_of names → begins opening (drop at text) ≡ true → at ≤ to → to ≤ length text
    → closing ≡ closing_of names → close ≡ next_place closing (at + 2) text → close + 2 ≤ to → close - (at + 2) ≤ 512
    → bracketed (opening_of names) (closing_of names) (between at to text) ≡ Some (between (at + 2) close text, between (close + 2) to text)
brackets_closed names text opening closing at to close i e o h j c in_time few =
    let d = placed names text closing (at + 2) close j c in
    let start = at + 2 in
    brackets_prefix names text at to o h
    ∙ ap (option_and_then (clip 2 2 (to - at))) (enclosing names text at close (begun names text opening at i e) d (omega (arith, in_time, h)) few)
    ∙ clip_kept 2 2 (to - at) (close - start) (between start close text) (drop (close + 2) text) (inner_long text start close (omega (arith, in_time, h))) (omega (arith, in_time, d))
    ∙ ap (λ k. Some (between start close text, take k (drop (close + 2) text))) (let z : to - at - (2 + (close - start) + 2) ≡ to - (close + 2) = omega (arith, d) in z)
