-- What is shown for a link.
use Rattle.std.proofs.Common.{◌++◌, length, take, drop, ◌≡◌, ℕ, ◌≤◌, ◌<◌, refl, arith, ap, sym, ◌∙◌, inl, inr, ◌⊎◌, append_assoc}
use Rattle.std.specs.Prelude.{codes, if◌then◌else◌}
use Rattle.std.proofs.lemmas.List.{length-drop}
use Rattle.std.proofs.Math.Seq.{take-length}
use Rattle.std.proofs.Math.Nat.{eq-or-lt_of_le}
use Rattle.wiki_model.specs.Bytes.{Bytes, is_empty}
use Rattle.wiki_model.specs.Html.{target_and_label, element, between}
use Rattle.page_markup.specs.Mark.{distance, next_place}
use Rattle.page_render.specs.Draft.{Draft, put, reads, then_reads, with_text}
use Rattle.page_markup.proofs.LineKinds.{empty_of, filled_of}
use Rattle.page_markup.proofs.Places.{distance_within, cut_none, cut_some}

label_cut : (s : Bytes) → distance (codes "|") s < length s
    → (target_and_label s).1 ≡ (if is_empty (drop 1 (drop (distance (codes "|") s) s)) then take (distance (codes "|") s) s else drop 1 (drop (distance (codes "|") s) s))
label_cut s h = rw (cut_some (codes "|") s h) refl

short_by : (s : Bytes) → (distance (codes "|") s ≡ length s) ⊎ (distance (codes "|") s < length s) → length (drop (distance (codes "|") s) s) < 2
    → (target_and_label s).1 ≡ take (distance (codes "|") s) s
short_by s (inl e) h =
    let whole : (target_and_label s).1 ≡ s = rw (cut_none (codes "|") s (omega (arith, e))) refl in
    whole ∙ sym (take-length s) ∙ ap (λ n. take n s) (sym e)
short_by s (inr l) h =
    let t = drop 1 (drop (distance (codes "|") s) s) in
    label_cut s l ∙ rw (empty_of t (omega (arith, h, length-drop 1 (drop (distance (codes "|") s) s)))) refl

pub label_short : (s : Bytes) (n : ℕ) → n ≡ next_place (codes "|") 0 s → length (drop n s) < 2 → (target_and_label s).1 ≡ take n s
label_short s n e h =
    let d : distance (codes "|") s ≡ n = omega (arith, e) in
    short_by s (eq-or-lt_of_le (distance_within (codes "|") s)) (let z : length (drop (distance (codes "|") s) s) < 2 = rw d h in z) ∙ ap (λ k. take k s) d

pub label_long : (s : Bytes) (n : ℕ) → n ≡ next_place (codes "|") 0 s → 2 ≤ length (drop n s) → (target_and_label s).1 ≡ drop 1 (drop n s)
label_long s n e h =
    let d : distance (codes "|") s ≡ n = omega (arith, e) in
    let l : distance (codes "|") s < length s = omega (arith, d, h, length-drop n s) in
    let t : 0 < length (drop 1 (drop (distance (codes "|") s) s)) = rw d (omega (arith, h, length-drop 1 (drop n s))) in
    label_cut s l ∙ rw (filled_of (drop 1 (drop (distance (codes "|") s) s)) t) (ap (λ k. drop 1 (drop k s)) d)

pub three_joined : (old new b u d : Bytes) → new ≡ ((old ++ b) ++ u) ++ d → new ≡ old ++ ((b ++ u) ++ d)
three_joined old new b u d e = e ∙ (let j : ((old ++ b) ++ u) ++ d ≡ old ++ ((b ++ u) ++ d) = simp append_assoc in j)

-- a text between two tags
pub draft_joined : (old one two new : Draft) (opening closing text : Bytes) (depth : ℕ) → one ≡ put old opening → two ≡ with_text one depth text → new ≡ put two closing
    → new ≡ then_reads old (between opening closing (reads old depth text))
draft_joined old one two new opening closing text depth a b c =
    let read = reads old depth text in
    c ∙ ap (λ d. put d closing) (b ∙ ap (λ d. with_text d depth text) a)
    ∙ ap (λ x. (let z : Draft = record { html = x; included = read.included; templates = old.templates } in z)) (three_joined old.html (((old.html ++ opening) ++ read.html) ++ closing) opening read.html closing refl)

-- bytes between two tags
pub put_joined : (old one two new : Draft) (opening closing bytes : Bytes) → one ≡ put old opening → two ≡ put one bytes → new ≡ put two closing
    → new ≡ put old (element opening closing bytes)
put_joined old one two new opening closing bytes a b c =
    c ∙ ap (λ d. put d closing) (b ∙ ap (λ d. put d bytes) a)
    ∙ ap (λ x. (let z : Draft = record { html = x; included = old.included; templates = old.templates } in z)) (three_joined old.html (((old.html ++ opening) ++ bytes) ++ closing) opening bytes closing refl)
