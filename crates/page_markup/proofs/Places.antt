-- Where marks stand, by places of a text.
use Rattle.std.proofs.Common.{zero, suc, [], ◌∷◌, ◌++◌, List, length, take, drop, ◌≡◌, ℕ, ◌≤◌, ◌<◌, ◌+◌, ◌-◌, Bool, true, false, refl, arith, ap, sym, ◌∙◌, Some, None, cond, min, get_or, nat_le}
use Rattle.std.proofs.lemmas.List.{length-take, length-drop}
use Rattle.std.proofs.Common.{append-nil, inl, inr, ◌⊎◌, subst, append_assoc}
use Rattle.std.proofs.Math.Seq.{take-length}
use Rattle.std.proofs.Math.Nat.{eq-or-lt_of_le}
use Rattle.std.specs.Cmp.Lexicographic.{same_text}
use Rattle.std.specs.Prelude.{Option, codes}
use Rattle.wiki_model.specs.Titles.{Title, title_of}
use Rattle.wiki_model.specs.Html.{ok_of, target_and_label}
use Rattle.std.proofs.lemmas.Bool.Decides.{nat_tests}
use Rattle.std.proofs.Math.Seq.{drop-cons}
use Rattle.wiki_model.specs.Bytes.{Bytes, begins, cut_at}
use Rattle.wiki_model.specs.Html.{enclosed, bracketed}
use Rattle.page_markup.specs.declared.inline.Mark.{Mark}
use Rattle.page_markup.specs.declared.closing_places.ClosingPlaces.{ClosingPlaces}
use Rattle.page_markup.specs.Mark.{distance, next_place, Remembers, quote_marks, quote_marks_of, bracket_marks, bracket_marks_of, named_marks_of, link_target, marks_here, marks_from, IsKnown}

pub drop_nil : (n : ℕ) → let none : Bytes = [] in drop n none ≡ none
drop_nil zero = refl
drop_nil (suc n) = refl

pub drop_drop : (a b : ℕ) (s : Bytes) → drop a (drop b s) ≡ drop (b + a) s
drop_drop a zero s = ap (λ n. drop n s) (let e : a ≡ 0 + a = omega arith in e)
drop_drop a (suc b) [] = drop_nil a ∙ sym (drop_nil (suc b + a))
drop_drop a (suc b) (c ∷ s) = drop_drop a b s ∙ ap (λ n. drop n (c ∷ s)) (let e : suc (b + a) ≡ suc b + a = omega arith in e)

pub distance_here : (mark s : Bytes) → begins mark s ≡ true → distance mark s ≡ 0
distance_here mark [] e = refl
distance_here mark (c ∷ s) e = rw e refl

pub distance_on : (mark s : Bytes) → 0 < length s → begins mark s ≡ false → distance mark s ≡ suc (distance mark (drop 1 s))
distance_on mark [] h e = let no : ⊥ = omega (arith, h) in absurd no
distance_on mark (c ∷ s) h e = rw e refl

pub distance_within : (mark s : Bytes) → distance mark s ≤ length s
distance_within mark [] = omega arith
distance_within mark (c ∷ s) = by (begins mark (c ∷ s)) (distance mark s) (length s) (distance_within mark s) where
  by : (b : Bool) (d n : ℕ) → d ≤ n → cond b 0 (suc d) ≤ suc n
  by true d n h = omega arith
  by false d n h = omega (arith, h)

-- a place on
pub place_on : (mark : Bytes) (at : ℕ) (text : Bytes) → at < length text → begins mark (drop at text) ≡ false → next_place mark at text ≡ next_place mark (at + 1) text
place_on mark at text h e =
    let some : 0 < length (drop at text) = omega (arith, length-drop {A = ℕ}) in
    let d : distance mark (drop at text) ≡ suc (distance mark (drop 1 (drop at text))) = distance_on mark (drop at text) some e in
    let f : drop 1 (drop at text) ≡ drop (at + 1) text = drop_drop 1 at text in
    let g : distance mark (drop 1 (drop at text)) ≡ distance mark (drop (at + 1) text) = ap (distance mark) f in
    omega (arith, d, g)

pub distance_pred : (mark s : Bytes) → 0 < distance mark s → distance mark s ≡ suc (distance mark (drop 1 s))
distance_pred mark [] h = let no : ⊥ = omega (arith, h) in absurd no
distance_pred mark (c ∷ s) h = by (begins mark (c ∷ s)) (distance mark s) h where
  by : (b : Bool) (d : ℕ) → 0 < cond b 0 (suc d) → cond b 0 (suc d) ≡ suc d
  by true d h = let no : ⊥ = omega (arith, h) in absurd no
  by false d h = refl

pub remembers_on : (mark text : Bytes) (from place : ℕ) → Remembers mark text from place → Remembers mark text (from + 1) place
remembers_on mark text from place r h =
    let e : place ≡ from + distance mark (drop from text) = r (omega (arith, h)) in
    let some : 0 < distance mark (drop from text) = omega (arith, e, h) in
    let d : distance mark (drop from text) ≡ suc (distance mark (drop 1 (drop from text))) = distance_pred mark (drop from text) some in
    let g : distance mark (drop 1 (drop from text)) ≡ distance mark (drop (from + 1) text) = ap (distance mark) (drop_drop 1 from text) in
    omega (arith, e, d, g)

pub remembers_past : (mark text : Bytes) (from next place : ℕ) → Remembers mark text from place → from + 1 ≡ next → Remembers mark text next place
remembers_past mark text from next place r e = let P : ℕ → Type 0 = λ n. Remembers mark text n place in subst P e (remembers_on mark text from place r)

-- cutting at a mark
cut_none_by : (mark : Bytes) (c : ℕ) (s : Bytes) (b : Bool) → begins mark (c ∷ s) ≡ b → (length s ≤ distance mark s → cut_at mark s ≡ None)
    → length (c ∷ s) ≤ distance mark (c ∷ s) → cut_at mark (c ∷ s) ≡ None
cut_none_by mark c s true e ih h = let d : distance mark (c ∷ s) ≡ 0 = distance_here mark (c ∷ s) e in let no : ⊥ = omega (arith, h, d) in absurd no
cut_none_by mark c s false e ih h =
    let d : distance mark (c ∷ s) ≡ suc (distance mark s) = distance_on mark (c ∷ s) (omega arith) e in
    let i : cut_at mark s ≡ None = ih (omega (arith, h, d)) in
    rw (e, i) refl

pub cut_none : (mark s : Bytes) → length s ≤ distance mark s → cut_at mark s ≡ None
cut_none mark [] h = refl
cut_none mark (c ∷ s) h = cut_none_by mark c s (begins mark (c ∷ s)) refl (cut_none mark s) h

abbrev pub CutsAt : (mark s : Bytes) (n : ℕ) → Type 0
CutsAt mark s n = cut_at mark s ≡ Some (take n s, drop (length mark) (drop n s))

cut_some_by : (mark : Bytes) (c : ℕ) (s : Bytes) (b : Bool) → begins mark (c ∷ s) ≡ b → (distance mark s < length s → CutsAt mark s (distance mark s))
    → distance mark (c ∷ s) < length (c ∷ s) → CutsAt mark (c ∷ s) (distance mark (c ∷ s))
cut_some_by mark c s true e ih h = rw e refl
cut_some_by mark c s false e ih h =
    let d : distance mark (c ∷ s) ≡ suc (distance mark s) = distance_on mark (c ∷ s) (omega arith) e in
    let i : CutsAt mark s (distance mark s) = ih (omega (arith, h, d)) in
    rw (e, i) refl

pub cut_some : (mark s : Bytes) → distance mark s < length s → CutsAt mark s (distance mark s)
cut_some mark [] h = let no : ⊥ = omega (arith, h) in absurd no
cut_some mark (c ∷ s) h = cut_some_by mark c s (begins mark (c ∷ s)) refl (cut_some mark s) h

-- between two equal marks
pub enclosed_some : (mark s : Bytes) (c : ℕ) (t : Bytes) → begins mark s ≡ true → drop (length mark) s ≡ c ∷ t → distance mark t < length t
    → enclosed mark s ≡ Some (c ∷ take (distance mark t) t, drop (length mark) (drop (distance mark t) t))
enclosed_some mark s c t e f h = rw (e, f, cut_some mark t h) refl

pub enclosed_none : (mark s : Bytes) (c : ℕ) (t : Bytes) → begins mark s ≡ true → drop (length mark) s ≡ c ∷ t → length t ≤ distance mark t → enclosed mark s ≡ None
enclosed_none mark s c t e f h = rw (e, f, cut_none mark t h) refl

pub quotes_found : (rule : ℕ) (mark : Bytes) (at : ℕ) (text : Bytes) → begins mark (drop at text) ≡ true → at + length mark < length text
    → next_place mark (at + length mark + 1) text < length text
    → quote_marks rule mark at (drop at text) ≡ record { place = at; rule = rule; close = next_place mark (at + length mark + 1) text; title = None } ∷ []
quotes_found rule mark at text e lt found =
    let n = at + length mark in
    let t = drop (n + 1) text in
    let f : drop (length mark) (drop at text) ≡ get_or text n 0 ∷ t =
    drop_drop (length mark) at text ∙ drop-cons text n 0 lt ∙ ap (λ k. get_or text n 0 ∷ drop k text) (let s : suc n ≡ n + 1 = omega arith in s) in
    let len : length t ≡ length text - (n + 1) = length-drop (n + 1) text in
    let h : distance mark t < length t = omega (arith, len, found) in
    let whole = enclosed_some mark (drop at text) (get_or text n 0) t e f h in
    let l : length (take (distance mark t) t) ≡ distance mark t = length-take (distance mark t) t ∙ (let m : min (distance mark t) (length t) ≡ distance mark t = omega (arith, h) in m) in
    ap (quote_marks_of rule at (length mark)) whole
    ∙ ap (λ k. record { place = at; rule = rule; close = k; title = None } ∷ []) (let z : at + length mark + suc (length (take (distance mark t) t)) ≡ n + 1 + distance mark t = omega (arith, l) in z)

quotes_missed_alone : (rule : ℕ) (mark : Bytes) (at : ℕ) (text : Bytes) → begins mark (drop at text) ≡ true → at + length mark < length text
    → length text ≤ next_place mark (at + length mark + 1) text
    → quote_marks rule mark at (drop at text) ≡ []
quotes_missed_alone rule mark at text e lt found =
    let n = at + length mark in
    let t = drop (n + 1) text in
    let f : drop (length mark) (drop at text) ≡ get_or text n 0 ∷ t =
    drop_drop (length mark) at text ∙ drop-cons text n 0 lt ∙ ap (λ k. get_or text n 0 ∷ drop k text) (let s : suc n ≡ n + 1 = omega arith in s) in
    let len : length t ≡ length text - (n + 1) = length-drop (n + 1) text in
    let h : length t ≤ distance mark t = omega (arith, len, found) in
    ap (quote_marks_of rule at (length mark)) (enclosed_none mark (drop at text) (get_or text n 0) t e f h)

pub quotes_missed : (marks : List Mark) (rule : ℕ) (mark : Bytes) (at : ℕ) (text : Bytes) → begins mark (drop at text) ≡ true → at + length mark < length text
    → length text ≤ next_place mark (at + length mark + 1) text
    → marks ≡ marks ++ quote_marks rule mark at (drop at text)
quotes_missed marks rule mark at text e lt found = sym (append-nil marks) ∙ ap (λ ms. marks ++ ms) (sym (quotes_missed_alone rule mark at text e lt found))

-- brackets
pub begins_fits : (mark s : Bytes) → begins mark s ≡ true → length mark ≤ length s
begins_fits mark s e =
    let l : length mark ≡ length (take (length mark) s) = ap length (same_text mark (take (length mark) s) (sym e)) in
    omega (arith, l, length-take (length mark) s)

short : (n : ℕ) → n ≤ 512 → nat_le n 512 ≡ true
short n h = grind (arith, nat_tests)

long : (n : ℕ) → 512 < n → nat_le n 512 ≡ false
long n h = grind (arith, nat_tests)

pub length_taken : (n : ℕ) (t : Bytes) → n ≤ length t → length (take n t) ≡ n
length_taken n t h = length-take n t ∙ (let m : min n (length t) ≡ n = omega (arith, h) in m)

bracketed_some : (opening closing s t : Bytes) (n : ℕ) → begins opening s ≡ true → drop (length opening) s ≡ t → distance closing t ≡ n → n < length t → n ≤ 512
    → bracketed opening closing s ≡ Some (take n t, drop (length closing) (drop n t))
bracketed_some opening closing s t n e f d h few =
    let h2 : distance closing t < length t = omega (arith, d, h) in
    let l : length (take n t) ≡ n = length_taken n t (omega (arith, h)) in
    rw (e, f, cut_some closing t h2, d, l, short n few) refl

pub bracketed_long : (opening closing s t : Bytes) (n : ℕ) → begins opening s ≡ true → drop (length opening) s ≡ t → distance closing t ≡ n → n < length t → 512 < n
    → bracketed opening closing s ≡ None
bracketed_long opening closing s t n e f d h many =
    let h2 : distance closing t < length t = omega (arith, d, h) in
    let l : length (take n t) ≡ n = length_taken n t (omega (arith, h)) in
    rw (e, f, cut_some closing t h2, d, l, long n many) refl

pub bracketed_none : (opening closing s t : Bytes) → begins opening s ≡ true → drop (length opening) s ≡ t → length t ≤ distance closing t
    → bracketed opening closing s ≡ None
bracketed_none opening closing s t e f h = rw (e, f, cut_none closing t h) refl

-- the text between brackets
abbrev pub inner_at : (closing : Bytes) (inner : ℕ) (text : Bytes) → Bytes
inner_at closing inner text = take (next_place closing inner text - inner) (drop inner text)

pub brackets_at : (opening closing : Bytes) (at : ℕ) (text : Bytes) → begins opening (drop at text) ≡ true → length opening ≡ 2
    → next_place closing (at + 2) text < length text → next_place closing (at + 2) text - (at + 2) ≤ 512
    → bracketed opening closing (drop at text) ≡ Some (inner_at closing (at + 2) text, drop (length closing) (drop (next_place closing (at + 2) text - (at + 2)) (drop (at + 2) text)))
brackets_at opening closing at text e two found few =
    let t = drop (at + 2) text in
    let f : drop (length opening) (drop at text) ≡ t = drop_drop (length opening) at text ∙ ap (λ k. drop (at + k) text) two in
    let len : length t ≡ length text - (at + 2) = length-drop (at + 2) text in
    let d : distance closing t ≡ next_place closing (at + 2) text - (at + 2) = omega arith in
    bracketed_some opening closing (drop at text) t (next_place closing (at + 2) text - (at + 2)) e f d (omega (arith, len, found)) few

pub brackets_found : (rule : ℕ) (opening closing : Bytes) (named : Bytes → Option Title) (at : ℕ) (text : Bytes) (title : Title) → begins opening (drop at text) ≡ true → length opening ≡ 2
    → next_place closing (at + 2) text < length text → next_place closing (at + 2) text - (at + 2) ≤ 512
    → named (inner_at closing (at + 2) text) ≡ Some title
    → bracket_marks rule opening closing named at (drop at text) ≡ record { place = at; rule = rule; close = next_place closing (at + 2) text; title = Some title } ∷ []
brackets_found rule opening closing named at text title e two found few name =
    let n = next_place closing (at + 2) text - (at + 2) in
    let t = drop (at + 2) text in
    let len : length t ≡ length text - (at + 2) = length-drop (at + 2) text in
    let l : length (take n t) ≡ n = length_taken n t (omega (arith, len, found)) in
    ap (bracket_marks_of rule at named) (brackets_at opening closing at text e two found few)
    ∙ ap (named_marks_of rule at (inner_at closing (at + 2) text)) name
    ∙ ap (λ k. record { place = at; rule = rule; close = k; title = Some title } ∷ []) (let z : at + 2 + length (take n t) ≡ next_place closing (at + 2) text = omega (arith, l) in z)

nothing_more : (marks more : List Mark) → more ≡ [] → marks ≡ marks ++ more
nothing_more marks more e = sym (append-nil marks) ∙ ap (λ ms. marks ++ ms) (sym e)

pub brackets_unnamed : (marks : List Mark) (rule : ℕ) (opening closing : Bytes) (named : Bytes → Option Title) (at : ℕ) (text : Bytes) → begins opening (drop at text) ≡ true → length opening ≡ 2
    → next_place closing (at + 2) text < length text → next_place closing (at + 2) text - (at + 2) ≤ 512
    → named (inner_at closing (at + 2) text) ≡ None
    → marks ≡ marks ++ bracket_marks rule opening closing named at (drop at text)
brackets_unnamed marks rule opening closing named at text e two found few name =
    nothing_more marks (bracket_marks rule opening closing named at (drop at text))
    (ap (bracket_marks_of rule at named) (brackets_at opening closing at text e two found few) ∙ ap (named_marks_of rule at (inner_at closing (at + 2) text)) name)

pub brackets_long : (marks : List Mark) (rule : ℕ) (opening closing : Bytes) (named : Bytes → Option Title) (at : ℕ) (text : Bytes) → begins opening (drop at text) ≡ true → length opening ≡ 2
    → next_place closing (at + 2) text < length text → 512 < next_place closing (at + 2) text - (at + 2)
    → marks ≡ marks ++ bracket_marks rule opening closing named at (drop at text)
brackets_long marks rule opening closing named at text e two found many =
    let t = drop (at + 2) text in
    let f : drop (length opening) (drop at text) ≡ t = drop_drop (length opening) at text ∙ ap (λ k. drop (at + k) text) two in
    let len : length t ≡ length text - (at + 2) = length-drop (at + 2) text in
    let d : distance closing t ≡ next_place closing (at + 2) text - (at + 2) = omega arith in
    nothing_more marks (bracket_marks rule opening closing named at (drop at text))
    (ap (bracket_marks_of rule at named) (bracketed_long opening closing (drop at text) t (next_place closing (at + 2) text - (at + 2)) e f d (omega (arith, len, found)) many))

pub brackets_open : (marks : List Mark) (rule : ℕ) (opening closing : Bytes) (named : Bytes → Option Title) (at : ℕ) (text : Bytes) → begins opening (drop at text) ≡ true → length opening ≡ 2
    → length text ≤ next_place closing (at + 2) text
    → marks ≡ marks ++ bracket_marks rule opening closing named at (drop at text)
brackets_open marks rule opening closing named at text e two found =
    let t = drop (at + 2) text in
    let f : drop (length opening) (drop at text) ≡ t = drop_drop (length opening) at text ∙ ap (λ k. drop (at + k) text) two in
    let len : length t ≡ length text - (at + 2) = length-drop (at + 2) text in
    nothing_more marks (bracket_marks rule opening closing named at (drop at text))
    (ap (bracket_marks_of rule at named) (bracketed_none opening closing (drop at text) t e f (omega (arith, len, found))))

-- a link's target
target_found : (s : Bytes) (n : ℕ) → distance (codes "|") s ≡ n → n < length s → (target_and_label s).0 ≡ take n s
target_found s n d h = let h2 : distance (codes "|") s < length s = omega (arith, d, h) in rw (cut_some (codes "|") s h2, d) refl

target_whole : (s : Bytes) → length s ≤ distance (codes "|") s → (target_and_label s).0 ≡ s
target_whole s h = rw (cut_none (codes "|") s h) refl

target_by : (s : Bytes) → (distance (codes "|") s ≡ length s) ⊎ (distance (codes "|") s < length s) → (target_and_label s).0 ≡ take (distance (codes "|") s) s
target_by s (inr h) = target_found s (distance (codes "|") s) refl h
target_by s (inl e) = target_whole s (omega (arith, e)) ∙ sym (take-length s) ∙ ap (λ n. take n s) (sym e)

pub target_at : (s : Bytes) (n : ℕ) → n ≡ next_place (codes "|") 0 s → take (n - 0) (drop 0 s) ≡ (target_and_label s).0
target_at s n e =
    let d : distance (codes "|") s ≡ n = omega (arith, e) in
    ap (λ k. take k s) (let z : n - 0 ≡ distance (codes "|") s = omega (arith, d) in z) ∙ sym (target_by s (eq-or-lt_of_le (distance_within (codes "|") s)))

pub target_is : (s : Bytes) (n : ℕ) → n ≡ next_place (codes "|") 0 s → link_target s ≡ ok_of (title_of (take n s))
target_is s n e =
    let d : distance (codes "|") s ≡ n = omega (arith, e) in
    ap (λ t. ok_of (title_of t)) (target_by s (eq-or-lt_of_le (distance_within (codes "|") s)) ∙ ap (λ k. take k s) d)

-- one place more
pub marks_on : (at : ℕ) (text : Bytes) → at < length text → marks_from at (drop at text) ≡ marks_here at (drop at text) ++ marks_from (at + 1) (drop (at + 1) text)
marks_on at text h =
    let f : drop at text ≡ get_or text at 0 ∷ drop (suc at) text = drop-cons text at 0 h in
    let e : suc at ≡ at + 1 = omega arith in
    ap (marks_from at) f ∙ ap (λ s. marks_here at s ++ marks_from (suc at) (drop (suc at) text)) (sym f) ∙ ap (λ k. marks_here at (drop at text) ++ marks_from k (drop k text)) e

pub marks_more : (old new : List Mark) (at : ℕ) (text : Bytes) → at < length text → new ≡ old ++ marks_here at (drop at text)
    → old ++ marks_from at (drop at text) ≡ marks_from 0 text → new ++ marks_from (at + 1) (drop (at + 1) text) ≡ marks_from 0 text
marks_more old new at text h e i =
    ap (λ ms. ms ++ marks_from (at + 1) (drop (at + 1) text)) e ∙ append_assoc old (marks_here at (drop at text)) (marks_from (at + 1) (drop (at + 1) text))
    ∙ ap (λ ms. old ++ ms) (sym (marks_on at text h)) ∙ i

pub known_next : (text : Bytes) (at : ℕ) (known : ClosingPlaces) → Remembers (codes "'''''") text (at + 6) known.five → Remembers (codes "'''") text (at + 4) known.three
    → Remembers (codes "''") text (at + 3) known.two → Remembers (codes "]]") text (at + 2) known.brackets → Remembers (codes "}}") text (at + 2) known.braces
    → IsKnown text (at + 1) known
known_next text at known five three two brackets braces = record {
  five = remembers_past (codes "'''''") text (at + 6) (at + 1 + 6) known.five five (omega arith);
  three = remembers_past (codes "'''") text (at + 4) (at + 1 + 4) known.three three (omega arith);
  two = remembers_past (codes "''") text (at + 3) (at + 1 + 3) known.two two (omega arith);
  brackets = remembers_past (codes "]]") text (at + 2) (at + 1 + 2) known.brackets brackets (omega arith);
  braces = remembers_past (codes "}}") text (at + 2) (at + 1 + 2) known.braces braces (omega arith);
}

pub known_on : (text : Bytes) (at : ℕ) (known : ClosingPlaces) → IsKnown text at known → IsKnown text (at + 1) known
known_on text at known k = known_next text at known k.five k.three k.two k.brackets k.braces

-- what is known at a place is known at later ones
later_by : (text : Bytes) (at n : ℕ) (known : ClosingPlaces) → IsKnown text at known → IsKnown text (at + n) known
later_by text at zero known k = let P : ℕ → Type 0 = λ m. IsKnown text m known in subst P (let z : at ≡ at + 0 = omega arith in z) k
later_by text at (suc n) known k =
    let P : ℕ → Type 0 = λ m. IsKnown text m known in subst P (let z : at + n + 1 ≡ at + suc n = omega arith in z) (known_on text (at + n) known (later_by text at n known k))

pub known_later : (text : Bytes) (at later : ℕ) (known : ClosingPlaces) → IsKnown text at known → at ≤ later → IsKnown text later known
known_later text at later known k h =
    let P : ℕ → Type 0 = λ m. IsKnown text m known in subst P (let z : at + (later - at) ≡ later = omega (arith, h) in z) (later_by text at (later - at) known k)
