-- A head has a line feed for its first line, for each field and for the empty line at its end. So if no more lines are
-- looked at than one field too many has, a head that is found has few enough fields.
use Rattle.std.proofs.Common.{◌≡◌, ◌≤◌, ◌<◌, ℕ, zero, suc, ◌+◌, ◌==◌, Bool, true, false, List, [], ◌∷◌, ◌++◌, length, take, refl, sym, ap, ◌∙◌, subst, arith, append_assoc}
use Rattle.std.proofs.lemmas.List.Elements.{All-head}
use Rattle.std.specs.Prelude.{if◌then◌else◌}
use Rattle.std.specs.List.{flat_map}
use Rattle.httparse.specs.Grammar.{LineEnd, crlf, lf, print_end, print_blank, Field, print_field, print_section, NeverHasRequest, RequestHead, IsRequestHead, print_request, ReadsRequest, is_token_byte, AllPass}
use Rattle.httparse.specs.Spans.{RequestExceeds}
use Rattle.std.specs.Prelude.{Result, Ok, Err, OnErr}
use Rattle.httparse.specs.Outcome.{OnInvalid, OnTooManyHeaders}
use Rattle.httparse.specs.declared.Error.{Error}
use Rattle.httparse.specs.declared.Status.{Status}
use Rattle.httparse.specs.declared.spans.RequestSpans.{RequestSpans}
use Rattle.httparse.proofs.PieceLemmas.{token_is_no_newline}
use Rattle.httparse.proofs.GrammarLemmas.{print_request-append}
use Rattle.wiki_model.specs.Bytes.{Bytes}
use Rattle.http_head.specs.Window.{feeds, later_feeds, is_end, lines_of, first_lines, window_of}

lines_few : (n : ℕ) (x : Bytes) → feeds (lines_of n x) ≤ n
lines_few zero x = omega arith
lines_few (suc n) [] = omega arith
lines_few (suc n) (c ∷ x) = by (c == 10) (lines_few n x) (lines_few (suc n) x)
  where
    by : (v : Bool) → feeds (lines_of n x) ≤ n → feeds (lines_of (suc n) x) ≤ suc n
        → (if v then suc (feeds (if v then lines_of n x else lines_of (suc n) x)) else feeds (if v then lines_of n x else lines_of (suc n) x)) ≤ suc n
    by true p q = omega (arith, p)
    by false p q = q

first_few : (n : ℕ) (x : Bytes) → later_feeds (first_lines n x) ≤ n
first_few n [] = omega arith
first_few n (c ∷ x) = by (is_end c) refl (first_few n x)
  where
    lines_again : (m : ℕ) → is_end c ≡ false → later_feeds (lines_of m (c ∷ x)) ≤ m
    lines_again zero e = omega arith
    lines_again (suc m) e = rw e (lines_few (suc m) (c ∷ x))

    by : (v : Bool) → is_end c ≡ v → later_feeds (first_lines n x) ≤ n → later_feeds (if v then c ∷ first_lines n x else lines_of n (c ∷ x)) ≤ n
    by true e p = rw e p
    by false e p = lines_again n e

pub window_few : (limit n : ℕ) (x : Bytes) → later_feeds (window_of limit n x) ≤ n
window_few limit n x = first_few n (take limit x)

-- bytes before and after

prefix_feeds : (m x : Bytes) → feeds x ≤ feeds (m ++ x)
prefix_feeds [] x = omega arith
prefix_feeds (c ∷ m) x = by (c == 10) (prefix_feeds m x)
  where
    by : (v : Bool) → feeds x ≤ feeds (m ++ x) → feeds x ≤ (if v then suc (feeds (m ++ x)) else feeds (m ++ x))
    by true p = omega (arith, p)
    by false p = p

back_feeds : (x y : Bytes) → feeds x ≤ feeds (x ++ y)
back_feeds [] y = omega arith
back_feeds (c ∷ x) y = by (c == 10) (back_feeds x y)
  where
    by : (v : Bool) → feeds x ≤ feeds (x ++ y) → (if v then suc (feeds x) else feeds x) ≤ (if v then suc (feeds (x ++ y)) else feeds (x ++ y))
    by true p = omega (arith, p)
    by false p = p

back_later : (x y : Bytes) → later_feeds x ≤ later_feeds (x ++ y)
back_later [] y = omega arith
back_later (c ∷ x) y = by (is_end c) (back_later x y)
  where
    by : (v : Bool) → later_feeds x ≤ later_feeds (x ++ y) → (if v then later_feeds x else feeds (c ∷ x)) ≤ (if v then later_feeds (x ++ y) else feeds (c ∷ (x ++ y)))
    by true p = p
    by false p = back_feeds (c ∷ x) y

one_feed : (x : Bytes) → feeds (x ++ 10 ∷ []) ≤ feeds x + 1
one_feed [] = omega arith
one_feed (c ∷ x) = by (c == 10) (one_feed x)
  where
    by : (v : Bool) → feeds (x ++ 10 ∷ []) ≤ feeds x + 1 → (if v then suc (feeds (x ++ 10 ∷ [])) else feeds (x ++ 10 ∷ [])) ≤ (if v then suc (feeds x) else feeds x) + 1
    by true p = omega (arith, p)
    by false p = p

one_later : (x : Bytes) → later_feeds (x ++ 10 ∷ []) ≤ later_feeds x + 1
one_later [] = omega arith
one_later (c ∷ x) = by (is_end c) (one_later x)
  where
    by : (v : Bool) → later_feeds (x ++ 10 ∷ []) ≤ later_feeds x + 1 → (if v then later_feeds (x ++ 10 ∷ []) else feeds (c ∷ (x ++ 10 ∷ []))) ≤ (if v then later_feeds x else feeds (c ∷ x)) + 1
    by true p = p
    by false p = one_feed (c ∷ x)

-- heads

pub end_feeds : (e : LineEnd) (x : Bytes) → feeds (print_end e ++ x) ≡ suc (feeds x)
end_feeds crlf x = refl
end_feeds lf x = refl

field_feeds : (f : Field) (x : Bytes) → suc (feeds x) ≤ feeds (print_field f ++ x)
field_feeds f x =
    let e : print_field f ++ x ≡ (f.name ++ 58 ∷ f.raw) ++ (print_end f.end ++ x) = append_assoc (f.name ++ 58 ∷ f.raw) (print_end f.end) x in
    let p : feeds (print_end f.end ++ x) ≤ feeds ((f.name ++ 58 ∷ f.raw) ++ (print_end f.end ++ x)) = prefix_feeds (f.name ++ 58 ∷ f.raw) (print_end f.end ++ x) in
    subst (λ z. suc (feeds x) ≤ feeds z) (sym e) (subst (λ k. k ≤ feeds ((f.name ++ 58 ∷ f.raw) ++ (print_end f.end ++ x))) (end_feeds f.end x) p)

fields_feeds : (fs : List Field) (x : Bytes) → length fs + feeds x ≤ feeds (flat_map print_field fs ++ x)
fields_feeds [] x = omega arith
fields_feeds (f ∷ fs) x =
    let e : flat_map print_field (f ∷ fs) ++ x ≡ print_field f ++ (flat_map print_field fs ++ x) = append_assoc (print_field f) (flat_map print_field fs) x in
    let p = field_feeds f (flat_map print_field fs ++ x) in
    let q = fields_feeds fs x in
    subst (λ z. length (f ∷ fs) + feeds x ≤ feeds z) (sym e) (omega (arith, p, q))

section_feeds : (fs : List Field) (last : LineEnd) (x : Bytes) → length fs + 1 + feeds x ≤ feeds (print_section fs last ++ x)
section_feeds fs last x =
    let e : print_section fs last ++ x ≡ flat_map print_field fs ++ (print_end last ++ x) = append_assoc (flat_map print_field fs) (print_end last) x in
    let p = fields_feeds fs (print_end last ++ x) in
    let q = end_feeds last x in
    subst (λ z. length fs + 1 + feeds x ≤ feeds z) (sym e) (omega (arith, p, q))

pub blank_feeds : (es : List LineEnd) (x : Bytes) → later_feeds (print_blank es ++ x) ≡ later_feeds x
blank_feeds [] x = refl
blank_feeds (crlf ∷ es) x = blank_feeds es x
blank_feeds (lf ∷ es) x = blank_feeds es x

pub method_feeds : (m x : Bytes) → 0 < length m → AllPass is_token_byte m → later_feeds (m ++ x) ≡ feeds (m ++ x)
method_feeds [] x some pass = absurd (omega (arith, some))
method_feeds (c ∷ m) x some pass =
    let e : is_end c ≡ false = token_is_no_newline c (All-head (λ v. is_token_byte v ≡ true) c m pass) in
    rw e refl

pub head_feeds : (h : RequestHead) (r : Bytes) → IsRequestHead h → length h.fields + 2 ≤ later_feeds (print_request h ++ r)
head_feeds h r good =
    let section = print_section h.fields h.last ++ r in
    let version = 72 ∷ 84 ∷ 84 ∷ 80 ∷ 47 ∷ 49 ∷ 46 ∷ (48 + h.minor) ∷ [] in
    let line = print_end h.line_end ++ section in
    let rest = 32 ∷ (h.target ++ 32 ∷ (version ++ line)) in
    let p : length h.fields + 1 + feeds r ≤ feeds section = section_feeds h.fields h.last r in
    let q : feeds line ≡ suc (feeds section) = end_feeds h.line_end section in
    let v : feeds line ≤ feeds (version ++ line) = prefix_feeds version line in
    let t : feeds (32 ∷ (version ++ line)) ≤ feeds (h.target ++ 32 ∷ (version ++ line)) = prefix_feeds h.target (32 ∷ (version ++ line)) in
    let m : feeds rest ≤ feeds (h.method ++ rest) = prefix_feeds h.method rest in
    let all : length h.fields + 2 ≤ feeds (h.method ++ rest) = omega (arith, p, q, v, t, m) in
    let same : later_feeds (print_blank h.blank ++ (h.method ++ rest)) ≡ feeds (h.method ++ rest) =
    blank_feeds h.blank (h.method ++ rest) ∙ method_feeds h.method rest good.method.0 good.method.1 in
    subst (λ z. length h.fields + 2 ≤ later_feeds z) (sym (print_request-append h r)) (subst (λ k. length h.fields + 2 ≤ k) (sym same) all)

-- a head that is found has few fields
pub few_fields : (n : ℕ) (w : Bytes) (h : RequestHead) (r : Bytes) → later_feeds w ≤ n → ReadsRequest w h r → length h.fields + 2 ≤ n
few_fields n w h r few reads =
    let p = head_feeds h r reads.0 in
    let q : later_feeds w ≡ later_feeds (print_request h ++ r) = ap later_feeds reads.1 in
    omega (arith, few, p, q)

-- there is no room for too many
pub never_many : (n : ℕ) (w : Bytes) → later_feeds w ≤ n + 1 → RequestExceeds n w → ⊥
never_many n w few (prefix, rest, e, h, reads, many) =
    let p : length h.fields + 2 ≤ later_feeds (print_request h ++ []) = head_feeds h [] reads.0 in
    let q : later_feeds (prefix ++ 10 ∷ []) ≡ later_feeds (print_request h ++ []) = ap later_feeds reads.1 in
    let o = one_later prefix in
    let b : later_feeds prefix ≤ later_feeds (prefix ++ rest) = back_later prefix rest in
    let s : later_feeds w ≡ later_feeds (prefix ++ rest) = ap later_feeds e in
    omega (arith, few, many, p, q, o, b, s)

pub never_at : (r : Result (Status RequestSpans) Error) (n : ℕ) (w : Bytes) → later_feeds w ≤ n + 1 → OnInvalid r (NeverHasRequest w) → OnTooManyHeaders r (RequestExceeds n w) → OnErr r (NeverHasRequest w)
never_at (Ok a) n w few invalid many = tt
never_at (Err e) n w few invalid many = invalid (λ is. never_many n w few (many (ap Err is)))
