-- A head within the limits lies in the window. Its line feeds are those of its lines and no others, since no other byte
-- of a head may be one; so its last line feed is counted when no more lines are looked at, and not before.
use Rattle.std.proofs.Common.{◌≡◌, ◌≤◌, ◌<◌, ℕ, zero, suc, ◌+◌, ◌-◌, ◌==◌, Bool, true, false, List, [], ◌∷◌, ◌++◌, length, take, refl, sym, ap, ◌∙◌, subst, arith, append_assoc, append-nil, if◌then◌else◌}
use Rattle.std.specs.Prelude.{All}
use Rattle.std.specs.List.{flat_map}
use Rattle.std.proofs.lemmas.Bool.Decides.{nat_tests}
use Rattle.std.proofs.lemmas.List.Elements.{All-head, All-tail}
use Rattle.std.proofs.Math.Seq.{take-append-add}
use Rattle.httparse.specs.Grammar.{LineEnd, crlf, lf, print_end, print_blank, print_version, Field, IsField, print_field, print_section, RequestHead, IsRequestHead, print_request, ReadsRequest, is_token_byte, is_uri_byte, is_value_byte, AllPass}
use Rattle.httparse.proofs.GrammarLemmas.{print_request-append}
use Rattle.wiki_model.specs.Bytes.{Bytes}
use Rattle.wiki_model.specs.Asking as asking
use Rattle.http_head.specs.Window.{feeds, later_feeds, is_end, lines_of, first_lines, window_of}
use Rattle.wiki_model.specs.Limits.{head_max}
use Rattle.http_head.specs.Input.{window, line_limit, HasHead}
use Rattle.http_head.specs.Laws.{HeadsAreFound}
use Rattle.http_head.proofs.Counts.{end_feeds, blank_feeds, method_feeds}

-- Bytes that end in a line feed, which is within the lines that are looked at, are looked at.

abbrev Line : Bytes → Bytes
Line q = q ++ 10 ∷ []

lines_hold : (n : ℕ) (q x : Bytes) → feeds q < n → (y : Bytes) × (lines_of n (Line q ++ x) ≡ Line q ++ y)
lines_hold zero q x small = absurd (omega (arith, small))
lines_hold (suc n) [] x small = (lines_of n x, refl)
lines_hold (suc n) (c ∷ q) x small = by (c == 10) (lines_hold n q x) (lines_hold (suc n) q x) small
  where
    by : (v : Bool) → (feeds q < n → (y : Bytes) × (lines_of n (Line q ++ x) ≡ Line q ++ y)) → (feeds q < suc n → (y : Bytes) × (lines_of (suc n) (Line q ++ x) ≡ Line q ++ y))
        → (if v then suc (feeds q) else feeds q) < suc n
        → (y : Bytes) × (c ∷ (if v then lines_of n (Line q ++ x) else lines_of (suc n) (Line q ++ x)) ≡ c ∷ (Line q ++ y))
    by true fewer same small = let r = fewer (omega (arith, small)) in (r.0, ap (λ z. c ∷ z) r.1)
    by false fewer same small = let r = same small in (r.0, ap (λ z. c ∷ z) r.1)

first_hold : (n : ℕ) (q x : Bytes) → later_feeds q < n → (y : Bytes) × (first_lines n (Line q ++ x) ≡ Line q ++ y)
first_hold n [] x small = (first_lines n x, refl)
first_hold n (c ∷ q) x small = by (is_end c) (first_hold n q x) (lines_hold n (c ∷ q) x) small
  where
    by : (v : Bool) → (later_feeds q < n → (y : Bytes) × (first_lines n (Line q ++ x) ≡ Line q ++ y)) → (feeds (c ∷ q) < n → (y : Bytes) × (lines_of n (Line (c ∷ q) ++ x) ≡ Line (c ∷ q) ++ y))
        → (if v then later_feeds q else feeds (c ∷ q)) < n
        → (y : Bytes) × ((if v then c ∷ first_lines n (Line q ++ x) else lines_of n (c ∷ (Line q ++ x))) ≡ c ∷ (Line q ++ y))
    by true skip lines small = let r = skip small in (r.0, ap (λ z. c ∷ z) r.1)
    by false skip lines small = lines small

window_holds : (limit n : ℕ) (q x : Bytes) → length (Line q) ≤ limit → later_feeds q < n → (y : Bytes) × (window_of limit n (Line q ++ x) ≡ Line q ++ y)
window_holds limit n q x small few =
    let e : length (Line q) + (limit - length (Line q)) ≡ limit = omega (arith, small) in
    let t : take limit (Line q ++ x) ≡ Line q ++ take (limit - length (Line q)) x = subst (λ k. take k (Line q ++ x) ≡ Line q ++ take (limit - length (Line q)) x) e (take-append-add (Line q) x (limit - length (Line q))) in
    let r = first_hold n q (take (limit - length (Line q)) x) few in
    (r.0, ap (first_lines n) t ∙ r.1)

-- The line feeds of a head.

none_feeds : (test : ℕ → Bool) → test 10 ≡ false → (m x : Bytes) → AllPass test m → feeds (m ++ x) ≡ feeds x
none_feeds test none [] x pass = refl
none_feeds test none (c ∷ m) x pass = by (c == 10) refl (none_feeds test none m x (All-tail (λ b. test b ≡ true) c m pass))
  where
    ten : (c == 10) ≡ true → c ≡ 10
    ten e = grind (arith, nat_tests, e)

    by : (v : Bool) → (c == 10) ≡ v → feeds (m ++ x) ≡ feeds x → (if v then suc (feeds (m ++ x)) else feeds (m ++ x)) ≡ feeds x
    by true e rest = let is : test c ≡ true = All-head (λ b. test b ≡ true) c m pass in absurd (cc (is, none, ten e))
    by false e rest = rest

field_is : (f : Field) (x : Bytes) → IsField f → feeds (print_field f ++ x) ≡ suc (feeds x)
unfolding is_token_byte
field_is f x good =
    let parts : print_field f ++ x ≡ f.name ++ (58 ∷ (f.raw ++ (print_end f.end ++ x))) = append_assoc (f.name ++ 58 ∷ f.raw) (print_end f.end) x ∙ append_assoc f.name (58 ∷ f.raw) (print_end f.end ++ x) in
    ap feeds parts
    ∙ none_feeds is_token_byte refl f.name (58 ∷ (f.raw ++ (print_end f.end ++ x))) good.name.1
    ∙ none_feeds is_value_byte refl f.raw (print_end f.end ++ x) good.raw
    ∙ end_feeds f.end x

fields_are : (fs : List Field) (x : Bytes) → All IsField fs → feeds (flat_map print_field fs ++ x) ≡ length fs + feeds x
fields_are [] x good = omega arith
fields_are (f ∷ fs) x good =
    let parts : flat_map print_field (f ∷ fs) ++ x ≡ print_field f ++ (flat_map print_field fs ++ x) = append_assoc (print_field f) (flat_map print_field fs) x in
    let one = field_is f (flat_map print_field fs ++ x) (All-head IsField f fs good) in
    let rest = fields_are fs x (All-tail IsField f fs good) in
    let whole : feeds (flat_map print_field (f ∷ fs) ++ x) ≡ suc (feeds (flat_map print_field fs ++ x)) = ap feeds parts ∙ one in
    omega (arith, whole, rest)

section_is : (fs : List Field) (last : LineEnd) (x : Bytes) → All IsField fs → feeds (print_section fs last ++ x) ≡ length fs + suc (feeds x)
section_is fs last x good =
    ap feeds (append_assoc (flat_map print_field fs) (print_end last) x) ∙ fields_are fs (print_end last ++ x) good ∙ ap (λ k. length fs + k) (end_feeds last x)

version_is : (minor : ℕ) (x : Bytes) → minor ≤ 1 → feeds (print_version minor ++ x) ≡ feeds x
version_is zero x small = refl
version_is (suc zero) x small = refl
version_is (suc (suc n)) x small = absurd (omega (arith, small))

head_is : (h : RequestHead) (x : Bytes) → IsRequestHead h → later_feeds (print_request h ++ x) ≡ length h.fields + suc (suc (feeds x))
unfolding is_token_byte
head_is h x good =
    let section = print_section h.fields h.last ++ x in
    let line = print_end h.line_end ++ section in
    let rest = 32 ∷ (h.target ++ 32 ∷ (print_version h.minor ++ line)) in
    let a = section_is h.fields h.last x good.fields in
    let b : feeds line ≡ suc (feeds section) = end_feeds h.line_end section in
    let v : feeds (print_version h.minor ++ line) ≡ feeds line = version_is h.minor line good.minor in
    let t : feeds (h.target ++ 32 ∷ (print_version h.minor ++ line)) ≡ feeds (print_version h.minor ++ line) = none_feeds is_uri_byte refl h.target (32 ∷ (print_version h.minor ++ line)) good.target.1 in
    let m : feeds (h.method ++ rest) ≡ feeds rest = none_feeds is_token_byte refl h.method rest good.method.1 in
    let start : later_feeds (print_request h ++ x) ≡ feeds (h.method ++ rest) =
    ap later_feeds (print_request-append h x) ∙ (blank_feeds h.blank (h.method ++ rest) ∙ method_feeds h.method rest good.method.0 good.method.1) in
    omega (arith, a, b, v, t, m, start)

-- A head ends in a line feed.

abbrev EndsSo : Bytes → Type 0
EndsSo x = (q : Bytes) × (x ≡ Line q)

ends_after : (m x : Bytes) → EndsSo x → EndsSo (m ++ x)
ends_after m x (q, e) = (m ++ q, ap (λ z. m ++ z) e ∙ sym (append_assoc m q (10 ∷ [])))

line_ends : (e : LineEnd) → EndsSo (print_end e)
line_ends crlf = (13 ∷ [], refl)
line_ends lf = ([], refl)

head_ends : (h : RequestHead) → EndsSo (print_request h)
head_ends h =
    let section = print_section h.fields h.last in
    let last : EndsSo (section ++ []) = subst EndsSo (sym (append-nil section)) (ends_after (flat_map print_field h.fields) (print_end h.last) (line_ends h.last)) in
    let all = ends_after (print_blank h.blank) _ (ends_after h.method _ (ends_after (32 ∷ []) _ (ends_after h.target _ (ends_after (32 ∷ []) _ (ends_after (print_version h.minor) _ (ends_after (print_end h.line_end) _ last)))))) in
    subst EndsSo (sym (print_request-append h []) ∙ append-nil (print_request h)) all

one_more : (q : Bytes) → feeds (Line q) ≡ suc (feeds q)
one_more [] = refl
one_more (c ∷ q) = by (c == 10) (one_more q)
  where
    by : (v : Bool) → feeds (Line q) ≡ suc (feeds q) → (if v then suc (feeds (Line q)) else feeds (Line q)) ≡ suc (if v then suc (feeds q) else feeds q)
    by true e = ap suc e
    by false e = e

one_later : (q : Bytes) → 0 < later_feeds (Line q) → later_feeds q < later_feeds (Line q)
one_later [] some = absurd (omega (arith, some))
one_later (c ∷ q) some = by (is_end c) (one_later q) some
  where
    by : (v : Bool) → (0 < later_feeds (Line q) → later_feeds q < later_feeds (Line q)) → 0 < (if v then later_feeds (Line q) else feeds (Line (c ∷ q)))
        → (if v then later_feeds q else feeds (c ∷ q)) < (if v then later_feeds (Line q) else feeds (Line (c ∷ q)))
    by true rest some = rest some
    by false rest some = let e = one_more (c ∷ q) in omega (arith, e)

-- So a head within the limits lies in the window.

head_in_window : (input : Bytes) (h : RequestHead) (rest : Bytes) → HasHead input h rest → (y : Bytes) × ReadsRequest (window input) h y
unfolding window
head_in_window input h rest x = by (head_ends h)
  where
    lines : later_feeds (print_request h) ≤ line_limit
    lines =
        let e : later_feeds (print_request h ++ []) ≡ length h.fields + 2 = head_is h [] x.reads.0 in
        let same : later_feeds (print_request h ++ []) ≡ later_feeds (print_request h) = ap later_feeds (append-nil (print_request h)) in
        let few = x.few in
        omega (arith, e, same, few)

    some : 0 < later_feeds (print_request h)
    some =
        let e : later_feeds (print_request h ++ []) ≡ length h.fields + 2 = head_is h [] x.reads.0 in
        let same : later_feeds (print_request h ++ []) ≡ later_feeds (print_request h) = ap later_feeds (append-nil (print_request h)) in
        omega (arith, e, same)

    by : (q : Bytes) × (print_request h ≡ Line q) → (y : Bytes) × ReadsRequest (window_of head_max line_limit input) h y
    by (q, e) =
        let small : length (Line q) ≤ head_max = subst (λ z. length z ≤ head_max) e x.small in
        let below : later_feeds q < later_feeds (Line q) = one_later q (subst (λ z. 0 < later_feeds z) e some) in
        let within : later_feeds (Line q) ≤ line_limit = subst (λ z. later_feeds z ≤ line_limit) e lines in
        let held = window_holds head_max line_limit q rest small (omega (arith, below, within)) in
        let is_input : Line q ++ rest ≡ input = ap (λ z. z ++ rest) (sym e) ∙ sym x.reads.1 in
        (held.0, (x.reads.0, subst (λ z. window_of head_max line_limit z ≡ Line q ++ held.0) is_input held.1 ∙ ap (λ z. z ++ held.0) (sym e)))

pub heads_are_found : HeadsAreFound
heads_are_found input h rest asking.HeadTooLarge x shown = let found = head_in_window input h rest x in shown.1.no_head h found.0 found.1
heads_are_found input h rest asking.NoHead x shown =
    let found = head_in_window input h rest x in
    shown [] h found.0 (found.1.0, append-nil (window input) ∙ found.1.1)
heads_are_found input h rest asking.Transfer x shown = shown
heads_are_found input h rest asking.BadHost x shown = shown
heads_are_found input h rest asking.BadLength x shown = shown
heads_are_found input h rest (asking.LargeBody bytes) x shown = shown
heads_are_found input h rest asking.BadTarget x shown = shown
heads_are_found input h rest asking.NoRoute x shown = shown
heads_are_found input h rest (asking.WrongMethod post) x shown = shown
heads_are_found input h rest asking.BadTitle x shown = shown
heads_are_found input h rest asking.BadField x shown = shown
heads_are_found input h rest (asking.LargeText bytes) x shown = shown
