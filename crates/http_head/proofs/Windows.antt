-- What more bytes do to the window: nothing if it is full, and else it has all bytes and grows. Both parts of its
-- definition, the bytes up to the limit and the lines up to a number, are cut so, one byte at a time.
use Rattle.std.proofs.Common.{◌≡◌, ◌≤◌, ◌<◌, ℕ, zero, suc, ◌+◌, ◌-◌, append-nil, length-append, min, get_or, append_assoc, length-take, ◌==◌, ◌||◌, Bool, true, false, [], ◌∷◌, ◌++◌, length, take, drop, refl, sym, ap, ◌∙◌, subst, arith}
use Rattle.std.specs.Prelude.{if◌then◌else◌, nat_le}
use Rattle.std.proofs.lemmas.Bool.Decides.{nat_tests}
use mathlib.Core.Logic.{dite}
use Rattle.std.proofs.Math.Decide.{dec_le}
use Rattle.std.proofs.Math.Nat.{min_comm}
use Rattle.std.proofs.lemmas.List.{take-append-le, take_all, take-take, take_min, drop_more, take_more, drop_all}
use Rattle.std.proofs.Math.Seq.{take-append-add, take-add}
use Rattle.std.proofs.Math.Bool.{or-true}
use Rattle.wiki_model.specs.Bytes.{Bytes}
use Rattle.http_head.specs.Window.{Passed, left_after, is_end, lines_of, has_lines, first_lines, has_first_lines, window_of, is_full_of}

abbrev pub Cuts : (full : Bool) → (prefix whole longer : Bytes) → Type 0
Cuts true prefix whole longer = longer ≡ prefix
Cuts false prefix whole longer = (prefix ≡ whole) × ((r : Bytes) × (longer ≡ whole ++ r))

cuts_more : (full : Bool) (c : ℕ) (prefix whole longer : Bytes) → Cuts full prefix whole longer → Cuts full (c ∷ prefix) (c ∷ whole) (c ∷ longer)
cuts_more true c prefix whole longer x = ap (λ xs. c ∷ xs) x
cuts_more false c prefix whole longer x = (ap (λ xs. c ∷ xs) x.0, (x.1.0, ap (λ xs. c ∷ xs) x.1.1))

lines_cut : (n : ℕ) (a b : Bytes) → Cuts (has_lines n a) (lines_of n a) a (lines_of n (a ++ b))
lines_cut zero [] b = refl
lines_cut zero (c ∷ a) b = refl
lines_cut (suc n) [] b = (refl, (lines_of (suc n) b, refl))
lines_cut (suc n) (c ∷ a) b = by (c == 10) (lines_cut n a b) (lines_cut (suc n) a b)
  where
    by : (v : Bool) → Cuts (has_lines n a) (lines_of n a) a (lines_of n (a ++ b)) → Cuts (has_lines (suc n) a) (lines_of (suc n) a) a (lines_of (suc n) (a ++ b))
        → Cuts (if v then has_lines n a else has_lines (suc n) a) (c ∷ (if v then lines_of n a else lines_of (suc n) a)) (c ∷ a) (c ∷ (if v then lines_of n (a ++ b) else lines_of (suc n) (a ++ b)))
    by true x y = cuts_more (has_lines n a) c (lines_of n a) a (lines_of n (a ++ b)) x
    by false x y = cuts_more (has_lines (suc n) a) c (lines_of (suc n) a) a (lines_of (suc n) (a ++ b)) y

first_cut : (n : ℕ) (a b : Bytes) → Cuts (has_first_lines n a) (first_lines n a) a (first_lines n (a ++ b))
first_cut n [] b = (refl, (first_lines n b, refl))
first_cut n (c ∷ a) b = by (is_end c) (first_cut n a b) (lines_cut n (c ∷ a) b)
  where
    by : (v : Bool) → Cuts (has_first_lines n a) (first_lines n a) a (first_lines n (a ++ b)) → Cuts (has_lines n (c ∷ a)) (lines_of n (c ∷ a)) (c ∷ a) (lines_of n (c ∷ (a ++ b)))
        → Cuts (if v then has_first_lines n a else has_lines n (c ∷ a)) (if v then c ∷ first_lines n a else lines_of n (c ∷ a)) (c ∷ a) (if v then c ∷ first_lines n (a ++ b) else lines_of n (c ∷ (a ++ b)))
    by true x y = cuts_more (has_first_lines n a) c (first_lines n a) a (first_lines n (a ++ b)) x
    by false x y = y

lines_stay : (n : ℕ) (a b : Bytes) → has_lines n a ≡ true → has_lines n (a ++ b) ≡ true
lines_stay zero a b e = refl
lines_stay (suc n) [] b e = absurd (cc e)
lines_stay (suc n) (c ∷ a) b e = by (c == 10) (lines_stay n a b) (lines_stay (suc n) a b) e
  where
    by : (v : Bool) → (has_lines n a ≡ true → has_lines n (a ++ b) ≡ true) → (has_lines (suc n) a ≡ true → has_lines (suc n) (a ++ b) ≡ true)
        → (if v then has_lines n a else has_lines (suc n) a) ≡ true → (if v then has_lines n (a ++ b) else has_lines (suc n) (a ++ b)) ≡ true
    by true x y e = x e
    by false x y e = y e

first_stay : (n : ℕ) (a b : Bytes) → has_first_lines n a ≡ true → has_first_lines n (a ++ b) ≡ true
first_stay n [] b e = absurd (cc e)
first_stay n (c ∷ a) b e = by (is_end c) (first_stay n a b) (lines_stay n (c ∷ a) b) e
  where
    by : (v : Bool) → (has_first_lines n a ≡ true → has_first_lines n (a ++ b) ≡ true) → (has_lines n (c ∷ a) ≡ true → has_lines n (c ∷ (a ++ b)) ≡ true)
        → (if v then has_first_lines n a else has_lines n (c ∷ a)) ≡ true → (if v then has_first_lines n (a ++ b) else has_lines n (c ∷ (a ++ b))) ≡ true
    by true x y e = x e
    by false x y e = y e

window_of_take : (limit n : ℕ) (a b : Bytes) → limit ≤ length a → window_of limit n (a ++ b) ≡ window_of limit n a
window_of_take limit n a b small = ap (first_lines n) (take-append-le limit a b small)

short_take : (limit : ℕ) (a b : Bytes) → length a < limit → take limit (a ++ b) ≡ a ++ take (limit - length a) b
short_take limit a b small =
    let e : length a + (limit - length a) ≡ limit = omega arith in
    subst (λ k. take k (a ++ b) ≡ a ++ take (limit - length a) b) e (take-append-add a b (limit - length a))

-- The facts of a reader: it has all bytes if it is not full, more bytes change nothing if it is, and what it has stays
-- its prefix.
pub record Looks (limit n : ℕ) (a b : Bytes) : Type 0 where
  pub all : is_full_of limit n a ≡ false → window_of limit n a ≡ a
  pub same : is_full_of limit n a ≡ true → window_of limit n (a ++ b) ≡ window_of limit n a
  pub stays : is_full_of limit n a ≡ true → is_full_of limit n (a ++ b) ≡ true
  pub prefix : (r : Bytes) × (window_of limit n (a ++ b) ≡ window_of limit n a ++ r)

long_full : (limit n : ℕ) (x : Bytes) → limit ≤ length x → is_full_of limit n x ≡ true
long_full limit n x long = grind (arith, nat_tests)

long_looks : (limit n : ℕ) (a b : Bytes) → limit ≤ length a → Looks limit n a b
long_looks limit n a b long =
    let same = window_of_take limit n a b long in
    record {
      all = λ e. absurd (cc (e, long_full limit n a long));
      same = λ e. same;
      stays = λ e. long_full limit n (a ++ b) (let l : length (a ++ b) ≡ length a + length b = length-append a b in omega arith);
      prefix = ([], same ∙ sym (append-nil (window_of limit n a)));
    }

short_full : (limit n : ℕ) (x : Bytes) → length x < limit → is_full_of limit n x ≡ has_first_lines n x
short_full limit n x short =
    let t : nat_le limit (length x) ≡ false = grind (arith, nat_tests) in
    let w : take limit x ≡ x = take_all limit x (omega arith) in
    rw (t, w) refl

short_looks : (limit n : ℕ) (a b : Bytes) → length a < limit → Looks limit n a b
short_looks limit n a b short = by (has_first_lines n a) refl (subst (λ z. Cuts (has_first_lines n a) (first_lines n a) a (first_lines n z)) (sym (short_take limit a b short)) (first_cut n a (take (limit - length a) b)))
  where
    window_is : window_of limit n a ≡ first_lines n a
    window_is = ap (first_lines n) (take_all limit a (omega (arith, short)))

    full_is : is_full_of limit n a ≡ has_first_lines n a
    full_is = short_full limit n a short

    stays_full : has_first_lines n a ≡ true → is_full_of limit n (a ++ b) ≡ true
    stays_full e =
        let more : has_first_lines n (take limit (a ++ b)) ≡ true = subst (λ z. has_first_lines n z ≡ true) (sym (short_take limit a b short)) (first_stay n a (take (limit - length a) b) e) in
        ap (λ z. nat_le limit (length (a ++ b)) || z) more ∙ or-true (nat_le limit (length (a ++ b)))

    by : (v : Bool) → has_first_lines n a ≡ v → Cuts v (first_lines n a) a (window_of limit n (a ++ b)) → Looks limit n a b
    by true e x = record {
      all = λ f. absurd (cc (f, full_is, e));
      same = λ f. x ∙ sym window_is;
      stays = λ f. stays_full e;
      prefix = ([], (x ∙ sym window_is) ∙ sym (append-nil (window_of limit n a)));
    }
    by false e x = record {
      all = λ f. window_is ∙ x.0;
      same = λ f. absurd (cc (f, full_is, e));
      stays = λ f. absurd (cc (f, full_is, e));
      prefix = (x.1.0, x.1.1 ∙ ap (λ z. z ++ x.1.0) (sym (window_is ∙ x.0)));
    }

pub looks : (limit n : ℕ) (a b : Bytes) → Looks limit n a b
looks limit n a b = dite (dec_le limit (length a)) (λ long. long_looks limit n a b long) (λ short. short_looks limit n a b (omega (arith, short)))

-- One byte more of a part that is looked at.

pub lines_at_end : (n : ℕ) → lines_of n [] ≡ []
lines_at_end zero = refl
lines_at_end (suc n) = refl

pub lines_wanting : (n : ℕ) → 0 < n → has_lines n [] ≡ false
lines_wanting zero some = absurd (omega (arith, some))
lines_wanting (suc n) some = refl

pub seen_is : (k limit : ℕ) (x : Bytes) → k ≤ length (take limit x) → take k (take limit x) ≡ take k x
seen_is k limit x small =
    let short : length (take limit x) ≤ limit = let l = length-take limit x in omega (arith, l) in
    take-take k limit x (omega (arith, small, short))

pub limit_take : (limit : ℕ) (x : Bytes) → take (min (length x) limit) x ≡ take limit x
limit_take limit x = ap (λ k. take k x) (min_comm (length x) limit) ∙ take_min limit x

pub limit_within : (k limit : ℕ) (x : Bytes) → k ≤ length (take limit x) → k ≤ length x
limit_within k limit x small = let l = length-take limit x in omega (arith, l, small)

lines_turn : (n c : ℕ) (x : Bytes) → 0 < n → (lines_of n (c ∷ x) ≡ c ∷ lines_of (if c == 10 then n - 1 else n) x) × (has_lines n (c ∷ x) ≡ has_lines (if c == 10 then n - 1 else n) x)
lines_turn zero c x some = absurd (omega (arith, some))
lines_turn (suc n) c x some = let e : suc n - 1 ≡ n = omega arith in rw e (by (c == 10))
  where
    by : (v : Bool) → (c ∷ (if v then lines_of n x else lines_of (suc n) x) ≡ c ∷ lines_of (if v then n else suc n) x) × ((if v then has_lines n x else has_lines (suc n) x) ≡ has_lines (if v then n else suc n) x)
    by true = (refl, refl)
    by false = (refl, refl)

pub passed_turn : (count left i : ℕ) (bytes : Bytes) (d : ℕ) → i < length bytes → 0 < left → Passed count left i bytes → Passed count (left_after left (get_or bytes i d)) (i + 1) bytes
passed_turn count left i bytes d small some p =
    let b = get_or bytes i d in
    let rest = drop (i + 1) bytes in
    let next = left_after left b in
    let t = lines_turn left b rest some in
    record {
      bytes_are = p.bytes_are
          ∙ ap (λ z. take i bytes ++ lines_of left z) (drop_more bytes i d small)
          ∙ ap (λ z. take i bytes ++ z) t.0
          ∙ sym (append_assoc (take i bytes) (b ∷ []) (lines_of next rest))
          ∙ ap (λ z. z ++ lines_of next rest) (sym (take_more bytes i d small));
      full_is = p.full_is ∙ ap (has_lines left) (drop_more bytes i d small) ∙ t.1;
    }

pub passed_none : (count i : ℕ) (bytes : Bytes) → Passed count 0 i bytes → (lines_of count bytes ≡ take i bytes) × (has_lines count bytes ≡ true)
passed_none count i bytes p = (p.bytes_are ∙ append-nil (take i bytes), p.full_is)

pub passed_all : (count left i : ℕ) (bytes : Bytes) → length bytes ≤ i → Passed count left i bytes → (lines_of count bytes ≡ bytes) × (has_lines count bytes ≡ has_lines left [])
passed_all count left i bytes all p =
    let e = drop_all i bytes all in
    (p.bytes_are ∙ (ap (λ z. take i bytes ++ lines_of left z) e ∙ (ap (λ z. take i bytes ++ z) (lines_at_end left) ∙ (append-nil (take i bytes) ∙ take_all i bytes all))), p.full_is ∙ ap (has_lines left) e)

pub passed_start : (count : ℕ) (bytes : Bytes) → Passed count count 0 bytes
passed_start count bytes = record { bytes_are = refl; full_is = refl }

pub skipped_lines : (count i d : ℕ) (bytes : Bytes) → i < length bytes → is_end (get_or bytes i d) ≡ false → first_lines count (drop i bytes) ≡ lines_of count (drop i bytes)
skipped_lines count i d bytes small e = rw (drop_more bytes i d small, e) refl

pub take_both : (i k : ℕ) (bytes : Bytes) → take (i + k) bytes ≡ take i bytes ++ take k (drop i bytes)
take_both i k bytes = take-add i k bytes

lines_short : (n : ℕ) (x : Bytes) → length (lines_of n x) ≤ length x
lines_short zero x = omega arith
lines_short (suc n) [] = omega arith
lines_short (suc n) (c ∷ x) = by (c == 10) (lines_short n x) (lines_short (suc n) x)
  where
    by : (v : Bool) → length (lines_of n x) ≤ length x → length (lines_of (suc n) x) ≤ length x → length (c ∷ (if v then lines_of n x else lines_of (suc n) x)) ≤ length (c ∷ x)
    by true p q = omega (arith, p)
    by false p q = omega (arith, q)

first_short : (n : ℕ) (x : Bytes) → length (first_lines n x) ≤ length x
first_short n [] = omega arith
first_short n (c ∷ x) = by (is_end c) (first_short n x)
  where
    by : (v : Bool) → length (first_lines n x) ≤ length x → length (if v then c ∷ first_lines n x else lines_of n (c ∷ x)) ≤ length (c ∷ x)
    by true p = omega (arith, p)
    by false p = lines_short n (c ∷ x)

pub window_short : (limit n : ℕ) (x : Bytes) → length (window_of limit n x) ≤ limit
window_short limit n x =
    let p = first_short n (take limit x) in
    let l = length-take limit x in
    omega (arith, p, l)

pub not_long : (limit n : ℕ) (x : Bytes) → is_full_of limit n x ≡ false → length x < limit
not_long limit n x e = dite (dec_le limit (length x)) (λ long. absurd (cc (e, long_full limit n x long))) (λ short. omega (arith, short))
