-- Each reader of a word reads exactly the word's spelling.
use Rattle.std.proofs.Common.{◌≡◌, ◌≢◌, ℕ, zero, suc, ◌<◌, ◌≤◌, ◌+◌, ◌^◌, Bool, true, false, cond, not, ◌&&◌, ◌||◌, nat_lt, nat_le, ◌==◌, [], ◌∷◌, length, get_or, All, Option, None, Some, Result, Ok, Err, refl, sym, ap, subst, ◌∙◌, arith}
use Rattle.std.specs.Prelude.{codes, decimal, slice_index, IfSome, position, if◌then◌else◌}
use Rattle.std.specs.List.{list_all, position_or_len}
use Rattle.std.specs.Str.{bytes_eq}
use Rattle.std.specs.Str.Parse.{digits_value}
use Rattle.std.proofs.lemmas.Bool.Decides.{nat_tests}
use Rattle.std.proofs.lemmas.Fmt.{decimal_is_IsNumeral, first_decimal, decimal_digit, decimal_nonempty, decimal-digits_value}
use Rattle.std.proofs.Common.{lit<}
use Rattle.std.proofs.lemmas.List.Elements.{All-cons, All-nil, All-head, All-tail}
use Rattle.std.proofs.lemmas.Option.{none-some, same_Some}
use Rattle.std.proofs.lemmas.Slice.Eq.{bytes_eq-Decides}
use Rattle.wiki_model.specs.declared.Region.{Region}
use Rattle.wiki_model.specs.declared.Region.TheVariants.{Home, West}
use Rattle.wiki_model.specs.Bytes.{Bytes}
use Rattle.wiki_model.specs.Html.{ok_of}
use Rattle.wiki_model.specs.Limits.{text_max}
use Rattle.wiki_model.specs.Titles.{Title, TitleRefusal, Empty, TooLong, is_digit, is_letter, is_token, is_bad, title_of, title_text, has_no_name, good_characters, with_line_feeds}
use Rattle.wiki_model.specs.Script.{client_number, unescaped, SpellsClient, SpellsToken, SpellsTitle, SpellsText, region_word}
use Rattle.drill_script.specs.Words.{◌>>=◌, word_at, is_number, number_of, positive_of, largest, client_in, region_in, token_in, title_in, uncut_title, last_title, short_text, text_in}
use Rattle.drill_script.proofs.Numbers.{own}
use Rattle.drill_script.proofs.Cuts.{Without, cut_nowhere, cut_none, all_without}
use Rattle.drill_script.proofs.Exact.{bind_some, bind_is, Exact, ExactWord}

pub both : (a b : Bool) → (a && b) ≡ true → (a ≡ true) × (b ≡ true)
both true b e = (refl, e)
both false b e = let bad : ⊥ = cc in absurd bad

-- Numbers

decimal_digits : (n : ℕ) → n < 2 ^ 64 → list_all is_digit (decimal n) ≡ true
decimal_digits n h = own.from (decimal n) (decimal_is_IsNumeral n h).0.1

pub decimal_without : (c n : ℕ) → n < 2 ^ 64 → is_digit c ≡ false → Without c (decimal n)
decimal_without c n h t = all_without is_digit c t (decimal n) (decimal_digits n h)

leading : (n : ℕ) → n < 2 ^ 64 → (nat_lt (length (decimal n)) 2 || nat_lt 48 (slice_index (decimal n) 0)) ≡ true
leading zero h = rw (decimal_digit 0 (lit< tt)) refl
leading (suc n) h = second (length (decimal (suc n))) (get_or (decimal (suc n)) 0 0) (first_decimal (suc n) (omega arith) h)
  where
    second : (len first : ℕ) → 48 < first → (nat_lt len 2 || nat_lt 48 first) ≡ true
    second len first f = grind (arith, nat_tests)

is_number-decimal : (n : ℕ) → n < 2 ^ 64 → is_number (decimal n) ≡ true
is_number-decimal n h =
    let some : nat_lt 0 (length (decimal n)) ≡ true = let d = decimal_nonempty n h in grind (arith, nat_tests, d) in
    rw (some, decimal_digits n h, leading n h)

pub number_read : (n most : ℕ) → n ≤ most → most < 2 ^ 64 → number_of most (decimal n) ≡ Some n
unfolding number_of
number_read n most le h =
    let fits : n < 2 ^ 64 = omega (arith, le, h) in
    let small : nat_le n most ≡ true = grind (arith, nat_tests, le) in
    rw (is_number-decimal n fits, (decimal_is_IsNumeral n fits).1, small)

pub number_said : (n most : ℕ) (w : Bytes) → most < 2 ^ 64 → number_of most w ≡ Some n → (n ≤ most) × (w ≡ decimal n)
unfolding number_of
number_said n most w h e = by_tests (is_number w) refl (nat_le (digits_value 10 w) most) refl e
  where
    by_tests : (s : Bool) → is_number w ≡ s → (t : Bool) → nat_le (digits_value 10 w) most ≡ t → cond s (cond t (Some (digits_value 10 w)) None) None ≡ Some n → (n ≤ most) × (w ≡ decimal n)
    by_tests false q t p k = absurd (none-some _ k)
    by_tests true q false p k = absurd (none-some _ k)
    by_tests true q true p k =
        let same : digits_value 10 w ≡ n = same_Some (digits_value 10 w) n k in
        let small : digits_value 10 w ≤ most = grind (arith, nat_tests, p) in
        let (begins, first) = both (nat_lt 0 (length w) && list_all is_digit w) (nat_lt (length w) 2 || nat_lt 48 (slice_index w 0)) q in
        let (some, digits) = both (nat_lt 0 (length w)) (list_all is_digit w) begins in
        let filled : 0 < length w = grind (arith, nat_tests, some) in
        let written : decimal (digits_value 10 w) ≡ w = decimal-digits_value own w digits filled (λ z. lone (length w) (get_or w 0 0) filled first z) (omega (arith, small, h)) in
        (subst (λ k. k ≤ most) same small, sym written ∙ ap decimal same)
      where
        lone : (len first : ℕ) → 0 < len → (nat_lt len 2 || nat_lt 48 first) ≡ true → first ≡ 48 → len ≡ 1
        lone len first f t z = grind (arith, nat_tests, f, t, z)

abbrev pub IsNumber : ℕ → ℕ → Bytes → Type 0
IsNumber most n w = (n ≤ most) × (w ≡ decimal n)

pub number_exact : (most : ℕ) → most < 2 ^ 64 → Exact (number_of most) (IsNumber most)
number_exact most h = record { sound = λ w n e. number_said n most w h e; complete = λ w n s. ap (number_of most) s.1 ∙ number_read n most s.0 h }

pub number_word : (most : ℕ) → most < 2 ^ 64 → ExactWord (number_of most) (IsNumber most)
number_word most h = record {
  sound = λ w n u e. number_said n most w h e;
  complete = λ w n s. ap (number_of most) s.1 ∙ number_read n most s.0 h;
  without = λ w n s. subst (Without 32) (sym s.1) (let le = s.0 in decimal_without 32 n (omega (arith, le, h)) refl);
}

abbrev pub IsPositive : ℕ → ℕ → Bytes → Type 0
IsPositive most n w = (0 < n) × (n ≤ most) × (w ≡ decimal n)

pub positive_said : (n most : ℕ) (w : Bytes) → most < 2 ^ 64 → positive_of most w ≡ Some n → IsPositive most n w
unfolding positive_of
positive_said n most w h e =
    let one = bind_some (number_of most w) (λ k. if nat_lt 0 k then Some k else None) n e in
    by_test one.0 one.1 (nat_lt 0 one.0) refl one.2
  where
    by_test : (k : ℕ) → number_of most w ≡ Some k → (t : Bool) → nat_lt 0 k ≡ t → cond t (Some k) None ≡ Some n → IsPositive most n w
    by_test k r false q j = absurd (none-some _ j)
    by_test k r true q j =
        let same : k ≡ n = same_Some k n j in
        let some : 0 < k = grind (arith, nat_tests, q) in
        let said = number_said k most w h r in subst (λ m. IsPositive most m w) same (some, said.0, said.1)

pub positive_read : (n most : ℕ) (w : Bytes) → most < 2 ^ 64 → IsPositive most n w → positive_of most w ≡ Some n
unfolding positive_of
positive_read n most w h (some, le, is) =
    let t : nat_lt 0 n ≡ true = grind (arith, nat_tests, some) in
    bind_is (number_of most w) n (λ k. if nat_lt 0 k then Some k else None) (ap (number_of most) is ∙ number_read n most le h) ∙ ap (λ b. cond b (Some n) None) t

pub positive_exact : (most : ℕ) → most < 2 ^ 64 → Exact (positive_of most) (IsPositive most)
positive_exact most h = record { sound = λ w n e. positive_said n most w h e; complete = λ w n s. positive_read n most w h s }

pub positive_word : (most : ℕ) → most < 2 ^ 64 → ExactWord (positive_of most) (IsPositive most)
positive_word most h = record {
  sound = λ w n u e. positive_said n most w h e;
  complete = λ w n s. positive_read n most w h s;
  without = λ w n s. subst (Without 32) (sym s.2) (let le = s.1 in decimal_without 32 n (omega (arith, le, h)) refl);
}

-- Clients, regions, tokens, titles, texts

pub fits : largest < 2 ^ 64
fits = omega arith

pub client_word : ExactWord client_in (λ client w. SpellsClient w client)
unfolding client_in
client_word = record {
  sound = λ w client u e.
      let one = bind_some (number_of largest w) (λ n. Some (client_number n)) client e in
      let said = number_said one.0 largest w fits one.1 in
      let le = said.0 in
      (one.0, omega (arith, le), said.1, sym (same_Some (client_number one.0) client one.2));
  complete = λ w client s.
      let less = s.1 in
      ap client_in s.2 ∙ bind_is (number_of largest (decimal s.0)) s.0 (λ n. Some (client_number n)) (number_read s.0 largest (omega (arith, less)) fits) ∙ ap Some (sym s.3);
  without = λ w client s. subst (Without 32) (sym s.2) (let less = s.1 in decimal_without 32 s.0 (omega (arith, less)) refl);
}

pub same_bytes : (a b : Bytes) → bytes_eq a b ≡ true → a ≡ b
same_bytes a b e = (bytes_eq-Decides a b).0 e

abbrev pub SpellsRegion : Region → Bytes → Type 0
SpellsRegion r w = w ≡ region_word r

literal_without : (w : Bytes) → list_all (λ c. not (c == 32)) w ≡ true → Without 32 w
literal_without w t = all_without (λ c. not (c == 32)) 32 refl w t

region_without : (r : Region) → Without 32 (region_word r)
region_without Home = literal_without (codes "home") refl
region_without West = literal_without (codes "west") refl

region_read : (r : Region) → region_in (region_word r) ≡ Some r
region_read Home = refl
region_read West = refl

region_said : (w : Bytes) (r : Region) → region_in w ≡ Some r → w ≡ region_word r
region_said w r e = by_tests (bytes_eq w (codes "home")) refl (bytes_eq w (codes "west")) refl e
  where
    by_tests : (s : Bool) → bytes_eq w (codes "home") ≡ s → (t : Bool) → bytes_eq w (codes "west") ≡ t → cond s (Some Home) (cond t (Some West) None) ≡ Some r → w ≡ region_word r
    by_tests true q t p k = same_bytes w (codes "home") q ∙ ap region_word (same_Some Home r k)
    by_tests false q true p k = same_bytes w (codes "west") p ∙ ap region_word (same_Some West r k)
    by_tests false q false p k = absurd (none-some _ k)

pub region_exact : ExactWord region_in SpellsRegion
region_exact = record {
  sound = λ w r u e. region_said w r e;
  complete = λ w r s. ap region_in s ∙ region_read r;
  without = λ w r s. subst (Without 32) (sym s) (region_without r);
}

token_without : (w : Bytes) → is_token w ≡ true → Without 32 w
token_without w t =
    let (_, good) = both (nat_lt 0 (length w) && nat_le (length w) 64) (list_all (λ c. is_letter c || is_digit c || (c == 45) || (c == 95)) w) t in
    all_without (λ c. is_letter c || is_digit c || (c == 45) || (c == 95)) 32 refl w good

pub token_word : ExactWord token_in (λ token w. SpellsToken w token)
token_word = record {
  sound = λ w token u e. by_test w token (is_token w) refl e;
  complete = λ w token s. let t : is_token w ≡ true = ap is_token s.0 ∙ s.1 in ap (λ b. cond b (Some w) None) t ∙ ap Some s.0;
  without = λ w token s. token_without w (ap is_token s.0 ∙ s.1);
}
  where
    by_test : (w token : Bytes) (t : Bool) → is_token w ≡ t → cond t (Some w) None ≡ Some token → SpellsToken w token
    by_test w token false q k = absurd (none-some _ k)
    by_test w token true q k = let same : w ≡ token = same_Some w token k in (same, sym (ap is_token same) ∙ q)

-- the bytes of a title are good, and it has some
title_said : (w : Bytes) (title : Title) → title_in w ≡ Some title → title_of w ≡ Ok title
title_said w title e = by_cases (title_of w) e
  where
    by_cases : (r : Result Title TitleRefusal) → ok_of r ≡ Some title → r ≡ Ok title
    by_cases (Ok other) k = ap Ok (same_Some other title k)
    by_cases (Err why) k = absurd (none-some _ k)

no_bad : (w : Bytes) (title : Title) → title_of w ≡ Ok title → position is_bad w ≡ None
no_bad w title e = by_tests (has_no_name (title_text w)) (nat_lt 255 (length (title_text w))) (position is_bad w) e
  where
    by_tests : (s t : Bool) (place : Option ℕ) → cond s (Err Empty) (cond t (Err TooLong) (good_characters (title_text w) place)) ≡ Ok title → place ≡ None
    by_tests true t place k = let bad : ⊥ = cc in absurd bad
    by_tests false true place k = let bad : ⊥ = cc in absurd bad
    by_tests false false None k = refl
    by_tests false false (Some n) k = let bad : ⊥ = cc in absurd bad

good_bytes : (w : Bytes) → length w ≤ position_or_len is_bad w → Without 10 w
good_bytes [] h = tt
good_bytes (c ∷ w) h = by_test (good_bytes w) (is_bad c) refl h
  where
    by_test : (length w ≤ position_or_len is_bad w → Without 10 w) → (t : Bool) → is_bad c ≡ t → length (c ∷ w) ≤ cond (not t) (1 + position_or_len is_bad w) 0 → (c ≢ 10) × Without 10 w
    by_test ih true q k = absurd (omega arith)
    by_test ih false q k = ((λ same. clash (sym (ap is_bad same) ∙ q)), ih (omega (arith, k)))
      where
        clash : true ≡ false → ⊥
        clash e = cc

no_line_feed : (w : Bytes) → position is_bad w ≡ None → Without 10 w
no_line_feed w e = by_test (nat_lt (position_or_len is_bad w) (length w)) refl e
  where
    by_test : (t : Bool) → nat_lt (position_or_len is_bad w) (length w) ≡ t → cond t (Some (position_or_len is_bad w)) None ≡ None → Without 10 w
    by_test true q k = absurd (none-some _ (sym k))
    by_test false q k = good_bytes w (grind (arith, nat_tests, q))

word_bytes : (w : Bytes) → Without 32 w → Without 10 w → All (λ c. (c ≢ 32) × (c ≢ 10)) w
word_bytes [] u v = All-nil (λ c. (c ≢ 32) × (c ≢ 10))
word_bytes (c ∷ w) (a, u) (b, v) = All-cons (λ c. (c ≢ 32) × (c ≢ 10)) c w (a, b) (word_bytes w u v)

word_without : (w : Bytes) → All (λ c. (c ≢ 32) × (c ≢ 10)) w → Without 32 w
word_without [] all = tt
word_without (c ∷ w) all = ((All-head (λ c. (c ≢ 32) × (c ≢ 10)) c w all).0, word_without w (All-tail (λ c. (c ≢ 32) × (c ≢ 10)) c w all))

some_bytes : (w : Bytes) (title : Title) → title_of w ≡ Ok title → 0 < length w
some_bytes [] title e = let bad : ⊥ = cc in absurd bad
some_bytes (c ∷ w) title e = omega arith

title_spelled : (w : Bytes) (title : Title) → Without 32 w → title_in w ≡ Some title → SpellsTitle w title
title_spelled w title u e =
    let is = title_said w title e in
    ((some_bytes w title is, word_bytes w u (no_line_feed w (no_bad w title is))), is)

pub title_word : ExactWord title_in (λ title w. SpellsTitle w title)
title_word = record {
  sound = λ w title u e. title_spelled w title u e;
  complete = λ w title s. ap ok_of s.1;
  without = λ w title s. word_without w s.0.1;
}

pub last_title_exact : Exact last_title (λ title w. SpellsTitle w title)
unfolding last_title
last_title_exact = record {
  sound = λ w title e. by_cut w title (word_at w) refl e;
  complete = λ w title s. ap (λ o. uncut_title o w) (cut_none 32 w (word_without w s.0.1)) ∙ ap ok_of s.1;
}
  where
    by_cut : (w : Bytes) (title : Title) (o : Option (Bytes × Bytes)) → word_at w ≡ o → uncut_title o w ≡ Some title → SpellsTitle w title
    by_cut w title None q k = title_spelled w title (cut_nowhere 32 w q) k
    by_cut w title (Some p) q k = absurd (none-some _ k)

short_said : (plain text : Bytes) → short_text plain ≡ Some text → (text ≡ with_line_feeds plain) × (length text ≤ text_max)
short_said plain text e = by_test (nat_le (length (with_line_feeds plain)) text_max) refl e
  where
    by_test : (t : Bool) → nat_le (length (with_line_feeds plain)) text_max ≡ t → cond t (Some (with_line_feeds plain)) None ≡ Some text → (text ≡ with_line_feeds plain) × (length text ≤ text_max)
    by_test false q k = absurd (none-some _ k)
    by_test true q k =
        let same : with_line_feeds plain ≡ text = same_Some (with_line_feeds plain) text k in
        let small : length (with_line_feeds plain) ≤ text_max = grind (arith, nat_tests, q) in
        (sym same, subst (λ (l : Bytes). length l ≤ text_max) same small)

pub text_exact : Exact text_in (λ text w. SpellsText w text)
unfolding text_in
text_exact = record {
  sound = λ w text e.
      let one = bind_some (unescaped w) short_text text e in
      let short = short_said one.0 text one.2 in
      (subst (λ (o : Option Bytes). IfSome o (λ plain. text ≡ with_line_feeds plain)) (sym one.1) short.0, subst (λ (o : Option Bytes). o ≢ None) (sym one.1) (λ k. none-some one.0 (sym k)), short.1);
  complete = λ w text s. by_plain w text (unescaped w) s;
}
  where
    by_plain : (w text : Bytes) (o : Option Bytes) → (IfSome o (λ plain. text ≡ with_line_feeds plain) × (o ≢ None) × (length text ≤ text_max)) → (o >>= short_text) ≡ Some text
    by_plain w text None (is, some, small) = absurd (some refl)
    by_plain w text (Some plain) (is, some, small) =
        let few : length (with_line_feeds plain) ≤ text_max = subst (λ (l : Bytes). length l ≤ text_max) is small in
        let t : nat_le (length (with_line_feeds plain)) text_max ≡ true = grind (arith, nat_tests, few) in
        ap (λ b. cond b (Some (with_line_feeds plain)) None) t ∙ ap Some (sym is)
