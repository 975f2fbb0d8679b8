-- What the generator makes is a script, for every seed and up to 100,000 steps.
use Rattle.std.specs.Prelude.{ℕ, zero, suc, ◌≡◌, ◌≢◌, ◌<◌, ◌≤◌, ◌+◌, ◌-◌, ◌*◌, ◌/◌, ◌^◌, Bool, true, false, ◌==◌, ◌&&◌, ◌||◌, not, if◌then◌else◌, List, [], ◌∷◌, ◌++◌, length, All, Option, Some, None, Ok, IfSome, option_map, codes, decimal, nat_lt, nat_le, replicate, refl}
use Rattle.std.specs.Fmt.{digits}
use Rattle.std.specs.List.{AllByRecursion, list_all}
use Rattle.std.specs.Str.Parse.{AllDigits}
use Rattle.std.specs.Str.{IsAscii}
use Rattle.std.proofs.Common.{arith, sym, ap, subst, ◌∙◌, append_assoc, append-nil, get_or, set}
use Rattle.std.proofs.Math.Nat.{mod-lt}
use Rattle.std.proofs.lemmas.Bool.Decides.{nat_tests}
use Rattle.std.proofs.lemmas.List.{length-append}
use Rattle.std.proofs.lemmas.List.Elements.{All-cons, All-nil, All-append}
use Rattle.std.proofs.lemmas.Fmt.{length-decimal-le, decimal_is_IsNumeral}
use Rattle.std.proofs.lemmas.Str.{IsUtf8-from_ascii}
use Rattle.std.proofs.lemmas.Str.Parse.{digit_from_value}
use Rattle.wiki_model.specs.declared.Region.{Region}
use Rattle.wiki_model.specs.declared.Region.TheVariants.{Home, West}
use Rattle.wiki_model.specs.Bytes.{Bytes, space, line_feed}
use Rattle.wiki_model.specs.Titles.{title_of, is_token, is_letter, is_digit, line_feeds_after, with_line_feeds}
use Rattle.wiki_model.specs.World.{Cookie}
use Rattle.wiki_model.specs.Script.{Line, words, region_word, client_number, unescaped, after_backslash, Spells, SpellsText, SpellsCookie, SpellsTitle, IsInPlace, AreLines}
use Rattle.wiki_model.specs.Script.Line.{FarmLine, At, BeatLine, ApplyLine, EditLine, ViewLine, CarryLine, End}
use Rattle.wiki_model.specs.Generator.{Stirred, before_stirring, seed_after, draw, home_reading, west_reading, kind, client, title, word, replica, writes, revision, edit_words, apply_words, view_words, carry_words, last_position, step_words, step_lines, with_edit, after_step, stirred_from, MakesScripts}

-- Bytes of words: printable, and no backslash

record IsFine (c : ℕ) : Type 0 where
  more : 32 < c
  less : c < 127
  plain : c ≢ 92

abbrev AreFine : Bytes → Type 0
AreFine text = AllByRecursion IsFine text

abbrev is_fine : ℕ → Bool
is_fine c = nat_lt 32 c && nat_lt c 127 && not (c == 92)

both : (a b : Bool) → (a && b) ≡ true → (a ≡ true) × (b ≡ true)
both true b e = (refl, e)
both false b e = let no : ⊥ = cc in absurd no

fine-byte : (c : ℕ) → is_fine c ≡ true → IsFine c
fine-byte c e =
    let (more, other) = both (nat_lt 32 c && nat_lt c 127) (not (c == 92)) e in
    let (low, high) = both (nat_lt 32 c) (nat_lt c 127) more in
    record { more = grind (arith, nat_tests, low); less = grind (arith, nat_tests, high); plain = grind (arith, nat_tests, other) }

fine-literal : (text : Bytes) → list_all is_fine text ≡ true → AreFine text
fine-literal [] e = tt
fine-literal (c ∷ text) e = let (one, others) = both (is_fine c) (list_all is_fine text) e in (fine-byte c one, fine-literal text others)

fine-digits : (ds : Bytes) → AllDigits 10 ds → AreFine ds
fine-digits [] d = tt
fine-digits (c ∷ ds) (one, others) = let digit = digit_from_value c one in (record { more = omega (arith, digit); less = omega (arith, digit); plain = λ e. omega (arith, digit, e) }, fine-digits ds others)

fine-decimal : (n : ℕ) → n < 2 ^ 63 → AreFine (decimal n)
fine-decimal n small = fine-digits (decimal n) (decimal_is_IsNumeral n (omega (arith, small))).0.1

fine-append : (a b : Bytes) → AreFine a → AreFine b → AreFine (a ++ b)
fine-append [] b f g = g
fine-append (c ∷ a) b (one, others) g = (one, fine-append a b others g)

word-bytes : (text : Bytes) → AreFine text → All (λ c. (c ≢ space) × (c ≢ line_feed)) text
word-bytes [] f = All-nil (λ c. (c ≢ space) × (c ≢ line_feed))
word-bytes (c ∷ text) (one, others) = let more = one.more in All-cons (λ c. (c ≢ space) × (c ≢ line_feed)) c text (λ e. omega (arith, more, e), λ e. omega (arith, more, e)) (word-bytes text others)

-- A token and a text

abbrev in_token : ℕ → Bool
in_token c = is_letter c || is_digit c || (c == 45) || (c == 95)

token-digits : (ds : Bytes) → AllDigits 10 ds → list_all in_token ds ≡ true
token-digits [] d = refl
token-digits (c ∷ ds) (one, others) = let digit = digit_from_value c one in by (is_letter c) (is_digit c) (grind (arith, nat_tests, digit)) (token-digits ds others)
  where
    by : (a b : Bool) → b ≡ true → list_all in_token ds ≡ true → ((a || b || (c == 45) || (c == 95)) && list_all in_token ds) ≡ true
    by true b is rest = rest
    by false true is rest = rest
    by false false is rest = let no : ⊥ = cc in absurd no

all_three : (a b c : Bool) → a ≡ true → b ≡ true → c ≡ true → (a && b && c) ≡ true
all_three true true true e f g = refl
all_three true true false e f g = g
all_three true false c e f g = f
all_three false b c e f g = e

token : (i : ℕ) → i < 1_000_000 → is_token (codes "t" ++ decimal i) ≡ true
token i small =
    let long : length (decimal i) ≤ 6 = length-decimal-le 6 i (omega arith) (omega (arith, small)) (omega (arith, small)) in
    all_three (nat_lt 0 (length (codes "t" ++ decimal i))) (nat_le (length (codes "t" ++ decimal i)) 64) (list_all in_token (codes "t" ++ decimal i))
    (grind (arith, nat_tests)) (grind (arith, nat_tests, long)) (token-digits (decimal i) (decimal_is_IsNumeral i (omega (arith, small))).0.1)

no_backslash : (c : ℕ) → IsFine c → (c == 92) ≡ false
no_backslash c fine = let other = fine.plain in grind (arith, nat_tests, other)

plain-text : (text : Bytes) → AreFine text → unescaped text ≡ Some text
plain-text [] f = refl
plain-text (c ∷ []) (one, others) = ap (λ b. if b then None else Some (c ∷ [])) (no_backslash c one)
plain-text (c ∷ d ∷ text) (one, others) =
    ap (λ b. if b then after_backslash (d ∷ []) (unescaped text) else option_map (λ rest. c ∷ rest) (unescaped (d ∷ text))) (no_backslash c one)
    ∙ ap (option_map (λ rest. c ∷ rest)) (plain-text (d ∷ text) others)

same-ends : (previous : ℕ) (text : Bytes) → AreFine text → line_feeds_after previous text ≡ text
same-ends previous [] f = refl
same-ends previous (c ∷ text) (one, others) =
    let more = one.more in
    let no_return : (c == 13) ≡ false = grind (arith, nat_tests, more) in
    let no_feed : (c == 10) ≡ false = grind (arith, nat_tests, more) in
    ap (λ b. if b then 10 ∷ line_feeds_after c text else (if (c == 10) && (previous == 13) then line_feeds_after c text else c ∷ line_feeds_after c text)) no_return
    ∙ ap (λ b. if b && (previous == 13) then line_feeds_after c text else c ∷ line_feeds_after c text) no_feed
    ∙ ap (λ l. c ∷ l) (same-ends c text others)

text-spelled : (text : Bytes) → AreFine text → length text ≤ 65_536 → SpellsText text text
text-spelled text fine small = (
  subst (λ (o : Option Bytes). IfSome o (λ plain. text ≡ with_line_feeds plain)) (sym (plain-text text fine)) (sym (same-ends 0 text fine)),
  subst (λ (o : Option Bytes). o ≢ None) (sym (plain-text text fine)) (λ e. cc),
  small,
)

-- A title of one letter

letter : (n : ℕ) → n < 8 → title_of ((65 + n) ∷ []) ≡ Ok ((65 + n) ∷ [])
letter zero small = refl
letter (suc zero) small = refl
letter (suc (suc zero)) small = refl
letter (suc (suc (suc zero))) small = refl
letter (suc (suc (suc (suc zero)))) small = refl
letter (suc (suc (suc (suc (suc zero))))) small = refl
letter (suc (suc (suc (suc (suc (suc zero)))))) small = refl
letter (suc (suc (suc (suc (suc (suc (suc zero))))))) small = refl
letter (suc (suc (suc (suc (suc (suc (suc (suc n)))))))) small = absurd (omega (arith, small))

fine-title : (n : ℕ) → n < 8 → AreFine ((65 + n) ∷ [])
fine-title n small = (record { more = omega (arith, small); less = omega (arith, small); plain = λ e. omega (arith, small, e) }, tt)

title-spelled : (n : ℕ) → n < 8 → SpellsTitle ((65 + n) ∷ []) ((65 + n) ∷ [])
title-spelled n small = ((omega arith, word-bytes ((65 + n) ∷ []) (fine-title n small)), letter n small)

-- Lines of words

abbrev InLine : ℕ → Type 0
InLine c = (31 < c) × (c < 127)

line-word : (text : Bytes) → AreFine text → AllByRecursion InLine text
line-word [] f = tt
line-word (c ∷ text) (one, others) = let more = one.more in ((omega (arith, more), one.less), line-word text others)

line-append : (a b : Bytes) → AllByRecursion InLine a → AllByRecursion InLine b → AllByRecursion InLine (a ++ b)
line-append [] b f g = g
line-append (c ∷ a) b (one, others) g = (one, line-append a b others g)

line-words : (ws : List Bytes) → AllByRecursion AreFine ws → AllByRecursion InLine (words ws)
line-words [] f = tt
line-words (w ∷ []) (one, others) = line-word w one
line-words (w ∷ v ∷ ws) (one, others) = line-append w (32 ∷ words (v ∷ ws)) (line-word w one) ((omega arith, omega arith), line-words (v ∷ ws) others)

abbrev size : List Bytes → ℕ
size [] = 0
size (w ∷ ws) = length w + 1 + size ws

small-words : (ws : List Bytes) → length (words ws) ≤ size ws
small-words [] = omega arith
small-words (w ∷ []) = omega arith
small-words (w ∷ v ∷ ws) = let more = small-words (v ∷ ws) in let long = length-append w (32 ∷ words (v ∷ ws)) in omega (arith, more, long)

no-line_feed : (text : Bytes) → AllByRecursion InLine text → All (λ c. c ≢ line_feed) text
no-line_feed [] f = All-nil (λ c. c ≢ line_feed)
no-line_feed (c ∷ text) (one, others) = let more = one.0 in All-cons (λ c. c ≢ line_feed) c text (λ e. omega (arith, more, e)) (no-line_feed text others)

ascii : (text : Bytes) → AllByRecursion InLine text → IsAscii text
ascii [] f i = omega arith
ascii (c ∷ text) (one, others) zero = let less = one.1 in omega (arith, less)
ascii (c ∷ text) (one, others) (suc i) = ascii text others i

-- What the words of a step spell

abbrev farm : Line
farm = FarmLine (3 ∷ 1 ∷ []) (2 ∷ 1 ∷ []) 0

record IsLine (text : Bytes) : Type 0 where
  line : Line
  spells : Spells line text
  bytes : AllByRecursion InLine text
  not_end : line ≢ End
  in_place : (earlier : List Line) → IsInPlace (farm ∷ earlier) line
  small : length text ≤ 60

short : (k n : ℕ) → 0 < k → n < 10 ^ k → n < 2 ^ 63 → length (decimal n) ≤ k
short k n some fits small = length-decimal-le k n some fits (omega (arith, small))

fifty : decimal 50 ≡ codes "50"
unfolding digits
fifty = refl

at-line : (h w : ℕ) → h < 10_000_000_000 → w < 10_000_000_000 → IsLine (words (codes "at" ∷ decimal h ∷ decimal w ∷ []))
at-line h w small small2 =
    let long = short 10 h (omega arith) (omega (arith, small)) (omega (arith, small)) in
    let long2 = short 10 w (omega arith) (omega (arith, small2)) (omega (arith, small2)) in
    let all : length (words (codes "at" ∷ decimal h ∷ decimal w ∷ [])) ≤ 2 + 1 + (length (decimal h) + 1 + (length (decimal w) + 1 + 0)) = small-words (codes "at" ∷ decimal h ∷ decimal w ∷ []) in
    record {
      line = At (record { home = h; west = w });
      spells = (omega (arith, small), omega (arith, small2), refl);
      bytes = line-words (codes "at" ∷ decimal h ∷ decimal w ∷ []) (fine-literal (codes "at") refl, (fine-decimal h (omega (arith, small)), (fine-decimal w (omega (arith, small2)), tt)));
      not_end = λ e. cc;
      in_place = λ earlier. tt;
      small = omega (arith, long, long2, all);
    }

beat-line : IsLine (words (codes "beat" ∷ []))
beat-line = record { line = BeatLine; spells = refl; bytes = line-words (codes "beat" ∷ []) (fine-literal (codes "beat") refl, tt); not_end = λ e. cc; in_place = λ earlier. tt; small = omega arith }

fine-region : (r : Region) → AreFine (region_word r)
fine-region Home = fine-literal (codes "home") refl
fine-region West = fine-literal (codes "west") refl

four : (r : Region) → length (region_word r) ≡ 4
four Home = refl
four West = refl

apply-line : (r : Region) (replica : ℕ) → replica < 2 → IsLine (words (codes "apply" ∷ region_word r ∷ decimal replica ∷ codes "50" ∷ []))
apply-line r replica less =
    let long = short 1 replica (omega arith) (omega (arith, less)) (omega (arith, less)) in
    let region = four r in
    let all : length (words (codes "apply" ∷ region_word r ∷ decimal replica ∷ codes "50" ∷ [])) ≤ 5 + 1 + (length (region_word r) + 1 + (length (decimal replica) + 1 + (2 + 1 + 0))) = small-words (codes "apply" ∷ region_word r ∷ decimal replica ∷ codes "50" ∷ []) in
    record {
      line = ApplyLine r replica 50;
      spells = (omega arith, omega arith, ap (λ w. words (codes "apply" ∷ region_word r ∷ decimal replica ∷ w ∷ [])) (sym fifty));
      bytes = line-words (codes "apply" ∷ region_word r ∷ decimal replica ∷ codes "50" ∷ []) (fine-literal (codes "apply") refl, (fine-region r, (fine-decimal replica (omega (arith, less)), (fine-literal (codes "50") refl, tt))));
      not_end = λ e. cc;
      in_place = placed r;
      small = omega (arith, long, region, all);
    }
  where
    placed : (q : Region) (earlier : List Line) → IsInPlace (farm ∷ earlier) (ApplyLine q replica 50)
    placed Home earlier = less
    placed West earlier = less

carry-line : (n : ℕ) → n < 1_000_000 → IsLine (words (codes "carry" ∷ decimal n ∷ []))
carry-line n small =
    let long = short 6 n (omega arith) (omega (arith, small)) (omega (arith, small)) in
    let all : length (words (codes "carry" ∷ decimal n ∷ [])) ≤ 5 + 1 + (length (decimal n) + 1 + 0) = small-words (codes "carry" ∷ decimal n ∷ []) in
    record {
      line = CarryLine n;
      spells = (omega (arith, small), refl);
      bytes = line-words (codes "carry" ∷ decimal n ∷ []) (fine-literal (codes "carry") refl, (fine-decimal n (omega (arith, small)), tt));
      not_end = λ e. cc;
      in_place = λ earlier. tt;
      small = omega (arith, long, all);
    }

edit-line : (i c t b : ℕ) → i < 1_000_000 → c < 10 → t < 8 → b < 1_000_000 → IsLine (words (codes "edit" ∷ decimal c ∷ (codes "t" ++ decimal i) ∷ ((65 + t) ∷ []) ∷ decimal b ∷ (codes "v" ++ decimal i) ∷ []))
edit-line i c t b small client_small title_small base_small =
    let long = short 6 i (omega arith) (omega (arith, small)) (omega (arith, small)) in
    let long2 = short 1 c (omega arith) (omega (arith, client_small)) (omega (arith, client_small)) in
    let long3 = short 6 b (omega arith) (omega (arith, base_small)) (omega (arith, base_small)) in
    let all : length (words (codes "edit" ∷ decimal c ∷ (codes "t" ++ decimal i) ∷ ((65 + t) ∷ []) ∷ decimal b ∷ (codes "v" ++ decimal i) ∷ [])) ≤ 4 + 1 + (length (decimal c) + 1 + (length (116 ∷ decimal i) + 1 + (1 + 1 + (length (decimal b) + 1 + (length (118 ∷ decimal i) + 1 + 0))))) = small-words (codes "edit" ∷ decimal c ∷ (codes "t" ++ decimal i) ∷ ((65 + t) ∷ []) ∷ decimal b ∷ (codes "v" ++ decimal i) ∷ []) in
    let numbered : AreFine (decimal i) = fine-decimal i (omega (arith, small)) in
    let text : AreFine (codes "v" ++ decimal i) = fine-append (codes "v") (decimal i) (fine-literal (codes "v") refl) numbered in
    record {
      line = EditLine (record { client = client_number c; token = codes "t" ++ decimal i; title = (65 + t) ∷ []; base = b; text = codes "v" ++ decimal i });
      spells = (decimal c, codes "t" ++ decimal i, (65 + t) ∷ [], codes "v" ++ decimal i, (c, omega (arith, client_small), refl, refl), (refl, token i small), title-spelled t title_small, text-spelled (codes "v" ++ decimal i) text (omega (arith, long)), omega (arith, base_small), refl);
      bytes = line-words (codes "edit" ∷ decimal c ∷ (codes "t" ++ decimal i) ∷ ((65 + t) ∷ []) ∷ decimal b ∷ (codes "v" ++ decimal i) ∷ [])
          (fine-literal (codes "edit") refl, (fine-decimal c (omega (arith, client_small)), (fine-append (codes "t") (decimal i) (fine-literal (codes "t") refl) numbered, (fine-title t title_small, (fine-decimal b (omega (arith, base_small)), (text, tt))))));
      not_end = λ e. cc;
      in_place = λ earlier. tt;
      small = omega (arith, long, long2, long3, all);
    }

view-line : (r : Region) (c t n : ℕ) (shown : Bytes) (cookie : Option Cookie) → c < 10 → t < 8 → n < 1_000 → SpellsCookie shown (client_number c) cookie false → AreFine shown → length shown ≤ 20
    → IsLine (words (codes "view" ∷ region_word r ∷ decimal c ∷ shown ∷ decimal n ∷ ((65 + t) ∷ []) ∷ []))
view-line r c t n shown cookie client_small title_small word_small spelled fine cookie_small =
    let long = short 1 c (omega arith) (omega (arith, client_small)) (omega (arith, client_small)) in
    let long2 = short 3 n (omega arith) (omega (arith, word_small)) (omega (arith, word_small)) in
    let region = four r in
    let all : length (words (codes "view" ∷ region_word r ∷ decimal c ∷ shown ∷ decimal n ∷ ((65 + t) ∷ []) ∷ [])) ≤ 4 + 1 + (length (region_word r) + 1 + (length (decimal c) + 1 + (length shown + 1 + (length (decimal n) + 1 + (1 + 1 + 0))))) = small-words (codes "view" ∷ region_word r ∷ decimal c ∷ shown ∷ decimal n ∷ ((65 + t) ∷ []) ∷ []) in
    record {
      line = ViewLine (record { host = r; client = client_number c; cookie = cookie; use_master = false; word = n; title = (65 + t) ∷ [] });
      spells = (decimal c, shown, (65 + t) ∷ [], (c, omega (arith, client_small), refl, refl), spelled, title-spelled t title_small, omega (arith, word_small), refl);
      bytes = line-words (codes "view" ∷ region_word r ∷ decimal c ∷ shown ∷ decimal n ∷ ((65 + t) ∷ []) ∷ [])
          (fine-literal (codes "view") refl, (fine-region r, (fine-decimal c (omega (arith, client_small)), (fine, (fine-decimal n (omega (arith, word_small)), (fine-title t title_small, tt))))));
      not_end = λ e. cc;
      in_place = λ earlier. tt;
      small = omega (arith, long, long2, region, cookie_small, all);
    }

no_cookie-line : (r : Region) (c t n : ℕ) → c < 10 → t < 8 → n < 1_000 → IsLine (words (codes "view" ∷ region_word r ∷ decimal c ∷ codes "-" ∷ decimal n ∷ ((65 + t) ∷ []) ∷ []))
no_cookie-line r c t n client_small title_small word_small = view-line r c t n (codes "-") None client_small title_small word_small (refl, refl) (fine-literal (codes "-") refl) (omega arith)

-- the position that a client last wrote, where it wrote
cookie-line : (r : Region) (c t n index seconds : ℕ) → c < 10 → t < 8 → n < 1_000 → index < 1_000_000 → seconds < 10_000_000_000
    → IsLine (words (codes "view" ∷ region_word r ∷ decimal c ∷ (if index == 0 then codes "-" else decimal index ++ 64 ∷ decimal seconds) ∷ decimal n ∷ ((65 + t) ∷ []) ∷ []))
cookie-line r c t n index seconds client_small title_small word_small index_small seconds_small = by (index == 0) refl
  where
    by : (b : Bool) → (index == 0) ≡ b → IsLine (words (codes "view" ∷ region_word r ∷ decimal c ∷ (if b then codes "-" else decimal index ++ 64 ∷ decimal seconds) ∷ decimal n ∷ ((65 + t) ∷ []) ∷ []))
    by true e = no_cookie-line r c t n client_small title_small word_small
    by false e =
        let long = short 6 index (omega arith) (omega (arith, index_small)) (omega (arith, index_small)) in
        let long2 = short 10 seconds (omega arith) (omega (arith, seconds_small)) (omega (arith, seconds_small)) in
        let all = length-append (decimal index) (64 ∷ decimal seconds) in
        view-line r c t n (decimal index ++ 64 ∷ decimal seconds) (Some (record { index = index; seconds = seconds; client = client_number c })) client_small title_small word_small
        (grind (arith, nat_tests, e), omega (arith, index_small), omega (arith, seconds_small), refl, sym (append-nil (decimal index ++ 64 ∷ decimal seconds)))
        (fine-append (decimal index) (64 ∷ decimal seconds) (fine-decimal index (omega (arith, index_small))) (record { more = omega arith; less = omega arith; plain = λ f. omega (arith, f) }, fine-decimal seconds (omega (arith, seconds_small))))
        (omega (arith, long, long2, all))

-- What is known between two steps stays small

record IsSmall (k : ℕ) (s : Stirred) : Type 0 where
  home : s.home ≤ 1_000 + 1_500 * k
  revisions : (j : ℕ) → get_or s.revisions j 0 ≤ k
  wrote : (j : ℕ) → get_or s.wrote j 0 ≤ k
  messages : s.messages ≤ 2 * k

small-set : (xs : List ℕ) (i y k : ℕ) → ((j : ℕ) → get_or xs j 0 ≤ k) → y ≤ k → (j : ℕ) → get_or (set xs i y) j 0 ≤ k
small-set [] i y k all one j = all j
small-set (x ∷ xs) zero y k all one zero = one
small-set (x ∷ xs) zero y k all one (suc j) = all (suc j)
small-set (x ∷ xs) (suc i) y k all one zero = all zero
small-set (x ∷ xs) (suc i) y k all one (suc j) = small-set xs i y k (λ n. all (suc n)) one j

zeros : (n j : ℕ) → get_or (replicate n 0) j 0 ≤ 0
zeros zero j = omega arith
zeros (suc n) zero = omega arith
zeros (suc n) (suc j) = zeros n j

small-start : (seed : ℕ) → IsSmall 0 (before_stirring seed)
small-start seed = record { home = omega arith; revisions = zeros 8; wrote = zeros 5; messages = omega arith }

drawn : (n : ℕ) (s : Stirred) (limit : ℕ) → 0 < limit → draw n s limit < limit
drawn n s limit some = mod-lt (seed_after n s.seed / 2 ^ 33) some

small-more : (k : ℕ) (s : Stirred) → IsSmall k s → IsSmall (suc k) (after_step s)
small-more k s small = record {
  home = let old = small.home in let one = drawn 1 s 1_500 (omega arith) in omega (arith, old, one);
  revisions = revisions (nat_lt (kind s) 2);
  wrote = wrote (nat_lt (kind s) 2);
  messages = messages (nat_lt (kind s) 2);
}
  where
    revisions : (b : Bool) (j : ℕ) → get_or ((if b then with_edit s else s).revisions) j 0 ≤ suc k
    revisions true j = small-set s.revisions (title s) (revision s + 1) (suc k) (λ i. let old = small.revisions i in omega (arith, old)) (let old = small.revisions (title s) in omega (arith, old)) j
    revisions false j = let old = small.revisions j in omega (arith, old)

    wrote : (b : Bool) (j : ℕ) → get_or ((if b then with_edit s else s).wrote) j 0 ≤ suc k
    wrote true j = small-set s.wrote (client s - 1) (writes s + 1) (suc k) (λ i. let old = small.wrote i in omega (arith, old)) (let old = small.wrote (client s - 1) in omega (arith, old)) j
    wrote false j = let old = small.wrote j in omega (arith, old)

    messages : (b : Bool) → (if b then with_edit s else s).messages ≤ 2 * suc k
    messages true = let old = small.messages in omega (arith, old)
    messages false = let old = small.messages in omega (arith, old)

-- The two lines of a step

choose : (b : Bool) (x y : List Bytes) → IsLine (words x) → IsLine (words y) → IsLine (words (if b then x else y))
choose true x y p q = p
choose false x y p q = q

at-is : (k : ℕ) (s : Stirred) → k < 100_000 → IsSmall k s → IsLine (words (codes "at" ∷ decimal (home_reading s) ∷ decimal (west_reading s) ∷ []))
at-is k s few small =
    let old = small.home in
    let one = drawn 1 s 1_500 (omega arith) in
    let two = drawn 2 s 1_201 (omega arith) in
    at-line (home_reading s) (west_reading s) (omega (arith, few, old, one)) (omega (arith, few, old, one, two))

carry-is : (k : ℕ) (s : Stirred) → k < 100_000 → IsSmall k s → IsLine (words (carry_words s))
carry-is k s few small = by (s.messages == 0) refl
  where
    by : (b : Bool) → (s.messages == 0) ≡ b → IsLine (words (if b then codes "beat" ∷ [] else codes "carry" ∷ decimal (1 + draw 8 s s.messages) ∷ []))
    by true e = beat-line
    by false e =
        let some : 0 < s.messages = grind (arith, nat_tests, e) in
        let one = drawn 8 s s.messages some in
        let old = small.messages in
        carry-line (1 + draw 8 s s.messages) (omega (arith, few, old, one))

step-is : (k : ℕ) (s : Stirred) → k < 100_000 → IsSmall k s → IsLine (words (step_words (k + 1) (kind s) s))
step-is k s few small =
    let t = drawn 5 s 8 (omega arith) in
    let n = drawn 6 s 1_000 (omega arith) in
    let r = drawn 7 s 2 (omega arith) in
    let d = drawn 4 s 5 (omega arith) in
    let c : client s < 10 = omega (arith, d) in
    let old = small.home in
    let h = drawn 1 s 1_500 (omega arith) in
    let revised = small.revisions (title s) in
    let written = small.wrote (client s - 1) in
    let last : IsLine (words (view_words (codes "west") (last_position s) s)) = cookie-line West (client s) (title s) (word s) (writes s) (home_reading s / 1_000) c t n (omega (arith, few, written)) (omega (arith, few, old, h)) in
    let west : IsLine (words (if nat_lt (kind s) 11 then view_words (codes "west") (codes "-") s else view_words (codes "west") (last_position s) s)) =
    choose (nat_lt (kind s) 11) (view_words (codes "west") (codes "-") s) (view_words (codes "west") (last_position s) s) (no_cookie-line West (client s) (title s) (word s) c t n) last in
    let home : IsLine (words (if kind s == 8 then view_words (codes "home") (codes "-") s else (if nat_lt (kind s) 11 then view_words (codes "west") (codes "-") s else view_words (codes "west") (last_position s) s))) =
    choose (kind s == 8) (view_words (codes "home") (codes "-") s) (if nat_lt (kind s) 11 then view_words (codes "west") (codes "-") s else view_words (codes "west") (last_position s) s) (no_cookie-line Home (client s) (title s) (word s) c t n) west in
    choose (nat_lt (kind s) 2) (edit_words (k + 1) s) _ (edit-line (k + 1) (client s) (title s) (revision s) (omega (arith, few)) c t (omega (arith, few, revised)))
    (choose (nat_lt (kind s) 4) (codes "beat" ∷ []) _ beat-line
    (choose (nat_lt (kind s) 6) (apply_words (codes "home") s) _ (apply-line Home (replica s) r)
    (choose (kind s == 6) (apply_words (codes "west") s) _ (apply-line West (replica s) r)
    (choose (kind s == 7) (carry_words s) _ (carry-is k s few small) home))))

-- All lines

record GoesOn (earlier : List Line) (bytes : Bytes) (left : ℕ) : Type 0 where
  lines : List Line
  read : AreLines earlier lines bytes
  ended : (prefix : List Line) × (lines ≡ prefix ++ End ∷ [])
  small : length bytes ≤ 4 + 122 * left

not-end-more : (earlier : List Line) (line : Line) → All (λ other. other ≢ End) earlier → line ≢ End → All (λ other. other ≢ End) (earlier ++ line ∷ [])
not-end-more earlier line all one = All-append (λ other. other ≢ End) earlier (line ∷ []) all (All-cons (λ other. other ≢ End) line [] one (All-nil (λ other. other ≢ End)))

end-bytes : AllByRecursion InLine (codes "end")
end-bytes = line-word (codes "end") (fine-literal (codes "end") refl)

one-line : (earlier : List Line) (text rest : Bytes) (is : IsLine text) (more : List Line) → All (λ other. other ≢ End) (farm ∷ earlier) → AreLines ((farm ∷ earlier) ++ is.line ∷ []) more rest → AreLines (farm ∷ earlier) (is.line ∷ more) (text ++ line_feed ∷ rest)
one-line earlier text rest is more all read = (text, rest, refl, no-line_feed text is.bytes, IsUtf8-from_ascii text (ascii text is.bytes), is.spells, (all, is.in_place earlier), read)

goes-on : (left k : ℕ) (s : Stirred) (earlier : List Line) → All (λ other. other ≢ End) (farm ∷ earlier) → k + left ≤ 100_000 → IsSmall k s → GoesOn (farm ∷ earlier) (stirred_from (k + 1) left s) left
goes-on zero k s earlier all few small = record {
  lines = End ∷ [];
  read = (codes "end", [], refl, no-line_feed (codes "end") end-bytes, IsUtf8-from_ascii (codes "end") (ascii (codes "end") end-bytes), refl, (all, tt), refl);
  ended = ([], refl);
  small = omega arith;
}
goes-on (suc left) k s earlier all few small =
    let reading = at-is k s (omega (arith, few)) small in
    let step = step-is k s (omega (arith, few)) small in
    let all_read = not-end-more (farm ∷ earlier) reading.line all reading.not_end in
    let all_both = not-end-more (farm ∷ (earlier ++ reading.line ∷ [])) step.line all_read step.not_end in
    let rest : GoesOn (farm ∷ ((earlier ++ reading.line ∷ []) ++ step.line ∷ [])) (stirred_from (suc k + 1) left (after_step s)) left = goes-on left (suc k) (after_step s) ((earlier ++ reading.line ∷ []) ++ step.line ∷ []) all_both (omega (arith, few)) (small-more k s small) in
    joined reading step all all_read rest
  where
    a : Bytes
    a = words (codes "at" ∷ decimal (home_reading s) ∷ decimal (west_reading s) ∷ [])

    b : Bytes
    b = words (step_words (k + 1) (kind s) s)

    more : Bytes
    more = stirred_from (suc k + 1) left (after_step s)

    split : step_lines (k + 1) s ++ stirred_from ((k + 1) + 1) left (after_step s) ≡ a ++ line_feed ∷ (b ++ line_feed ∷ more)
    split =
        let next : (k + 1) + 1 ≡ suc k + 1 = omega arith in
        ap (λ n. step_lines (k + 1) s ++ stirred_from n left (after_step s)) next
        ∙ append_assoc (a ++ line_feed ∷ []) (b ++ line_feed ∷ []) more
        ∙ append_assoc a (line_feed ∷ []) ((b ++ line_feed ∷ []) ++ more)
        ∙ ap (λ l. a ++ line_feed ∷ l) (append_assoc b (line_feed ∷ []) more)

    joined : (reading : IsLine a) (step : IsLine b) → All (λ other. other ≢ End) (farm ∷ earlier) → All (λ other. other ≢ End) (farm ∷ (earlier ++ reading.line ∷ []))
        → GoesOn (farm ∷ ((earlier ++ reading.line ∷ []) ++ step.line ∷ [])) more left → GoesOn (farm ∷ earlier) (step_lines (k + 1) s ++ stirred_from ((k + 1) + 1) left (after_step s)) (suc left)
    joined reading step all all_read rest = record {
      lines = reading.line ∷ step.line ∷ rest.lines;
      read = subst (AreLines (farm ∷ earlier) (reading.line ∷ step.line ∷ rest.lines)) (sym split)
          (one-line earlier a (b ++ line_feed ∷ more) reading (step.line ∷ rest.lines) all (one-line (earlier ++ reading.line ∷ []) b more step rest.lines all_read rest.read));
      ended = (reading.line ∷ step.line ∷ rest.ended.0, ap (λ l. reading.line ∷ step.line ∷ l) rest.ended.1);
      small =
          let long : length (step_lines (k + 1) s ++ stirred_from ((k + 1) + 1) left (after_step s)) ≡ length (a ++ line_feed ∷ (b ++ line_feed ∷ more)) = ap (λ (l : Bytes). length l) split in
          let one = length-append a (line_feed ∷ (b ++ line_feed ∷ more)) in
          let two = length-append b (line_feed ∷ more) in
          let x = reading.small in let y = step.small in let z = rest.small in
          omega (arith, long, one, two, x, y, z);
    }

farm_text : words (codes "farm" ∷ codes "3,1" ∷ codes "2,1" ∷ codes "0" ∷ []) ≡ codes "farm 3,1 2,1 0"
farm_text = refl

farm-spelled : Spells farm (codes "farm 3,1 2,1 0")
unfolding digits
farm-spelled = ((omega arith, omega arith, weights 3 1 (omega arith) (omega arith)), (omega arith, omega arith, weights 2 1 (omega arith) (omega arith)), omega arith, refl)
  where
    weights : (a b : ℕ) → a ≤ 1_000 → b ≤ 1_000 → All (λ weight. weight ≤ 1_000) (a ∷ b ∷ [])
    weights a b le le2 = All-cons (λ weight. weight ≤ 1_000) a (b ∷ []) le (All-cons (λ weight. weight ≤ 1_000) b [] le2 (All-nil (λ weight. weight ≤ 1_000)))

farm-bytes : AllByRecursion InLine (codes "farm 3,1 2,1 0")
farm-bytes = line-words (codes "farm" ∷ codes "3,1" ∷ codes "2,1" ∷ codes "0" ∷ []) (fine-literal (codes "farm") refl, (fine-literal (codes "3,1") refl, (fine-literal (codes "2,1") refl, (fine-literal (codes "0") refl, tt))))

-- the law
pub makes-scripts : MakesScripts
makes-scripts seed steps small few =
    let ended_not : farm ≢ End = (λ e. cc) in
    let rest : GoesOn (farm ∷ []) (stirred_from (0 + 1) steps (before_stirring seed)) steps = goes-on steps 0 (before_stirring seed) [] (All-cons (λ other. other ≢ End) farm [] ended_not (All-nil (λ other. other ≢ End))) (omega (arith, few)) (small-start seed) in (
      farm ∷ rest.lines,
      record {
        lines_read = (codes "farm 3,1 2,1 0", stirred_from 1 steps (before_stirring seed), refl, no-line_feed (codes "farm 3,1 2,1 0") farm-bytes, IsUtf8-from_ascii (codes "farm 3,1 2,1 0") (ascii (codes "farm 3,1 2,1 0") farm-bytes), farm-spelled, (All-nil (λ other. other ≢ End), refl), rest.read);
        ended = (farm ∷ rest.ended.0, ap (λ l. farm ∷ l) rest.ended.1);
        small = let long = rest.small in let all = length-append (codes "farm 3,1 2,1 0") (line_feed ∷ stirred_from 1 steps (before_stirring seed)) in omega (arith, few, long, all);
      },
    )
