-- Readers of the words of a script's line: functions on bytes that give a value, or none outside the grammar.
-- Titles, tokens, clients and texts are the model's.
use Rattle.std.specs.Prelude.{ℕ, zero, suc, ◌≡◌, ◌-◌, Bool, true, false, ◌&&◌, ◌||◌, List, [], ◌∷◌, length, Option, None, Some, Result, Ok, Err, nat_lt, nat_le, ◌==◌, if◌then◌else◌, slice_index, codes}
use Rattle.std.specs.List.{position_or_len, before_first, after_first, list_all}
use Rattle.std.specs.Str.{bytes_eq, is_utf8}
use Rattle.std.specs.Str.Parse.{digits_value}
use Rattle.wiki_model.specs.declared.Region.{Region}
use Rattle.wiki_model.specs.declared.Region.TheVariants.{Home, West}
use Rattle.wiki_model.specs.Bytes.{Bytes, is_empty}
use Rattle.wiki_model.specs.Html.{ok_of}
use Rattle.wiki_model.specs.Limits.{number_limit, seconds_limit, weight_max, text_max}
use Rattle.wiki_model.specs.Script.{client_number, unescaped}
use Rattle.wiki_model.specs.Titles.{Title, Token, Text, Client, is_digit, is_token, title_of, with_line_feeds}
use Rattle.wiki_model.specs.World.{Cookie}
use Rattle.drill_script.specs.declared.words.LineFault.{LineFault}
use Rattle.drill_script.specs.declared.words.LineFault.TheVariants as faults

infixl 10 ◌>>=◌
abbrev pub ◌>>=◌ : {A B : Type 0} → Option A → (A → Option B) → Option B
None >>= f = None
(Some x) >>= f = f x

-- what a function returned, seen by view, is what reading gives, unless memory ran out
abbrev pub Gives : {X Y : Type 0} → (X → Y) → Result X LineFault → Option Y → Type 0
Gives view (Ok x) read = read ≡ Some (view x)
Gives view (Err faults.Form) read = read ≡ None
Gives view (Err faults.Memory) read = Unit {0}

-- what stands before the first of a byte, and what after it
unfoldable pub cut_first : ℕ → Bytes → Option (Bytes × Bytes)
cut_first sign bytes =
    if nat_lt (position_or_len (λ b. b == sign) bytes) (length bytes) then
    Some (before_first (λ b. b == sign) bytes, after_first (λ b. b == sign) bytes)
    else None

-- a word, and what stands after the one space that follows it
abbrev pub word_at : Bytes → Option (Bytes × Bytes)
word_at text = cut_first 32 text

-- decimal digits, with no 0 first but for 0 itself
abbrev pub is_number : Bytes → Bool
is_number bytes =
    nat_lt 0 (length bytes) && list_all is_digit bytes && (nat_lt (length bytes) 2 || nat_lt 48 (slice_index bytes 0))

-- the number of a word, at most `most`
unfoldable pub number_of : ℕ → Bytes → Option ℕ
number_of most word =
    if is_number word then (if nat_le (digits_value 10 word) most then Some (digits_value 10 word) else None) else None

-- the number of a word, from 1 to `most`
unfoldable pub positive_of : ℕ → Bytes → Option ℕ
positive_of most word = do
  n ← number_of most word
  if nat_lt 0 n then Some n else None

abbrev pub largest : ℕ
largest = number_limit - 1

unfoldable pub client_in : Bytes → Option Client
client_in word = do
  n ← number_of largest word
  Some (client_number n)

abbrev pub region_in : Bytes → Option Region
region_in word =
    if bytes_eq word (codes "home") then Some Home else (if bytes_eq word (codes "west") then Some West else None)

abbrev pub token_in : Bytes → Option Token
token_in word = if is_token word then Some word else None

abbrev pub title_in : Bytes → Option Title
title_in word = ok_of (title_of word)

-- a title that is the last word of its line
abbrev pub uncut_title : Option (Bytes × Bytes) → Bytes → Option Title
uncut_title None word = title_in word
uncut_title (Some words) word = None

unfoldable pub last_title : Bytes → Option Title
last_title word = uncut_title (word_at word) word

-- a text with line feeds at the ends of its lines, if it is short enough
abbrev pub short_text : Bytes → Option Text
short_text plain = if nat_le (length (with_line_feeds plain)) text_max then Some (with_line_feeds plain) else None

-- a text with its escapes undone
unfoldable pub text_in : Bytes → Option Text
text_in word = do
  plain ← unescaped word
  short_text plain

-- after a backslash: the character that it spells, and what stands after that
abbrev pub character_at : Bytes → Option (Bytes × Bytes)
character_at [] = None
character_at (c ∷ text) = if c == 110 then Some (10 ∷ [], text) else (if c == 92 then Some (92 ∷ [], text) else None)

-- Weights with commas between them, at most so many

abbrev pub one_weight : Bytes → Option (List ℕ)
one_weight word = do
  weight ← number_of weight_max word
  Some (weight ∷ [])

abbrev pub weights_cut : Option (Bytes × Bytes) → Bytes → (Bytes → Option (List ℕ)) → Option (List ℕ)
weights_cut None word others = one_weight word
weights_cut (Some cut) word others = do
  weight ← number_of weight_max cut.0
  more ← others cut.1
  Some (weight ∷ more)

abbrev pub weights_in : (most : ℕ) → Bytes → Option (List ℕ)
weights_in zero word = None
weights_in (suc most) word = weights_cut (cut_first 44 word) word (weights_in most)

-- A cookie: its seconds may have a `+` after them, for the cookie UseDC=master beside it

abbrev pub plus_cut : Option (Bytes × Bytes) → Bytes → Option (Bytes × Bool)
plus_cut None word = Some (word, false)
plus_cut (Some cut) word = if is_empty cut.1 then Some (cut.0, true) else None

abbrev pub before_plus : Bytes → Option (Bytes × Bool)
before_plus word = plus_cut (cut_first 43 word) word

unfoldable pub position_in : Client → Bytes → Option (Option Cookie × Bool)
position_in client word = do
  cut ← cut_first 64 word
  index ← positive_of largest cut.0
  rest ← before_plus cut.1
  seconds ← number_of (seconds_limit - 1) rest.0
  Some (Some (record { index = index; seconds = seconds; client = client }), rest.1)

abbrev pub cookie_in : Client → Bytes → Option (Option Cookie × Bool)
cookie_in client word = if bytes_eq word (codes "-") then Some (None, false) else position_in client word

-- a line is UTF-8
abbrev pub utf8_of : Bytes → Option Bytes
utf8_of line = if is_utf8 line then Some line else None
