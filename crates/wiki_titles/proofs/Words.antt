-- The words of a title, character by character.
use Rattle.std.proofs.Common.{◌≡◌, ℕ, ◌<◌, ◌≤◌, ◌≢◌, Bool, true, false, not, ◌||◌, ◌==◌, if◌then◌else◌, List, [], ◌∷◌, ◌++◌, filter, refl, sym, ap, ◌∙◌, subst, ⊎_elim, arith, append_assoc, append-nil}
use Rattle.std.specs.List.{join_with_byte}
use Rattle.std.proofs.lemmas.Bool.{cases_Bool, or_cases, or_parts, eqb-true}
use Rattle.std.proofs.lemmas.Bool.Decides.{nat_tests}
use Rattle.std.proofs.lemmas.Str.{encode_ascii}
use Rattle.std.specs.Char.{encode_utf8, to_ascii_uppercase}
use Rattle.wiki_model.specs.Bytes.{Bytes, space, pieces, in_first, is_empty, replaced, skip_spaces}
use Rattle.wiki_model.specs.Titles.{raised, with_class, title_text}
use Rattle.wiki_titles.specs.Cleaning.{with_char}
use Rattle.wiki_titles.proofs.Characters.{Lacks, character_lacks, character_bytes, raised_letter}

abbrev pub is_gap : ℕ → Bool
is_gap c = (c == 32) || (c == 95)

-- the text after a word that has begun, a gap having been seen since or not
abbrev pub after_word : (gap : Bool) → Bytes → Bytes
after_word gap [] = []
after_word gap (c ∷ text) = if is_gap c then after_word true text else (if gap then space ∷ c ∷ after_word false text else c ∷ after_word false text)

-- the text from its first word on
abbrev pub from_word : Bytes → Bytes
from_word [] = []
from_word (c ∷ text) = if is_gap c then from_word text else c ∷ after_word false text

-- what is made, and what is still to come
abbrev pub added : (made : Bytes) (gap : Bool) (rest : Bytes) → Bytes
added [] gap rest = raised (from_word rest)
added (c ∷ made) gap rest = (c ∷ made) ++ after_word gap rest

-- the same by pieces
abbrev words : Bytes → List Bytes
words text = pieces space (replaced 95 space text)

abbrev later_words : List Bytes → Bytes
later_words [] = []
later_words ([] ∷ pieces) = later_words pieces
later_words ((c ∷ word) ∷ pieces) = space ∷ c ∷ (word ++ later_words pieces)

abbrev rest_of_word : List Bytes → Bytes
rest_of_word [] = []
rest_of_word (word ∷ pieces) = word ++ later_words pieces

later_first : (c : ℕ) (pieces : List Bytes) → later_words (in_first c pieces) ≡ space ∷ c ∷ rest_of_word pieces
later_first c [] = refl
later_first c (word ∷ pieces) = refl

rest_first : (c : ℕ) (pieces : List Bytes) → rest_of_word (in_first c pieces) ≡ c ∷ rest_of_word pieces
rest_first c [] = refl
rest_first c (word ∷ pieces) = refl

-- the pieces of a text with one more byte in front
words_gap : (c : ℕ) (text : Bytes) → is_gap c ≡ true → words (c ∷ text) ≡ [] ∷ words text
words_gap c text h = ⊎_elim at_space at_mark (or_cases (c == 32) (c == 95) h)
  where
    at_space : (c == 32) ≡ true → words (c ∷ text) ≡ [] ∷ words text
    at_space e = rw (eqb-true c 32 e) refl

    at_mark : (c == 95) ≡ true → words (c ∷ text) ≡ [] ∷ words text
    at_mark e = rw (eqb-true c 95 e) refl

words_character : (c : ℕ) (text : Bytes) → is_gap c ≡ false → words (c ∷ text) ≡ in_first c (words text)
words_character c text h = let parts = or_parts (c == 32) (c == 95) h in rw (parts.1, parts.0) refl

abbrev AfterWords : Bytes → Type 0
AfterWords text = (after_word true text ≡ later_words (words text)) × (after_word false text ≡ rest_of_word (words text))

after_gap : (c : ℕ) (text : Bytes) → AfterWords text → is_gap c ≡ true → AfterWords (c ∷ text)
after_gap c text ih h = rw (words_gap c text h, h) (ih.0, ih.0)

after_character : (c : ℕ) (text : Bytes) → AfterWords text → is_gap c ≡ false → AfterWords (c ∷ text)
after_character c text ih h = rw (words_character c text h, later_first c (words text), rest_first c (words text), h) (ap (λ r. space ∷ c ∷ r) ih.1, ap (λ r. c ∷ r) ih.1)

after_words : (text : Bytes) → AfterWords text
after_words [] = (refl, refl)
after_words (c ∷ text) = ⊎_elim (after_gap c text (after_words text)) (after_character c text (after_words text)) (cases_Bool (is_gap c))

abbrev joined : List Bytes → Bytes
joined pieces = join_with_byte space (filter (λ word. not (is_empty word)) pieces)

joined_after : (c : ℕ) (word : Bytes) (pieces : List Bytes) → joined ((c ∷ word) ∷ pieces) ≡ (c ∷ word) ++ later_words pieces
joined_after c word [] = sym (append-nil (c ∷ word))
joined_after c word ([] ∷ pieces) = joined_after c word pieces
joined_after c word ((d ∷ next) ∷ pieces) = ap (λ r. (c ∷ word) ++ space ∷ r) (joined_after d next pieces)

joined_first : (c : ℕ) (pieces : List Bytes) → joined (in_first c pieces) ≡ c ∷ rest_of_word pieces
joined_first c [] = refl
joined_first c (word ∷ pieces) = joined_after c word pieces

from_character : (c : ℕ) (text : Bytes) → is_gap c ≡ false → from_word (c ∷ text) ≡ joined (words (c ∷ text))
from_character c text h = rw (words_character c text h, joined_first c (words text), h) (ap (λ r. c ∷ r) (after_words text).1)

from_gap : (c : ℕ) (text : Bytes) → from_word text ≡ joined (words text) → is_gap c ≡ true → from_word (c ∷ text) ≡ joined (words (c ∷ text))
from_gap c text ih h = rw (words_gap c text h, h) ih

from_words : (text : Bytes) → from_word text ≡ joined (words text)
from_words [] = refl
from_words (c ∷ text) = ⊎_elim (from_gap c text (from_words text)) (from_character c text) (cases_Bool (is_gap c))

-- at the start all is still to come
pub added_none : (gap : Bool) (text : Bytes) → with_class (added [] gap text) ≡ title_text text
added_none gap text = ap (λ r. with_class (raised r)) (from_words text)

-- at the end all is made
pub added_end : (made : Bytes) (gap : Bool) → added made gap [] ≡ made
added_end [] gap = refl
added_end (c ∷ made) gap = append-nil (c ∷ made)

wide_no_gap : (c : ℕ) → 128 ≤ c → is_gap c ≡ false
wide_no_gap c h = grind (arith, nat_tests)

gap_byte : (made : Bytes) (gap : Bool) (c : ℕ) (rest : Bytes) → is_gap c ≡ true → added made gap (c ∷ rest) ≡ added made true rest
gap_byte [] gap c rest h = rw h refl
gap_byte (m ∷ made) gap c rest h = rw h refl

gap_small : (c : ℕ) → is_gap c ≡ true → c < 128
gap_small c h = grind (arith, nat_tests)

-- a step over a gap, and over a character
pub added_gap : (made : Bytes) (gap : Bool) (character : ℕ) (rest : Bytes) → is_gap character ≡ true → added made gap (encode_utf8 character ++ rest) ≡ added made true rest
added_gap made gap character rest h = rw (encode_ascii character (gap_small character h)) (gap_byte made gap character rest h)

after_bytes : (bytes rest : Bytes) → Lacks is_gap bytes → after_word false (bytes ++ rest) ≡ bytes ++ after_word false rest
after_bytes [] rest h = refl
after_bytes (c ∷ bytes) rest h = rw h.0 (ap (λ r. c ∷ r) (after_bytes bytes rest h.1))

character_by_bytes : (made : Bytes) (gap : Bool) (character c d : ℕ) (bytes upper rest : Bytes) → encode_utf8 character ≡ c ∷ bytes → Lacks is_gap (c ∷ bytes) → encode_utf8 (to_ascii_uppercase character) ≡ d ∷ upper
    → added made gap (encode_utf8 character ++ rest) ≡ added (with_char made gap character) false rest
character_by_bytes [] gap character c d bytes upper rest e h u =
    let run : from_word (encode_utf8 character ++ rest) ≡ encode_utf8 character ++ after_word false rest = rw (e, h.0) (ap (λ r. c ∷ r) (after_bytes bytes rest h.1)) in
    rw (run, raised_letter character (after_word false rest), u) refl
character_by_bytes (m ∷ made) true character c d bytes upper rest e h u = rw (e, h.0) (ap (λ r. (m ∷ made) ++ space ∷ c ∷ r) (after_bytes bytes rest h.1) ∙ sym (append_assoc (m ∷ made) (space ∷ c ∷ bytes) (after_word false rest)))
character_by_bytes (m ∷ made) false character c d bytes upper rest e h u = rw (e, h.0) (ap (λ r. (m ∷ made) ++ c ∷ r) (after_bytes bytes rest h.1) ∙ sym (append_assoc (m ∷ made) (c ∷ bytes) (after_word false rest)))

pub added_character : (made : Bytes) (gap : Bool) (character : ℕ) (rest : Bytes) → is_gap character ≡ false → added made gap (encode_utf8 character ++ rest) ≡ added (with_char made gap character) false rest
added_character made gap character rest h =
    let bytes = character_bytes character in
    let upper = character_bytes (to_ascii_uppercase character) in
    character_by_bytes made gap character bytes.0 upper.0 bytes.1 upper.1 rest bytes.2 (subst (Lacks is_gap) bytes.2 (character_lacks is_gap character h wide_no_gap)) upper.2

-- the name after a class prefix: only spaces so far, or not
abbrev pub named : (bare : Bool) → Bytes → Bytes
named true rest = raised (skip_spaces rest)
named false rest = rest

pub name_none : (name : Bytes) → named true name ≡ raised (skip_spaces name)
name_none name = refl

pub name_end : (bare : Bool) → named bare [] ≡ []
name_end true = refl
name_end false = refl

pub name_space : (rest : Bytes) → named true (encode_utf8 32 ++ rest) ≡ named true rest
name_space rest = rw (encode_ascii 32 (omega arith)) refl

wide_no_space : (c : ℕ) → 128 ≤ c → (c == 32) ≡ false
wide_no_space c h = grind (arith, nat_tests)

abbrev is_space : ℕ → Bool
is_space c = c == 32

bare_by_bytes : (character c : ℕ) (bytes rest : Bytes) → encode_utf8 character ≡ c ∷ bytes → (c == 32) ≡ false → named true (encode_utf8 character ++ rest) ≡ encode_utf8 (to_ascii_uppercase character) ++ rest
bare_by_bytes character c bytes rest e h =
    let kept : skip_spaces (encode_utf8 character ++ rest) ≡ encode_utf8 character ++ rest = rw (e, h) refl in
    ap raised kept ∙ raised_letter character rest

pub name_character : (character : ℕ) (rest : Bytes) → character ≢ 32 → named true (encode_utf8 character ++ rest) ≡ encode_utf8 (to_ascii_uppercase character) ++ rest
name_character character rest h =
    let bytes = character_bytes character in
    let lacks : Lacks is_space (bytes.0 ∷ bytes.1) = subst (Lacks is_space) bytes.2 (character_lacks is_space character (grind (arith, nat_tests)) wide_no_space) in
    bare_by_bytes character bytes.0 bytes.1 rest bytes.2 lacks.0
