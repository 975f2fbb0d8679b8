-- Why the words of a title are their own words: the text begins with a word, and after each word it ends or goes on
-- with one space and the next word. Reading words makes such a text, and leaves one as it is.
use Rattle.std.proofs.Common.{◌≡◌, ◌⊎◌, inl, inr, ℕ, Bool, true, false, ◌==◌, ◌-◌, if◌then◌else◌, [], ◌∷◌, ◌++◌, refl, sym, ap, subst, ⊎_elim, arith}
use Rattle.std.specs.List.{AllByRecursion, list_any}
use Rattle.std.proofs.lemmas.Bool.{cases_Bool, or_parts}
use Rattle.std.proofs.lemmas.Bool.Decides.{nat_tests}
use Rattle.wiki_model.specs.Bytes.{Bytes, space, skip_spaces}
use Rattle.wiki_model.specs.Titles.{raised, in_range}
use Rattle.wiki_titles.proofs.Words.{is_gap, after_word, from_word}

-- a text of which no byte passes a test
pub lacks : (p : ℕ → Bool) (text : Bytes) → list_any p text ≡ false → AllByRecursion (λ c. p c ≡ false) text
lacks p [] none = tt
lacks p (c ∷ text) none = let parts = or_parts (p c) (list_any p text) none in (parts.0, lacks p text parts.1)

-- what stands after a character of a word, or after a space; then a word is due
abbrev pub GoesOn : (due : Bool) → Bytes → Type 0
GoesOn true [] = ⊥
GoesOn false [] = Unit {0}
GoesOn true (c ∷ text) = (is_gap c ≡ false) × GoesOn false text
GoesOn false (c ∷ text) = ((c ≡ space) × GoesOn true text) ⊎ ((is_gap c ≡ false) × GoesOn false text)

-- nothing, or words with one space between them
abbrev pub AreWords : Bytes → Type 0
AreWords [] = Unit {0}
AreWords (c ∷ text) = (is_gap c ≡ false) × GoesOn false text

pub words_go_on : (text : Bytes) → AreWords text → GoesOn false text
words_go_on [] are = tt
words_go_on (c ∷ text) are = inr are

-- Reading makes words

after_goes_on : (gap : Bool) (text : Bytes) → GoesOn false (after_word gap text)
after_goes_on gap [] = tt
after_goes_on true (c ∷ text) = ⊎_elim (λ at_gap. rw at_gap (after_goes_on true text)) (λ other. rw other (inl (refl, (other, after_goes_on false text)))) (cases_Bool (is_gap c))
after_goes_on false (c ∷ text) = ⊎_elim (λ at_gap. rw at_gap (after_goes_on true text)) (λ other. rw other (inr (other, after_goes_on false text))) (cases_Bool (is_gap c))

pub from_makes_words : (text : Bytes) → AreWords (from_word text)
from_makes_words [] = tt
from_makes_words (c ∷ text) = ⊎_elim (λ at_gap. rw at_gap (from_makes_words text)) (λ other. rw other (other, after_goes_on false text)) (cases_Bool (is_gap c))

-- and leaves them as they are

abbrev spaced : (due : Bool) → Bytes → Bytes
spaced true text = space ∷ text
spaced false text = text

after_same : (due : Bool) (text : Bytes) → GoesOn due text → after_word due text ≡ spaced due text
after_same true [] goes = absurd goes
after_same false [] goes = refl
after_same true (c ∷ text) goes = rw goes.0 (ap (λ rest. space ∷ c ∷ rest) (after_same false text goes.1))
after_same false (c ∷ text) (inl goes) = rw goes.0 (after_same true text goes.1)
after_same false (c ∷ text) (inr goes) = rw goes.0 (ap (λ rest. c ∷ rest) (after_same false text goes.1))

pub from_same : (text : Bytes) → AreWords text → from_word text ≡ text
from_same [] are = refl
from_same (c ∷ text) are = rw are.0 (ap (λ rest. c ∷ rest) (after_same false text are.1))

-- Skipping spaces

pub skip_same : (text : Bytes) → AreWords text → skip_spaces text ≡ text
skip_same [] are = refl
skip_same (c ∷ text) are = rw (or_parts (c == 32) (c == 95) are.0).0 refl

due_skipped : (text : Bytes) → GoesOn true text → AreWords (skip_spaces text)
due_skipped [] goes = absurd goes
due_skipped (c ∷ text) goes = subst AreWords (sym (skip_same (c ∷ text) goes)) goes

pub skipped_words : (text : Bytes) → GoesOn false text → AreWords (skip_spaces text)
skipped_words [] goes = tt
skipped_words (c ∷ text) (inl goes) = rw goes.0 (due_skipped text goes.1)
skipped_words (c ∷ text) (inr goes) = subst AreWords (sym (skip_same (c ∷ text) goes)) goes

-- Raising the first letter

raised_is_no_gap : (c : ℕ) → is_gap c ≡ false → is_gap (if in_range 97 122 c then c - 32 else c) ≡ false
raised_is_no_gap c other = grind (arith, nat_tests)

pub raised_words : (text : Bytes) → AreWords text → AreWords (raised text)
raised_words [] are = tt
raised_words (c ∷ text) are = (raised_is_no_gap c are.0, are.1)

raised_again : (c : ℕ) (rest : Bytes) → raised (raised (c ∷ rest)) ≡ raised (c ∷ rest)
raised_again c rest = grind (arith, nat_tests)

pub raised_twice : (text : Bytes) → raised (raised text) ≡ raised text
raised_twice [] = refl
raised_twice (c ∷ text) = raised_again c text

-- Around a byte of a word

space_is_gap : (c : ℕ) → is_gap c ≡ false → c ≡ space → ⊥
space_is_gap c other same = let none : true ≡ false = subst (λ d. is_gap d ≡ false) same other in cc

pub after_byte : (due : Bool) (front : Bytes) (c : ℕ) (rest : Bytes) → is_gap c ≡ false → GoesOn due (front ++ c ∷ rest) → GoesOn false rest
after_byte true [] c rest other goes = goes.1
after_byte false [] c rest other (inl goes) = let none : ⊥ = space_is_gap c other goes.0 in absurd none
after_byte false [] c rest other (inr goes) = goes.1
after_byte true (d ∷ front) c rest other goes = after_byte false front c rest other goes.1
after_byte false (d ∷ front) c rest other (inl goes) = after_byte true front c rest other goes.1
after_byte false (d ∷ front) c rest other (inr goes) = after_byte false front c rest other goes.1

pub word_before : (word rest : Bytes) → AllByRecursion (λ c. is_gap c ≡ false) word → GoesOn false rest → GoesOn false (word ++ rest)
word_before [] rest others goes = goes
word_before (c ∷ word) rest others goes = inr (others.0, word_before word rest others.1 goes)
