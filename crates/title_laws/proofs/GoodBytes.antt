-- Why a title has no bad byte: the text has none, and cleaning brings in only spaces, raised letters and the bytes of a
-- class prefix, which are all good.
use Rattle.std.proofs.Common.{◌≡◌, ℕ, ◌+◌, ◌≤◌, Bool, true, false, ◌==◌, ◌-◌, if◌then◌else◌, [], ◌∷◌, ◌++◌, length, drop, zero, suc, Some, None, refl, sym, ◌∙◌, subst, ⊎_elim, arith}
use Rattle.std.specs.List.{AllByRecursion, position, position_from}
use Rattle.std.proofs.lemmas.Bool.{cases_Bool}
use Rattle.std.proofs.lemmas.Bool.Decides.{nat_tests}
use Rattle.std.proofs.lemmas.Iterator.Adapters.{position_from-zero}
use Rattle.wiki_model.specs.Bytes.{Bytes, space, begins, skip_spaces}
use Rattle.wiki_model.specs.Titles.{is_bad, raised, in_range, template_prefix, message_prefix, after_prefix, with_class, title_text}
use Rattle.wiki_titles.proofs.Words.{is_gap, after_word, from_word, added_none}
use Rattle.title_laws.proofs.Gaps.{lacks}

abbrev pub AreGood : Bytes → Type 0
AreGood text = AllByRecursion (λ c. is_bad c ≡ false) text

-- There is no place of a bad byte if all are good, and only then

good_from : (i : ℕ) (text : Bytes) → position_from is_bad i text ≡ None → AreGood text
good_from i [] none = tt
good_from i (c ∷ text) none = ⊎_elim
    (λ bad. let found : Some i ≡ None = rw bad at none in let wrong : ⊥ = cc in absurd wrong)
    (λ good. (good, good_from (i + 1) text (rw good at none)))
    (cases_Bool (is_bad c))

from_good : (i : ℕ) (text : Bytes) → AreGood text → position_from is_bad i text ≡ None
from_good i [] good = refl
from_good i (c ∷ text) good = rw good.0 (from_good (i + 1) text good.1)

pub good_bytes : (text : Bytes) → position is_bad text ≡ None → AreGood text
good_bytes text none = good_from 0 text (sym (position_from-zero is_bad text) ∙ none)

pub no_place : (text : Bytes) → AreGood text → position is_bad text ≡ None
no_place text good = position_from-zero is_bad text ∙ from_good 0 text good

-- The words

after_good : (gap : Bool) (text : Bytes) → AreGood text → AreGood (after_word gap text)
after_good gap [] good = tt
after_good true (c ∷ text) good = ⊎_elim
    (λ at_gap. rw at_gap (after_good true text good.1))
    (λ other. rw other (refl, (good.0, after_good false text good.1)))
    (cases_Bool (is_gap c))
after_good false (c ∷ text) good = ⊎_elim
    (λ at_gap. rw at_gap (after_good true text good.1))
    (λ other. rw other (good.0, after_good false text good.1))
    (cases_Bool (is_gap c))

from_word_good : (text : Bytes) → AreGood text → AreGood (from_word text)
from_word_good [] good = tt
from_word_good (c ∷ text) good = ⊎_elim
    (λ at_gap. rw at_gap (from_word_good text good.1))
    (λ other. rw other (good.0, after_good false text good.1))
    (cases_Bool (is_gap c))

-- The first letter

letter_good : (c : ℕ) → 65 ≤ c → c ≤ 90 → is_bad c ≡ false
letter_good c low high = grind (arith, nat_tests)

raised_byte_good : (c : ℕ) → is_bad c ≡ false → is_bad (if in_range 97 122 c then c - 32 else c) ≡ false
raised_byte_good c good = ⊎_elim
    (λ small. rw small (letter_good (c - 32) (grind (arith, nat_tests, small)) (grind (arith, nat_tests, small))))
    (λ other. rw other good)
    (cases_Bool (in_range 97 122 c))

raised_good : (text : Bytes) → AreGood text → AreGood (raised text)
raised_good [] good = tt
raised_good (c ∷ text) good = (raised_byte_good c good.0, good.1)

-- The class

skipped_good : (text : Bytes) → AreGood text → AreGood (skip_spaces text)
skipped_good [] good = tt
skipped_good (c ∷ text) good = ⊎_elim
    (λ at_space. rw at_space (skipped_good text good.1))
    (λ other. rw other good)
    (cases_Bool (c == space))

dropped_good : (n : ℕ) (text : Bytes) → AreGood text → AreGood (drop n text)
dropped_good zero text good = good
dropped_good (suc n) [] good = tt
dropped_good (suc n) (c ∷ text) good = dropped_good n text good.1

joined_good : (before after : Bytes) → AreGood before → AreGood after → AreGood (before ++ after)
joined_good [] after good goods = goods
joined_good (c ∷ before) after good goods = (good.0, joined_good before after good.1 goods)

prefix_good : (prefix text : Bytes) → AreGood prefix → AreGood text → AreGood (after_prefix prefix text)
prefix_good prefix text good goods =
    let rest = drop (length prefix) text in
    joined_good prefix (raised (skip_spaces rest)) good (raised_good (skip_spaces rest) (skipped_good rest (dropped_good (length prefix) text goods)))

class_good : (text : Bytes) → AreGood text → AreGood (with_class text)
class_good text good = ⊎_elim template (λ other. ⊎_elim (message other) (plain other) (cases_Bool (begins message_prefix text))) (cases_Bool (begins template_prefix text))
  where
    template : begins template_prefix text ≡ true → AreGood (with_class text)
    template begun = rw begun (prefix_good template_prefix text (lacks is_bad template_prefix refl) good)

    message : begins template_prefix text ≡ false → begins message_prefix text ≡ true → AreGood (with_class text)
    message other begun = rw (other, begun) (prefix_good message_prefix text (lacks is_bad message_prefix refl) good)

    plain : begins template_prefix text ≡ false → begins message_prefix text ≡ false → AreGood (with_class text)
    plain no_template no_message = rw (no_template, no_message) good

-- a text without bad bytes is cleaned to one without
pub title_text_good : (text : Bytes) → AreGood text → AreGood (title_text text)
title_text_good text good = subst AreGood (added_none false text) (class_good (raised (from_word text)) (raised_good (from_word text) (from_word_good text good)))
