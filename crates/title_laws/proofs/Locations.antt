-- A title with underscores for its spaces reads as the title: both are gaps, so it has the same words, and an
-- underscore is no bad byte. What a path says of the title is that text, once it is decoded.
use Rattle.std.proofs.Common.{◌≡◌, ℕ, Bool, true, false, ◌==◌, [], ◌∷◌, Ok, refl, sym, ap, ◌∙◌, ⊎_elim}
use Rattle.std.proofs.lemmas.Bool.{cases_Bool, eqb-true}
use Rattle.percent_encoding.specs.Percent.{percent_decode}
use Rattle.wiki_model.specs.Bytes.{Bytes}
use Rattle.wiki_model.specs.Titles.{Title, title_of, title_text, url_of, raised, with_class}
use Rattle.wiki_titles.proofs.Words.{after_word, from_word, added_none}
use Rattle.title_laws.specs.Laws.{AreBytes, underscored}
use Rattle.title_laws.proofs.GoodBytes.{AreGood}
use Rattle.title_laws.proofs.ReadBack.{was_read, title_same, title_good, reads_as}
use Rattle.title_laws.proofs.Escapes.{marked_other, url_decoded}

-- The same words

after_next : (gap : Bool) (c : ℕ) (text other : Bytes) → after_word true text ≡ after_word true other → after_word false text ≡ after_word false other → after_word gap (c ∷ text) ≡ after_word gap (c ∷ other)
after_next gap c text other at_gap at_word = rw (at_gap, at_word) refl

after_marked : (gap : Bool) (text : Bytes) → after_word gap (underscored text) ≡ after_word gap text
after_marked gap [] = refl
after_marked gap (c ∷ text) = ⊎_elim
    (λ at_space. rw (eqb-true c 32 at_space) (after_marked true text))
    (λ other. ap (λ d. after_word gap (d ∷ underscored text)) (marked_other c other) ∙ after_next gap c (underscored text) text (after_marked true text) (after_marked false text))
    (cases_Bool (c == 32))

from_next : (c : ℕ) (text other : Bytes) → from_word text ≡ from_word other → after_word false text ≡ after_word false other → from_word (c ∷ text) ≡ from_word (c ∷ other)
from_next c text other from at_word = rw (from, at_word) refl

from_marked : (text : Bytes) → from_word (underscored text) ≡ from_word text
from_marked [] = refl
from_marked (c ∷ text) = ⊎_elim
    (λ at_space. rw (eqb-true c 32 at_space) (from_marked text))
    (λ other. ap (λ d. from_word (d ∷ underscored text)) (marked_other c other) ∙ from_next c (underscored text) text (from_marked text) (after_marked false text))
    (cases_Bool (c == 32))

marked_cleaned : (text : Bytes) → title_text (underscored text) ≡ title_text text
marked_cleaned text = sym (added_none false (underscored text)) ∙ ap (λ words. with_class (raised words)) (from_marked text) ∙ added_none false text

-- No bad byte

marked_good : (text : Bytes) → AreGood text → AreGood (underscored text)
marked_good [] good = tt
marked_good (c ∷ text) good = ⊎_elim
    (λ at_space. rw at_space (refl, marked_good text good.1))
    (λ other. rw other (good.0, marked_good text good.1))
    (cases_Bool (c == 32))

-- The law

pub underscored_reads : (text : Bytes) (title : Title) → title_of text ≡ Ok title → title_of (underscored title) ≡ Ok title
underscored_reads text title read =
    let was = was_read text title read in
    reads_as text title (underscored title) was (marked_cleaned title ∙ title_same text title was) (marked_good title (title_good text title was))

pub locations-read-back : (text : Bytes) (title : Title) → AreBytes title → title_of text ≡ Ok title
    → (percent_decode (url_of title) ≡ underscored title) × (title_of (percent_decode (url_of title)) ≡ Ok title)
locations-read-back text title bytes read =
    let decoded = url_decoded title bytes in
    (decoded, ap title_of decoded ∙ underscored_reads text title read)
