-- Why a cleaned text is clean: its words are single, its first letter is raised, and so is the first letter of the name
-- after a class. Such a text is left as it is by each of the three steps of cleaning.
use Rattle.std.proofs.Common.{◌≡◌, true, false, ◌++◌, length, drop, codes, refl, sym, ap, ◌∙◌, subst, ⊎_elim}
use Rattle.std.proofs.lemmas.Bool.{cases_Bool}
use Rattle.std.proofs.lemmas.Bool.Decides.{Decides-eqb}
use Rattle.std.proofs.lemmas.Slice.Eq.{starts_is}
use Rattle.wiki_model.specs.Bytes.{Bytes, begins, skip_spaces}
use Rattle.wiki_model.specs.Titles.{raised, template_prefix, message_prefix, with_class, title_text}
use Rattle.wiki_titles.proofs.Words.{is_gap, from_word, added_none}
use Rattle.title_laws.proofs.Gaps.{lacks, GoesOn, AreWords, words_go_on, from_makes_words, from_same, skip_same, skipped_words, raised_words, raised_twice, after_byte, word_before}

pub record IsClean (title : Bytes) : Type 0 where
  pub words : AreWords title
  pub upper : raised title ≡ title
  pub class : with_class title ≡ title

-- A class and a name

template_clean : (name : Bytes) → AreWords name → raised name ≡ name → IsClean (template_prefix ++ name)
template_clean name are upper = record {
  words = (refl, word_before (codes "emplate:") name (lacks is_gap (codes "emplate:") refl) (words_go_on name are));
  upper = refl;
  class = ap (λ rest. template_prefix ++ rest) (ap raised (skip_same name are) ∙ upper);
}

message_clean : (name : Bytes) → AreWords name → raised name ≡ name → IsClean (message_prefix ++ name)
message_clean name are upper = record {
  words = (refl, word_before (codes "ediaWiki:") name (lacks is_gap (codes "ediaWiki:") refl) (words_go_on name are));
  upper = refl;
  class = ap (λ rest. message_prefix ++ rest) (ap raised (skip_same name are) ∙ upper);
}

-- what stands after a prefix that the text begins with
split : (prefix text : Bytes) → begins prefix text ≡ true → text ≡ prefix ++ drop (length prefix) text
split prefix text begun = (starts_is Decides-eqb text prefix (begins prefix text) refl).0 begun

template_name : (text : Bytes) → AreWords text → begins template_prefix text ≡ true → GoesOn false (drop (length template_prefix) text)
template_name text are begun =
    let rest = drop (length template_prefix) text in
    after_byte true (codes "Template") 58 rest refl (subst AreWords (split template_prefix text begun) are)

message_name : (text : Bytes) → AreWords text → begins message_prefix text ≡ true → GoesOn false (drop (length message_prefix) text)
message_name text are begun =
    let rest = drop (length message_prefix) text in
    after_byte true (codes "MediaWiki") 58 rest refl (subst AreWords (split message_prefix text begun) are)

-- Every text

class_clean : (text : Bytes) → AreWords text → raised text ≡ text → IsClean (with_class text)
class_clean text are upper = ⊎_elim template (λ other. ⊎_elim (message other) (plain other) (cases_Bool (begins message_prefix text))) (cases_Bool (begins template_prefix text))
  where
    template : begins template_prefix text ≡ true → IsClean (with_class text)
    template begun =
        let rest = drop (length template_prefix) text in
        let named = skipped_words rest (template_name text are begun) in
        rw begun (template_clean (raised (skip_spaces rest)) (raised_words (skip_spaces rest) named) (raised_twice (skip_spaces rest)))

    message : begins template_prefix text ≡ false → begins message_prefix text ≡ true → IsClean (with_class text)
    message other begun =
        let rest = drop (length message_prefix) text in
        let named = skipped_words rest (message_name text are begun) in
        rw (other, begun) (message_clean (raised (skip_spaces rest)) (raised_words (skip_spaces rest) named) (raised_twice (skip_spaces rest)))

    plain : begins template_prefix text ≡ false → begins message_prefix text ≡ false → IsClean (with_class text)
    plain no_template no_message =
        let same : with_class text ≡ text = rw (no_template, no_message) refl in
        subst IsClean (sym same) (record { words = are; upper = upper; class = same })

pub title_text_clean : (text : Bytes) → IsClean (title_text text)
title_text_clean text = subst IsClean (added_none false text) (class_clean (raised (from_word text)) (raised_words (from_word text) (from_makes_words text)) (raised_twice (from_word text)))

pub clean_same : (title : Bytes) → IsClean title → title_text title ≡ title
clean_same title clean = sym (added_none false title) ∙ ap (λ words. with_class (raised words)) (from_same title clean.words) ∙ ap with_class clean.upper ∙ clean.class
