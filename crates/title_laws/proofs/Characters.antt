-- A title's text with underscores is UTF-8, as the title is: the bytes of a character that is no space stay as they
-- are. And what is UTF-8 is bytes.
use Rattle.std.proofs.Common.{◌≡◌, ℕ, ◌≤◌, true, false, ◌==◌, List, [], ◌∷◌, ◌++◌, refl, sym, ap, ◌∙◌, subst, ⊎_elim, arith, ltb}
use Rattle.std.specs.Char.{IsScalar}
use Rattle.std.specs.Str.{IsUtf8}
use Rattle.std.proofs.lemmas.Bool.{cases_Bool, cond_both, eqb-true, and_parts}
use Rattle.std.proofs.lemmas.Bool.Decides.{nat_tests}
use Rattle.std.proofs.lemmas.List.{map-append}
use Rattle.std.proofs.lemmas.Str.{IsUtf8-nil, IsUtf8-append, IsUtf8-encode, encode_ascii}
use lib.Utf8.{scalar, scalars, encodes, encode}
use Rattle.wiki_model.specs.Bytes.{Bytes}
use Rattle.wiki_titles.proofs.Characters.{Lacks, character_lacks}
use Rattle.title_laws.specs.Laws.{AreBytes, underscored}
use Rattle.title_laws.proofs.Escapes.{marked, marked_other}

-- Underscores

wide_is_no_space : (c : ℕ) → 128 ≤ c → (c == 32) ≡ false
wide_is_no_space c wide = grind (arith, nat_tests)

unmarked : (text : Bytes) → Lacks (λ c. c == 32) text → underscored text ≡ text
unmarked [] none = refl
unmarked (c ∷ text) none = ap (λ d. d ∷ underscored text) (marked_other c none.0) ∙ ap (λ rest. c ∷ rest) (unmarked text none.1)

character_marked : (character : ℕ) → IsScalar character → IsUtf8 (underscored (encode character))
character_marked character is = ⊎_elim
    (λ at_space. rw (eqb-true character 32 at_space, encode_ascii 32 (omega arith)) (subst IsUtf8 (encode_ascii 95 (omega arith)) (IsUtf8-encode 95 refl)))
    (λ other. subst IsUtf8 (sym (unmarked (encode character) (character_lacks (λ c. c == 32) character other wide_is_no_space))) (IsUtf8-encode character is))
    (cases_Bool (character == 32))

all_marked : (characters : List ℕ) → scalars characters ≡ true → IsUtf8 (underscored (encodes characters))
all_marked [] are = IsUtf8-nil
all_marked (c ∷ characters) are =
    let parts = and_parts (scalar c) (scalars characters) are in
    subst IsUtf8 (sym (map-append marked (encode c) (encodes characters))) (IsUtf8-append (underscored (encode c)) (underscored (encodes characters)) (character_marked c parts.0) (all_marked characters parts.1))

pub marked_utf8 : (title : Bytes) → IsUtf8 title → IsUtf8 (underscored title)
marked_utf8 title is = subst (λ text. IsUtf8 (underscored text)) is.1.1 (all_marked is.0 is.1.0)

-- Bytes

character_small : (c : ℕ) → IsScalar c → AreBytes (encode c)
unfolding encode
character_small c is =
    cond_both (ltb c 128) _ _ AreBytes
    (λ e. (grind (arith, nat_tests, e), tt))
    (λ _. cond_both (ltb c 2048) _ _ AreBytes
    (λ e. (grind (arith, nat_tests, e), (grind (arith), tt)))
    (λ _. cond_both (ltb c 65536) _ _ AreBytes
    (λ e. (grind (arith, nat_tests, e), (grind (arith), (grind (arith), tt))))
    (λ _. (grind (arith, nat_tests, is), (grind (arith), (grind (arith), (grind (arith), tt)))))))

joined_small : (before after : Bytes) → AreBytes before → AreBytes after → AreBytes (before ++ after)
joined_small [] after small others = others
joined_small (c ∷ before) after small others = (small.0, joined_small before after small.1 others)

all_small : (characters : List ℕ) → scalars characters ≡ true → AreBytes (encodes characters)
all_small [] are = tt
all_small (c ∷ characters) are =
    let parts = and_parts (scalar c) (scalars characters) are in
    joined_small (encode c) (encodes characters) (character_small c parts.0) (all_small characters parts.1)

pub utf8_bytes : (title : Bytes) → IsUtf8 title → AreBytes title
utf8_bytes title is = subst AreBytes is.1.1 (all_small is.0 is.1.0)
