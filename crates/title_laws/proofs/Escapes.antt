-- What a path says of a title, decoded byte by byte: a space stands there as an underscore, a plain byte as itself and
-- is no `%`, and any other byte as an escape, which is decoded to it.
use Rattle.std.proofs.Common.{◌≡◌, ◌≢◌, ℕ, ◌+◌, ◌*◌, ◌/◌, ◌%◌, ◌<◌, true, false, ◌==◌, if◌then◌else◌, [], ◌∷◌, ◌++◌, refl, sym, ap, ◌∙◌, subst, ⊎_elim, arith}
use Rattle.std.specs.Char.{digit_value}
use Rattle.std.proofs.lemmas.Bool.{cases_Bool, cond-true, cond-false}
use Rattle.std.proofs.lemmas.Bool.Decides.{nat_tests}
use Rattle.percent_encoding.specs.Percent.{percent_decode}
use Rattle.percent_encoding.proofs.PercentLemmas.{percent_decode-nil, percent_decode_escape, percent_decode_not_percent}
use Rattle.wiki_model.specs.Bytes.{Bytes, space}
use Rattle.wiki_model.specs.Titles.{Title, hex_digit, in_path, url_of}
use Rattle.wiki_titles.specs.Title.{stays_in_path}
use Rattle.title_laws.specs.Laws.{AreBytes, underscored}

-- a byte with an underscore for a space
abbrev pub marked : ℕ → ℕ
marked c = if c == space then 95 else c

pub marked_other : (c : ℕ) → (c == space) ≡ false → marked c ≡ c
marked_other c other = cond-false _ _ _ other

digit_read : (n : ℕ) → n < 16 → digit_value (hex_digit n) ≡ n
digit_read n small = grind (arith, nat_tests)

escape_read : (c : ℕ) (rest : Bytes) → c < 256 → percent_decode (37 ∷ hex_digit (c / 16) ∷ hex_digit (c % 16) ∷ rest) ≡ c ∷ percent_decode rest
escape_read c rest small =
    let high = digit_read (c / 16) (omega (arith, small)) in
    let low = digit_read (c % 16) (omega arith) in
    let value : 16 * digit_value (hex_digit (c / 16)) + digit_value (hex_digit (c % 16)) ≡ c = rw (high, low) (omega arith) in
    percent_decode_escape 37 (hex_digit (c / 16)) (hex_digit (c % 16)) rest refl (rw high (omega (arith, small))) (rw low (omega arith)) ∙ ap (λ d. d ∷ percent_decode rest) value

plain_is_no_percent : (c : ℕ) → stays_in_path c ≡ true → c ≢ 37
plain_is_no_percent c plain percent = let wrong : false ≡ true = subst (λ d. stays_in_path d ≡ true) percent plain in cc

-- the three cases of a byte

pub in_path_plain : (c : ℕ) → (c == space) ≡ false → stays_in_path c ≡ true → in_path c ≡ c ∷ []
in_path_plain c other plain = cond-false _ _ _ other ∙ cond-true _ _ _ plain

pub in_path_escaped : (c : ℕ) → (c == space) ≡ false → stays_in_path c ≡ false → in_path c ≡ 37 ∷ hex_digit (c / 16) ∷ hex_digit (c % 16) ∷ []
in_path_escaped c other escaped = cond-false _ _ _ other ∙ cond-false _ _ _ escaped

path_read : (c : ℕ) (rest : Bytes) → c < 256 → (c == space) ≡ false → percent_decode (in_path c ++ rest) ≡ c ∷ percent_decode rest
path_read c rest small other = ⊎_elim
    (λ plain. ap (λ bytes. percent_decode (bytes ++ rest)) (in_path_plain c other plain) ∙ percent_decode_not_percent c rest (plain_is_no_percent c plain))
    (λ escaped. ap (λ bytes. percent_decode (bytes ++ rest)) (in_path_escaped c other escaped) ∙ escape_read c rest small)
    (cases_Bool (stays_in_path c))

byte_read : (c : ℕ) (rest : Bytes) → c < 256 → percent_decode (in_path c ++ rest) ≡ marked c ∷ percent_decode rest
byte_read c rest small = ⊎_elim
    (λ at_space. rw at_space (percent_decode_not_percent 95 rest (omega arith)))
    (λ other. path_read c rest small other ∙ ap (λ d. d ∷ percent_decode rest) (sym (marked_other c other)))
    (cases_Bool (c == space))

pub url_decoded : (title : Title) → AreBytes title → percent_decode (url_of title) ≡ underscored title
url_decoded [] bytes = percent_decode-nil
url_decoded (c ∷ title) bytes = byte_read c (url_of title) bytes.0 ∙ ap (λ rest. marked c ∷ rest) (url_decoded title bytes.1)
