-- The bytes of a character: a test that fails at the character and at each byte past ASCII fails at all of them.
use Rattle.std.proofs.Common.{◌≡◌, ℕ, suc, ◌<◌, ◌≤◌, Bool, false, [], ◌∷◌, ◌++◌, length, get_or, refl, sym, ap, ◌∙◌, subst, ⊎_elim, arith, append-nil}
use Rattle.std.proofs.lemmas.Bool.{cases_lt}
use Rattle.std.proofs.lemmas.Bool.Decides.{nat_tests}
use Rattle.std.proofs.lemmas.Str.{inside_one, length-encode, len_utf8_bounds, encode_ascii}
use Rattle.std.specs.Char.{encode_utf8, to_ascii_uppercase}
use Rattle.wiki_model.specs.Bytes.{Bytes}
use Rattle.wiki_model.specs.Titles.{raised}

-- no byte passes
abbrev pub Lacks : (ℕ → Bool) → Bytes → Type 0
Lacks p [] = Unit {0}
Lacks p (c ∷ bytes) = (p c ≡ false) × Lacks p bytes

lacks_by_place : (p : ℕ → Bool) (bytes : Bytes) → ((k : ℕ) → k < length bytes → p (get_or bytes k 0) ≡ false) → Lacks p bytes
lacks_by_place p [] at = tt
lacks_by_place p (c ∷ bytes) at = (at 0 (omega arith), lacks_by_place p bytes (λ k inside. at (suc k) (omega (arith, inside))))

-- a byte of a character is the character, or past ASCII
byte_of : (character k : ℕ) → k < length (encode_utf8 character) → get_or (encode_utf8 character) k 0 < 128 → character ≡ get_or (encode_utf8 character) k 0
byte_of character k inside small = inside_one character [] (encode_utf8 character) k (sym (append-nil (encode_utf8 character))) inside small

pub character_lacks : (p : ℕ → Bool) (character : ℕ) → p character ≡ false → ((c : ℕ) → 128 ≤ c → p c ≡ false) → Lacks p (encode_utf8 character)
character_lacks p character no_character wide = lacks_by_place p (encode_utf8 character) at
  where
    at : (k : ℕ) → k < length (encode_utf8 character) → p (get_or (encode_utf8 character) k 0) ≡ false
    at k inside = ⊎_elim (λ small. subst (λ c. p c ≡ false) (byte_of character k inside small) no_character) (wide (get_or (encode_utf8 character) k 0)) (cases_lt (get_or (encode_utf8 character) k 0) 128)

-- a character has a byte
pub character_bytes : (character : ℕ) → (c : ℕ) × (bytes : Bytes) × (encode_utf8 character ≡ c ∷ bytes)
character_bytes character = some_byte (encode_utf8 character) (let long : length (encode_utf8 character) ≡ _ = length-encode character in omega (arith, long, (len_utf8_bounds character).0))
  where
    some_byte : (xs : Bytes) → 0 < length xs → (c : ℕ) × (bytes : Bytes) × (xs ≡ c ∷ bytes)
    some_byte [] h = let none : ⊥ = omega (arith, h) in absurd none
    some_byte (c ∷ bytes) h = (c, bytes, refl)

raised_byte : (c : ℕ) (rest : Bytes) → raised (c ∷ rest) ≡ to_ascii_uppercase c ∷ rest
raised_byte c rest = grind (arith, nat_tests)

upper_small : (c : ℕ) → c < 128 → to_ascii_uppercase c < 128
upper_small c h = grind (arith, nat_tests)

upper_wide : (c : ℕ) → 128 ≤ c → to_ascii_uppercase c ≡ c
upper_wide c h = grind (arith, nat_tests)

-- the first byte of a character past ASCII is past ASCII
first_wide : (character c : ℕ) (bytes : Bytes) → encode_utf8 character ≡ c ∷ bytes → 128 ≤ character → 128 ≤ c
first_wide character c bytes e h = ⊎_elim small (λ past. past) (cases_lt c 128)
  where
    small : c < 128 → 128 ≤ c
    small less = let same : character ≡ c = inside_one character [] (c ∷ bytes) 0 (sym e ∙ sym (append-nil (encode_utf8 character))) (rw e (omega arith)) less in omega (arith, same, h, less)

-- the first letter of a text raised, by its bytes
pub raised_letter : (character : ℕ) (rest : Bytes) → raised (encode_utf8 character ++ rest) ≡ encode_utf8 (to_ascii_uppercase character) ++ rest
raised_letter character rest = ⊎_elim small wide (cases_lt character 128)
  where
    small : character < 128 → raised (encode_utf8 character ++ rest) ≡ encode_utf8 (to_ascii_uppercase character) ++ rest
    small h = rw (encode_ascii character h, encode_ascii (to_ascii_uppercase character) (upper_small character h)) (raised_byte character rest)

    wide : 128 ≤ character → raised (encode_utf8 character ++ rest) ≡ encode_utf8 (to_ascii_uppercase character) ++ rest
    wide h =
        let bytes = character_bytes character in
        let first : 128 ≤ bytes.0 = first_wide character bytes.0 bytes.1 bytes.2 h in
        rw (upper_wide character h, bytes.2) (raised_byte bytes.0 (bytes.1 ++ rest) ∙ ap (λ d. d ∷ (bytes.1 ++ rest)) (upper_wide bytes.0 first))
