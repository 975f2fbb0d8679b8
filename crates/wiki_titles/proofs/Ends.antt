-- The ends of lines, character by character.
use Rattle.std.proofs.Common.{◌≡◌, ℕ, ◌≤◌, Bool, true, false, ◌||◌, ◌==◌, [], ◌∷◌, ◌++◌, refl, ap, ◌∙◌, subst, ⊎_elim, arith}
use Rattle.std.proofs.lemmas.Bool.{cases_Bool, or_parts, or_from, eqb-true}
use Rattle.std.proofs.lemmas.Bool.Decides.{nat_tests}
use Rattle.std.proofs.lemmas.Str.{encode_ascii}
use Rattle.std.specs.Char.{encode_utf8}
use Rattle.wiki_model.specs.Bytes.{Bytes}
use Rattle.wiki_model.specs.Titles.{line_feeds_after}
use Rattle.wiki_titles.specs.Cleaning.{ended}
use Rattle.wiki_titles.proofs.Characters.{Lacks, character_lacks, character_bytes}

-- what is still to come after a carriage return, or after another byte
abbrev pub ends : (returned : Bool) → Bytes → Bytes
ends true text = line_feeds_after 13 text
ends false text = line_feeds_after 0 text

-- only a carriage return matters
other_before : (c : ℕ) (text : Bytes) → (c == 13) ≡ false → line_feeds_after c text ≡ line_feeds_after 0 text
other_before c [] h = refl
other_before c (d ∷ text) h = rw h refl

at_return : (returned : Bool) (character : ℕ) (rest : Bytes) → (character == 13) ≡ true → ends returned (encode_utf8 character ++ rest) ≡ ended returned character ++ ends (character == 13) rest
at_return true character rest h = rw (eqb-true character 13 h, encode_ascii 13 (omega arith)) refl
at_return false character rest h = rw (eqb-true character 13 h, encode_ascii 13 (omega arith)) refl

at_feed : (returned : Bool) (character : ℕ) (rest : Bytes) → (character == 13) ≡ false → (character == 10) ≡ true → ends returned (encode_utf8 character ++ rest) ≡ ended returned character ++ ends (character == 13) rest
at_feed true character rest n h = rw (eqb-true character 10 h, encode_ascii 10 (omega arith)) (other_before 10 rest refl)
at_feed false character rest n h = rw (eqb-true character 10 h, encode_ascii 10 (omega arith)) (ap (λ r. 10 ∷ r) (other_before 10 rest refl))

abbrev is_end : ℕ → Bool
is_end c = (c == 13) || (c == 10)

wide_no_end : (c : ℕ) → 128 ≤ c → is_end c ≡ false
wide_no_end c h = grind (arith, nat_tests)

byte_step : (p c : ℕ) (rest : Bytes) → is_end c ≡ false → line_feeds_after p (c ∷ rest) ≡ c ∷ line_feeds_after 0 rest
byte_step p c rest h = let parts = or_parts (c == 13) (c == 10) h in rw (parts.0, parts.1) (ap (λ r. c ∷ r) (other_before c rest parts.0))

bytes_step : (p c : ℕ) (bytes rest : Bytes) → Lacks is_end (c ∷ bytes) → line_feeds_after p ((c ∷ bytes) ++ rest) ≡ (c ∷ bytes) ++ line_feeds_after 0 rest
bytes_step p c [] rest h = byte_step p c rest h.0
bytes_step p c (d ∷ bytes) rest h = byte_step p c ((d ∷ bytes) ++ rest) h.0 ∙ ap (λ r. c ∷ r) (bytes_step 0 d bytes rest h.1)

character_step : (p character : ℕ) (rest : Bytes) → is_end character ≡ false → line_feeds_after p (encode_utf8 character ++ rest) ≡ encode_utf8 character ++ line_feeds_after 0 rest
character_step p character rest h =
    let bytes = character_bytes character in
    let lacks : Lacks is_end (bytes.0 ∷ bytes.1) = subst (Lacks is_end) bytes.2 (character_lacks is_end character h wide_no_end) in
    rw bytes.2 (bytes_step p bytes.0 bytes.1 rest lacks)

other_character : (returned : Bool) (character : ℕ) (rest : Bytes) → is_end character ≡ false → ends returned (encode_utf8 character ++ rest) ≡ encode_utf8 character ++ ends false rest
other_character true character rest h = character_step 13 character rest h
other_character false character rest h = character_step 0 character rest h

at_other : (returned : Bool) (character : ℕ) (rest : Bytes) → (character == 13) ≡ false → (character == 10) ≡ false → ends returned (encode_utf8 character ++ rest) ≡ ended returned character ++ ends (character == 13) rest
at_other returned character rest n h = rw (n, h) (other_character returned character rest (or_from (character == 13) (character == 10) n h))

-- a step over a character
pub ends_step : (returned : Bool) (character : ℕ) (rest : Bytes) → ends returned (encode_utf8 character ++ rest) ≡ ended returned character ++ ends (character == 13) rest
ends_step returned character rest = ⊎_elim (at_return returned character rest) (λ not_return. ⊎_elim (at_feed returned character rest not_return) (at_other returned character rest not_return) (cases_Bool (character == 10))) (cases_Bool (character == 13))
