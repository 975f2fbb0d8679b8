-- How the text of a title, and a text with line feeds at the ends of its lines, grow by a character;
-- and what stands after a prefix.
use Rattle.std.specs.Prelude.{ℕ, Bool, ◌==◌, ◌&&◌, if◌then◌else◌, [], ◌∷◌, ◌++◌, length, drop, Option, Some, None}
use Rattle.std.specs.Char.{encode_utf8, to_ascii_uppercase}
use Rattle.wiki_model.specs.Bytes.{Bytes, space, line_feed, begins, skip_spaces}
use Rattle.wiki_model.specs.Titles.{raised}

-- the first letter is raised, and after a gap a space comes before the character
abbrev pub with_char : Bytes → (gap : Bool) → (character : ℕ) → Bytes
with_char [] gap character = encode_utf8 (to_ascii_uppercase character)
with_char (c ∷ made) gap character =
    (c ∷ made) ++ (if gap then space ∷ encode_utf8 character else encode_utf8 character)

-- a carriage return is a line feed, and a line feed right after one is dropped
abbrev pub ended : (returned : Bool) → (character : ℕ) → Bytes
ended returned character =
    if character == 13 then line_feed ∷ []
    else (if (character == 10) && returned then [] else encode_utf8 character)

-- the name after a class prefix: no space before it, and its first letter raised
abbrev pub bare_name : Bytes → Bytes
bare_name name = raised (skip_spaces name)

-- the text after the prefix, if it begins with it
abbrev pub after : (prefix text : Bytes) → Option Bytes
after prefix text = if begins prefix text then Some (drop (length prefix) text) else None
