-- Titles and their paths, tokens, clients and ends of lines, at their edges.
-- Each value is computed by the prover.
use Rattle.std.specs.Prelude.{◌≡◌, [], ◌∷◌, ◌++◌, false, true, Ok, Err, codes, refl, replicate}
use Rattle.wiki_model.specs.declared.Class.TheVariants.{Plain, Template, Message}
use Rattle.wiki_model.specs.Titles.{title_of, url_of, with_line_feeds, class_of, is_token, is_client}
use Rattle.wiki_model.specs.Titles.TitleRefusal.{Empty, TooLong, BadCharacter}
use Rattle.wiki_model.specs.Script.{client_number}

title_words : title_of (codes "  foo__bar_") ≡ Ok (codes "Foo bar")
title_words = refl

title_empty : title_of (codes "_") ≡ Err Empty
title_empty = refl

title_bad : title_of (codes "a#b") ≡ Err (BadCharacter 1)
title_bad = refl

title_template : title_of (codes "template:_x") ≡ Ok (codes "Template:X")
title_template = refl

title_no_name : title_of (codes "Template:") ≡ Err Empty
title_no_name = refl

text_ends : with_line_feeds (97 ∷ 13 ∷ 10 ∷ 98 ∷ []) ≡ 97 ∷ 10 ∷ 98 ∷ []
text_ends = refl

location : url_of (codes "Caf" ++ 195 ∷ 169 ∷ codes " menu") ≡ codes "Caf%C3%A9_menu"
location = refl

-- each CR is an end of line
two_returns : with_line_feeds (13 ∷ 13 ∷ 10 ∷ 10 ∷ 13 ∷ []) ≡ 10 ∷ 10 ∷ 10 ∷ 10 ∷ []
two_returns = refl

client_one : client_number 1 ≡ codes "00000000000000000000000000000001"
client_one = refl

-- a title has at most 255 bytes, counted after its spaces are made one; its length is tested before its characters
longest_title : title_of (replicate 255 97) ≡ Ok (65 ∷ replicate 254 97)
longest_title = refl

too_long_title : title_of (replicate 256 97) ≡ Err TooLong
too_long_title = refl

too_long_and_bad : title_of (replicate 256 97 ++ codes "#") ≡ Err TooLong
too_long_and_bad = refl

long_by_spaces : title_of (codes "a  " ++ replicate 253 97) ≡ Ok (codes "A " ++ replicate 253 97)
long_by_spaces = refl

-- the place of a bad character is that in the text, not in the title
place_in_text : title_of (codes "  a#b") ≡ Err (BadCharacter 3)
place_in_text = refl

-- the characters at the edges: 31 and 32, 126, 127 and 128
control : (title_of (97 ∷ 31 ∷ []) ≡ Err (BadCharacter 1)) × (title_of (97 ∷ 126 ∷ []) ≡ Ok (65 ∷ 126 ∷ [])) × (title_of (97 ∷ 127 ∷ []) ≡ Err (BadCharacter 1)) × (title_of (97 ∷ 195 ∷ 169 ∷ []) ≡ Ok (65 ∷ 195 ∷ 169 ∷ []))
control = (refl, refl, refl, refl)

classes : (class_of (codes "Template:X") ≡ Template) × (class_of (codes "MediaWiki:X") ≡ Message) × (class_of (codes "Mediawiki:X") ≡ Plain) × (class_of (codes "X") ≡ Plain)
classes = (refl, refl, refl, refl)

path_signs : url_of (codes "A.b-c_d~e/f:g%h") ≡ codes "A.b-c_d~e/f:g%25h"
path_signs = refl

tokens : (is_token (codes "aZ-_9") ≡ true) × (is_token [] ≡ false) × (is_token (codes "a b") ≡ false) × (is_token (replicate 64 97) ≡ true) × (is_token (replicate 65 97) ≡ false)
tokens = (refl, refl, refl, refl, refl)

clients : (is_client (replicate 32 102) ≡ true) × (is_client (replicate 32 103) ≡ false) × (is_client (replicate 31 102) ≡ false) × (is_client (replicate 32 70) ≡ false)
clients = (refl, refl, refl, refl)
