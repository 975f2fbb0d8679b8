-- Pieces of a text, put together from the left and from the right, are the same text; and the test of UTF-8 decides.
use Rattle.std.proofs.Common.{◌≡◌, Bool, true, false, List, [], ◌∷◌, ◌++◌, refl, sym, ◌∙◌, append_assoc}
use Rattle.std.specs.Str.{IsUtf8, is_utf8}
use Rattle.std.proofs.lemmas.Str.{IsUtf8-from_is_utf8}
use Rattle.wiki_model.specs.Bytes.{Bytes}

pub not_utf8 : (bs : Bytes) → (IsUtf8 bs → ⊥) → is_utf8 bs ≡ false
not_utf8 bs refused = by_test (is_utf8 bs) refl
  where
    by_test : (b : Bool) → is_utf8 bs ≡ b → b ≡ false
    by_test false q = refl
    by_test true q = absurd (refused (IsUtf8-from_is_utf8 bs q))

-- What `format!` prints associates to the right, and the definitions to the left.
abbrev pub left : Bytes → List Bytes → Bytes
left p [] = p
left p (q ∷ pieces) = left (p ++ q) pieces

abbrev pub right : Bytes → List Bytes → Bytes
right p [] = p
right p (q ∷ pieces) = p ++ right q pieces

pub right_left : (p : Bytes) (pieces : List Bytes) → right p pieces ≡ left p pieces
right_left p [] = refl
right_left p (q ∷ []) = refl
right_left p (q ∷ r ∷ pieces) = sym (append_assoc p q (right r pieces)) ∙ right_left (p ++ q) (r ∷ pieces)
