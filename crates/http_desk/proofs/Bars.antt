-- The pieces between bars are the bytes before the first one, and the pieces of what comes after it.
use Rattle.std.proofs.Common.{if◌then◌else◌, ◌≡◌, ◌<◌, ℕ, ◌==◌, Bool, true, false, [], ◌∷◌, length, sym, subst, arith, refl, Option, Some, None, option_map}
use Rattle.wiki_model.specs.Bytes.{Bytes, cut_at, pieces}
use Rattle.farm_base.proofs.Places.{begins_one}

abbrev PiecesAt : (mark : ℕ) (text : Bytes) → Option (Bytes × Bytes) → Type 0
PiecesAt mark text None = pieces mark text ≡ text ∷ []
PiecesAt mark text (Some (piece, rest)) = pieces mark text ≡ piece ∷ pieces mark rest

pieces_at : (mark : ℕ) (text : Bytes) → PiecesAt mark text (cut_at (mark ∷ []) text)
pieces_at mark [] = refl
pieces_at mark (c ∷ text) = rw (begins_one mark c text) (by (c == mark) refl (cut_at (mark ∷ []) text) (pieces_at mark text))
  where
    by : (b : Bool) → (c == mark) ≡ b → (cut : Option (Bytes × Bytes)) → PiecesAt mark text cut
        → PiecesAt mark (c ∷ text) (if b then Some ([], text) else option_map (λ p. (c ∷ p.0, p.1)) cut)
    by true t cut rest = rw t refl
    by false t None rest = rw (t, rest) refl
    by false t (Some (piece, after)) rest = rw (t, rest) refl

-- the loop over the pieces: the last one, one more, and that what comes after it is shorter
pub last_piece : (mark : ℕ) (text : Bytes) → None ≡ cut_at (mark ∷ []) text → pieces mark text ≡ text ∷ []
last_piece mark text e = subst (PiecesAt mark text) (sym e) (pieces_at mark text)

pub next_piece : (mark : ℕ) (text piece rest : Bytes) → Some (piece, rest) ≡ cut_at (mark ∷ []) text → pieces mark text ≡ piece ∷ pieces mark rest
next_piece mark text piece rest e = subst (PiecesAt mark text) (sym e) (pieces_at mark text)

abbrev ShorterAfter : (text : Bytes) → Option (Bytes × Bytes) → Type 0
ShorterAfter text None = Unit {0}
ShorterAfter text (Some (piece, rest)) = length rest < length text

shorter_after : (mark : ℕ) (text : Bytes) → ShorterAfter text (cut_at (mark ∷ []) text)
shorter_after mark [] = tt
shorter_after mark (c ∷ text) = rw (begins_one mark c text) (by (c == mark) (cut_at (mark ∷ []) text) (shorter_after mark text))
  where
    by : (b : Bool) → (cut : Option (Bytes × Bytes)) → ShorterAfter text cut
        → ShorterAfter (c ∷ text) (if b then Some ([], text) else option_map (λ p. (c ∷ p.0, p.1)) cut)
    by true cut rest = omega arith
    by false None rest = tt
    by false (Some (piece, after)) rest = omega (arith, rest)

pub rest_shorter : (mark : ℕ) (text piece rest : Bytes) → Some (piece, rest) ≡ cut_at (mark ∷ []) text → length rest < length text
rest_shorter mark text piece rest e = subst (ShorterAfter text) (sym e) (shorter_after mark text)
