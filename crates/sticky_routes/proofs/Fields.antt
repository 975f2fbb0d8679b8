-- The pairs of a field, piece by piece.
use Rattle.std.proofs.Common.{◌≡◌, ℕ, suc, ◌+◌, ◌<◌, ◌≤◌, Bool, true, false, cond, ◌==◌, List, [], ◌∷◌, length, take, drop, Some, None, Option, option_map, bytes_eq, refl, sym, ◌∙◌, ap, subst, arith}
use Rattle.std.specs.Prelude.{find, filter_map, not}
use Rattle.std.proofs.lemmas.List.{drop-drop, length-drop}
use Rattle.wiki_model.specs.Bytes.{Bytes, pieces}
use Rattle.wiki_model.specs.Cookies.{name_and_value, first_named}
use Rattle.farm_base.specs.Bytes.{first_place}
use Rattle.sticky_routes.specs.Cookies.{value_named}
use Rattle.std.proofs.lemmas.List.Sums.{prefix_len-le-length}
use Rattle.std.specs.Option.{option_or}

-- the value of the first pair of this name among these pieces
abbrev pub named_in : (name : Bytes) → List Bytes → Option Bytes
named_in name some = option_map (λ p. p.1) (find (λ p. bytes_eq p.0 name) (filter_map name_and_value some))

-- the first value is kept, as far as the pieces before the place say it
pub record Left (name text : Bytes) (at : ℕ) (kept : Option Bytes) : Type 0 where
  pub within : at ≤ length text + 1
  pub inside : at ≤ length text → first_named text name ≡ option_or kept (named_in name (pieces 59 (drop at text)))
  pub past : length text < at → first_named text name ≡ kept

or_twice : (a b c : Option Bytes) → option_or a (option_or b c) ≡ option_or (option_or a b) c
or_twice None b c = refl
or_twice (Some x) b c = refl

or_none : (a : Option Bytes) → option_or a None ≡ a
or_none None = refl
or_none (Some x) = refl

last_piece : (mark : ℕ) (text : Bytes) → first_place mark text ≡ length text → pieces mark text ≡ take (first_place mark text) text ∷ []
last_piece mark [] e = refl
last_piece mark (c ∷ text) e = by (c == mark) refl (last_piece mark text)
  where
    by : (b : Bool) → (c == mark) ≡ b → (first_place mark text ≡ length text → pieces mark text ≡ take (first_place mark text) text ∷ []) → pieces mark (c ∷ text) ≡ take (first_place mark (c ∷ text)) (c ∷ text) ∷ []
    by true t rest = let none : ⊥ = omega (arith, rw t at e) in absurd none
    by false t rest =
        let next : 1 + first_place mark text ≡ suc (first_place mark text) = omega arith in
        rw (t, next, rest (let tail = rw t at e in omega (arith, tail))) refl

first_piece : (mark : ℕ) (text : Bytes) → first_place mark text < length text → pieces mark text ≡ take (first_place mark text) text ∷ pieces mark (drop (first_place mark text + 1) text)
first_piece mark [] h = let none : ⊥ = omega (arith, h) in absurd none
first_piece mark (c ∷ text) h = by (c == mark) refl (first_piece mark text)
  where
    by : (b : Bool) → (c == mark) ≡ b
        → (first_place mark text < length text → pieces mark text ≡ take (first_place mark text) text ∷ pieces mark (drop (first_place mark text + 1) text)) → pieces mark (c ∷ text) ≡ take (first_place mark (c ∷ text)) (c ∷ text) ∷ pieces mark (drop (first_place mark (c ∷ text) + 1) (c ∷ text))
    by true t rest = rw t refl
    by false t rest =
        let next : 1 + first_place mark text ≡ suc (first_place mark text) = omega arith in
        let after : suc (first_place mark text) + 1 ≡ suc (first_place mark text + 1) = omega arith in
        rw (t, next, after, rest (let tail = rw t at h in omega (arith, tail))) refl

named_first : (name piece : Bytes) (some : List Bytes) (found : Option Bytes) → found ≡ value_named name piece → named_in name (piece ∷ some) ≡ option_or found (named_in name some)
named_first name piece some found e = by (name_and_value piece) refl ∙ ap (λ (o : Option Bytes). option_or o (named_in name some)) (sym e)
  where
    named : (pair : Bytes × Bytes) → (b : Bool) → bytes_eq pair.0 name ≡ b
        → option_map (λ p. p.1) (cond (bytes_eq pair.0 name) (Some pair) (find (λ p. bytes_eq p.0 name) (filter_map name_and_value some))) ≡ option_or (cond (bytes_eq pair.0 name) (Some pair.1) None) (named_in name some)
    named pair true t = rw t refl
    named pair false t = rw t refl

    by : (o : Option (Bytes × Bytes)) → name_and_value piece ≡ o → named_in name (piece ∷ some) ≡ option_or (value_named name piece) (named_in name some)
    by None t = rw t refl
    by (Some pair) t = rw t (named pair (bytes_eq pair.0 name) refl)

abbrev piece_at : (text : Bytes) → (at : ℕ) → Bytes
piece_at text at = take (first_place 59 (drop at text)) (drop at text)

before_most : (mark : ℕ) (text : Bytes) → first_place mark text ≤ length text
before_most mark text = prefix_len-le-length (λ c. not (c == mark)) text

-- the next piece is read
passed : (name text : Bytes) (at : ℕ) (kept : Option Bytes) → at ≤ length text → Left name text at kept → Left name text (at + (first_place 59 (drop at text) + 1)) (option_or kept (value_named name (piece_at text at)))
passed name text at kept h is = record {
  within = let most = before_most 59 (drop at text) in let total = length-drop at text in omega (arith, total, most, h);
  inside = λ more. is.inside h
      ∙ ap (λ some. option_or kept (named_in name some)) (first_piece 59 (drop at text) (let most = before_most 59 (drop at text) in let total = length-drop at text in omega (arith, total, more, most)))
      ∙ ap (option_or kept) (named_first name (piece_at text at) (pieces 59 (drop (first_place 59 (drop at text) + 1) (drop at text))) (value_named name (piece_at text at)) refl)
      ∙ ap (λ (t : Bytes). option_or kept (option_or (value_named name (piece_at text at)) (named_in name (pieces 59 t)))) (drop-drop (first_place 59 (drop at text) + 1) at text)
      ∙ or_twice kept (value_named name (piece_at text at)) (named_in name (pieces 59 (drop (at + (first_place 59 (drop at text) + 1)) text)));
  past = λ over. is.inside h
      ∙ ap (λ some. option_or kept (named_in name some)) (last_piece 59 (drop at text) (let most = before_most 59 (drop at text) in let total = length-drop at text in omega (arith, total, most, over, h)))
      ∙ ap (option_or kept) (named_first name (piece_at text at) [] (value_named name (piece_at text at)) refl ∙ or_none (value_named name (piece_at text at)));
}

same_piece : (text rest piece : Bytes) (at count : ℕ) → rest ≡ drop at text → count ≡ first_place 59 rest → piece ≡ take count rest → piece ≡ piece_at text at
same_piece text rest piece at count rest_is count_is piece_is = piece_is ∙ ap (λ n. take n rest) count_is ∙ ap (λ (r : Bytes). take (first_place 59 r) r) rest_is

pub read_piece : (name text rest piece : Bytes) (kept after : Option Bytes) (at count : ℕ) → at ≤ length text → Left name text at kept → rest ≡ drop at text → count ≡ first_place 59 rest → piece ≡ take count rest
    → after ≡ option_or kept (value_named name piece) → Left name text (at + (count + 1)) after
read_piece name text rest piece kept after at count h is rest_is count_is piece_is e =
    subst (λ n. Left name text (at + (n + 1)) after) (sym (count_is ∙ ap (first_place 59) rest_is))
    (subst (λ (o : Option Bytes). Left name text (at + (first_place 59 (drop at text) + 1)) o)
    (sym (e ∙ ap (λ (p : Bytes). option_or kept (value_named name p)) (same_piece text rest piece at count rest_is count_is piece_is)))
    (passed name text at kept h is))
