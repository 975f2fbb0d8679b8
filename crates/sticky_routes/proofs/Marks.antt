-- A text whose marks may be escapes, read from the start.
use Rattle.std.proofs.Common.{◌≡◌, ℕ, ◌+◌, ◌<◌, ◌≤◌, Bool, true, false, ◌&&◌, ◌==◌, [], ◌∷◌, ◌++◌, length, take, drop, get_or, Some, None, Option, option_map, nat_eq, bytes_eq, refl, sym, ◌∙◌, ap, subst, arith, append_assoc}
use Rattle.std.specs.Prelude.{codes}
use Rattle.std.specs.List.{list_all, starts_with}
use Rattle.std.proofs.Math.Seq.{take-add}
use Rattle.std.proofs.lemmas.Cmp.{nat_list_eq_equiv}
use Rattle.std.proofs.lemmas.List.{take-append-drop, drop-drop, length-drop}
use Rattle.std.proofs.lemmas.List.Folds.{list_all-append}
use Rattle.std.proofs.lemmas.Bool.Decides.{nat_tests}
use Rattle.std.proofs.lemmas.Slice.Eq.{bytes_eq-Decides}
use Rattle.wiki_model.specs.Bytes.{Bytes, cut_at}
use Rattle.wiki_model.specs.Titles.{is_digit}
use Rattle.wiki_model.specs.Cookies.{with_marks}
use Rattle.sticky_routes.specs.Escapes.{ReadsAs, HasFirst}
use Rattle.farm_base.proofs.Places.{begins_one}

-- Which byte comes first

split_three : (text needle : Bytes) → length needle ≡ 3 → starts_with nat_eq text needle ≡ true → text ≡ needle ++ drop 3 text
split_three text needle three e =
    let prefix : bytes_eq needle (take 3 text) ≡ true = subst (λ n. bytes_eq needle (take n text) ≡ true) three e in
    let same : needle ≡ take 3 text = (bytes_eq-Decides needle (take 3 text)).0 prefix in
    sym (take-append-drop 3 text) ∙ ap (λ (t : Bytes). t ++ drop 3 text) (sym same)

escape : (byte a b : ℕ) (rest : Bytes) → with_marks (37 ∷ a ∷ b ∷ rest) ≡ byte ∷ with_marks rest → is_digit byte ≡ false → HasFirst (37 ∷ a ∷ b ∷ rest) byte 3
escape byte a b rest e apart = record {
  some = omega arith;
  within = omega arith;
  first = e;
  reads = record { digits = rw apart refl; plain = λ no. let never : ⊥ = cc in absurd never };
}

pub first_at : (text : Bytes) → starts_with nat_eq text (codes "%40") ≡ true → HasFirst text 64 3
first_at text e = subst (λ (t : Bytes). HasFirst t 64 3) (sym (split_three text (codes "%40") refl e)) (escape 64 52 48 (drop 3 text) refl refl)

pub first_hash : (text : Bytes) → starts_with nat_eq text (codes "%23") ≡ true → HasFirst text 35 3
first_hash text e = subst (λ (t : Bytes). HasFirst t 35 3) (sym (split_three text (codes "%23") refl e)) (escape 35 50 51 (drop 3 text) refl refl)

one_byte : (c : ℕ) (rest : Bytes) → with_marks (c ∷ rest) ≡ c ∷ with_marks rest → HasFirst (c ∷ rest) c 1
one_byte c rest e = record { some = omega arith; within = omega arith; first = e; reads = record { digits = refl; plain = λ _. refl } }

pub first_plain : (text : Bytes) → 0 < length text → starts_with nat_eq text (codes "%40") ≡ false → starts_with nat_eq text (codes "%23") ≡ false → HasFirst text (get_or text 0 0) 1
first_plain [] h at hash = let none : ⊥ = omega (arith, h) in absurd none
first_plain (a ∷ []) h at hash = one_byte a [] refl
first_plain (a ∷ b ∷ []) h at hash = one_byte a (b ∷ []) refl
first_plain (a ∷ b ∷ c ∷ rest) h at hash =
    let three : Bytes = a ∷ b ∷ c ∷ [] in
    let no_at : bytes_eq three (codes "%40") ≡ false = nat_list_eq_equiv.symm three (codes "%40") ∙ at in
    let no_hash : bytes_eq three (codes "%23") ≡ false = nat_list_eq_equiv.symm three (codes "%23") ∙ hash in
    one_byte a (b ∷ c ∷ rest) (rw (no_at, no_hash) refl)

-- What was passed over

abbrev pub joined : Bytes → Option (Bytes × Bytes) → Option (Bytes × Bytes)
joined prefix None = None
joined prefix (Some parts) = Some (prefix ++ parts.0, parts.1)

-- up to this place the text means no mark
pub record Skipped (mark : ℕ) (text : Bytes) (at : ℕ) : Type 0 where
  pub within : at ≤ length text
  pub meant : Bytes
  pub reads : ReadsAs meant (take at text)
  pub rest : cut_at (mark ∷ []) (with_marks text) ≡ joined meant (cut_at (mark ∷ []) (with_marks (drop at text)))

joined-nil : (o : Option (Bytes × Bytes)) → o ≡ joined [] o
joined-nil None = refl
joined-nil (Some parts) = refl

pub skipped_none : (mark : ℕ) (text : Bytes) → Skipped mark text 0
skipped_none mark text = record { within = omega arith; meant = []; reads = record { digits = refl; plain = λ _. refl }; rest = joined-nil (cut_at (mark ∷ []) (with_marks text)) }

reads-append : (a b c d : Bytes) → ReadsAs a b → ReadsAs c d → ReadsAs (a ++ c) (b ++ d)
reads-append a b c d first second = record {
  digits = list_all-append is_digit a c ∙ rw (first.digits, second.digits) (sym (list_all-append is_digit b d));
  plain = λ all. by (list_all is_digit b) (list_all is_digit d) refl refl (sym (list_all-append is_digit b d) ∙ all);
}
  where
    by : (s t : Bool) → list_all is_digit b ≡ s → list_all is_digit d ≡ t → (list_all is_digit b && list_all is_digit d) ≡ true → a ++ c ≡ b ++ d
    by true true e f all = ap (λ (x : Bytes). x ++ c) (first.plain e) ∙ ap (λ (x : Bytes). b ++ x) (second.plain f)
    by true false e f all = let never : true ≡ false = sym all ∙ rw (e, f) refl in let no : ⊥ = cc in absurd no
    by false t e f all = let never : true ≡ false = sym all ∙ rw e refl in let no : ⊥ = cc in absurd no

joined-more : (prefix : Bytes) (byte : ℕ) (o : Option (Bytes × Bytes)) → joined prefix (option_map (λ p. (byte ∷ p.0, p.1)) o) ≡ joined (prefix ++ byte ∷ []) o
joined-more prefix byte None = refl
joined-more prefix byte (Some parts) = ap (λ (x : Bytes). Some (x, parts.1)) (sym (append_assoc prefix (byte ∷ []) parts.0))

other_byte : (mark byte : ℕ) (text : Bytes) → (byte ≡ mark → ⊥) → cut_at (mark ∷ []) (byte ∷ text) ≡ option_map (λ p. (byte ∷ p.0, p.1)) (cut_at (mark ∷ []) text)
other_byte mark byte text apart =
    let other : (byte == mark) ≡ false = grind (arith, nat_tests, apart) in
    rw (begins_one mark byte text, other) refl

pub skipped_more : (mark : ℕ) (text : Bytes) (at byte width : ℕ) → Skipped mark text at → HasFirst (drop at text) byte width → (byte ≡ mark → ⊥) → Skipped mark text (at + width)
skipped_more mark text at byte width is first apart = record {
  within = let e = length-drop at text in let w = first.within in let v = is.within in omega (arith, e, w, v);
  meant = is.meant ++ byte ∷ [];
  reads = subst (ReadsAs (is.meant ++ byte ∷ [])) (sym (take-add at width text)) (reads-append is.meant (take at text) (byte ∷ []) (take width (drop at text)) is.reads first.reads);
  rest = is.rest
      ∙ ap (λ (t : Bytes). joined is.meant (cut_at (mark ∷ []) t)) first.first
      ∙ ap (joined is.meant) (other_byte mark byte (with_marks (drop width (drop at text))) apart)
      ∙ joined-more is.meant byte (cut_at (mark ∷ []) (with_marks (drop width (drop at text))))
      ∙ ap (λ (t : Bytes). joined (is.meant ++ byte ∷ []) (cut_at (mark ∷ []) (with_marks t))) (drop-drop width at text);
}
