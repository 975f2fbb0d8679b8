-- A client's digits are ASCII, and no escape stands among them.
use Rattle.std.proofs.Common.{◌≡◌, ℕ, zero, suc, Bool, true, false, ◌&&◌, ◌||◌, ◌==◌, [], ◌∷◌, length, None, refl, sym, ◌∙◌, ap, arith, bytes_eq}
use Rattle.std.specs.Prelude.{codes}
use Rattle.std.specs.List.{list_all}
use Rattle.std.specs.Str.{IsUtf8, IsAscii}
use Rattle.std.proofs.Math.Bool.{and-false}
use Rattle.std.proofs.lemmas.Str.{IsUtf8-from_ascii}
use Rattle.std.proofs.lemmas.Bool.Decides.{nat_tests}
use Rattle.std.proofs.lemmas.Slice.Eq.{bytes_eq-Decides}
use Rattle.wiki_model.specs.Bytes.{Bytes}
use Rattle.wiki_model.specs.Titles.{is_digit, in_range, is_client}
use Rattle.wiki_model.specs.Cookies.{with_marks}
use Rattle.wiki_titles.specs.ClientId.{client_of}

abbrev pub is_low_hex : ℕ → Bool
is_low_hex c = is_digit c || in_range 97 102 c

pub both_true : (a b : Bool) → (a && b) ≡ true → (a ≡ true) × (b ≡ true)
both_true true true e = (refl, refl)
both_true true false e = let no : ⊥ = cc in absurd no
both_true false b e = let no : ⊥ = cc in absurd no

digits_ascii : (text : Bytes) → list_all is_low_hex text ≡ true → IsAscii text
digits_ascii [] all i = omega arith
digits_ascii (c ∷ text) all zero = let here = (both_true (is_low_hex c) (list_all is_low_hex text) all).0 in grind (arith, nat_tests, here)
digits_ascii (c ∷ text) all (suc i) = digits_ascii text (both_true (is_low_hex c) (list_all is_low_hex text) all).1 i

pub client_digits : (text : Bytes) → is_client text ≡ true → list_all is_low_hex text ≡ true
client_digits text e = (both_true (length text == 32) (list_all is_low_hex text) e).1

pub no_client : (text : Bytes) → (IsUtf8 text → ⊥) → None ≡ client_of text
no_client text refused = by (is_client text) refl
  where
    by : (b : Bool) → is_client text ≡ b → None ≡ client_of text
    by true e = absurd (refused (IsUtf8-from_ascii text (digits_ascii text (client_digits text e))))
    by false e = rw e refl

-- an escape is no digit
marks_same : (text : Bytes) → (list_all is_low_hex text ≡ true → with_marks text ≡ text) × (list_all is_low_hex (with_marks text) ≡ list_all is_low_hex text)
marks_same [] = (λ _. refl, refl)
marks_same (a ∷ []) = (λ _. refl, refl)
marks_same (a ∷ b ∷ []) = (λ _. refl, refl)
marks_same (a ∷ b ∷ c ∷ text) = by (bytes_eq (a ∷ b ∷ c ∷ []) (codes "%40")) (bytes_eq (a ∷ b ∷ c ∷ []) (codes "%23")) refl refl (marks_same (b ∷ c ∷ text))
  where
    percent : (needle : Bytes) (d e : ℕ) → needle ≡ 37 ∷ d ∷ e ∷ [] → bytes_eq (a ∷ b ∷ c ∷ []) needle ≡ true → a ≡ 37
    percent needle d e is same = let equal : a ∷ b ∷ c ∷ [] ≡ 37 ∷ d ∷ e ∷ [] = (bytes_eq-Decides (a ∷ b ∷ c ∷ []) needle).0 same ∙ is in cc

    no_digit : a ≡ 37 → list_all is_low_hex (a ∷ b ∷ c ∷ text) ≡ false
    no_digit e = rw e refl

    escaped : a ≡ 37 → (byte : ℕ) → is_low_hex byte ≡ false → with_marks (a ∷ b ∷ c ∷ text) ≡ byte ∷ with_marks text
        → (list_all is_low_hex (a ∷ b ∷ c ∷ text) ≡ true → with_marks (a ∷ b ∷ c ∷ text) ≡ a ∷ b ∷ c ∷ text) × (list_all is_low_hex (with_marks (a ∷ b ∷ c ∷ text)) ≡ list_all is_low_hex (a ∷ b ∷ c ∷ text))
    escaped e byte apart is = (λ all. (let never : true ≡ false = sym all ∙ no_digit e in let no : ⊥ = cc in absurd no), ap (list_all is_low_hex) is ∙ rw apart refl ∙ sym (no_digit e))

    by : (s t : Bool) → bytes_eq (a ∷ b ∷ c ∷ []) (codes "%40") ≡ s → bytes_eq (a ∷ b ∷ c ∷ []) (codes "%23") ≡ t
        → (list_all is_low_hex (b ∷ c ∷ text) ≡ true → with_marks (b ∷ c ∷ text) ≡ b ∷ c ∷ text) × (list_all is_low_hex (with_marks (b ∷ c ∷ text)) ≡ list_all is_low_hex (b ∷ c ∷ text))
        → (list_all is_low_hex (a ∷ b ∷ c ∷ text) ≡ true → with_marks (a ∷ b ∷ c ∷ text) ≡ a ∷ b ∷ c ∷ text) × (list_all is_low_hex (with_marks (a ∷ b ∷ c ∷ text)) ≡ list_all is_low_hex (a ∷ b ∷ c ∷ text))
    by true t e f ih = escaped (percent (codes "%40") 52 48 refl e) 64 refl (rw e refl)
    by false true e f ih = escaped (percent (codes "%23") 50 51 refl f) 35 refl (rw (e, f) refl)
    by false false e f ih =
        let is : with_marks (a ∷ b ∷ c ∷ text) ≡ a ∷ with_marks (b ∷ c ∷ text) = rw (e, f) refl in (
          λ all. is ∙ ap (λ (t : Bytes). a ∷ t) (ih.0 (both_true (is_low_hex a) (list_all is_low_hex (b ∷ c ∷ text)) all).1),
          ap (list_all is_low_hex) is ∙ ap (λ (x : Bool). is_low_hex a && x) ih.1,
        )

pub client_same : (text : Bytes) → (is_client text ≡ true → with_marks text ≡ text) × (is_client text ≡ false → is_client (with_marks text) ≡ false)
client_same text = (λ e. (marks_same text).0 (client_digits text e), λ e. by (list_all is_low_hex text) refl e)
  where
    by : (b : Bool) → list_all is_low_hex text ≡ b → is_client text ≡ false → is_client (with_marks text) ≡ false
    by true all e = ap is_client ((marks_same text).0 all) ∙ e
    by false all e = rw ((marks_same text).1, all) (and-false _)
