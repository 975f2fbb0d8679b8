-- A text whose `@` and `#` may be written as escapes: its first byte, and cutting it at a mark.
use Rattle.std.specs.Prelude.{ℕ, ◌≡◌, ◌<◌, ◌≤◌, true, [], ◌∷◌, length, take, drop, Option, None, Some}
use Rattle.std.specs.List.{list_all}
use Rattle.wiki_model.specs.Bytes.{Bytes, cut_at}
use Rattle.wiki_model.specs.Titles.{is_digit}
use Rattle.wiki_model.specs.Cookies.{with_marks}

-- Digits alone mean themselves, and an escape is no digit.
pub record ReadsAs (meant text : Bytes) : Type 0 where
  pub digits : list_all is_digit meant ≡ list_all is_digit text
  pub plain : list_all is_digit text ≡ true → meant ≡ text

-- the first byte that a text means, and how many bytes stand for it
pub record HasFirst (text : Bytes) (byte width : ℕ) : Type 0 where
  pub some : 0 < width
  pub within : width ≤ length text
  pub first : with_marks text ≡ byte ∷ with_marks (drop width text)
  pub reads : ReadsAs (byte ∷ []) (take width text)

-- the text is cut at the first place where it means the mark
abbrev pub IsCut : (mark : ℕ) → Bytes → Option (Bytes × Bytes) → Type 0
IsCut mark text None = cut_at (mark ∷ []) (with_marks text) ≡ None
IsCut mark text (Some parts) =
    (meant : Bytes)
    × ReadsAs meant parts.0
    × (cut_at (mark ∷ []) (with_marks text) ≡ Some (meant, with_marks parts.1))
