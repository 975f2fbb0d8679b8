-- A text that passes each test names its title.
use Rattle.std.proofs.Common.{◌≡◌, ◌≤◌, false, length, None, Ok, refl, sym, ap, ◌∙◌, subst}
use Rattle.std.specs.List.{position}
use Rattle.std.proofs.lemmas.Bool.{le-ltb}
use Rattle.wiki_model.specs.Bytes.{Bytes}
use Rattle.wiki_model.specs.Titles.{title_of, title_text, has_no_name, is_bad}

pub names_title : (text title : Bytes) → title ≡ title_text text → has_no_name title ≡ false → length title ≤ 255 → position is_bad text ≡ None → title_of text ≡ Ok title
names_title text title same named short good =
    let there : title_of text ≡ Ok (title_text text) = rw (subst (λ t. has_no_name t ≡ false) same named, le-ltb 255 (length (title_text text)) (subst (λ t. length t ≤ 255) same short), good) refl in
    there ∙ ap Ok (sym same)
