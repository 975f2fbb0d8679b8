use Rattle.std.proofs.Common.{rules, ◌≡◌, ◌≤◌, false, length, None, sym, subst}
use Rattle.std.specs.String.{string_bytes}
use Rattle.std.specs.List.{position}
use Rattle.wiki_model.specs.Titles.{has_no_name, is_bad}
use Rattle.wiki_titles.specs.Title.{IsTitle}
use Rattle.wiki_titles.proofs.Named.{names_title}
use Rattle.wiki_titles.proofs.title.Title.parse.Goals as goal

pub invariant_of-result : goal.invariant_of-result
invariant_of-result c =
    let text = c.args.text.now in
    let title = string_bytes c.in_ok-title.title in
    let short : length title ≤ 255 = search rules in
    let named : has_no_name title ≡ false = search rules in
    let good : position is_bad text ≡ None = search rules in
    subst (λ t. (length t ≤ 255) × IsTitle t) (sym c.in_ok-from_string-in-None.ensures.ok) (short, (text, names_title text title c.in_ok-title.ensures named short good))
