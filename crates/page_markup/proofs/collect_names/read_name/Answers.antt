use Rattle.std.proofs.Common.{◌≡◌, length, subst}
use Rattle.std.specs.Prelude.{codes}
use Rattle.wiki_model.specs.Html.{bracketed}
use Rattle.page_markup.specs.ClosingPlaces.{between, cut_within}
use Rattle.page_markup.proofs.NamesInLine.{name_found, no_name}
use Rattle.page_markup.proofs.collect_names.read_name.Goals as goal

pub returns-in_ok-add_name-clause-names : goal.returns-in_ok-add_name-clause-names
returns-in_ok-add_name-clause-names c =
    let text = c.args.text.now in
    name_found c.args.lines text c.args.found.now.titles.items c.add_name.new.found.titles.items c.args.at c.in-Some.close
    (subst (λ o. cut_within 2 c.args.at (length text) text o ≡ bracketed (codes "{{") (codes "}}") (between c.args.at (length text) text)) c.in-Some.is c.brackets_within-braces.ensures.found)
    c.in_ok-add_name.ensures.names

pub returns-in_default-clause-names : goal.returns-in_default-clause-names
returns-in_default-clause-names c =
    let text = c.args.text.now in
    no_name c.args.lines text c.args.found.now.titles.items c.args.at
    (subst (λ o. cut_within 2 c.args.at (length text) text o ≡ bracketed (codes "{{") (codes "}}") (between c.args.at (length text) text)) c.in_default.is c.brackets_within-braces.ensures.found)
