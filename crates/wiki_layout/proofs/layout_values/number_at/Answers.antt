use Rattle.std.proofs.Common.{◌≤◌, ◌∙◌, subst, sym, ap}
use Rattle.toml.specs.View.{table_view}
use Rattle.wiki_layout.specs.Layout.{number_or}
use Rattle.wiki_layout.proofs.KeptRanges.{number_within}
use Rattle.wiki_layout.proofs.layout_values.number_at.Goals as goal

pub returns-clause-least : goal.returns-clause-least
returns-clause-least c =
    let r = c.args.range in
    let table = table_view c.args.document.now in
    let within = number_within table c.args.name.now c.args.key.now r.least r.greatest r.default
    c.requires.kept c.requires.kind c.requires.least c.requires.greatest in
    subst (λ n. r.least ≤ n) (sym (c.number_or.ensures ∙ ap (number_or r.default) c.value_at.ensures)) within.0

pub returns-clause-greatest : goal.returns-clause-greatest
returns-clause-greatest c =
    let r = c.args.range in
    let table = table_view c.args.document.now in
    let within = number_within table c.args.name.now c.args.key.now r.least r.greatest r.default
    c.requires.kept c.requires.kind c.requires.least c.requires.greatest in
    subst (λ n. n ≤ r.greatest) (sym (c.number_or.ensures ∙ ap (number_or r.default) c.value_at.ensures)) within.1
