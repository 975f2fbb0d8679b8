use Rattle.std.proofs.Common.{◌++◌, arith, ap, subst, sym, ◌∙◌}
use Rattle.wiki_model.specs.Html.{template_named}
use Rattle.page_markup.specs.ClosingPlaces.{between}
use Rattle.page_markup.specs.Names.{AddsNames, listed, named_between, read_as}
use Rattle.page_markup.proofs.Named.{adds_exactly, is_recent, stays_recent}
use Rattle.page_markup.proofs.collect_names.add_name.Goals as goal

pub returns-then-is_at-clause-names : goal.returns-then-is_at-clause-names
returns-then-is_at-clause-names c =
    let titles = c.args.found.now.titles.items in
    let spans = c.args.found.now.recent.items in
    let text = c.args.text.now in
    let seen = c.index.result.now in
    subst (λ name. AddsNames titles titles (named_between c.args.lines name)) c.part-name.ensures
    (is_recent c.args.lines text c.part-name.result.now titles spans c.place_of-place.result seen
    (let count = c.len.ensures in let below = c.place_of-place.ensures in omega (arith, count, below))
    (sym (ap (λ (s : Rattle.page_markup.specs.declared.collect_names.Span.Span). between s.start s.end text) c.index.ensures) ∙ c.is_at.ensures c.if-is_at.true) c.requires.recent)

pub returns-clause-recent : goal.returns-clause-recent
returns-clause-recent c =
    stays_recent c.args.lines c.args.text.now c.args.found.now.titles.items c.push_title.new.titles.items (listed c.in_ok-title.title) c.args.found.now.recent.items c.place_of-place.result c.args.span
    c.in_ok-push_title.ensures (ap listed (c.in_ok-title.ensures ∙ ap (λ n. template_named (read_as c.args.lines n)) c.part-name.ensures)) c.requires.recent

pub returns-clause-names : goal.returns-clause-names
returns-clause-names c =
    adds_exactly c.args.found.now.titles.items c.push_title.new.titles.items (named_between c.args.lines (between c.args.span.start c.args.span.end c.args.text.now))
    (c.in_ok-push_title.ensures ∙ ap (λ t. c.args.found.now.titles.items ++ listed t) (c.in_ok-title.ensures ∙ ap (λ n. template_named (read_as c.args.lines n)) c.part-name.ensures))
