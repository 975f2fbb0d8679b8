use Rattle.std.proofs.Common.{◌∙◌, ◌+◌, ap, sym, get_or}
use Rattle.std.specs.Prelude.{codes, option_and_then}
use Rattle.wiki_model.specs.Html.{bracketed, link, include, mark_at}
use Rattle.page_markup.specs.ClosingPlaces.{between}
use Rattle.page_markup.proofs.Places.{known_on}
use Rattle.page_render.specs.AsModel.{template_text}
use Rattle.page_render.specs.Use.{first_quotes}
use Rattle.page_render.proofs.Picks.{mark_found, quotes_mark, link_mark, template_mark}
use Rattle.page_render.proofs.choose_mark.choose.Goals as goal

pub returns-then-first-eq39-clause-used : goal.returns-then-first-eq39-clause-used
returns-then-first-eq39-clause-used c =
    let text = c.args.text.now in
    let first = ap (λ s. get_or s c.args.at 0) (sym c.as_bytes.ensures.value) ∙ c.if-first-eq39.true in
    mark_found c.args.at c.args.to text c.quotes_at.result.used first_quotes (mark_at (template_text c.args.writer.now.templates) c.args.reads c.args.writer.now.included (get_or text c.args.at 0) (between (c.args.at + 1) c.args.to text))
    c.requires.order c.requires.within c.quotes_at.ensures.used
    (quotes_mark (template_text c.args.writer.now.templates) c.args.reads c.args.writer.now.included (get_or text c.args.at 0) (between (c.args.at + 1) c.args.to text) first)

pub returns-then-first-eq91-clause-used : goal.returns-then-first-eq91-clause-used
returns-then-first-eq91-clause-used c =
    let text = c.args.text.now in
    let first = ap (λ s. get_or s c.args.at 0) (sym c.as_bytes.ensures.value) ∙ c.if-first-eq91.true in
    mark_found c.args.at c.args.to text c.in_ok-chosen.chosen.used (λ s. option_and_then link (bracketed (codes "[[") (codes "]]") s))
    (mark_at (template_text c.args.writer.now.templates) c.args.reads c.args.writer.now.included (get_or text c.args.at 0) (between (c.args.at + 1) c.args.to text))
    c.requires.order c.requires.within c.in_ok-chosen.ensures.used
    (link_mark (template_text c.args.writer.now.templates) c.args.reads c.args.writer.now.included (get_or text c.args.at 0) (between (c.args.at + 1) c.args.to text) first)

pub returns-then-reads-clause-used : goal.returns-then-reads-clause-used
returns-then-reads-clause-used c =
    let text = c.args.text.now in
    let templates = template_text c.args.writer.now.templates in
    let n = c.args.writer.now.included in
    let byte = get_or text c.args.at 0 in
    let rest = between (c.args.at + 1) c.args.to text in
    let first = ap (λ s. get_or s c.args.at 0) (sym c.as_bytes.ensures.value) ∙ c.if-first-eq123.true in
    mark_found c.args.at c.args.to text c.in_ok-chosen-2.chosen.used (λ s. option_and_then (include templates n) (bracketed (codes "{{") (codes "}}") s))
    (mark_at templates c.args.reads n byte rest) c.requires.order c.requires.within c.in_ok-chosen-2.ensures.used
    (ap (λ b. mark_at templates b n byte rest) c.if-reads.true ∙ template_mark templates n byte rest first)

pub returns-clause-known : goal.returns-clause-known
returns-clause-known c = rw c.byte.ensures.known (known_on c.args.text.now c.args.at c.args.known c.requires.known)
