use Rattle.std.proofs.Common.{◌∙◌, ◌+◌, ◌++◌, ap, sym, subst, arith}
use Rattle.page_markup.specs.Line.{IsLine}
use Rattle.page_markup.proofs.Trees.{line_between}
use Rattle.page_render.specs.Draft.{reader}
use Rattle.page_render.proofs.Frames.{item_goes, list_to_heading, list_to_plain}
use Rattle.page_render.proofs.write_blocks.write_items.Goals as goal

pub loop-end-preserved : goal.loop-end-preserved
loop-end-preserved c =
    let text = c.args.text.now in
    let end = c.loop-end.end in
    let next = c.line_at-next.result.1 in
    let item = subst (IsLine (line_between text (end + 1) next)) c.in-Item.is c.line_at-next.ensures.line in
    record {
      order = omega (arith, c.loop-end.invariant.order, c.line_at-next.ensures.end);
      within = c.line_at-next.ensures.within;
      cut = c.line_at-next.ensures.next;
      html = item_goes c.loop-end.writer c.write_item.new.writer c.args.depth text c.in-Item.item.now end next c.line_at-next.ensures.end item c.in_ok-write_item-in-Item.ensures
          ∙ c.loop-end.invariant.html;
    }

pub returns-in-Heading-clause-html : goal.returns-in-Heading-clause-html
returns-in-Heading-clause-html c =
    let text = c.args.text.now in
    let end = c.loop-end.end in
    let next = c.line_at-next.result.1 in
    let writer = c.loop-end.writer in
    let heading = subst (IsLine (line_between text (end + 1) next)) c.in-Heading.is c.line_at-next.ensures.line in
    ap (λ x. writer.html ++ x) (sym (list_to_heading (reader writer c.args.depth) writer.included c.in-Heading.level text c.in-Heading.middle.now end next c.line_at-next.ensures.end heading))
    ∙ c.loop-end.invariant.html

pub returns-in-Plain-clause-html : goal.returns-in-Plain-clause-html
returns-in-Plain-clause-html c =
    let text = c.args.text.now in
    let end = c.loop-end.end in
    let next = c.line_at-next.result.1 in
    let writer = c.loop-end.writer in
    let plain = subst (IsLine (line_between text (end + 1) next)) c.in-Plain.is c.line_at-next.ensures.line in
    ap (λ x. writer.html ++ x) (sym (list_to_plain (reader writer c.args.depth) writer.included text (line_between text (end + 1) next) end next c.line_at-next.ensures.end plain))
    ∙ c.loop-end.invariant.html
