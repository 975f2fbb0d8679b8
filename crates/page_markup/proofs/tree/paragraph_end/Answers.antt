use Rattle.std.proofs.Common.{◌∙◌, ◌+◌, sym, arith, subst}
use Rattle.page_markup.specs.Line.{IsLine}
use Rattle.page_markup.proofs.Trees.{line_joined, paragraph_to_heading, line_between}
use Rattle.page_markup.proofs.tree.paragraph_end.Goals as goal

pub loop-end-preserved : goal.loop-end-preserved
loop-end-preserved c =
    let text = c.args.text.now in
    let end = c.loop-end.end in
    let next = c.line_at-next.result.1 in
    let e = c.line_at-next.ensures.end in
    let plain = subst (IsLine (line_between text (end + 1) next)) c.in-Plain.is c.line_at-next.ensures.line in
    record {
      order = omega (arith, c.loop-end.invariant.order, e);
      within = c.line_at-next.ensures.within;
      feed = c.line_at-next.ensures.feed;
      cut = c.line_at-next.ensures.cut;
      next = c.line_at-next.ensures.next;
      lines = line_joined text c.args.from end next (omega (arith, c.loop-end.invariant.order, c.requires.order)) (omega (arith, e)) c.loop-end-test.true (c.loop-end.invariant.feed c.loop-end-test.true) e plain ∙ c.loop-end.invariant.lines;
    }

pub returns-in-Heading-clause-lines : goal.returns-in-Heading-clause-lines
returns-in-Heading-clause-lines c =
    let text = c.args.text.now in
    let end = c.loop-end.end in
    let next = c.line_at-next.result.1 in
    let heading = subst (IsLine (line_between text (end + 1) next)) c.in-Heading.is c.line_at-next.ensures.line in
    sym c.loop-end.invariant.lines ∙ paragraph_to_heading (line_between text c.args.from end) text c.in-Heading.middle.now c.in-Heading.level end next c.line_at-next.ensures.end heading
