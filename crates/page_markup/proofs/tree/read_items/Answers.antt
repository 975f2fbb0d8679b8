use Rattle.std.proofs.Common.{◌∙◌, ◌+◌, sym, subst}
use Rattle.page_markup.specs.Line.{IsLine}
use Rattle.page_markup.proofs.Trees.{items_to_plain, line_between}
use Rattle.page_markup.proofs.tree.read_items.Goals as goal

pub returns-in-Plain-clause-items : goal.returns-in-Plain-clause-items
returns-in-Plain-clause-items c =
    let text = c.args.text.now in
    let end = c.loop-end.end in
    let next = c.line_at-next.result.1 in
    let plain = subst (IsLine (line_between text (end + 1) next)) c.in-Plain.is c.line_at-next.ensures.line in
    sym c.loop-end.invariant.items ∙ items_to_plain c.loop-end.items.items text (line_between text (end + 1) next) end next c.line_at-next.ensures.end plain
