use Rattle.std.proofs.Common.{◌∙◌, ◌+◌, ◌++◌, ◌∷◌, [], ap, sym, subst, drop}
use Rattle.page_markup.specs.Line.{IsLine}
use Rattle.page_markup.specs.Runs.{items_then, lines_from, list_block}
use Rattle.page_markup.specs.Tree.{inline_of}
use Rattle.page_markup.proofs.Trees.{list_goes, line_between}
use Rattle.page_markup.proofs.tree.push_block.Goals as goal

pub returns-in_ok-push-in-Item-clause-blocks : goal.returns-in_ok-push-in-Item-clause-blocks
returns-in_ok-push-in-Item-clause-blocks c =
    let text = c.args.text.now in
    let end = c.line_at-end.result.1 in
    let items = c.read_items.new.items.items in
    let item = subst (IsLine (line_between text c.args.at end)) c.in-Item.is c.line_at-end.ensures.line in
    let first = c.in_ok-push_item-in-Item.ensures ∙ ap (λ ps. ps ++ (inline_of c.in-Item.item.now ∷ [])) c.new-items.ensures.items in
    list_goes c.args.blocks.now.items c.push-in-Item.new.self.items text c.in-Item.item.now items c.args.at end c.in_ok-last-in-Item.last c.line_at-end.ensures.end item
    (ap (λ ps. items_then ps (lines_from (drop (end + 1) text))) (sym first) ∙ c.in_ok-last-in-Item.ensures.items)
    (c.in_ok-push-in-Item.ensures.items ∙ ap (λ ps. c.args.blocks.now.items ++ (list_block ps ∷ [])) c.new.ensures)
