use Rattle.std.proofs.Common.{◌+◌, drop}
use Rattle.page_render.proofs.Frames.{list_joined}
use Rattle.page_render.proofs.write_blocks.write_list.Goals as goal

pub returns-clause-html : goal.returns-clause-html
returns-clause-html c =
    let text = c.args.text.now in
    list_joined c.args.writer.now c.put.new.self c.write_item.new.writer c.write_items.new.writer c.put-2.new.self c.args.depth c.args.first.now (drop (c.args.end + 1) text)
    (drop c.in_ok-next.next text) c.in_ok-put.ensures c.in_ok-write_item.ensures c.in_ok-next.ensures.html c.in_ok-put-2.ensures
