use Rattle.std.proofs.Common.{subst}
use Rattle.page_markup.specs.Line.{IsLine}
use Rattle.page_markup.proofs.Trees.{line_between}
use Rattle.page_render.specs.Blocks.{with_blocks}
use Rattle.page_render.proofs.Frames.{heading_goes, list_goes}
use Rattle.page_render.proofs.write_blocks.write_block.Goals as goal

pub returns-in_ok-write_heading-in-Heading-clause-html : goal.returns-in_ok-write_heading-in-Heading-clause-html
returns-in_ok-write_heading-in-Heading-clause-html c =
    let text = c.args.text.now in
    let end = c.line_at-end.result.1 in
    let heading = subst (IsLine (line_between text c.args.at end)) c.in-Heading.is c.line_at-end.ensures.line in
    heading_goes c.args.writer.now c.write_heading.new.writer c.args.depth c.in-Heading.level text c.in-Heading.middle.now c.args.at end c.line_at-end.ensures.end heading
    c.in_ok-write_heading-in-Heading.ensures

pub returns-in_ok-next-in-Item-clause-html : goal.returns-in_ok-next-in-Item-clause-html
returns-in_ok-next-in-Item-clause-html c =
    let text = c.args.text.now in
    let end = c.line_at-end.result.1 in
    let item = subst (IsLine (line_between text c.args.at end)) c.in-Item.is c.line_at-end.ensures.line in
    list_goes c.args.writer.now c.args.depth text c.in-Item.item.now _ c.args.at end c.line_at-end.ensures.end item c.in_ok-next-in-Item.ensures.html
