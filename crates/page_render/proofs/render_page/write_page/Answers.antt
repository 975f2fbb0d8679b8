use Rattle.std.proofs.Common.{◌∙◌, ap, ◌++◌}
use Rattle.std.specs.Prelude.{codes, option_copied}
use Rattle.wiki_model.specs.Html.{element, escaped, line_end, depth_of}
use Rattle.page_render.specs.Blocks.{with_blocks}
use Rattle.page_render.proofs.Frames.{page_joined}
use Rattle.page_render.proofs.render_page.write_page.Goals as goal

pub returns : goal.returns
returns c =
    page_joined c.args.writer.now c.put.new.self c.write_title.new.writer c.write_notice.new.writer c.write_title-2.new.writer
    (codes "<!DOCTYPE html>" ++ line_end)
    (element (codes "<title>") (codes "</title>" ++ line_end) (escaped c.args.title.now))
    (element (codes "<h1>") (codes "</h1>" ++ line_end) (escaped c.args.title.now))
    c.args.page.now c.write_blocks.new.writer.html (option_copied c.args.notice) (depth_of c.args.markup)
    c.in_ok-put.ensures c.in_ok-write_title.ensures c.in_ok-write_notice.ensures c.in_ok-write_title-2.ensures
    (c.in_ok-write_blocks.ensures
    ∙ ap (λ d. with_blocks c.write_title-2.new.writer d c.text.result.now) c.depth_of.ensures
    ∙ ap (λ t. with_blocks c.write_title-2.new.writer (depth_of c.args.markup) t) c.text.ensures.value)
