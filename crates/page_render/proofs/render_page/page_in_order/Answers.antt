use Rattle.std.proofs.Common.{◌∙◌, [], ap}
use Rattle.std.specs.Prelude.{option_copied}
use Rattle.page_render.specs.Draft.{Draft}
use Rattle.page_render.proofs.Frames.{page_begun}
use Rattle.page_render.proofs.render_page.page_in_order.Goals as goal

pub returns : goal.returns
returns c =
    page_begun c.in_ok-writer.writer c.into_html.result.items c.args.templates.now c.args.markup c.args.title.now c.args.page.now (option_copied c.args.notice)
    (c.in_ok-writer.ensures ∙ ap (λ t. (let d : Draft = record { html = []; included = 0; templates = t } in d)) c.new.ensures)
    (c.into_html.ensures ∙ c.in_ok-write_page.ensures)
