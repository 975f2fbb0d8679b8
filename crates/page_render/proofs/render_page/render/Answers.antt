use Rattle.std.proofs.Common.{◌≡◌, ◌∙◌, ap}
use Rattle.std.specs.Prelude.{option_copied}
use Rattle.wiki_model.specs.Html.{page_html}
use Rattle.page_render.specs.AsModel.{template_text}
use Rattle.page_render.proofs.render_page.render.Goals as goal

pub returns : goal.returns
returns c =
    let same : template_text c.deref.result.now ≡ template_text c.args.templates.now = λ i t. (ap (λ l. template_text l t) c.deref.ensures.value ∙ c.in_ok-rising.ensures.same t) i in
    c.in_ok-made-2.ensures ∙ ap (λ T. page_html c.args.markup c.args.title.now c.args.page.now T (option_copied c.args.notice)) same
