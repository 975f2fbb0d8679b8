use Rattle.std.proofs.Common.{◌∙◌, ap, ◌++◌}
use Rattle.std.specs.Prelude.{codes}
use Rattle.wiki_model.specs.Titles.{url_of}
use Rattle.page_render.proofs.Labels.{three_joined}
use Rattle.page_render.proofs.link.open_link.Goals as goal

pub returns : goal.returns
returns c =
    three_joined c.args.out.now.items c.extend_from_slice-2.new.self.items (codes "<a href=\"/wiki/") (url_of c.args.title.now) (codes "\">")
    (c.in_ok-extend_from_slice-2.ensures.items
    ∙ ap (λ x. x ++ codes "\">") (c.in_ok-write_url.ensures ∙ ap (λ x. x ++ url_of c.as_bytes.result.now) c.in_ok-extend_from_slice.ensures.items
    ∙ ap (λ u. (c.args.out.now.items ++ codes "<a href=\"/wiki/") ++ url_of u) (c.as_bytes.ensures.value ∙ c.text.ensures.value)))
