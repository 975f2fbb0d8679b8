use Rattle.std.proofs.Common.{◌≡◌, IfOk, ◌∙◌, subst}
use Rattle.std.specs.String.{string_bytes}
use Rattle.wiki_model.specs.Bytes.{Bytes}
use Rattle.sticky_routes.specs.AsModel.{cookie_of}
use Rattle.sticky_routes.proofs.SetValues.{in_their_lines}
use Rattle.sticky_routes.proofs.set_cookies.write_cookies.Goals as goal

pub returns : goal.returns
returns c =
    let cookie = cookie_of c.args.cookie.now in
    subst (λ (t : Bytes). IfOk c.lines.result (λ text. string_bytes text ≡ t))
    (in_their_lines cookie c.as_str.result.now c.use_master_value.result.now c.no_edge_value.result.now (c.as_str.ensures.value ∙ c.in_ok-position.ensures) (c.use_master_value.ensures cookie) (c.no_edge_value.ensures cookie))
    c.lines.ensures
