use Rattle.std.proofs.Common.{◌∙◌}
use Rattle.sticky_routes.proofs.Parts.{both_marks}
use Rattle.sticky_routes.proofs.pos_cookie.cookie_in.Goals as goal

pub returns : goal.returns
returns c =
    c.cookie_of.ensures
    ∙ both_marks c.args.text.now c.in-Some.index.now c.in-Some.rest.now c.in-Some-cut_meant.seconds.now c.in-Some-cut_meant.client.now c.in-Some.ensures c.in-Some-cut_meant.ensures
