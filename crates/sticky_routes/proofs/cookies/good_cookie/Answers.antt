use Rattle.std.proofs.Common.{ap}
use Rattle.wiki_model.specs.Cookies.{if_good}
use Rattle.sticky_routes.proofs.cookies.good_cookie.Goals as goal

pub returns-in-Ok : goal.returns-in-Ok
returns-in-Ok c = ap if_good c.in-Ok.ensures

pub returns-in-Err : goal.returns-in-Err
returns-in-Err c = ap if_good c.in-Err.ensures
