use Rattle.farm_steps.proofs.Pending.{begun_is}
use Rattle.farm_steps.proofs.view_steps.has_begun.Goals as goal

pub returns : goal.returns
returns c = begun_is c.args.title.now c.args.requests.now.entries c.any_begun.result c.any_begun.ensures.found c.any_begun.ensures.any
