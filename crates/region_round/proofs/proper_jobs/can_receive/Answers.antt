use Rattle.std.proofs.Common.{◌∙◌, sym}
use Rattle.region_round.proofs.Testing.{open_is}
use Rattle.region_round.proofs.proper_jobs.can_receive.Goals as goal

pub returns : goal.returns
returns g c = λ yes. open_is c.args.farm.now.ledger.rows c.args.number (sym c.is_open.ensures ∙ yes)
