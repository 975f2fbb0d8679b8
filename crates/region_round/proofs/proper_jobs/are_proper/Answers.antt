use Rattle.std.proofs.Common.{◌∙◌, sym}
use Rattle.region_round.proofs.Testing.{all_are}
use Rattle.region_round.proofs.proper_jobs.are_proper.Goals as goal

pub returns : goal.returns
returns g c = λ yes. all_are c.args.region c.args.farm.now.ledger.rows c.args.jobs.now (sym c.all_proper.ensures ∙ yes)
