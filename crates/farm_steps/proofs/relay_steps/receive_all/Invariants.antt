use Rattle.std.proofs.Common.{◌≡◌, drop}
use Rattle.farm_steps.specs.RelaySteps.{received_all}
use Rattle.farm_steps.proofs.relay_steps.receive_all.Given as goal

abbrev pub invariant-loop-purge : goal.invariant-loop-purge
invariant-loop-purge l = received_all l.region l.now (drop l.purge-index l.purges) l.ledger ≡ received_all l.region l.now l.purges l.fn.ledger
