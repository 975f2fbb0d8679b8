use Rattle.std.proofs.Common.{◌≡◌, ◌*◌, ◌≤◌, take, sum}
use Rattle.wiki_model.specs.Balance.{shares}
use Rattle.load_balancer.specs.AsModel.{rows_of}
use Rattle.load_balancer.proofs.total.Given as goal

abbrev pub invariant-loop-row : goal.invariant-loop-row
invariant-loop-row l = record {
  summed : l.total ≡ sum (take l.row-index (shares l.need (rows_of l.rows)));
  fits : l.total ≤ 65535 * l.row-index;
}
