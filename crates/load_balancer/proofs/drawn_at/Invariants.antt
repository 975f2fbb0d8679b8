use Rattle.std.proofs.Common.{◌≡◌, ◌*◌, ◌≤◌, take, sum}
use Rattle.wiki_model.specs.Balance.{shares}
use Rattle.load_balancer.specs.AsModel.{rows_of}
use Rattle.load_balancer.proofs.drawn_at.Given as goal

abbrev pub invariant-loop-i : goal.invariant-loop-i
invariant-loop-i l = record {
  summed : l.before ≡ sum (take l.i (shares l.need (rows_of l.rows)));
  fits : l.before ≤ 65535 * l.i;
  passed : l.before ≤ l.drawn;
}
