use Rattle.std.proofs.Common.{◌≤◌, ◌-◌}
use Rattle.replica_apply.specs.Replica.{page_at}
use Rattle.replica_apply.specs.Gather.{IsStage}
use Rattle.replica_apply.proofs.gather.gather.Given as goal

abbrev pub invariant-loop-stage : goal.invariant-loop-stage
invariant-loop-stage l = record {
  first : 1 ≤ l.stage;
  last : l.stage ≤ 4;
  taken : IsStage (page_at l.pages) l.text l.stage (page_at l.taken) l.unread.items;
}

abbrev pub decreases-loop-stage : goal.decreases-loop-stage
decreases-loop-stage l = 4 - l.stage
