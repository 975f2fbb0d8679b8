use Rattle.std.proofs.Common.{◌≡◌, ◌≤◌}
use Rattle.region_state.proofs.gather_commits.old_entries.Given as goal

abbrev pub invariant-loop-old : goal.invariant-loop-old
invariant-loop-old g l = record {
  within : l.old ≤ l.len;
  same : g.K.Keeper.content l.keeper ≡ g.K.Keeper.content l.fn.keeper;
  later : g.K.Keeper.faults l.fn.keeper ≤ g.K.Keeper.faults l.keeper;
}

abbrev pub decreases-loop-old : goal.decreases-loop-old
decreases-loop-old g l = l.old
