use Rattle.std.proofs.Common.{◌≡◌, ◌-◌, ◌≤◌, List, Some, Ok}
use Rattle.wiki_model.specs.History.{Entry}
use Rattle.region_state.specs.ApplyEntries.{AppliesTo}
use Rattle.region_state.proofs.apply_entries.apply_all.Given as goal

abbrev pub invariant-loop-left : goal.invariant-loop-left
invariant-loop-left g l = record {
  few : l.left ≤ l.count;
  same : g.K.Keeper.content l.keeper ≡ g.K.Keeper.content l.fn.keeper;
  later : g.K.Keeper.faults l.fn.keeper ≤ g.K.Keeper.faults l.keeper;
  applies : (h : List Entry) → g.K.Keeper.content l.fn.keeper ≡ Some h → AppliesTo h (l.count - l.left) l.fn.replica l.replica (Ok tt);
}

abbrev pub decreases-loop-left : goal.decreases-loop-left
decreases-loop-left g l = l.left
