use Rattle.std.proofs.Common.{◌≡◌, ◌≤◌, ◌-◌, [], take, length, List, Some}
use Rattle.wiki_model.specs.History.{Entry}
use Rattle.wiki_model.specs.Positions.{young_commits}
use Rattle.region_state.specs.YoungCommits.{AreSmall, commits_of}
use Rattle.region_state.proofs.gather_commits.gather.Given as goal

abbrev pub invariant-loop-n : goal.invariant-loop-n
invariant-loop-n g l = record {
  within : l.n ≤ l.len;
  same : g.K.Keeper.content l.keeper ≡ g.K.Keeper.content l.fn.keeper;
  later : g.K.Keeper.faults l.fn.keeper ≤ g.K.Keeper.faults l.keeper;
  small : AreSmall l.commits.items;
  rows : (h : List Entry) → g.K.Keeper.content l.fn.keeper ≡ Some h → l.len ≡ length h → young_commits l.now (take l.old h) ≡ [] → l.commits.items ≡ commits_of (young_commits l.now (take l.n h));
}

abbrev pub decreases-loop-n : goal.decreases-loop-n
decreases-loop-n g l = l.len - l.n
