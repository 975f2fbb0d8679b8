use Rattle.std.proofs.Common.{Option, subst}
use Rattle.purge_relay.specs.declared.ledger.Issued.{Issued}
use Rattle.region_state.specs.RegionState.{RegionParts}
use Rattle.farm_steps.specs.EditSteps.{ReceivesSecond}
use Rattle.farm_steps.proofs.edit_steps.commit_edit.Goals as goal

pub returns : goal.returns
returns g c =
    let cache_of = g.S.RegionStore.cache in
    let commits = c.commit-outcome.ensures.commits in
    let mid = c.commit-outcome.new.ledger in
    let new = c.receive_second.new.ledger in
    let home = c.receive_second.new.home in
    record {
      result = c.commit-outcome.result;
      said = c.outcome_answer.ensures;
      cause = c.commit-outcome.ensures.cause;
      mid = mid;
      positions = commits.after;
      commits = commits.changes;
      receives = subst (λ (h : RegionParts g.row.S.Denot). ReceivesSecond cache_of h home mid new c.args.now (Rattle.farm_steps.specs.EditSteps.second_purge_in c.commit-outcome.result)) commits.rest
          (subst (λ (o : Option Issued). ReceivesSecond cache_of c.commit-outcome.new.self home mid new c.args.now o) c.second_purge.ensures c.receive_second.ensures);
    }
