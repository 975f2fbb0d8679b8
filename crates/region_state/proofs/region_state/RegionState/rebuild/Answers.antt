use Rattle.std.proofs.Common.{◌≡◌, List}
use Rattle.wiki_model.specs.History.{Numbered}
use Rattle.wiki_model.specs.Positions.{told_all}
use Rattle.chronology_store.specs.ChronologyStore.{TellsPrefix}
use Rattle.chronology_store.specs.AsModel.{rows_in}
use Rattle.region_state.specs.YoungCommits.{commits_of}
use Rattle.region_state.proofs.ChangingParts.{positions_if_ok, positions_if_err}
use Rattle.region_state.proofs.TellingCommits.{tells_if_ok}
use Rattle.region_state.proofs.region_state.RegionState.rebuild.Goals as goal

pub returns-clause-ok : goal.returns-clause-ok
returns-clause-ok g c =
    let commits = c.args.commits.now in
    positions_if_ok c.rebuild.result _ _ c.rebuild.new.self (λ old new. (ns : List Numbered) → commits ≡ commits_of ns → rows_in new ≡ told_all ns (rows_in old))
    c.self.view_is (tells_if_ok c.rebuild.result commits c.self.inside.positions c.rebuild.new.self c.rebuild.ensures.ok)

pub returns-clause-err : goal.returns-clause-err
returns-clause-err g c = positions_if_err c.rebuild.result _ _ c.rebuild.new.self (TellsPrefix c.args.commits.now) c.self.view_is c.rebuild.ensures.err
