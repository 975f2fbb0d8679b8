use Rattle.std.proofs.Common.{Some, subst}
use Rattle.wiki_model.specs.Steps.{Step}
use Rattle.wiki_model.specs.Runs.{One}
use Rattle.region_state.specs.AsModel.{answer_of}
use Rattle.farm_core.specs.FarmParts.{FarmParts}
use Rattle.farm_core.specs.Runs.{StepsFrom}
use Rattle.farm_core.proofs.Going.{steps_on}
use Rattle.farm_core.specs.RequestLife.{MovesOn, BegunEdit, CommitsAt}
use Rattle.farm_core.proofs.farm.Farm.commit.Goals as goal

pub returns : goal.returns
returns g c =
    let content = g.K.Keeper.content in
    let faults = g.K.Keeper.faults in
    let cache_of = g.S.RegionStore.cache in
    let said = Some (answer_of c.commit_now.result) in
    let new = c.commit_now.new.self in
    steps_on content faults cache_of c.args.self.now new c.args.at (Step.CommitEdit c.args.id) (One said) (MovesOn c.args.id BegunEdit CommitsAt said)
    (subst (λ (f : FarmParts g.row.K.Denot g.row.S.Denot). StepsFrom content faults cache_of f new (Step.CommitEdit c.args.id) (One said) (MovesOn c.args.id BegunEdit CommitsAt said)) c.advance.ensures c.commit_now.ensures)
