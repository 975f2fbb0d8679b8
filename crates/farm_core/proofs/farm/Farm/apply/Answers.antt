use Rattle.std.proofs.Common.{option_map, subst}
use Rattle.wiki_model.specs.Steps.{Step}
use Rattle.wiki_model.specs.Runs.{One}
use Rattle.region_state.specs.AsModel.{answer_of}
use Rattle.farm_core.specs.FarmParts.{FarmParts}
use Rattle.farm_core.specs.Runs.{StepsFrom}
use Rattle.farm_core.proofs.Going.{steps_on}
use Rattle.farm_core.specs.RequestLife.{LeavesRequests}
use Rattle.farm_core.proofs.farm.Farm.apply.Goals as goal

pub returns : goal.returns
returns g c =
    let content = g.K.Keeper.content in
    let faults = g.K.Keeper.faults in
    let cache_of = g.S.RegionStore.cache in
    let said = option_map answer_of c.apply_now.result in
    let new = c.apply_now.new.self in
    let step = Step.Apply c.args.region c.args.replica c.args.count in
    steps_on content faults cache_of c.args.self.now new c.args.at step (One said) LeavesRequests
    (subst (λ (f : FarmParts g.row.K.Denot g.row.S.Denot). StepsFrom content faults cache_of f new step (One said) LeavesRequests) c.advance.ensures c.apply_now.ensures)
