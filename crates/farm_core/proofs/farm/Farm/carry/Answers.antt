use Rattle.std.proofs.Common.{option_map, subst}
use Rattle.std.specs.Option.{option_copied}
use Rattle.wiki_model.specs.Steps.{Step}
use Rattle.wiki_model.specs.Runs.{One}
use Rattle.purge_relay.specs.AsModel.{body_of}
use Rattle.region_state.specs.AsModel.{answer_of}
use Rattle.farm_core.specs.FarmParts.{FarmParts}
use Rattle.farm_core.specs.Runs.{StepsFrom, advanced}
use Rattle.farm_core.proofs.Sweeping.{steps_then}
use Rattle.farm_core.proofs.Going.{steps_on}
use Rattle.farm_core.specs.RequestLife.{LeavesRequests}
use Rattle.farm_core.proofs.farm.Farm.carry.Goals as goal

pub returns : goal.returns
returns g c =
    let content = g.K.Keeper.content in
    let faults = g.K.Keeper.faults in
    let cache_of = g.S.RegionStore.cache in
    let said = option_map answer_of c.carry_now-answer.result in
    let mid = c.carry_now-answer.new.self in
    let new = c.sweep_west.new.self in
    let step = Step.Carry c.args.number (option_map body_of (option_copied c.args.shown)) in
    steps_on content faults cache_of c.args.self.now new c.args.at step (One said) LeavesRequests
    (steps_then content faults cache_of (advanced c.args.at c.args.self.now) mid new step (One said) LeavesRequests
    (subst (λ (f : FarmParts g.row.K.Denot g.row.S.Denot). StepsFrom content faults cache_of f mid step (One said) LeavesRequests) c.advance.ensures c.carry_now-answer.ensures) c.sweep_west.ensures)
