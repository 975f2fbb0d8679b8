use Rattle.std.proofs.Common.{option_map, subst}
use Rattle.wiki_model.specs.Steps.{Step}
use Rattle.wiki_model.specs.Runs.{One}
use Rattle.region_state.specs.AsModel.{answer_of}
use Rattle.farm_core.specs.FarmParts.{FarmParts}
use Rattle.farm_core.specs.Runs.{StepsFrom, advanced}
use Rattle.farm_core.proofs.Sweeping.{steps_then}
use Rattle.farm_core.proofs.Going.{steps_on}
use Rattle.farm_core.specs.RequestLife.{MovesOn, ArrivedEdit, BeginsAt}
use Rattle.farm_core.proofs.farm.Farm.begin.Goals as goal

pub returns : goal.returns
returns g c =
    let content = g.K.Keeper.content in
    let faults = g.K.Keeper.faults in
    let cache_of = g.S.RegionStore.cache in
    let said = option_map answer_of c.begin_now-answer.result in
    let mid = c.begin_now-answer.new.self in
    let new = c.sweep_home.new.self in
    steps_on content faults cache_of c.args.self.now new c.args.at (Step.Begin c.args.id) (One said) (MovesOn c.args.id ArrivedEdit BeginsAt said)
    (steps_then content faults cache_of (advanced c.args.at c.args.self.now) mid new (Step.Begin c.args.id) (One said) (MovesOn c.args.id ArrivedEdit BeginsAt said)
    (subst (λ (f : FarmParts g.row.K.Denot g.row.S.Denot). StepsFrom content faults cache_of f mid (Step.Begin c.args.id) (One said) (MovesOn c.args.id ArrivedEdit BeginsAt said)) c.advance.ensures c.begin_now-answer.ensures) c.sweep_home.ensures)
