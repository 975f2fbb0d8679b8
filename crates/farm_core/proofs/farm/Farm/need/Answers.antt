use Rattle.std.proofs.Common.{None, subst}
use Rattle.wiki_model.specs.Steps.{Step}
use Rattle.wiki_model.specs.Runs.{One}
use Rattle.farm_core.specs.FarmParts.{FarmParts}
use Rattle.farm_core.specs.Runs.{StepsFrom}
use Rattle.farm_core.proofs.Going.{steps_on}
use Rattle.farm_core.specs.RequestLife.{ClosesWaited}
use Rattle.farm_core.proofs.farm.Farm.need.Goals as goal

pub returns : goal.returns
returns g c =
    let content = g.K.Keeper.content in
    let faults = g.K.Keeper.faults in
    let cache_of = g.S.RegionStore.cache in
    let said = None in
    let new = c.need_now.new.self in
    steps_on content faults cache_of c.args.self.now new c.args.at (Step.Need c.args.id) (One said) (ClosesWaited c.args.id c.need_now.result)
    (subst (λ (f : FarmParts g.row.K.Denot g.row.S.Denot). StepsFrom content faults cache_of f new (Step.Need c.args.id) (One said) (ClosesWaited c.args.id c.need_now.result)) c.advance.ensures c.need_now.ensures)
