use Rattle.std.proofs.Common.{None, subst}
use Rattle.wiki_model.specs.Steps.{Step}
use Rattle.wiki_model.specs.Runs.{One}
use Rattle.farm_core.specs.FarmParts.{FarmParts}
use Rattle.farm_core.specs.Runs.{StepsFrom}
use Rattle.farm_core.proofs.Going.{steps_on}
use Rattle.farm_core.specs.RequestLife.{LeavesRequests}
use Rattle.farm_core.proofs.farm.Farm.set_markup.Goals as goal

pub returns : goal.returns
returns g c =
    let content = g.K.Keeper.content in
    let faults = g.K.Keeper.faults in
    let cache_of = g.S.RegionStore.cache in
    let new = c.set_markup_now.new.self in
    steps_on content faults cache_of c.args.self.now new c.args.at (Step.SetMarkup c.args.markup) (One None) LeavesRequests
    (subst (λ (f : FarmParts g.row.K.Denot g.row.S.Denot). StepsFrom content faults cache_of f new (Step.SetMarkup c.args.markup) (One None) LeavesRequests) c.advance.ensures c.set_markup_now.ensures)
