use Rattle.std.proofs.Common.{arith, None, sym, subst}
use Rattle.wiki_model.specs.Steps.{Step}
use Rattle.wiki_model.specs.Runs.{One}
use Rattle.farm_core.specs.FarmParts.{FarmParts}
use Rattle.region_state.specs.RegionState.{RegionParts}
use Rattle.farm_core.specs.Runs.{StepsFrom}
use Rattle.farm_core.proofs.Marking.{markup_goes}
use Rattle.farm_core.specs.RequestLife.{LeavesRequests}
use Rattle.farm_core.proofs.Shapes.{same_shape, turned}
use Rattle.std.proofs.Common.{refl}
use Rattle.farm_core.proofs.farm.Farm.set_markup_now.Goals as goal

pub returns : goal.returns
returns g c =
    let content = g.K.Keeper.content in
    let faults = g.K.Keeper.faults in
    let cache_of = g.S.RegionStore.cache in
    let old : FarmParts g.row.K.Denot g.row.S.Denot = record { plan = c.self.inside.plan; keeper = c.self.inside.keeper; ledger = c.self.inside.ledger; home = c.self.inside.home; west = c.self.inside.west; requests = c.self.inside.requests.entries; moments = c.self.inside.moments; last_beat = c.self.inside.last_beat } in
    let step = Step.SetMarkup c.args.markup in
    let west : RegionParts g.row.S.Denot = record old.west { markup = c.args.markup } in
    let one = subst (λ (h : RegionParts g.row.S.Denot). StepsFrom content faults cache_of old (record old { home = h; west = west }) step (One None) LeavesRequests) (sym c.set_markup.ensures) (record { goes = markup_goes content faults cache_of old c.args.markup; requests = refl; shape = same_shape old old.keeper old.ledger (record old.home { markup = c.args.markup }) (record old.west { markup = c.args.markup }) old.requests old.last_beat (turned old.home c.args.markup) (turned old.west c.args.markup); counts = omega arith }) in
    let two = subst (λ (x : RegionParts g.row.S.Denot). StepsFrom content faults cache_of old (record old { home = c.set_markup.new.self; west = x }) step (One None) LeavesRequests) (sym c.set_markup-2.ensures) one in
    subst (λ (f : FarmParts g.row.K.Denot g.row.S.Denot). StepsFrom content faults cache_of f (record old { home = c.set_markup.new.self; west = c.set_markup-2.new.self }) step (One None) LeavesRequests) c.self.view_is two
