use Rattle.std.proofs.Common.{arith, None, sym, subst}
use Rattle.wiki_model.specs.Steps.{Step}
use Rattle.wiki_model.specs.Runs.{One}
use Rattle.farm_steps.specs.RequestMap.{open_at, waited_view}
use Rattle.farm_core.specs.FarmParts.{FarmParts}
use Rattle.farm_core.specs.Runs.{StepsFrom}
use Rattle.farm_core.proofs.Dropping.{need_goes, need_begun}
use Rattle.farm_core.proofs.Keeping.{requests_kept}
use Rattle.farm_core.specs.RequestLife.{ClosesWaited}
use Rattle.farm_core.proofs.Moving.{need_closes}
use Rattle.farm_core.proofs.Shapes.{same_shape, untouched}
use Rattle.farm_core.proofs.farm.Farm.need_now.Goals as goal

pub invariant_of-self : goal.invariant_of-self
invariant_of-self g c =
    let content = g.K.Keeper.content in
    let cache_of = g.S.RegionStore.cache in
    let old : FarmParts g.row.K.Denot g.row.S.Denot = record { plan = c.self.inside.plan; keeper = c.self.inside.keeper; ledger = c.self.inside.ledger; home = c.self.inside.home; west = c.self.inside.west; requests = c.self.inside.requests.entries; moments = c.self.inside.moments; last_beat = c.self.inside.last_beat } in
    requests_kept content cache_of old c.need.new.requests.entries c.self.invariant (need_begun c.args.id old.requests c.need.new.requests.entries (waited_view (open_at old.requests c.args.id)) c.need.ensures.does)

pub returns : goal.returns
returns g c =
    let content = g.K.Keeper.content in
    let faults = g.K.Keeper.faults in
    let cache_of = g.S.RegionStore.cache in
    let old : FarmParts g.row.K.Denot g.row.S.Denot = record { plan = c.self.inside.plan; keeper = c.self.inside.keeper; ledger = c.self.inside.ledger; home = c.self.inside.home; west = c.self.inside.west; requests = c.self.inside.requests.entries; moments = c.self.inside.moments; last_beat = c.self.inside.last_beat } in
    let new : FarmParts g.row.K.Denot g.row.S.Denot = record old { requests = c.need.new.requests.entries } in
    subst (λ (f : FarmParts g.row.K.Denot g.row.S.Denot). StepsFrom content faults cache_of f new (Step.Need c.args.id) (One None) (ClosesWaited c.args.id c.need.result)) c.self.view_is
    (record {
      goes = need_goes content faults cache_of old c.need.new.requests.entries c.args.id c.need.ensures.does;
      requests = subst (λ n. ClosesWaited c.args.id n old.requests c.need.new.requests.entries) (sym c.need.ensures.need) (need_closes c.args.id old.requests c.need.new.requests.entries c.need.ensures.does);
      shape = same_shape old old.keeper old.ledger old.home old.west c.need.new.requests.entries old.last_beat (untouched old.home) (untouched old.west);
      counts = omega arith;
    })
