use Rattle.std.proofs.Common.{arith, Some, subst}
use Rattle.wiki_model.specs.Steps.{Step}
use Rattle.wiki_model.specs.Runs.{One}
use Rattle.region_state.specs.AsModel.{answer_of}
use Rattle.farm_steps.specs.RequestMap.{open_at, snapped_view}
use Rattle.farm_core.specs.FarmParts.{FarmParts}
use Rattle.farm_core.specs.Runs.{StepsFrom}
use Rattle.farm_core.proofs.Storing.{store_goes}
use Rattle.farm_core.proofs.Keeping.{store_kept}
use Rattle.farm_core.specs.RequestLife.{MovesOn, SnappedView, StoresFrom}
use Rattle.farm_core.proofs.Moving.{store_moves}
use Rattle.farm_core.proofs.Shapes.{same_shape, store_shape}
use Rattle.farm_core.proofs.farm.Farm.store_now.Goals as goal

pub invariant_of-self : goal.invariant_of-self
invariant_of-self g c =
    let content = g.K.Keeper.content in
    let faults = g.K.Keeper.faults in
    let cache_of = g.S.RegionStore.cache in
    let old : FarmParts g.row.K.Denot g.row.S.Denot = record { plan = c.self.inside.plan; keeper = c.self.inside.keeper; ledger = c.self.inside.ledger; home = c.self.inside.home; west = c.self.inside.west; requests = c.self.inside.requests.entries; moments = c.self.inside.moments; last_beat = c.self.inside.last_beat } in
    store_kept content cache_of old c.store.new.home c.store.new.west c.store.new.requests.entries c.args.id (answer_of c.store.result) (snapped_view (open_at old.requests c.args.id)) c.store.ensures c.self.invariant

pub returns : goal.returns
returns g c =
    let content = g.K.Keeper.content in
    let faults = g.K.Keeper.faults in
    let cache_of = g.S.RegionStore.cache in
    let old : FarmParts g.row.K.Denot g.row.S.Denot = record { plan = c.self.inside.plan; keeper = c.self.inside.keeper; ledger = c.self.inside.ledger; home = c.self.inside.home; west = c.self.inside.west; requests = c.self.inside.requests.entries; moments = c.self.inside.moments; last_beat = c.self.inside.last_beat } in
    let new : FarmParts g.row.K.Denot g.row.S.Denot = record old { home = c.store.new.home; west = c.store.new.west; requests = c.store.new.requests.entries } in
    let said = answer_of c.store.result in
    subst (λ (f : FarmParts g.row.K.Denot g.row.S.Denot). StepsFrom content faults cache_of f new (Step.Store c.args.id) (One (Some said)) (MovesOn c.args.id SnappedView StoresFrom (Some said))) c.self.view_is
    (record {
      goes = store_goes content faults cache_of old c.store.new.home c.store.new.west c.store.new.requests.entries c.args.id said c.store.ensures;
      requests = store_moves cache_of old.home old.west c.store.new.home c.store.new.west old.moments c.args.id old.requests c.store.new.requests.entries said c.store.ensures;
      shape = (let s = store_shape cache_of old.home old.west c.store.new.home c.store.new.west old.moments c.args.id old.requests c.store.new.requests.entries said (snapped_view (open_at old.requests c.args.id)) c.store.ensures in same_shape old old.keeper old.ledger c.store.new.home c.store.new.west c.store.new.requests.entries old.last_beat s.0 s.1);
      counts = omega arith;
    })
