use Rattle.std.proofs.Common.{arith, option_map, subst}
use Rattle.wiki_model.specs.Steps.{Step}
use Rattle.wiki_model.specs.Runs.{One}
use Rattle.region_state.specs.AsModel.{answer_of}
use Rattle.farm_steps.specs.RequestMap.{open_at, looked_view}
use Rattle.farm_core.specs.FarmParts.{FarmParts}
use Rattle.farm_core.specs.Runs.{StepsFrom}
use Rattle.farm_core.proofs.Snapping.{snap_goes, snap_begun}
use Rattle.farm_core.proofs.Keeping.{requests_kept}
use Rattle.farm_core.specs.RequestLife.{MovesOn, LookedView, SnapsAt}
use Rattle.farm_core.proofs.Moving.{snap_moves}
use Rattle.farm_core.proofs.Shapes.{same_shape, untouched}
use Rattle.farm_core.proofs.farm.Farm.snap_now.Goals as goal

pub invariant_of-self : goal.invariant_of-self
invariant_of-self g c =
    let content = g.K.Keeper.content in
    let cache_of = g.S.RegionStore.cache in
    let old : FarmParts g.row.K.Denot g.row.S.Denot = record { plan = c.self.inside.plan; keeper = c.self.inside.keeper; ledger = c.self.inside.ledger; home = c.self.inside.home; west = c.self.inside.west; requests = c.self.inside.requests.entries; moments = c.self.inside.moments; last_beat = c.self.inside.last_beat } in
    let said = option_map answer_of c.snap.result in
    requests_kept content cache_of old c.snap.new.requests.entries c.self.invariant
    (snap_begun old.home old.west old.moments c.args.id old.requests c.snap.new.requests.entries said (looked_view (open_at old.requests c.args.id)) c.snap.ensures)

pub returns : goal.returns
returns g c =
    let content = g.K.Keeper.content in
    let faults = g.K.Keeper.faults in
    let cache_of = g.S.RegionStore.cache in
    let old : FarmParts g.row.K.Denot g.row.S.Denot = record { plan = c.self.inside.plan; keeper = c.self.inside.keeper; ledger = c.self.inside.ledger; home = c.self.inside.home; west = c.self.inside.west; requests = c.self.inside.requests.entries; moments = c.self.inside.moments; last_beat = c.self.inside.last_beat } in
    let new : FarmParts g.row.K.Denot g.row.S.Denot = record old { requests = c.snap.new.requests.entries } in
    let said = option_map answer_of c.snap.result in
    subst (λ (f : FarmParts g.row.K.Denot g.row.S.Denot). StepsFrom content faults cache_of f new (Step.Snap c.args.id) (One said) (MovesOn c.args.id LookedView SnapsAt said)) c.self.view_is
    (record {
      goes = snap_goes content faults cache_of old c.snap.new.requests.entries c.args.id said c.snap.ensures;
      requests = snap_moves old.home old.west old.moments c.args.id old.requests c.snap.new.requests.entries said c.snap.ensures;
      shape = same_shape old old.keeper old.ledger old.home old.west c.snap.new.requests.entries old.last_beat (untouched old.home) (untouched old.west);
      counts = omega arith;
    })
