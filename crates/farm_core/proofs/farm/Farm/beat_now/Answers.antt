use Rattle.std.proofs.Common.{option_map, refl, subst}
use Rattle.wiki_model.specs.Steps.{Step}
use Rattle.wiki_model.specs.Runs.{One}
use Rattle.region_state.specs.AsModel.{answer_of}
use Rattle.farm_core.specs.FarmParts.{FarmParts}
use Rattle.farm_core.specs.Runs.{StepsFrom}
use Rattle.farm_core.proofs.Beats.{beat_goes}
use Rattle.farm_core.specs.RequestLife.{LeavesRequests}
use Rattle.farm_core.proofs.Shapes.{beat_counts, same_shape, untouched}
use Rattle.farm_core.proofs.farm.Farm.beat_now.Goals as goal

pub returns : goal.returns
returns g c =
    let content = g.K.Keeper.content in
    let faults = g.K.Keeper.faults in
    let cache_of = g.S.RegionStore.cache in
    let old : FarmParts g.row.K.Denot g.row.S.Denot = record { plan = c.self.inside.plan; keeper = c.self.inside.keeper; ledger = c.self.inside.ledger; home = c.self.inside.home; west = c.self.inside.west; requests = c.self.inside.requests.entries; moments = c.self.inside.moments; last_beat = c.self.inside.last_beat } in
    let new : FarmParts g.row.K.Denot g.row.S.Denot = record old { keeper = c.append_beat.new.keeper; last_beat = c.append_beat.new.last_beat } in
    let said = option_map answer_of c.append_beat.result in
    subst (λ (f : FarmParts g.row.K.Denot g.row.S.Denot). StepsFrom content faults cache_of f new Step.MakeBeat (One said) LeavesRequests) c.self.view_is
    (record {
      goes = beat_goes content faults cache_of old c.append_beat.new.keeper c.append_beat.new.last_beat said c.append_beat.ensures;
      requests = refl;
      shape = same_shape old c.append_beat.new.keeper old.ledger old.home old.west old.requests c.append_beat.new.last_beat (untouched old.home) (untouched old.west);
      counts = beat_counts (content old.keeper) (content c.append_beat.new.keeper) (faults old.keeper) (faults c.append_beat.new.keeper) old.last_beat c.append_beat.new.last_beat old.moments.home said c.append_beat.ensures;
    })
