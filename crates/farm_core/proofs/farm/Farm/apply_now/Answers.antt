use Rattle.std.proofs.Common.{option_map, subst}
use Rattle.wiki_model.specs.Steps.{Step}
use Rattle.wiki_model.specs.Runs.{One}
use Rattle.region_state.specs.AsModel.{answer_of}
use Rattle.farm_core.specs.FarmParts.{FarmParts}
use Rattle.farm_core.specs.Runs.{StepsFrom}
use Rattle.farm_core.proofs.Applying.{apply_goes, apply_kept}
use Rattle.farm_core.specs.RequestLife.{LeavesRequests}
use Rattle.farm_core.proofs.Shapes.{apply_counts, same_shape, apply_shape}
use Rattle.std.proofs.Common.{refl}
use Rattle.farm_core.proofs.farm.Farm.apply_now.Goals as goal

pub invariant_of-self : goal.invariant_of-self
invariant_of-self g c =
    let content = g.K.Keeper.content in
    let cache_of = g.S.RegionStore.cache in
    let old : FarmParts g.row.K.Denot g.row.S.Denot = record { plan = c.self.inside.plan; keeper = c.self.inside.keeper; ledger = c.self.inside.ledger; home = c.self.inside.home; west = c.self.inside.west; requests = c.self.inside.requests.entries; moments = c.self.inside.moments; last_beat = c.self.inside.last_beat } in
    apply_kept content g.K.Keeper.faults cache_of old c.apply.new.keeper c.apply.new.home c.apply.new.west c.args.region c.args.replica c.args.count (option_map answer_of c.apply.result) c.apply.ensures c.self.invariant

pub returns : goal.returns
returns g c =
    let content = g.K.Keeper.content in
    let faults = g.K.Keeper.faults in
    let cache_of = g.S.RegionStore.cache in
    let old : FarmParts g.row.K.Denot g.row.S.Denot = record { plan = c.self.inside.plan; keeper = c.self.inside.keeper; ledger = c.self.inside.ledger; home = c.self.inside.home; west = c.self.inside.west; requests = c.self.inside.requests.entries; moments = c.self.inside.moments; last_beat = c.self.inside.last_beat } in
    let new : FarmParts g.row.K.Denot g.row.S.Denot = record old { keeper = c.apply.new.keeper; home = c.apply.new.home; west = c.apply.new.west } in
    let said = option_map answer_of c.apply.result in
    let step = Step.Apply c.args.region c.args.replica c.args.count in
    subst (λ (f : FarmParts g.row.K.Denot g.row.S.Denot). StepsFrom content faults cache_of f new step (One said) LeavesRequests) c.self.view_is
    (record {
      goes = apply_goes content faults cache_of old c.apply.new.keeper c.apply.new.home c.apply.new.west c.args.region c.args.replica c.args.count said c.apply.ensures;
      requests = refl;
      shape = (let s = apply_shape (content old.keeper) (content c.apply.new.keeper) (faults old.keeper) (faults c.apply.new.keeper) old.home old.west c.apply.new.home c.apply.new.west c.args.region c.args.replica c.args.count said c.apply.ensures in same_shape old c.apply.new.keeper old.ledger c.apply.new.home c.apply.new.west old.requests old.last_beat s.0 s.1);
      counts = apply_counts (content old.keeper) (content c.apply.new.keeper) (faults old.keeper) (faults c.apply.new.keeper) old.home old.west c.apply.new.home c.apply.new.west c.args.region c.args.replica c.args.count said c.apply.ensures;
    })
