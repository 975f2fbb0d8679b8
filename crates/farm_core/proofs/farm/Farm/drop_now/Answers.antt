use Rattle.std.proofs.Common.{arith, refl, option_map, subst}
use Rattle.wiki_model.specs.Steps.{Step}
use Rattle.wiki_model.specs.Runs.{One}
use Rattle.purge_relay.specs.Ledger.{row_at}
use Rattle.region_state.specs.AsModel.{answer_of}
use Rattle.farm_core.specs.FarmParts.{FarmParts}
use Rattle.farm_core.specs.Runs.{StepsFrom}
use Rattle.farm_core.proofs.Dropping.{drop_goes, drop_kept}
use Rattle.farm_core.specs.RequestLife.{LeavesRequests}
use Rattle.farm_core.proofs.Shapes.{same_shape, untouched}
use Rattle.farm_core.proofs.farm.Farm.drop_now.Goals as goal

pub invariant_of-self : goal.invariant_of-self
invariant_of-self g c =
    let content = g.K.Keeper.content in
    let cache_of = g.S.RegionStore.cache in
    let old : FarmParts g.row.K.Denot g.row.S.Denot = record { plan = c.self.inside.plan; keeper = c.self.inside.keeper; ledger = c.self.inside.ledger; home = c.self.inside.home; west = c.self.inside.west; requests = c.self.inside.requests.entries; moments = c.self.inside.moments; last_beat = c.self.inside.last_beat } in
    drop_kept content cache_of old c.drop_message.new.ledger c.args.number (option_map answer_of c.drop_message.result) (row_at old.ledger.rows c.args.number) refl c.drop_message.ensures c.self.invariant

pub returns : goal.returns
returns g c =
    let content = g.K.Keeper.content in
    let faults = g.K.Keeper.faults in
    let cache_of = g.S.RegionStore.cache in
    let old : FarmParts g.row.K.Denot g.row.S.Denot = record { plan = c.self.inside.plan; keeper = c.self.inside.keeper; ledger = c.self.inside.ledger; home = c.self.inside.home; west = c.self.inside.west; requests = c.self.inside.requests.entries; moments = c.self.inside.moments; last_beat = c.self.inside.last_beat } in
    let new : FarmParts g.row.K.Denot g.row.S.Denot = record old { ledger = c.drop_message.new.ledger } in
    let said = option_map answer_of c.drop_message.result in
    subst (λ (f : FarmParts g.row.K.Denot g.row.S.Denot). StepsFrom content faults cache_of f new (Step.Drop c.args.number) (One said) LeavesRequests) c.self.view_is
    (record {
      goes = drop_goes content faults cache_of old c.drop_message.new.ledger c.args.number said c.drop_message.ensures;
      requests = refl;
      shape = same_shape old old.keeper c.drop_message.new.ledger old.home old.west old.requests old.last_beat (untouched old.home) (untouched old.west);
      counts = omega arith;
    })
