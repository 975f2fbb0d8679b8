use Rattle.std.proofs.Common.{arith, option_map, subst}
use Rattle.std.specs.Option.{option_copied}
use Rattle.wiki_model.specs.Steps.{Step}
use Rattle.wiki_model.specs.Runs.{One}
use Rattle.purge_relay.specs.Ledger.{row_at}
use Rattle.purge_relay.specs.AsModel.{body_of}
use Rattle.farm_steps.specs.declared.relay_steps.Carriage.{Carriage}
use Rattle.region_state.specs.AsModel.{answer_of}
use Rattle.farm_core.specs.FarmParts.{FarmParts}
use Rattle.farm_steps.specs.RelaySteps.{CarriesAs}
use Rattle.farm_core.specs.Runs.{StepsFrom}
use Rattle.farm_core.proofs.Carriages.{carries_as, carry_kept}
use Rattle.farm_core.proofs.Carrying.{carry_goes}
use Rattle.farm_core.specs.RequestLife.{LeavesRequests}
use Rattle.farm_core.proofs.Shapes.{same_shape, untouched, carry_shape}
use Rattle.std.proofs.Common.{refl}
use Rattle.farm_core.proofs.farm.Farm.carry_now.Goals as goal

pub invariant_of-self : goal.invariant_of-self
invariant_of-self g c =
    let content = g.K.Keeper.content in
    let faults = g.K.Keeper.faults in
    let cache_of = g.S.RegionStore.cache in
    let old : FarmParts g.row.K.Denot g.row.S.Denot = record { plan = c.self.inside.plan; keeper = c.self.inside.keeper; ledger = c.self.inside.ledger; home = c.self.inside.home; west = c.self.inside.west; requests = c.self.inside.requests.entries; moments = c.self.inside.moments; last_beat = c.self.inside.last_beat } in
    let shown = option_map body_of (option_copied c.args.shown) in
    carry_kept content cache_of old c.carry.new.ledger c.carry.new.west c.args.number (option_map answer_of c.carry.result) c.find_carriage-carriage.result c.carry.ensures c.self.invariant

pub returns : goal.returns
returns g c =
    let content = g.K.Keeper.content in
    let faults = g.K.Keeper.faults in
    let cache_of = g.S.RegionStore.cache in
    let old : FarmParts g.row.K.Denot g.row.S.Denot = record { plan = c.self.inside.plan; keeper = c.self.inside.keeper; ledger = c.self.inside.ledger; home = c.self.inside.home; west = c.self.inside.west; requests = c.self.inside.requests.entries; moments = c.self.inside.moments; last_beat = c.self.inside.last_beat } in
    let shown = option_map body_of (option_copied c.args.shown) in
    let new : FarmParts g.row.K.Denot g.row.S.Denot = record old { ledger = c.carry.new.ledger; west = c.carry.new.west } in
    let said = option_map answer_of c.carry.result in
    let did = subst (λ (x : Carriage). CarriesAs cache_of old.west c.carry.new.west old.ledger c.carry.new.ledger c.args.number old.moments.west said x) c.find_carriage-carriage.ensures.value c.carry.ensures in
    subst (λ (f : FarmParts g.row.K.Denot g.row.S.Denot). StepsFrom content faults cache_of f new (Step.Carry c.args.number shown) (One said) LeavesRequests) c.self.view_is
    (record {
      goes = carry_goes content faults cache_of old c.carry.new.ledger c.carry.new.west c.args.number shown said
          (carries_as cache_of old.west c.carry.new.west old.ledger c.carry.new.ledger c.args.number old.moments.west shown said (row_at old.ledger.rows c.args.number) did);
      requests = refl;
      shape = same_shape old old.keeper c.carry.new.ledger old.home c.carry.new.west old.requests old.last_beat (untouched old.home) (carry_shape cache_of old.west c.carry.new.west old.ledger c.carry.new.ledger c.args.number old.moments.west said c.find_carriage-carriage.result c.carry.ensures);
      counts = omega arith;
    })
