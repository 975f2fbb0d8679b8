use Rattle.std.proofs.Common.{arith, option_map, subst}
use Rattle.wiki_model.specs.Steps.{Step}
use Rattle.wiki_model.specs.Runs.{One}
use Rattle.region_state.specs.AsModel.{answer_of, asked_of}
use Rattle.farm_core.specs.FarmParts.{FarmParts}
use Rattle.farm_core.specs.Runs.{StepsFrom}
use Rattle.farm_core.proofs.Arriving.{arrive_goes, arrive_kept}
use Rattle.farm_core.specs.RequestLife.{OpensRequest, first_point}
use Rattle.farm_core.proofs.Moving.{arrive_opens}
use Rattle.farm_core.proofs.Shapes.{same_shape, untouched}
use Rattle.farm_core.proofs.farm.Farm.arrive_now.Goals as goal

pub invariant_of-self : goal.invariant_of-self
invariant_of-self g c =
    let content = g.K.Keeper.content in
    let faults = g.K.Keeper.faults in
    let cache_of = g.S.RegionStore.cache in
    let old : FarmParts g.row.K.Denot g.row.S.Denot = record { plan = c.self.inside.plan; keeper = c.self.inside.keeper; ledger = c.self.inside.ledger; home = c.self.inside.home; west = c.self.inside.west; requests = c.self.inside.requests.entries; moments = c.self.inside.moments; last_beat = c.self.inside.last_beat } in
    let said = option_map answer_of c.arrive.result in
    arrive_kept content cache_of old c.arrive.new.requests.entries c.args.id c.args.asked said c.arrive.ensures c.self.invariant

pub returns : goal.returns
returns g c =
    let content = g.K.Keeper.content in
    let faults = g.K.Keeper.faults in
    let cache_of = g.S.RegionStore.cache in
    let old : FarmParts g.row.K.Denot g.row.S.Denot = record { plan = c.self.inside.plan; keeper = c.self.inside.keeper; ledger = c.self.inside.ledger; home = c.self.inside.home; west = c.self.inside.west; requests = c.self.inside.requests.entries; moments = c.self.inside.moments; last_beat = c.self.inside.last_beat } in
    let said = option_map answer_of c.arrive.result in
    let new : FarmParts g.row.K.Denot g.row.S.Denot = record old { requests = c.arrive.new.requests.entries } in
    subst (λ (f : FarmParts g.row.K.Denot g.row.S.Denot). StepsFrom content faults cache_of f new (Step.Arrive c.args.id (asked_of c.args.asked)) (One said) (OpensRequest c.args.id (first_point c.args.asked) said)) c.self.view_is
    (record {
      goes = arrive_goes content faults cache_of old c.arrive.new.requests.entries c.args.id c.args.asked said c.arrive.ensures;
      requests = arrive_opens old.moments c.args.id c.args.asked old.requests c.arrive.new.requests.entries said c.arrive.ensures;
      shape = same_shape old old.keeper old.ledger old.home old.west c.arrive.new.requests.entries old.last_beat (untouched old.home) (untouched old.west);
      counts = omega arith;
    })
