use Rattle.std.proofs.Common.{arith, option_map, sym, subst}
use Rattle.wiki_model.specs.Steps.{Step}
use Rattle.wiki_model.specs.Runs.{One}
use Rattle.region_state.specs.AsModel.{answer_of}
use Rattle.farm_steps.specs.RequestMap.{open_at, waited_view}
use Rattle.farm_core.specs.FarmParts.{FarmParts, IsWhole}
use Rattle.farm_core.specs.Runs.{StepsFrom}
use Rattle.farm_core.proofs.Looking.{look_goes}
use Rattle.farm_core.proofs.Keeping.{requests_kept, look_begun, whole_there}
use Rattle.farm_core.specs.RequestLife.{MovesOn, WaitedView, LooksFrom}
use Rattle.farm_core.proofs.Moving.{look_moves}
use Rattle.farm_core.proofs.Shapes.{same_shape, untouched}
use Rattle.farm_core.proofs.farm.Farm.look_now.Goals as goal

pub invariant_of-self : goal.invariant_of-self
invariant_of-self g c =
    let content = g.K.Keeper.content in
    let faults = g.K.Keeper.faults in
    let cache_of = g.S.RegionStore.cache in
    let old : FarmParts g.row.K.Denot g.row.S.Denot = record { plan = c.self.inside.plan; keeper = c.self.inside.keeper; ledger = c.self.inside.ledger; home = c.self.inside.home; west = c.self.inside.west; requests = c.self.inside.requests.entries; moments = c.self.inside.moments; last_beat = c.self.inside.last_beat } in
    let said = option_map answer_of c.look.result in
    let whole = subst (λ (f : FarmParts g.row.K.Denot g.row.S.Denot). IsWhole f) (sym c.self.view_is) c.requires in
    requests_kept content cache_of old c.look.new.requests.entries c.self.invariant
    (look_begun cache_of old.home old.west old.moments c.args.id old.requests c.look.new.requests.entries said (waited_view (open_at old.requests c.args.id)) (whole_there old whole) c.look.ensures)

pub returns : goal.returns
returns g c =
    let content = g.K.Keeper.content in
    let faults = g.K.Keeper.faults in
    let cache_of = g.S.RegionStore.cache in
    let old : FarmParts g.row.K.Denot g.row.S.Denot = record { plan = c.self.inside.plan; keeper = c.self.inside.keeper; ledger = c.self.inside.ledger; home = c.self.inside.home; west = c.self.inside.west; requests = c.self.inside.requests.entries; moments = c.self.inside.moments; last_beat = c.self.inside.last_beat } in
    let new : FarmParts g.row.K.Denot g.row.S.Denot = record old { requests = c.look.new.requests.entries } in
    let said = option_map answer_of c.look.result in
    subst (λ (f : FarmParts g.row.K.Denot g.row.S.Denot). StepsFrom content faults cache_of f new (Step.Look c.args.id) (One said) (MovesOn c.args.id WaitedView LooksFrom said)) c.self.view_is
    (record {
      goes = look_goes content faults cache_of old c.look.new.requests.entries c.args.id said c.look.ensures;
      requests = look_moves cache_of old.home old.west old.moments c.args.id old.requests c.look.new.requests.entries said (whole_there old (subst (λ (f : FarmParts g.row.K.Denot g.row.S.Denot). IsWhole f) (sym c.self.view_is) c.requires)) c.look.ensures;
      shape = same_shape old old.keeper old.ledger old.home old.west c.look.new.requests.entries old.last_beat (untouched old.home) (untouched old.west);
      counts = omega arith;
    })
