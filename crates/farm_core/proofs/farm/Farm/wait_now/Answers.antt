use Rattle.std.proofs.Common.{arith, option_map, subst}
use Rattle.wiki_model.specs.Steps.{Step}
use Rattle.wiki_model.specs.Runs.{One}
use Rattle.region_state.specs.AsModel.{answer_of}
use Rattle.farm_steps.specs.RequestMap.{open_at, arrived_view}
use Rattle.farm_core.specs.FarmParts.{FarmParts}
use Rattle.farm_core.specs.Runs.{StepsFrom}
use Rattle.farm_core.proofs.Waiting.{wait_goes}
use Rattle.farm_core.proofs.Keeping.{requests_kept, wait_begun}
use Rattle.farm_core.specs.RequestLife.{MovesOn, ArrivedView, WaitsAt}
use Rattle.farm_core.proofs.Moving.{wait_moves}
use Rattle.farm_core.proofs.Shapes.{same_shape, untouched}
use Rattle.farm_core.proofs.farm.Farm.wait_now.Goals as goal

pub invariant_of-self : goal.invariant_of-self
invariant_of-self g c =
    let content = g.K.Keeper.content in
    let faults = g.K.Keeper.faults in
    let cache_of = g.S.RegionStore.cache in
    let old : FarmParts g.row.K.Denot g.row.S.Denot = record { plan = c.self.inside.plan; keeper = c.self.inside.keeper; ledger = c.self.inside.ledger; home = c.self.inside.home; west = c.self.inside.west; requests = c.self.inside.requests.entries; moments = c.self.inside.moments; last_beat = c.self.inside.last_beat } in
    let said = option_map answer_of c.wait.result in
    requests_kept content cache_of old c.wait.new.requests.entries c.self.invariant
    (wait_begun old.home old.west old.moments c.args.id c.args.last old.requests c.wait.new.requests.entries said (arrived_view (open_at old.requests c.args.id)) c.wait.ensures)

pub returns : goal.returns
returns g c =
    let content = g.K.Keeper.content in
    let faults = g.K.Keeper.faults in
    let cache_of = g.S.RegionStore.cache in
    let old : FarmParts g.row.K.Denot g.row.S.Denot = record { plan = c.self.inside.plan; keeper = c.self.inside.keeper; ledger = c.self.inside.ledger; home = c.self.inside.home; west = c.self.inside.west; requests = c.self.inside.requests.entries; moments = c.self.inside.moments; last_beat = c.self.inside.last_beat } in
    let new : FarmParts g.row.K.Denot g.row.S.Denot = record old { requests = c.wait.new.requests.entries } in
    let said = option_map answer_of c.wait.result in
    subst (λ (f : FarmParts g.row.K.Denot g.row.S.Denot). StepsFrom content faults cache_of f new (Step.Wait c.args.id c.args.last) (One said) (MovesOn c.args.id ArrivedView (WaitsAt c.args.last) said)) c.self.view_is
    (record {
      goes = wait_goes content faults cache_of old c.wait.new.requests.entries c.args.id c.args.last said c.wait.ensures;
      requests = wait_moves old.home old.west old.moments c.args.id c.args.last old.requests c.wait.new.requests.entries said c.wait.ensures;
      shape = same_shape old old.keeper old.ledger old.home old.west c.wait.new.requests.entries old.last_beat (untouched old.home) (untouched old.west);
      counts = omega arith;
    })
