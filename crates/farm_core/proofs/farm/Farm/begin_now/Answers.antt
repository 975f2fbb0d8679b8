use Rattle.std.proofs.Common.{option_map, subst}
use Rattle.wiki_model.specs.Steps.{Step}
use Rattle.wiki_model.specs.Runs.{One}
use Rattle.region_state.specs.AsModel.{answer_of}
use Rattle.farm_steps.specs.RequestMap.{open_at, arrived_edit}
use Rattle.farm_core.specs.FarmParts.{FarmParts}
use Rattle.farm_steps.specs.EditSteps.{BeginsTo}
use Rattle.farm_core.specs.Runs.{StepsFrom}
use Rattle.farm_core.proofs.Beginning.{begin_goes}
use Rattle.farm_core.proofs.EditsKept.{begin_kept}
use Rattle.farm_core.specs.RequestLife.{MovesOn, ArrivedEdit, BeginsAt}
use Rattle.farm_core.proofs.Moving.{begin_moves}
use Rattle.farm_core.proofs.Shapes.{begin_counts, same_shape, untouched, begin_shape}
use Rattle.farm_core.proofs.farm.Farm.begin_now.Goals as goal

pub invariant_of-self : goal.invariant_of-self
invariant_of-self g c =
    let content = g.K.Keeper.content in
    let cache_of = g.S.RegionStore.cache in
    let old : FarmParts g.row.K.Denot g.row.S.Denot = record { plan = c.self.inside.plan; keeper = c.self.inside.keeper; ledger = c.self.inside.ledger; home = c.self.inside.home; west = c.self.inside.west; requests = c.self.inside.requests.entries; moments = c.self.inside.moments; last_beat = c.self.inside.last_beat } in
    begin_kept content g.K.Keeper.faults cache_of old c.begin.new.keeper c.begin.new.ledger c.begin.new.home c.begin.new.requests.entries c.args.id (option_map answer_of c.begin.result) (arrived_edit (open_at old.requests c.args.id)) (subst (λ d. BeginsTo cache_of (content old.keeper) (content c.begin.new.keeper) (g.K.Keeper.faults old.keeper) (g.K.Keeper.faults c.begin.new.keeper) old.home c.begin.new.home old.ledger c.begin.new.ledger old.moments.home d c.args.id old.requests c.begin.new.requests.entries (option_map answer_of c.begin.result) (arrived_edit (open_at old.requests c.args.id))) c.commit_delay.ensures c.begin.ensures) c.self.invariant

pub returns : goal.returns
returns g c =
    let content = g.K.Keeper.content in
    let faults = g.K.Keeper.faults in
    let cache_of = g.S.RegionStore.cache in
    let old : FarmParts g.row.K.Denot g.row.S.Denot = record { plan = c.self.inside.plan; keeper = c.self.inside.keeper; ledger = c.self.inside.ledger; home = c.self.inside.home; west = c.self.inside.west; requests = c.self.inside.requests.entries; moments = c.self.inside.moments; last_beat = c.self.inside.last_beat } in
    let new : FarmParts g.row.K.Denot g.row.S.Denot = record old { keeper = c.begin.new.keeper; ledger = c.begin.new.ledger; home = c.begin.new.home; requests = c.begin.new.requests.entries } in
    let said = option_map answer_of c.begin.result in
    subst (λ (f : FarmParts g.row.K.Denot g.row.S.Denot). StepsFrom content faults cache_of f new (Step.Begin c.args.id) (One said) (MovesOn c.args.id ArrivedEdit BeginsAt said)) c.self.view_is
    (record {
      goes = begin_goes content faults cache_of old c.begin.new.keeper c.begin.new.ledger c.begin.new.home c.begin.new.requests.entries c.args.id said (subst (λ d. BeginsTo cache_of (content old.keeper) (content c.begin.new.keeper) (g.K.Keeper.faults old.keeper) (g.K.Keeper.faults c.begin.new.keeper) old.home c.begin.new.home old.ledger c.begin.new.ledger old.moments.home d c.args.id old.requests c.begin.new.requests.entries (option_map answer_of c.begin.result) (arrived_edit (open_at old.requests c.args.id))) c.commit_delay.ensures c.begin.ensures);
      requests = begin_moves cache_of (content old.keeper) (content c.begin.new.keeper) (faults old.keeper) (faults c.begin.new.keeper) old.home c.begin.new.home old.ledger c.begin.new.ledger old.moments.home c.commit_delay.result c.args.id old.requests c.begin.new.requests.entries said c.begin.ensures;
      shape = same_shape old c.begin.new.keeper c.begin.new.ledger c.begin.new.home old.west c.begin.new.requests.entries old.last_beat (begin_shape cache_of (content old.keeper) (content c.begin.new.keeper) (faults old.keeper) (faults c.begin.new.keeper) old.home c.begin.new.home old.ledger c.begin.new.ledger old.moments.home c.commit_delay.result c.args.id old.requests c.begin.new.requests.entries said (arrived_edit (open_at old.requests c.args.id)) c.begin.ensures) (untouched old.west);
      counts = begin_counts cache_of (content old.keeper) (content c.begin.new.keeper) (faults old.keeper) (faults c.begin.new.keeper) old.home c.begin.new.home old.ledger c.begin.new.ledger old.moments.home c.commit_delay.result c.args.id old.requests c.begin.new.requests.entries said (arrived_edit (open_at old.requests c.args.id)) c.begin.ensures;
    })
