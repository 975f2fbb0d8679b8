use Rattle.std.proofs.Common.{Some, subst}
use Rattle.wiki_model.specs.Steps.{Step}
use Rattle.wiki_model.specs.Runs.{One}
use Rattle.region_state.specs.AsModel.{answer_of}
use Rattle.farm_steps.specs.RequestMap.{open_at, begun_edit}
use Rattle.farm_core.specs.FarmParts.{FarmParts}
use Rattle.farm_core.specs.Runs.{StepsFrom}
use Rattle.farm_core.proofs.Committing.{commit_goes}
use Rattle.farm_core.proofs.EditsKept.{commit_kept, begun_reserved}
use Rattle.farm_core.specs.RequestLife.{MovesOn, BegunEdit, CommitsAt}
use Rattle.farm_core.proofs.Moving.{commit_moves}
use Rattle.farm_core.proofs.Shapes.{commit_counts, same_shape, untouched, commit_shape}
use Rattle.farm_core.proofs.farm.Farm.commit_now.Goals as goal

pub commit-requires-clause-reserved : goal.commit-requires-clause-reserved
commit-requires-clause-reserved g c =
    let content = g.K.Keeper.content in
    let cache_of = g.S.RegionStore.cache in
    let old : FarmParts g.row.K.Denot g.row.S.Denot = record { plan = c.self.inside.plan; keeper = c.self.inside.keeper; ledger = c.self.inside.ledger; home = c.self.inside.home; west = c.self.inside.west; requests = c.self.inside.requests.entries; moments = c.self.inside.moments; last_beat = c.self.inside.last_beat } in
    begun_reserved content cache_of old c.args.id c.self.invariant

pub invariant_of-self : goal.invariant_of-self
invariant_of-self g c =
    let content = g.K.Keeper.content in
    let cache_of = g.S.RegionStore.cache in
    let old : FarmParts g.row.K.Denot g.row.S.Denot = record { plan = c.self.inside.plan; keeper = c.self.inside.keeper; ledger = c.self.inside.ledger; home = c.self.inside.home; west = c.self.inside.west; requests = c.self.inside.requests.entries; moments = c.self.inside.moments; last_beat = c.self.inside.last_beat } in
    commit_kept content g.K.Keeper.faults cache_of old c.commit.new.keeper c.commit.new.ledger c.commit.new.home c.commit.new.requests.entries c.args.id (answer_of c.commit.result) (begun_edit (open_at old.requests c.args.id)) c.commit.ensures c.self.invariant

pub returns : goal.returns
returns g c =
    let content = g.K.Keeper.content in
    let faults = g.K.Keeper.faults in
    let cache_of = g.S.RegionStore.cache in
    let old : FarmParts g.row.K.Denot g.row.S.Denot = record { plan = c.self.inside.plan; keeper = c.self.inside.keeper; ledger = c.self.inside.ledger; home = c.self.inside.home; west = c.self.inside.west; requests = c.self.inside.requests.entries; moments = c.self.inside.moments; last_beat = c.self.inside.last_beat } in
    let new : FarmParts g.row.K.Denot g.row.S.Denot = record old { keeper = c.commit.new.keeper; ledger = c.commit.new.ledger; home = c.commit.new.home; requests = c.commit.new.requests.entries } in
    let said = answer_of c.commit.result in
    subst (λ (f : FarmParts g.row.K.Denot g.row.S.Denot). StepsFrom content faults cache_of f new (Step.CommitEdit c.args.id) (One (Some said)) (MovesOn c.args.id BegunEdit CommitsAt (Some said))) c.self.view_is
    (record {
      goes = commit_goes content faults cache_of old c.commit.new.keeper c.commit.new.ledger c.commit.new.home c.commit.new.requests.entries c.args.id said c.commit.ensures;
      requests = commit_moves cache_of (content old.keeper) (content c.commit.new.keeper) (faults old.keeper) (faults c.commit.new.keeper) old.home c.commit.new.home old.ledger c.commit.new.ledger old.moments.home c.args.id old.requests c.commit.new.requests.entries said c.commit.ensures;
      shape = same_shape old c.commit.new.keeper c.commit.new.ledger c.commit.new.home old.west c.commit.new.requests.entries old.last_beat (commit_shape cache_of (content old.keeper) (content c.commit.new.keeper) (faults old.keeper) (faults c.commit.new.keeper) old.home c.commit.new.home old.ledger c.commit.new.ledger old.moments.home c.args.id old.requests c.commit.new.requests.entries said (begun_edit (open_at old.requests c.args.id)) c.commit.ensures) (untouched old.west);
      counts = commit_counts cache_of (content old.keeper) (content c.commit.new.keeper) (faults old.keeper) (faults c.commit.new.keeper) old.home c.commit.new.home old.ledger c.commit.new.ledger old.moments.home c.args.id old.requests c.commit.new.requests.entries said (begun_edit (open_at old.requests c.args.id)) c.commit.ensures;
    })
