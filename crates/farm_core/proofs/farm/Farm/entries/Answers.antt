use Rattle.std.proofs.Common.{subst}
use Rattle.farm_core.specs.FarmParts.{FarmParts}
use Rattle.farm_core.specs.Runs.{StandsOn}
use Rattle.farm_core.proofs.Staying.{stands_asked, asked_kept}
use Rattle.farm_core.proofs.farm.Farm.entries.Goals as goal

pub invariant_of-self : goal.invariant_of-self
invariant_of-self g c =
    let old : FarmParts g.row.K.Denot g.row.S.Denot = record { plan = c.self.inside.plan; keeper = c.self.inside.keeper; ledger = c.self.inside.ledger; home = c.self.inside.home; west = c.self.inside.west; requests = c.self.inside.requests.entries; moments = c.self.inside.moments; last_beat = c.self.inside.last_beat } in
    asked_kept g.K.Keeper.content g.S.RegionStore.cache old c.len.new.self c.len.ensures.content c.self.invariant

pub returns-clause-stands : goal.returns-clause-stands
returns-clause-stands g c =
    let content = g.K.Keeper.content in
    let faults = g.K.Keeper.faults in
    let cache_of = g.S.RegionStore.cache in
    let old : FarmParts g.row.K.Denot g.row.S.Denot = record { plan = c.self.inside.plan; keeper = c.self.inside.keeper; ledger = c.self.inside.ledger; home = c.self.inside.home; west = c.self.inside.west; requests = c.self.inside.requests.entries; moments = c.self.inside.moments; last_beat = c.self.inside.last_beat } in
    let new : FarmParts g.row.K.Denot g.row.S.Denot = record old { keeper = c.len.new.self } in
    subst (λ (f : FarmParts g.row.K.Denot g.row.S.Denot). StandsOn content faults cache_of f new) c.self.view_is (stands_asked content faults cache_of old c.len.new.self c.len.ensures.content c.len.ensures.cause.later)
