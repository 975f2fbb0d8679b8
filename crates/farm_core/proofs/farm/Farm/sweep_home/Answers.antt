use Rattle.std.proofs.Common.{subst}
use Rattle.farm_core.specs.FarmParts.{FarmParts}
use Rattle.farm_core.specs.Runs.{Resumes}
use Rattle.farm_core.proofs.Sweeping.{home_resumes, home_kept}
use Rattle.farm_core.proofs.farm.Farm.sweep_home.Goals as goal

pub invariant_of-self : goal.invariant_of-self
invariant_of-self g c =
    let old : FarmParts g.row.K.Denot g.row.S.Denot = record { plan = c.self.inside.plan; keeper = c.self.inside.keeper; ledger = c.self.inside.ledger; home = c.self.inside.home; west = c.self.inside.west; requests = c.self.inside.requests.entries; moments = c.self.inside.moments; last_beat = c.self.inside.last_beat } in
    home_kept g.K.Keeper.content g.S.RegionStore.cache old c.sweep.new.self c.sweep.ensures c.self.invariant

pub returns : goal.returns
returns g c =
    let content = g.K.Keeper.content in
    let faults = g.K.Keeper.faults in
    let cache_of = g.S.RegionStore.cache in
    let old : FarmParts g.row.K.Denot g.row.S.Denot = record { plan = c.self.inside.plan; keeper = c.self.inside.keeper; ledger = c.self.inside.ledger; home = c.self.inside.home; west = c.self.inside.west; requests = c.self.inside.requests.entries; moments = c.self.inside.moments; last_beat = c.self.inside.last_beat } in
    let new : FarmParts g.row.K.Denot g.row.S.Denot = record old { home = c.sweep.new.self } in
    subst (λ (f : FarmParts g.row.K.Denot g.row.S.Denot). Resumes content faults cache_of f new) c.self.view_is (home_resumes content faults cache_of old c.sweep.new.self c.sweep.ensures)
