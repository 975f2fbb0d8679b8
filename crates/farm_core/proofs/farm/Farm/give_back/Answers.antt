use Rattle.std.proofs.Common.{◌≤◌, ◌∙◌, ap, sym, subst}
use Rattle.farm_core.specs.FarmParts.{FarmParts, IsFarm}
use Rattle.farm_steps.specs.Moments.{moment_of}
use Rattle.farm_core.specs.LendCache.{GivesBack}
use Rattle.farm_core.proofs.Lending.{given_kept}
use Rattle.farm_core.proofs.Giving.{give_back_goes}
use Rattle.farm_core.proofs.farm.Farm.give_back.Goals as goal

pub invariant_of-self : goal.invariant_of-self
invariant_of-self g c =
    let content = g.K.Keeper.content in
    let cache_of = g.S.RegionStore.cache in
    let old : FarmParts g.row.K.Denot g.row.S.Denot = record { plan = c.self.inside.plan; keeper = c.self.inside.keeper; ledger = c.self.inside.ledger; home = c.self.inside.home; west = c.self.inside.west; requests = c.self.inside.requests.entries; moments = c.self.inside.moments; last_beat = c.self.inside.last_beat } in
    let early = subst (λ (f : FarmParts g.row.K.Denot g.row.S.Denot). (cache_of c.args.lent.cache).greatest ≤ moment_of c.args.region f.moments) (sym c.self.view_is) c.requires.early in
    subst (IsFarm content cache_of) (λ i. record old { ledger = sym c.receive_all.ensures i; home = sym c.take_cache.ensures.home i; west = sym c.take_cache.ensures.west i })
    (given_kept content cache_of c.args.region c.args.lent.cache c.args.lent.now c.args.receipts.now old early c.self.invariant)

pub returns-clause-stands : goal.returns-clause-stands
returns-clause-stands g c =
    let content = g.K.Keeper.content in
    let faults = g.K.Keeper.faults in
    let cache_of = g.S.RegionStore.cache in
    let old : FarmParts g.row.K.Denot g.row.S.Denot = record { plan = c.self.inside.plan; keeper = c.self.inside.keeper; ledger = c.self.inside.ledger; home = c.self.inside.home; west = c.self.inside.west; requests = c.self.inside.requests.entries; moments = c.self.inside.moments; last_beat = c.self.inside.last_beat } in
    let new : FarmParts g.row.K.Denot g.row.S.Denot = record old { ledger = c.receive_all.new.ledger; home = c.take_cache.new.home; west = c.take_cache.new.west } in
    let now = c.requires.now ∙ ap (λ (f : FarmParts g.row.K.Denot g.row.S.Denot). moment_of c.args.region f.moments) (sym c.self.view_is) in
    subst (λ (f : FarmParts g.row.K.Denot g.row.S.Denot). GivesBack content faults cache_of f new c.args.region c.args.lent.cache c.args.receipts.now c.args.lost) c.self.view_is
    (subst (λ (f : FarmParts g.row.K.Denot g.row.S.Denot). GivesBack content faults cache_of old f c.args.region c.args.lent.cache c.args.receipts.now c.args.lost) (λ i. record old { ledger = sym c.receive_all.ensures i; home = sym c.take_cache.ensures.home i; west = sym c.take_cache.ensures.west i })
    (give_back_goes content faults cache_of old c.args.region c.args.lent.cache c.args.lent.now c.args.receipts.now c.args.lost now))
