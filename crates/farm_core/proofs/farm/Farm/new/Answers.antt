use Rattle.std.proofs.Common.{None, Option, List, IfSome, refl, ap, subst, ◌∙◌}
use Rattle.wiki_model.specs.History.{Entry, IsHistory}
use Rattle.purge_relay.specs.Ledger.{LedgerState}
use Rattle.farm_core.specs.FarmParts.{FarmParts}
use Rattle.farm_core.proofs.Opening.{opened_stands}
use Rattle.farm_core.proofs.farm.Farm.new.Goals as goal

pub returns-in-Ok-clause-opens : goal.returns-in-Ok-clause-opens
returns-in-Ok-clause-opens g c = λ setting history is plan skew home west.
    let content = g.K.Keeper.content in
    let faults = g.K.Keeper.faults in
    let cache_of = g.S.RegionStore.cache in
    let farm : FarmParts g.row.K.Denot g.row.S.Denot = record { plan = c.args.plan; keeper = c.start.new.keeper; ledger = c.new.result; home = c.in-Ok.home; west = c.in-Ok.west; requests = c.new-in-Ok.result.entries; moments = c.in-Ok.moments; last_beat = None } in
    let s = c.in-Ok.ensures.started history is in
    let entries : IsHistory history = subst (λ (o : Option (List Entry)). IfSome o IsHistory) is c.known.ensures.history in
    opened_stands content faults cache_of farm c.args.home c.args.west setting history (faults c.args.keeper) c.args.at (record { entries = entries; skew = skew }) plan (c.start.ensures.content ∙ is) c.start.ensures.cause.later
    (ap (λ (b : LedgerState). b.rows) c.new.ensures) c.new-in-Ok.ensures.empty refl s.moments_are s.home s.west
    (record { empty = c.requires.home_empty; is_cache = c.known-2.ensures; together = home.together; held = home.held })
    (record { empty = c.requires.west_empty; is_cache = c.known-3.ensures; together = west.together; held = west.held })
