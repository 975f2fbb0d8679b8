use Rattle.std.proofs.Common.{ℕ, ◌+◌, ◌≤◌, length, refl, sym, subst, arith}
use Rattle.wiki_model.specs.Cache.{Purges}
use Rattle.wan_cache.specs.MapCache.{MapState, row_at, PurgeDoes, HoldsKeyOrAll}
use Rattle.wan_cache.specs.AsModel.{map_of}
use Rattle.wan_cache.proofs.Puts.{purges}
use Rattle.wan_cache.proofs.Others.{purge_holds}
use Rattle.wan_cache.proofs.map_cache.MapCacheRegionStore.purge.Goals as goal

pub returns-clause-purges : goal.returns-clause-purges
returns-clause-purges g c =
    let i = c.self.inside in
    let t = c.purge_key.new.self in
    let old : MapState g.row.P.Denot = record { rows = i.table.rows.entries; uses = i.table.uses; capacity = i.table.capacity; base = i.table.base; template_check = i.template_check; message_check = i.message_check; greatest = i.greatest; hold_off = i.hold_off } in
    let new : MapState g.row.P.Denot = record { rows = t.rows.entries; uses = t.uses; capacity = t.capacity; base = t.base; template_check = i.template_check; message_check = i.message_check; greatest = c.args.now; hold_off = i.hold_off } in
    let does = subst (λ (n : ℕ). PurgeDoes (row_at i.table.rows) (row_at t.rows) i.table.base t.base c.args.key.now i.table.uses.next c.args.now (n + i.hold_off) (length i.table.rows.entries) i.table.capacity) c.now.view_is c.purge_key.ensures.does in
    let greatest : i.greatest ≤ c.args.now = subst (λ k. k.greatest ≤ c.args.now) (sym c.self.view_is) c.requires.later in
    subst (λ k. Purges (map_of k) (map_of new) c.args.key.now c.args.now) c.self.view_is
    (purges old new c.args.key.now i.table.uses.next c.args.now (length i.table.rows.entries) i.table.capacity does (λ q. let b = c.self.invariant.bounded q in omega (arith, b, greatest)) refl refl refl refl)

pub returns-clause-holds : goal.returns-clause-holds
returns-clause-holds g c =
    let i = c.self.inside in
    let t = c.purge_key.new.self in
    let old : MapState g.row.P.Denot = record { rows = i.table.rows.entries; uses = i.table.uses; capacity = i.table.capacity; base = i.table.base; template_check = i.template_check; message_check = i.message_check; greatest = i.greatest; hold_off = i.hold_off } in
    let new : MapState g.row.P.Denot = record { rows = t.rows.entries; uses = t.uses; capacity = t.capacity; base = t.base; template_check = i.template_check; message_check = i.message_check; greatest = c.args.now; hold_off = i.hold_off } in
    let does = subst (λ (n : ℕ). PurgeDoes (row_at i.table.rows) (row_at t.rows) i.table.base t.base c.args.key.now i.table.uses.next c.args.now (n + i.hold_off) (length i.table.rows.entries) i.table.capacity) c.now.view_is c.purge_key.ensures.does in
    subst (λ (k : MapState g.row.P.Denot). HoldsKeyOrAll k new c.args.key.now c.args.now (c.args.now + k.hold_off)) c.self.view_is
    (purge_holds old new c.args.key.now c.args.now (c.args.now + i.hold_off) c.purge_key.ensures.capacity does)
