use Rattle.std.proofs.Common.{ℕ, ◌≡◌, ◌≢◌, refl, subst}
use Rattle.wiki_model.specs.declared.Put.TheVariants.{Memory}
use Rattle.wiki_model.specs.Cache.{Puts}
use Rattle.wan_value.specs.AsModel.{value_of}
use Rattle.wan_cache.specs.CacheRow.{floor_in}
use Rattle.wan_cache.specs.MapCache.{MapState, row_at, row_in, PutDoes, KeepsOthers, Renews}
use Rattle.wan_cache.specs.AsModel.{map_of}
use Rattle.wan_cache.proofs.Puts.{puts}
use Rattle.wan_cache.proofs.Others.{put_keeps, put_floor, put_renews}
use Rattle.wan_cache.proofs.map_cache.MapCacheRegionStore.put.Goals as goal

pub returns-clause-puts : goal.returns-clause-puts
returns-clause-puts g c =
    let i = c.self.inside in
    let t = c.put_value.new.self in
    let old : MapState g.row.P.Denot = record { rows = i.table.rows.entries; uses = i.table.uses; capacity = i.table.capacity; base = i.table.base; template_check = i.template_check; message_check = i.message_check; greatest = i.greatest; hold_off = i.hold_off } in
    let new : MapState g.row.P.Denot = record { rows = t.rows.entries; uses = t.uses; capacity = t.capacity; base = t.base; template_check = i.template_check; message_check = i.message_check; greatest = c.args.value.set_at; hold_off = i.hold_off } in
    let does = subst (λ (n : ℕ). PutDoes (row_at i.table.rows) (row_at t.rows) i.table.base t.base c.args.key.now i.table.uses.next n (value_of c.args.value) c.put_value.result) c.later-check.ensures c.put_value.ensures.does in
    subst (λ k. Puts (map_of k) (map_of new) c.args.key.now (value_of c.args.value) c.put_value.result) c.self.view_is
    (puts old new c.args.key.now (value_of c.args.value) i.table.uses.next c.put_value.result does (record { template = refl; message = refl; greatest = refl; hold_off = refl }))

pub returns-clause-others : goal.returns-clause-others
returns-clause-others g c =
    let i = c.self.inside in
    let t = c.put_value.new.self in
    let old : MapState g.row.P.Denot = record { rows = i.table.rows.entries; uses = i.table.uses; capacity = i.table.capacity; base = i.table.base; template_check = i.template_check; message_check = i.message_check; greatest = i.greatest; hold_off = i.hold_off } in
    let new : MapState g.row.P.Denot = record { rows = t.rows.entries; uses = t.uses; capacity = t.capacity; base = t.base; template_check = i.template_check; message_check = i.message_check; greatest = c.args.value.set_at; hold_off = i.hold_off } in
    subst (λ (k : MapState g.row.P.Denot). KeepsOthers k new c.args.key.now c.args.value.set_at) c.self.view_is
    (put_keeps old new c.args.key.now c.later-check.result (value_of c.args.value) c.put_value.ensures.capacity c.put_value.result c.put_value.ensures.does c.put_value.ensures.oldest)

pub returns-clause-floor : goal.returns-clause-floor
returns-clause-floor g c =
    let i = c.self.inside in
    let t = c.put_value.new.self in
    let old : MapState g.row.P.Denot = record { rows = i.table.rows.entries; uses = i.table.uses; capacity = i.table.capacity; base = i.table.base; template_check = i.template_check; message_check = i.message_check; greatest = i.greatest; hold_off = i.hold_off } in
    let new : MapState g.row.P.Denot = record { rows = t.rows.entries; uses = t.uses; capacity = t.capacity; base = t.base; template_check = i.template_check; message_check = i.message_check; greatest = c.args.value.set_at; hold_off = i.hold_off } in
    subst (λ (k : MapState g.row.P.Denot). floor_in (row_in new.rows c.args.key.now) ≡ floor_in (row_in k.rows c.args.key.now)) c.self.view_is
    (put_floor old new c.args.key.now c.later-check.result (value_of c.args.value) c.put_value.ensures.capacity c.put_value.result c.put_value.ensures.does)

pub returns-clause-renews : goal.returns-clause-renews
returns-clause-renews g c =
    let i = c.self.inside in
    let t = c.put_value.new.self in
    let old : MapState g.row.P.Denot = record { rows = i.table.rows.entries; uses = i.table.uses; capacity = i.table.capacity; base = i.table.base; template_check = i.template_check; message_check = i.message_check; greatest = i.greatest; hold_off = i.hold_off } in
    let new : MapState g.row.P.Denot = record { rows = t.rows.entries; uses = t.uses; capacity = t.capacity; base = t.base; template_check = i.template_check; message_check = i.message_check; greatest = c.args.value.set_at; hold_off = i.hold_off } in
    subst (λ (k : MapState g.row.P.Denot). c.put_value.result ≢ Memory → Renews k new c.args.key.now) c.self.view_is
    (put_renews old new c.args.key.now c.later-check.result (value_of c.args.value) c.put_value.ensures.capacity c.put_value.result c.put_value.ensures.does c.put_value.ensures.oldest)
