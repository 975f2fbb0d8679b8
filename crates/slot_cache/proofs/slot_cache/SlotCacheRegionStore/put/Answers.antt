use Rattle.std.proofs.Common.{subst}
use Rattle.wiki_model.specs.Cache.{Puts}
use Rattle.wan_value.specs.AsModel.{value_of}
use Rattle.slot_cache.specs.SlotCache.{SlotState}
use Rattle.slot_cache.specs.AsModel.{map_of}
use Rattle.slot_cache.proofs.Puts.{put_as}
use Rattle.slot_cache.proofs.slot_cache.SlotCacheRegionStore.put.Goals as goal

pub returns-clause-puts : goal.returns-clause-puts
returns-clause-puts g c =
    let i = c.self.inside in
    let old : SlotState g.row.P.Denot = record { slots = i.slots; floors = i.floors.items; rows = i.rows.items; template_check = i.template_check; message_check = i.message_check; greatest = i.greatest; hold_off = i.hold_off } in
    let new : SlotState g.row.P.Denot = record { slots = i.slots; floors = i.floors.items; rows = c.put_in.new.rows.items; template_check = i.template_check; message_check = i.message_check; greatest = c.args.value.set_at; hold_off = i.hold_off } in
    subst (λ k. Puts (map_of k) (map_of new) c.args.key.now (value_of c.args.value) c.put_in.result) c.self.view_is
    (put_as old c.args.key.now c.args.value c.put_in.result c.slot_of-slot.result c.floor_in-floor.result c.later-check.result c.deref.result.now c.put_in.new.rows.items c.slot_of-slot.ensures.value c.deref.ensures.value c.floor_in-floor.ensures c.later-check.ensures c.put_in.ensures.answer c.put_in.ensures.stores)
