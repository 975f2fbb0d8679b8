use Rattle.std.proofs.Common.{ℕ, ◌≡◌, ◌+◌, max, set, slice_index, subst}
use Rattle.wiki_model.specs.Cache.{Purges}
use Rattle.slot_cache.specs.SlotCache.{SlotState}
use Rattle.slot_cache.specs.AsModel.{map_of}
use Rattle.slot_cache.proofs.Purges.{purged}
use Rattle.slot_cache.proofs.slot_cache.SlotCacheRegionStore.purge.Goals as goal

pub returns-clause-purges : goal.returns-clause-purges
returns-clause-purges g c =
    let i = c.self.inside in
    let old : SlotState g.row.P.Denot = record { slots = i.slots; floors = i.floors.items; rows = i.rows.items; template_check = i.template_check; message_check = i.message_check; greatest = i.greatest; hold_off = i.hold_off } in
    let new : SlotState g.row.P.Denot = record { slots = i.slots; floors = c.raise_floor.new.floors.items; rows = c.drop_main.new.rows.items; template_check = i.template_check; message_check = i.message_check; greatest = c.args.now; hold_off = i.hold_off } in
    let raised = subst (λ (n : ℕ). c.raise_floor.new.floors.items ≡ set i.floors.items c.slot_of-slot.result (max (slice_index i.floors.items c.slot_of-slot.result) (n + i.hold_off))) c.now.view_is c.raise_floor.ensures in
    subst (λ k. Purges (map_of k) (map_of new) c.args.key.now c.args.now) c.self.view_is
    (purged old c.args.key.now c.args.now c.slot_of-slot.result c.raise_floor.new.floors.items c.drop_main.new.rows.items c.slot_of-slot.ensures.value c.slot_of-slot.ensures.below c.self.invariant.floors raised c.drop_main.ensures.drops)
