-- What a cache of fixed slots stands for in the model's definitions.
use Rattle.std.specs.Prelude.{false}
use Rattle.wiki_model.specs.Cache.{CacheMap, not_below}
use Rattle.wan_cache.specs.Rules.{shown}
use Rattle.slot_cache.specs.Slots.{same_slot}
use Rattle.slot_cache.specs.SlotRow.{main_for, interim_for}
use Rattle.slot_cache.specs.SlotCache.{SlotState, floor_at, row_at}

module _ {P : Type 0} where
  -- keys of one slot are together, and it is never shared
  abbrev pub map_of : SlotState P → CacheMap P
  map_of state = record {
    floor = floor_at state;
    main = λ key. not_below (floor_at state key) (shown (main_for (row_at state key) key));
    interim = λ key. shown (interim_for (row_at state key) key);
    template_check = state.template_check;
    message_check = state.message_check;
    greatest = state.greatest;
    together = same_slot state.slots;
    shared = false;
    hold_off = state.hold_off;
  }
