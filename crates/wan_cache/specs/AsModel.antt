-- What a cache of bounded size stands for in the model's definitions.
use Rattle.std.specs.Prelude.{ℕ, max, true, false}
use Rattle.wiki_model.specs.Titles.{Title}
use Rattle.wiki_model.specs.Cache.{CacheMap, not_below}
use Rattle.wan_cache.specs.CacheRow.{floor_in, main_in, interim_in}
use Rattle.wan_cache.specs.MapCache.{MapState, row_in}

module _ {P : Type 0} where
  abbrev pub floor_at : MapState P → Title → ℕ
  floor_at state key = max state.base (floor_in (row_in state.rows key))

  -- any two keys are together, and it is never shared
  abbrev pub map_of : MapState P → CacheMap P
  map_of state = record {
    floor = floor_at state;
    main = λ key. not_below (floor_at state key) (main_in (row_in state.rows key));
    interim = λ key. interim_in (row_in state.rows key);
    template_check = state.template_check;
    message_check = state.message_check;
    greatest = state.greatest;
    together = λ a b. true;
    shared = false;
    hold_off = state.hold_off;
  }
