-- The rules of a look and of a put over plain values, by which every store of pages goes.
use Rattle.std.specs.Prelude.{◌≡◌, ℕ, Bool, Option, option_map, if◌then◌else◌, nat_lt}
use Rattle.std.specs.Borrow.{Bor}
use Rattle.std.specs.Option.{option_copied}
use Rattle.wiki_model.specs.Cache as model
use Rattle.wiki_model.specs.declared.Put.{Put}
use Rattle.wiki_model.specs.declared.Put.TheVariants as put
use Rattle.wan_value.specs.declared.Value.{Value}
use Rattle.wan_value.specs.AsModel.{value_of}
use Rattle.wan_cache.specs.declared.find_value.LookTimes.{LookTimes}
use Rattle.wan_cache.specs.declared.region_store.Look.{Look}
use Rattle.wan_cache.specs.declared.region_store.Look.TheVariants.{Hit, Interim, Miss, Memory}

-- a look answers what is found; sharing the page may be refused memory
abbrev pub IsFound : {P : Type 0} → Look P → model.Found P → Type 0
IsFound (Hit v) f = f ≡ model.Hit (value_of v)
IsFound (Interim v) f = f ≡ model.Interim (value_of v)
IsFound (Miss cause) f = f ≡ model.Missed cause
IsFound Memory f = Unit {0}

abbrev pub shown : {P : Type 0} → Option (Value P) → Option (model.Cached P)
shown o = option_map value_of o

-- a value that was lent
abbrev pub lent : {P : Type 0} → Option (Bor (Value P)) → Option (model.Cached P)
lent o = shown (option_copied o)

-- what a look finds among a main and an interim value; a main value from before the floor is as good as gone
abbrev pub found_by : {P : Type 0} → LookTimes → model.Ask → (main interim : Option (model.Cached P)) → model.Found P
found_by times ask main interim =
    model.found times.hold_off times.floor times.check times.at ask (model.not_below times.floor main) interim

-- its two cases: the key is held off, or free

abbrev pub passes_by : {P : Type 0} → LookTimes → model.Ask → model.Cached P → Bool
passes_by times ask value = model.passes times.hold_off times.floor times.check times.at ask value

abbrev pub held_by : {P : Type 0} → LookTimes → model.Ask → Option (model.Cached P) → model.Found P
held_by times ask interim = model.found_held times.hold_off times.floor times.check times.at ask interim

abbrev pub free_by : {P : Type 0} → LookTimes → model.Ask → Option (model.Cached P) → model.Found P
free_by times ask main = model.found_free times.floor times.check times.at ask main

-- where a put places a value, by the key's floor and the check
abbrev pub placed : (floor check set_at : ℕ) (lagged : Bool) → Put
placed floor check set_at lagged =
    if model.is_held floor check set_at then
    (if lagged then put.Held (if nat_lt set_at floor then floor else check) else put.Interim) else put.Main
