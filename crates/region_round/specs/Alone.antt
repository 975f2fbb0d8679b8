-- What the caller of a round, who alone puts, does with the region's cache.
use Rattle.std.specs.Prelude.{ℕ, ◌≡◌, ◌≢◌, ◌≤◌, List}
use Rattle.wiki_model.specs.declared.Put.{Put}
use Rattle.wiki_model.specs.declared.Put.TheVariants as put
use Rattle.wiki_model.specs.Bytes.{Bytes}
use Rattle.wiki_model.specs.Titles.{Title}
use Rattle.wiki_model.specs.Cache.{Ask, IsCache, Puts, look}
use Rattle.wiki_model.specs.CacheCalls.{TakesPurge}
use Rattle.wan_value.specs.declared.Value.{Value}
use Rattle.wan_value.specs.AsModel.{value_of}
use Rattle.wan_cache.specs.declared.region_store.Look.{Look}
use Rattle.wan_cache.specs.Rules.{IsFound}
use Rattle.slot_cache.specs.SlotCache.{SlotState}
use Rattle.slot_cache.specs.AsModel.{map_of}

-- what clauses see of the cache
abbrev pub Kept : Type 0
Kept = SlotState Bytes

-- no call was given a later moment
abbrev pub IsReady : Kept → (now : ℕ) → Type 0
IsReady cache now = cache.greatest ≤ now

abbrev pub LooksAlone : (old new : Kept) → Title → (now : ℕ) → Ask → Look Bytes → Type 0
LooksAlone old new title now ask found = (new ≡ old) × IsFound found (look (map_of old) title now ask)

-- any value may be put
abbrev pub AcceptsAll : Title → Value Bytes → Type 0
AcceptsAll title value = Unit {0}

-- a put, which is never out of memory
pub record PutsAlone (old new : Kept) (title : Title) (value : Value Bytes) (answer : Put) : Type 0 where
  pub is_cache : IsCache (map_of new)
  pub puts : Puts (map_of old) (map_of new) title (value_of value) answer
  pub granted : answer ≢ put.Memory

pub record TakesAlone (old new : Kept) (title : Title) (now : ℕ) : Type 0 where
  pub is_cache : IsCache (map_of new)
  pub takes : TakesPurge (map_of old) (map_of new) title now
