-- A farm that is ready to be served: by a layout's plan, over a keeper's history, at the clocks' first reading.
use Rattle.std.specs.Prelude.{ℕ, ◌≡◌, ◌≤◌, Bool, List, [], ◌∷◌, length, Option, Some, None, Ok}
use Rattle.wiki_model.specs.declared.Region.{Region}
use Rattle.wiki_model.specs.declared.Region.TheVariants.{Home, West}
use Rattle.wiki_model.specs.declared.Readings.{Readings}
use Rattle.wiki_model.specs.Bytes.{Bytes}
use Rattle.wiki_model.specs.Titles.{Title}
use Rattle.wiki_model.specs.History.{Entry}
use Rattle.wiki_model.specs.Limits.{hold_off}
use Rattle.wiki_model.specs.Cache.{CacheMap, IsEmptyCache}
use Rattle.wiki_model.specs.World.{World}
use Rattle.wiki_model.specs.Steps.{Step}
use Rattle.wiki_model.specs.Runs.{Turn, opening}
use Rattle.wiki_model.specs.Runs.Reply.{One}
use Rattle.farm_base.specs.AsModel.{bounds_of}
use Rattle.farm_base.specs.Series.{Series, Gives}
use Rattle.slot_cache.specs.Slots.{same_slot}
use Rattle.region_state.specs.declared.plan.FarmPlan.{FarmPlan}
use Rattle.farm_steps.specs.RequestMap.{open_at}
use Rattle.farm_core.specs.FarmParts.{FarmParts, IsWhole}
use Rattle.farm_core.specs.Runs.{Stands}
use Rattle.wiki_layout.specs.Layout.{Plan, layout_of, setting_of}
use Rattle.wiki_layout.specs.AsModel.{plan_of}

-- how many slots a layout gives the cache of a region
abbrev pub slots_for : Plan → Region → ℕ
slots_for plan Home = plan.home_slots
slots_for plan West = plan.west_slots

-- in a region's cache two titles are together if they have one of its slots
abbrev pub together_in : Plan → Region → Title → Title → Bool
together_in plan r a b = same_slot (slots_for plan r) a b

-- the world in which a wiki of this layout is opened over a history, at these readings
abbrev pub host_start : Plan → (history : List Entry) → (faults : ℕ) → Readings → World
host_start plan history faults at =
    opening (setting_of (together_in plan) (length history) plan) history faults at

-- from the opening on pages are read by the second markup
abbrev pub markup_turn : Readings → Turn
markup_turn at = record { at = at; step = Step.SetMarkup 2; reply = One None }

-- an empty cache of the region, of the plan's slots and for its bounds
pub record IsLaidCache {S : Type 0} (cache_of : S → CacheMap Bytes) (plan : FarmPlan) (r : Region) (cache : S)
    : Type 0 where
  pub empty : IsEmptyCache (cache_of cache)
  pub together_is : (a b : Title) → (cache_of cache).together a b ≡ together_in (plan_of plan) r a b
  pub held : (cache_of cache).hold_off ≡ hold_off (bounds_of plan.bounds)

-- What a keeper shows: its history, if it exposes that, and its count of faults.
pub record KeeperSeen : Type 0 where
  pub history : Option (List Entry)
  pub faults : ℕ

abbrev pub keeper_seen : Option (List Entry) → (faults : ℕ) → KeeperSeen
keeper_seen history faults = record { history = history; faults = faults }

-- The farm may be served, and stands for the run of the markup's turn alone, from the opening over what the keeper had.
pub record IsOpened {K S : Type 0} (content : K → Option (List Entry)) (faults : K → ℕ)
    (cache_of : S → CacheMap Bytes) (plan : Plan) (before : KeeperSeen) (at : Readings) (farm : FarmParts K S)
    (sent : ℕ) : Type 0 where
  pub whole : IsWhole farm
  pub free : open_at farm.requests 0 ≡ None
  pub pace : farm.plan.pace ≡ plan.pace
  pub none_sent : sent ≡ 0
  pub counts : before.faults ≤ faults farm.keeper
  pub stands : (history : List Entry) → before.history ≡ Some history
      → (w : World) × (w.messages ≡ [])
      × Stands content faults cache_of farm (host_start plan history before.faults at) (markup_turn at ∷ []) w

-- A farm was opened by this plan at a reading of the clocks.
pub record OpensPlan {K S : Type 0} (content : K → Option (List Entry)) (faults : K → ℕ)
    (cache_of : S → CacheMap Bytes) (plan : Plan) (before : KeeperSeen)
    (clock_before clock_now : Option (Series Readings)) (farm : FarmParts K S) (sent : ℕ) : Type 0 where
  pub first : Readings
  pub reads : Gives clock_before clock_now first
  pub opened : IsOpened content faults cache_of plan before first farm sent

-- The same by a layout, with what the keeper had counted when the farm was opened.
pub record OpensLayout {K S : Type 0} (content : K → Option (List Entry)) (faults : K → ℕ)
    (cache_of : S → CacheMap Bytes) (layout : Bytes) (before : KeeperSeen)
    (clock_before clock_now : Option (Series Readings)) (farm : FarmParts K S) (sent : ℕ) : Type 0 where
  pub plan : Plan
  pub is_plan : layout_of layout ≡ Ok plan
  pub began : ℕ
  pub since : before.faults ≤ began
  pub opens : OpensPlan content faults cache_of plan (keeper_seen before.history began) clock_before clock_now farm sent
