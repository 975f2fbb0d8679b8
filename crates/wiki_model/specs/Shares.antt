-- What a seat of a cache that several workers share may count on while others work beside it.
-- From this alone its answers are sound.
use Rattle.std.specs.Prelude.{ℕ, ◌≡◌, ◌⊎◌, ◌+◌, ◌<◌, ◌≤◌}
use Rattle.wiki_model.specs.declared.Region.{Region}
use Rattle.wiki_model.specs.Bytes.{Bytes}
use Rattle.wiki_model.specs.Titles.{Title}
use Rattle.wiki_model.specs.Limits.{hold_off}
use Rattle.wiki_model.specs.Cache.{CacheMap, Cached}
use Rattle.wiki_model.specs.World.{World, moment}
use Rattle.wiki_model.specs.HoldOff.{HasReceipt}
use Rattle.wiki_model.specs.Caches.{IsTrueIn}

-- What a seat has loaded is not below what stood at lending, where that still counts.
pub record IsLoaded (v : World) (r : Region) (old : CacheMap Bytes) (title : Title)
    (floor template message : ℕ) : Type 0 where
  pub floor_is : moment r v < old.floor title → old.floor title ≤ floor
  pub template_is : old.template_check ≤ template
  pub message_is : old.message_check ≤ message

-- A value that may stand as a main one: true, and set at the round's moment or after each receipt of the title.
pub record IsMainTrue (v : World) (r : Region) (title : Title) (value : Cached Bytes) : Type 0 where
  pub is_true : IsTrueIn v r title value
  pub after : (value.set_at ≡ moment r v)
      ⊎ ((purge at : ℕ) → HasReceipt v r purge title at → at + hold_off v.setting.bounds ≤ value.set_at)
