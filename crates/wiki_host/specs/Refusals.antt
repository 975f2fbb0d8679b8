-- What opening a wiki answers: a farm that is ready, or the keeper with why there is none.
use Rattle.std.specs.Prelude.{ℕ, ◌≡◌, ◌⊎◌, Option, Err}
use Rattle.farm_base.specs.Series.{Series, Gives}
use Rattle.wiki_model.specs.declared.Readings.{Readings}
use Rattle.wiki_model.specs.Bytes.{Bytes}
use Rattle.wiki_model.specs.Steps.{Rose}
use Rattle.revision_keeper.specs.declared.keeper.KeepFault.{KeepFault}
use Rattle.revision_keeper.specs.declared.keeper.KeepFault.TheVariants as keep
use Rattle.farm_core.specs.declared.farm.NewFault.{NewFault}
use Rattle.farm_core.specs.declared.farm.NewFault.TheVariants as new
use Rattle.wiki_layout.specs.Layout.{layout_of}
use Rattle.wiki_layout.specs.declared.layout.LayoutFault.{LayoutFault}
use Rattle.wiki_layout.specs.declared.layout.LayoutFault.TheVariants as layout
use Rattle.wiki_host.specs.declared.host.HostEnd.{HostEnd}
use Rattle.wiki_host.specs.declared.host.HostEnd.TheVariants as ended
use Rattle.wiki_host.specs.Opening.{KeeperSeen}

abbrev pub store_end : KeepFault → HostEnd
store_end keep.Fault = ended.StoreFault
store_end keep.Memory = ended.Memory

abbrev pub layout_end : LayoutFault → HostEnd
layout_end (layout.Rule rule) = ended.BadLayout rule
layout_end layout.Memory = ended.Memory

abbrev pub new_end : NewFault → HostEnd
new_end new.Fault = ended.StoreFault
new_end new.Memory = ended.Memory

-- the clocks were read once, or not at all
abbrev pub IsReadOnce : (before after : Option (Series Readings)) → Type 0
IsReadOnce before after = (after ≡ before) ⊎ ((first : Readings) × Gives before after first)

-- Why nothing was opened: the layout breaks a rule, the keeper's count rose, or out of memory. A layout is refused
-- before the clocks are read.
abbrev pub IsRefusal : (Breaks : ℕ → Type 0) → (rose : Type 0) → (clock_before clock_now : Option (Series Readings))
    → HostEnd → Type 0
IsRefusal Breaks rose clock_before clock_now (ended.BadLayout rule) =
    Breaks rule × (clock_now ≡ clock_before)
IsRefusal Breaks rose clock_before clock_now ended.StoreFault = rose × IsReadOnce clock_before clock_now
IsRefusal Breaks rose clock_before clock_now ended.Memory = IsReadOnce clock_before clock_now
IsRefusal Breaks rose clock_before clock_now _ = ⊥

-- Nothing was opened, and the keeper has the history that it had.
pub record RefusesHost (Breaks : ℕ → Type 0) (before now : KeeperSeen)
    (clock_before clock_now : Option (Series Readings)) (end : HostEnd) : Type 0 where
  pub history : now.history ≡ before.history
  pub why : IsRefusal Breaks (Rose before.faults now.faults) clock_before clock_now end

-- a plan that is allowed is refused by no rule
abbrev pub breaks_none : ℕ → Type 0
breaks_none rule = ⊥

abbrev pub breaks : (layout : Bytes) → ℕ → Type 0
breaks layout rule = layout_of layout ≡ Err rule
