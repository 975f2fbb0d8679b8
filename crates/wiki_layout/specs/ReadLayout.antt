-- What reading a layout answers.
use Rattle.std.specs.Prelude.{◌≡◌, ℕ, Bool, true, ◌<◌, ◌≤◌, length, Option, Some, None, Result, Ok, Err}
use Rattle.std.specs.BTreeMap.{BTreeMap}
use Rattle.std.specs.Prelude.{String}
use Rattle.std.specs.declared.alloc.Global.{Global}
use Rattle.toml.specs.declared.value.Value.{Value}
use Rattle.toml.specs.Data.{Members}
use Rattle.toml.specs.View.{table_view}
use Rattle.wiki_model.specs.declared.Region.{Region}
use Rattle.wiki_model.specs.Bytes.{Bytes}
use Rattle.wiki_model.specs.Limits.{greatest_moment, replicas_max, bound_max, slots_min, slots_max, workers_max, pace_max}
use Rattle.wiki_model.specs.Titles.{Title}
use Rattle.farm_base.specs.AsModel.{bounds_of, are_allowed}
use Rattle.region_state.specs.AsModel.{IsPlanOf}
use Rattle.region_state.specs.declared.plan.FarmPlan.{FarmPlan}
use Rattle.region_state.specs.declared.plan.RegionPlan.{RegionPlan}
use Rattle.wiki_layout.specs.Layout.{Plan, layout_of, setting_of}
use Rattle.wiki_layout.specs.AsModel.{plan_of}
use Rattle.wiki_layout.specs.declared.layout.LayoutFault.{LayoutFault}
use Rattle.wiki_layout.specs.declared.layout.LayoutFault.TheVariants.{Rule, Memory}

-- a plan, or the first rule that is broken; nothing is said when memory runs out
abbrev pub Reads : Result FarmPlan LayoutFault → Result Plan ℕ → Type 0
Reads (Ok plan) read = read ≡ Ok (plan_of plan)
Reads (Err (Rule n)) read = read ≡ Err n
Reads (Err Memory) read = Unit {0}

-- a document, or rule 1
abbrev pub ReadsDocument : Result (BTreeMap (String Global) Value) LayoutFault → Option Members → Type 0
ReadsDocument (Ok table) read = read ≡ Some (table_view table)
ReadsDocument (Err (Rule n)) read = (read ≡ None) × (n ≡ 1)
ReadsDocument (Err Memory) read = Unit {0}

-- the plan is that of each setting that has what the text says
abbrev pub IsPlan : (text : Bytes) → FarmPlan → Type 0
IsPlan text plan =
    (together : Region → Title → Title → Bool) (opened : ℕ) (said : Plan) → layout_of text ≡ Ok said
    → IsPlanOf (setting_of together opened said) plan

-- what a region's part of a layout keeps, as whoever makes its replicas and its cache asks
pub record IsAllowedRegion (plan : RegionPlan) : Type 0 where
  pub some : 0 < length plan.weights
  pub few : length plan.weights ≤ replicas_max
  pub slots_least : slots_min ≤ plan.slots
  pub slots_most : plan.slots ≤ slots_max

-- what a layout keeps, as whoever opens a farm asks
pub record IsAllowed (plan : FarmPlan) : Type 0 where
  pub home : IsAllowedRegion plan.home
  pub west : IsAllowedRegion plan.west
  pub epoch : plan.epoch ≤ greatest_moment
  pub workers_some : 0 < plan.workers
  pub workers_few : plan.workers ≤ workers_max
  pub bounds : are_allowed (bounds_of plan.bounds) ≡ true
  pub delay : plan.bounds.commit_delay ≤ bound_max
  pub skew : 0 < plan.bounds.skew
  pub pace_some : 0 < plan.pace
  pub pace_few : plan.pace ≤ pace_max
