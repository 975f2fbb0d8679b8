-- A farm that was opened by a layout's plan, and then set to the second markup, stands for the run of that turn alone:
-- the opening gives the run of no step, and the step goes on with it. Nothing was issued, so no message is there.
use Rattle.std.specs.Prelude.{ℕ, ◌≡◌, ◌<◌, ◌≤◌, ◌&&◌, Bool, true, false, List, [], length, Option, None, Result, Ok, Err, IfOk, refl}
use Rattle.std.proofs.Common.{arith, sym, ap, subst, ◌∙◌}
use Rattle.wiki_model.specs.declared.Region.{Region}
use Rattle.wiki_model.specs.declared.Region.TheVariants.{Home, West}
use Rattle.wiki_model.specs.declared.Readings.{Readings}
use Rattle.wiki_model.specs.Bytes.{Bytes}
use Rattle.wiki_model.specs.Titles.{Title}
use Rattle.wiki_model.specs.History.{Entry}
use Rattle.wiki_model.specs.Limits.{hold_off}
use Rattle.wiki_model.specs.Cache.{CacheMap, IsEmptyCache}
use Rattle.wiki_model.specs.World.{World}
use Rattle.wiki_model.specs.Steps.Step.{SetMarkup}
use Rattle.wiki_model.specs.Runs.{Leads, opening}
use Rattle.farm_base.specs.AsModel.{bounds_of}
use Rattle.slot_cache.specs.Slots.{same_slot}
use Rattle.region_state.specs.AsModel.{IsPlanOf}
use Rattle.region_state.specs.declared.plan.FarmPlan.{FarmPlan}
use Rattle.farm_steps.specs.RequestMap.{Entries, open_at}
use Rattle.farm_core.specs.FarmParts.{FarmParts}
use Rattle.farm_core.specs.NewFarm.{IsFresh, IsCacheOf, Opens}
use Rattle.farm_core.specs.RequestLife.{LeavesRequests}
use Rattle.farm_core.specs.Runs.{Steps, turn_of}
use Rattle.wiki_layout.specs.Layout.{setting_of}
use Rattle.wiki_layout.specs.AsModel.{plan_of}
use Rattle.wiki_layout.specs.ReadLayout.{IsAllowed}
use Rattle.wiki_host.specs.Opening.{slots_for, together_in, IsLaidCache, keeper_seen, IsOpened}

-- what a layout's bounds keep

both_true : (a b : Bool) → (a && b) ≡ true → (a ≡ true) × (b ≡ true)
both_true true b e = (refl, e)
both_true false b e = let no : ⊥ = cc in absurd no

pub held_some : (plan : FarmPlan) → IsAllowed plan → 0 < hold_off (bounds_of plan.bounds)
held_some plan allowed = let skew = allowed.skew in omega (arith, skew)

-- an empty cache of a region's slots is the layout's

pub laid : {C E : Type 0} (cache_of : C → CacheMap Bytes) (plan : FarmPlan) (r : Region) (held slots : ℕ)
    (result : Result C E) → held ≡ hold_off (bounds_of plan.bounds) → slots ≡ slots_for (plan_of plan) r
    → IfOk result (λ c. IsEmptyCache (cache_of c)) → IfOk result (λ c. (cache_of c).hold_off ≡ held)
    → IfOk result (λ c. (cache_of c).together ≡ same_slot slots)
    → IfOk result (λ c. IsLaidCache cache_of plan r c)
laid cache_of plan r held slots (Err e) is size empty holds same = tt
laid cache_of plan r held slots (Ok c) is size empty holds same = record {
  empty = empty;
  together_is = λ a b. ap (λ (t : Title → Title → Bool). t a b) (same ∙ ap same_slot size);
  held = holds ∙ is;
}

module _ {K S : Type 0} (content : K → Option (List Entry)) (faults : K → ℕ) (cache_of : S → CacheMap Bytes)
    (plan : FarmPlan) (allowed : IsAllowed plan) where
  fits : (history : List Entry) (q : FarmPlan) → q ≡ plan
      → IsPlanOf (setting_of (together_in (plan_of plan)) (length history) (plan_of plan)) q
  fits history q same = subst (λ (p : FarmPlan). IsPlanOf (setting_of (together_in (plan_of plan)) (length history) (plan_of plan)) p)
      (sym same) (record { home = refl; west = refl; epoch = refl; workers = refl; bounds = refl })

  cache_fits : (history : List Entry) (r : Region) (cache : S) → IsLaidCache cache_of plan r cache
      → IsCacheOf cache_of (setting_of (together_in (plan_of plan)) (length history) (plan_of plan)) r cache
  cache_fits history r cache c = record { together = c.together_is; held = c.held }

  -- the turn of the markup leaves the messages
  leaves_messages : (at : Readings) (v w : World) → Leads v (turn_of at (SetMarkup 2) None) w → w.messages ≡ v.messages
  leaves_messages at v w leads = ap (λ (x : World). x.messages) leads.takes.1

  module _ (before : K) (home west : S) (at : Readings) (farm new : FarmParts K S)
      (h : IsLaidCache cache_of plan Home home) (w : IsLaidCache cache_of plan West west)
      (fresh : IsFresh plan farm) (opens : Opens content faults cache_of before home west at farm)
      (counts : faults before ≤ faults farm.keeper)
      (steps : Steps content faults cache_of farm new (turn_of at (SetMarkup 2) None) LeavesRequests) where
    pub opened : (sent : ℕ) → sent ≡ 0
        → IsOpened content faults cache_of (plan_of plan) (keeper_seen (content before) (faults before)) at new sent
    opened sent none = record {
      whole = steps.shape.whole fresh.whole;
      free = ap (λ (e : Entries). open_at e 0) (steps.requests ∙ fresh.none_open);
      pace = ap (λ (p : FarmPlan). p.pace) (steps.shape.plan ∙ fresh.plan_is);
      none_sent = none;
      counts = let x = counts in let y = steps.counts in omega (arith, x, y);
      stands = λ history e.
          let setting = setting_of (together_in (plan_of plan)) (length history) (plan_of plan) in
          let stood = opens setting history e (fits history farm.plan fresh.plan_is) allowed.skew
          (cache_fits history Home home h) (cache_fits history West west w) in
          let (last, stands, leads, later) =
          steps.goes_on (opening setting history (faults before) at) [] (opening setting history (faults farm.keeper) at) stood in
          (last, leaves_messages at (opening setting history (faults farm.keeper) at) last leads, stands);
    }
