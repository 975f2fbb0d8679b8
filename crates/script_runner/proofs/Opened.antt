-- A farm that is opened by a script's plan has the replicas that the lines speak of, and stands for the run of no step.
use Rattle.std.proofs.Common.{◌≡◌, ℕ, ◌*◌, ◌<◌, ◌≤◌, List, [], ◌∷◌, length, Option, refl, sym, ap, subst, ◌∙◌}
use Rattle.wiki_model.specs.declared.Region.{Region}
use Rattle.wiki_model.specs.declared.Region.TheVariants.{Home, West}
use Rattle.wiki_model.specs.Bytes.{Bytes}
use Rattle.wiki_model.specs.History.{Entry}
use Rattle.wiki_model.specs.Limits.{hold_off, replicas_max, bound_max}
use Rattle.wiki_model.specs.Cache.{CacheMap}
use Rattle.wiki_model.specs.Script.{Line, replicas_of}
use Rattle.wiki_model.specs.Script.Line.{FarmLine, BoundsLine, At, BeatLine, ApplyLine, EditLine, ViewLine, Open, BeginLine, CommitLine, WaitLine, LookLine, SnapLine, StoreLine, CarryLine, DropLine, MarkupLine, End}
use Rattle.wiki_model.specs.Report.{script_setting, no_readings}
use Rattle.farm_base.specs.AsModel.{bounds_of}
use Rattle.region_state.specs.AsModel.{IsPlanOf}
use Rattle.region_state.specs.declared.plan.FarmPlan.{FarmPlan}
use Rattle.farm_core.specs.FarmParts.{FarmParts}
use Rattle.farm_core.specs.NewFarm.{IsFresh, IsCacheOf, Opens}
use Rattle.script_runner.specs.RunScript.{IsAllowed}
use Rattle.script_runner.specs.Openings.{Together, IsScriptPlan, IsScriptCache, StartsScript}
use Rattle.script_runner.proofs.Allowed.{script_allowed}
use Rattle.script_runner.proofs.Ready.{lines_follow}

setting_together : (together : Together) (lines : List Line) → (script_setting together lines).together ≡ together
setting_together together [] = refl
setting_together together (FarmLine home west epoch ∷ lines) = refl
setting_together together (BoundsLine b ∷ lines) = refl
setting_together together (At at ∷ lines) = refl
setting_together together (BeatLine ∷ lines) = refl
setting_together together (ApplyLine r replica count ∷ lines) = refl
setting_together together (EditLine edit ∷ lines) = refl
setting_together together (ViewLine view ∷ lines) = refl
setting_together together (Open id asked ∷ lines) = refl
setting_together together (BeginLine id ∷ lines) = refl
setting_together together (CommitLine id ∷ lines) = refl
setting_together together (WaitLine id ∷ lines) = refl
setting_together together (LookLine id ∷ lines) = refl
setting_together together (SnapLine id ∷ lines) = refl
setting_together together (StoreLine id ∷ lines) = refl
setting_together together (CarryLine number ∷ lines) = refl
setting_together together (DropLine number ∷ lines) = refl
setting_together together (MarkupLine markup ∷ lines) = refl
setting_together together (End ∷ lines) = refl

replicas_told : (together : Together) (lines : List Line) → (length (script_setting together lines).home_weights ≡ replicas_of Home lines) × (length (script_setting together lines).west_weights ≡ replicas_of West lines)
replicas_told together [] = (refl, refl)
replicas_told together (FarmLine home west epoch ∷ lines) = (refl, refl)
replicas_told together (BoundsLine b ∷ lines) = (refl, refl)
replicas_told together (At at ∷ lines) = (refl, refl)
replicas_told together (BeatLine ∷ lines) = (refl, refl)
replicas_told together (ApplyLine r replica count ∷ lines) = (refl, refl)
replicas_told together (EditLine edit ∷ lines) = (refl, refl)
replicas_told together (ViewLine view ∷ lines) = (refl, refl)
replicas_told together (Open id asked ∷ lines) = (refl, refl)
replicas_told together (BeginLine id ∷ lines) = (refl, refl)
replicas_told together (CommitLine id ∷ lines) = (refl, refl)
replicas_told together (WaitLine id ∷ lines) = (refl, refl)
replicas_told together (LookLine id ∷ lines) = (refl, refl)
replicas_told together (SnapLine id ∷ lines) = (refl, refl)
replicas_told together (StoreLine id ∷ lines) = (refl, refl)
replicas_told together (CarryLine number ∷ lines) = (refl, refl)
replicas_told together (DropLine number ∷ lines) = (refl, refl)
replicas_told together (MarkupLine markup ∷ lines) = (refl, refl)
replicas_told together (End ∷ lines) = (refl, refl)

-- what a farm asks of its plan

pub plan_allowed : (plan : FarmPlan) (lines : List Line) → IsScriptPlan plan lines → (together : Together) → IsAllowed (script_setting together lines)
plan_allowed plan lines p together = script_allowed together lines p.input p.is_script.lines_read

module _ (plan : FarmPlan) (lines : List Line) (p : IsScriptPlan plan lines) (together : Together) where
  plan_fits : IsPlanOf (script_setting together lines) plan
  plan_fits = p.fits together

  pub home_some : 0 < length plan.home.weights
  home_some = subst (λ (ws : List ℕ). 0 < length ws) (sym plan_fits.home) (plan_allowed plan lines p together).home_some

  pub home_few : length plan.home.weights ≤ replicas_max
  home_few = subst (λ (ws : List ℕ). length ws ≤ replicas_max) (sym plan_fits.home) (plan_allowed plan lines p together).home_few

  pub west_some : 0 < length plan.west.weights
  west_some = subst (λ (ws : List ℕ). 0 < length ws) (sym plan_fits.west) (plan_allowed plan lines p together).west_some

  pub west_few : length plan.west.weights ≤ replicas_max
  west_few = subst (λ (ws : List ℕ). length ws ≤ replicas_max) (sym plan_fits.west) (plan_allowed plan lines p together).west_few

  pub delay_few : plan.bounds.commit_delay ≤ bound_max
  delay_few = subst (λ b. b.commit_delay ≤ bound_max) (sym plan_fits.bounds) (plan_allowed plan lines p together).delay

  pub held_some : 0 < hold_off (bounds_of plan.bounds)
  held_some = subst (λ b. 0 < hold_off b) (sym plan_fits.bounds) (plan_allowed plan lines p together).holds

  pub held_short : hold_off (bounds_of plan.bounds) ≤ 3 * bound_max
  held_short = subst (λ b. hold_off b ≤ 3 * bound_max) (sym plan_fits.bounds) (plan_allowed plan lines p together).short

  module _ {K S : Type 0} (content : K → Option (List Entry)) (faults : K → ℕ) (cache_of : S → CacheMap Bytes) where
    cache_fits : (r : Region) (cache : S) → IsScriptCache cache_of together r plan cache → IsCacheOf cache_of (script_setting together lines) r cache
    cache_fits r cache c = record {
      together = λ a b. c.together_is a b ∙ ap (λ (t : Together). t r a b) (sym (setting_together together lines));
      held = c.held ∙ ap hold_off plan_fits.bounds;
    }

    pub starts : (before : K) (home west : S) (farm : FarmParts K S) → IsScriptCache cache_of together Home plan home → IsScriptCache cache_of together West plan west
        → IsFresh plan farm → Opens content faults cache_of before home west no_readings farm → StartsScript content faults cache_of together lines before farm
    starts before home west farm h w fresh opens = record {
      runnable = record {
        follow = lines_follow [] lines p.input p.is_script.lines_read;
        none_open = fresh.none_open;
        whole = fresh.whole;
        home = fresh.home ∙ ap (λ (ws : List ℕ). length ws) plan_fits.home ∙ (replicas_told together lines).0;
        west = fresh.west ∙ ap (λ (ws : List ℕ). length ws) plan_fits.west ∙ (replicas_told together lines).1;
      };
      stands = λ empty. opens (script_setting together lines) [] empty (subst (λ (q : FarmPlan). IsPlanOf (script_setting together lines) q) (sym fresh.plan_is) plan_fits)
          (plan_allowed plan lines p together).skew (cache_fits Home home h) (cache_fits West west w);
    }
