-- The layout that the first lines tell is the setting of the model.
use Rattle.std.proofs.Common.{◌≡◌, ℕ, Bool, List, [], ◌∷◌, Option, refl, sym, ap, ◌∙◌, option_map}
use Rattle.std.specs.Prelude.{slice_get}
use Rattle.std.proofs.lemmas.Option.{slice_get-map}
use Rattle.wiki_model.specs.declared.Region.{Region}
use Rattle.wiki_model.specs.declared.Region.TheVariants.{Home, West}
use Rattle.wiki_model.specs.Report.{bounds_of, script_setting}
use Rattle.wiki_model.specs.Script.{Line}
use Rattle.wiki_model.specs.Script.Line.{FarmLine, BoundsLine, At, BeatLine, ApplyLine, EditLine, ViewLine, Open, BeginLine, CommitLine, WaitLine, LookLine, SnapLine, StoreLine, CarryLine, DropLine, MarkupLine, End}
use Rattle.wiki_model.specs.Titles.{Title}
use Rattle.farm_base.specs.AsModel as base
use Rattle.region_state.specs.declared.plan.FarmPlan.{FarmPlan}
use Rattle.drill_script.specs.AsModel.{line_of}
use Rattle.drill_script.specs.Plan.{weights_told, epoch_told, bounds_at, bounds_told}
use Rattle.drill_script.specs.ReadScript.{lines_of, IsPlan}
use Rattle.drill_script.specs.declared.script_line.ScriptLine.{ScriptLine}

pub got : (lines : List ScriptLine) (place : ℕ) (o : Option ScriptLine) → o ≡ slice_get lines place → option_map line_of o ≡ slice_get (lines_of lines) place
got lines place o e = ap (option_map line_of) e ∙ sym (slice_get-map line_of lines place)

bounds_first : (lines : List Line) → bounds_at (slice_get lines 0) ≡ bounds_of (FarmLine [] [] 0 ∷ lines)
bounds_first [] = refl
bounds_first ((FarmLine a b c) ∷ lines) = refl
bounds_first ((BoundsLine a) ∷ lines) = refl
bounds_first ((At a) ∷ lines) = refl
bounds_first (BeatLine ∷ lines) = refl
bounds_first ((ApplyLine a b c) ∷ lines) = refl
bounds_first ((EditLine a) ∷ lines) = refl
bounds_first ((ViewLine a) ∷ lines) = refl
bounds_first ((Open a b) ∷ lines) = refl
bounds_first ((BeginLine a) ∷ lines) = refl
bounds_first ((CommitLine a) ∷ lines) = refl
bounds_first ((WaitLine a) ∷ lines) = refl
bounds_first ((LookLine a) ∷ lines) = refl
bounds_first ((SnapLine a) ∷ lines) = refl
bounds_first ((StoreLine a) ∷ lines) = refl
bounds_first ((CarryLine a) ∷ lines) = refl
bounds_first ((DropLine a) ∷ lines) = refl
bounds_first ((MarkupLine a) ∷ lines) = refl
bounds_first (End ∷ lines) = refl

farm_bounds : (home west : List ℕ) (epoch : ℕ) (lines : List Line) → bounds_of (FarmLine [] [] 0 ∷ lines) ≡ bounds_of (FarmLine home west epoch ∷ lines)
farm_bounds home west epoch [] = refl
farm_bounds home west epoch ((FarmLine a b c) ∷ lines) = refl
farm_bounds home west epoch ((BoundsLine a) ∷ lines) = refl
farm_bounds home west epoch ((At a) ∷ lines) = refl
farm_bounds home west epoch (BeatLine ∷ lines) = refl
farm_bounds home west epoch ((ApplyLine a b c) ∷ lines) = refl
farm_bounds home west epoch ((EditLine a) ∷ lines) = refl
farm_bounds home west epoch ((ViewLine a) ∷ lines) = refl
farm_bounds home west epoch ((Open a b) ∷ lines) = refl
farm_bounds home west epoch ((BeginLine a) ∷ lines) = refl
farm_bounds home west epoch ((CommitLine a) ∷ lines) = refl
farm_bounds home west epoch ((WaitLine a) ∷ lines) = refl
farm_bounds home west epoch ((LookLine a) ∷ lines) = refl
farm_bounds home west epoch ((SnapLine a) ∷ lines) = refl
farm_bounds home west epoch ((StoreLine a) ∷ lines) = refl
farm_bounds home west epoch ((CarryLine a) ∷ lines) = refl
farm_bounds home west epoch ((DropLine a) ∷ lines) = refl
farm_bounds home west epoch ((MarkupLine a) ∷ lines) = refl
farm_bounds home west epoch (End ∷ lines) = refl

bounds_are : (lines : List Line) → bounds_told (slice_get lines 0) (slice_get lines 1) ≡ bounds_of lines
bounds_are [] = refl
bounds_are (FarmLine a b c ∷ lines) = bounds_first lines ∙ farm_bounds a b c lines
bounds_are ((BoundsLine a) ∷ lines) = refl
bounds_are ((At a) ∷ lines) = refl
bounds_are (BeatLine ∷ lines) = refl
bounds_are ((ApplyLine a b c) ∷ lines) = refl
bounds_are ((EditLine a) ∷ lines) = refl
bounds_are ((ViewLine a) ∷ lines) = refl
bounds_are ((Open a b) ∷ lines) = refl
bounds_are ((BeginLine a) ∷ lines) = refl
bounds_are ((CommitLine a) ∷ lines) = refl
bounds_are ((WaitLine a) ∷ lines) = refl
bounds_are ((LookLine a) ∷ lines) = refl
bounds_are ((SnapLine a) ∷ lines) = refl
bounds_are ((StoreLine a) ∷ lines) = refl
bounds_are ((CarryLine a) ∷ lines) = refl
bounds_are ((DropLine a) ∷ lines) = refl
bounds_are ((MarkupLine a) ∷ lines) = refl
bounds_are (End ∷ lines) = refl

module _ (together : Region → Title → Title → Bool) where
  home_is : (lines : List Line) → weights_told Home (slice_get lines 0) ≡ (script_setting together lines).home_weights
  home_is [] = refl
  home_is ((FarmLine a b c) ∷ lines) = refl
  home_is ((BoundsLine a) ∷ lines) = refl
  home_is ((At a) ∷ lines) = refl
  home_is (BeatLine ∷ lines) = refl
  home_is ((ApplyLine a b c) ∷ lines) = refl
  home_is ((EditLine a) ∷ lines) = refl
  home_is ((ViewLine a) ∷ lines) = refl
  home_is ((Open a b) ∷ lines) = refl
  home_is ((BeginLine a) ∷ lines) = refl
  home_is ((CommitLine a) ∷ lines) = refl
  home_is ((WaitLine a) ∷ lines) = refl
  home_is ((LookLine a) ∷ lines) = refl
  home_is ((SnapLine a) ∷ lines) = refl
  home_is ((StoreLine a) ∷ lines) = refl
  home_is ((CarryLine a) ∷ lines) = refl
  home_is ((DropLine a) ∷ lines) = refl
  home_is ((MarkupLine a) ∷ lines) = refl
  home_is (End ∷ lines) = refl

  west_is : (lines : List Line) → weights_told West (slice_get lines 0) ≡ (script_setting together lines).west_weights
  west_is [] = refl
  west_is ((FarmLine a b c) ∷ lines) = refl
  west_is ((BoundsLine a) ∷ lines) = refl
  west_is ((At a) ∷ lines) = refl
  west_is (BeatLine ∷ lines) = refl
  west_is ((ApplyLine a b c) ∷ lines) = refl
  west_is ((EditLine a) ∷ lines) = refl
  west_is ((ViewLine a) ∷ lines) = refl
  west_is ((Open a b) ∷ lines) = refl
  west_is ((BeginLine a) ∷ lines) = refl
  west_is ((CommitLine a) ∷ lines) = refl
  west_is ((WaitLine a) ∷ lines) = refl
  west_is ((LookLine a) ∷ lines) = refl
  west_is ((SnapLine a) ∷ lines) = refl
  west_is ((StoreLine a) ∷ lines) = refl
  west_is ((CarryLine a) ∷ lines) = refl
  west_is ((DropLine a) ∷ lines) = refl
  west_is ((MarkupLine a) ∷ lines) = refl
  west_is (End ∷ lines) = refl

  epoch_is : (lines : List Line) → epoch_told (slice_get lines 0) ≡ (script_setting together lines).epoch
  epoch_is [] = refl
  epoch_is ((FarmLine a b c) ∷ lines) = refl
  epoch_is ((BoundsLine a) ∷ lines) = refl
  epoch_is ((At a) ∷ lines) = refl
  epoch_is (BeatLine ∷ lines) = refl
  epoch_is ((ApplyLine a b c) ∷ lines) = refl
  epoch_is ((EditLine a) ∷ lines) = refl
  epoch_is ((ViewLine a) ∷ lines) = refl
  epoch_is ((Open a b) ∷ lines) = refl
  epoch_is ((BeginLine a) ∷ lines) = refl
  epoch_is ((CommitLine a) ∷ lines) = refl
  epoch_is ((WaitLine a) ∷ lines) = refl
  epoch_is ((LookLine a) ∷ lines) = refl
  epoch_is ((SnapLine a) ∷ lines) = refl
  epoch_is ((StoreLine a) ∷ lines) = refl
  epoch_is ((CarryLine a) ∷ lines) = refl
  epoch_is ((DropLine a) ∷ lines) = refl
  epoch_is ((MarkupLine a) ∷ lines) = refl
  epoch_is (End ∷ lines) = refl

  workers_is : (lines : List Line) → 1 ≡ (script_setting together lines).workers
  workers_is [] = refl
  workers_is ((FarmLine a b c) ∷ lines) = refl
  workers_is ((BoundsLine a) ∷ lines) = refl
  workers_is ((At a) ∷ lines) = refl
  workers_is (BeatLine ∷ lines) = refl
  workers_is ((ApplyLine a b c) ∷ lines) = refl
  workers_is ((EditLine a) ∷ lines) = refl
  workers_is ((ViewLine a) ∷ lines) = refl
  workers_is ((Open a b) ∷ lines) = refl
  workers_is ((BeginLine a) ∷ lines) = refl
  workers_is ((CommitLine a) ∷ lines) = refl
  workers_is ((WaitLine a) ∷ lines) = refl
  workers_is ((LookLine a) ∷ lines) = refl
  workers_is ((SnapLine a) ∷ lines) = refl
  workers_is ((StoreLine a) ∷ lines) = refl
  workers_is ((CarryLine a) ∷ lines) = refl
  workers_is ((DropLine a) ∷ lines) = refl
  workers_is ((MarkupLine a) ∷ lines) = refl
  workers_is (End ∷ lines) = refl

  bounds_is : (lines : List Line) → bounds_of lines ≡ (script_setting together lines).bounds
  bounds_is [] = refl
  bounds_is ((FarmLine a b c) ∷ lines) = refl
  bounds_is ((BoundsLine a) ∷ lines) = refl
  bounds_is ((At a) ∷ lines) = refl
  bounds_is (BeatLine ∷ lines) = refl
  bounds_is ((ApplyLine a b c) ∷ lines) = refl
  bounds_is ((EditLine a) ∷ lines) = refl
  bounds_is ((ViewLine a) ∷ lines) = refl
  bounds_is ((Open a b) ∷ lines) = refl
  bounds_is ((BeginLine a) ∷ lines) = refl
  bounds_is ((CommitLine a) ∷ lines) = refl
  bounds_is ((WaitLine a) ∷ lines) = refl
  bounds_is ((LookLine a) ∷ lines) = refl
  bounds_is ((SnapLine a) ∷ lines) = refl
  bounds_is ((StoreLine a) ∷ lines) = refl
  bounds_is ((CarryLine a) ∷ lines) = refl
  bounds_is ((DropLine a) ∷ lines) = refl
  bounds_is ((MarkupLine a) ∷ lines) = refl
  bounds_is (End ∷ lines) = refl

pub plan_is : (lines : List ScriptLine) (first next : Option Line) (plan : FarmPlan) → first ≡ slice_get (lines_of lines) 0 → next ≡ slice_get (lines_of lines) 1
    → plan.home.weights ≡ weights_told Home first → plan.west.weights ≡ weights_told West first → plan.epoch ≡ epoch_told first → plan.workers ≡ 1 → base.bounds_of plan.bounds ≡ bounds_told first next → IsPlan lines plan
plan_is lines first next plan e f home west epoch workers bounds together = record {
  home = home ∙ ap (weights_told Home) e ∙ home_is together (lines_of lines);
  west = west ∙ ap (weights_told West) e ∙ west_is together (lines_of lines);
  epoch = epoch ∙ ap epoch_told e ∙ epoch_is together (lines_of lines);
  workers = workers ∙ workers_is together (lines_of lines);
  bounds = bounds ∙ ap (λ o. bounds_told o next) e ∙ ap (bounds_told (slice_get (lines_of lines) 0)) f ∙ bounds_are (lines_of lines) ∙ bounds_is together (lines_of lines);
}
