-- What a run of a whole script does: the steps of all lines, in order, and what is told of their answers.
use Rattle.std.specs.Prelude.{ℕ, ◌≡◌, ◌+◌, ◌*◌, ◌<◌, ◌≤◌, false, List, [], ◌∷◌, ◌++◌, length, Option, None, Some}
use Rattle.wiki_model.specs.declared.Region.TheVariants.{Home, West}
use Rattle.wiki_model.specs.declared.Readings.{Readings}
use Rattle.wiki_model.specs.Bytes.{Bytes}
use Rattle.wiki_model.specs.History.{Entry}
use Rattle.wiki_model.specs.Cache.{CacheMap}
use Rattle.wiki_model.specs.World.{World, Setting}
use Rattle.wiki_model.specs.Limits.{replicas_max, bound_max, hold_off}
use Rattle.wiki_model.specs.Answers.{Answer}
use Rattle.wiki_model.specs.Steps.{Rose}
use Rattle.wiki_model.specs.Script.{Line, MayFollow, replicas_of}
use Rattle.wiki_model.specs.Report.{no_readings, report_line}
use Rattle.farm_base.specs.Exposed.{Adds, AddsPrefix}
use Rattle.drill_script.specs.ReadScript.{lines_of}
use Rattle.drill_script.specs.Summary.{IsSummaryOf, IsOrdered}
use Rattle.drill_script.specs.declared.script_line.ScriptLine.{ScriptLine}
use Rattle.drill_script.specs.declared.count_answers.Summary.{Summary}
use Rattle.farm_core.specs.FarmParts.{FarmParts, IsWhole}
use Rattle.farm_steps.specs.RequestMap.{open_at}
use Rattle.farm_core.specs.Runs.{Stands}
use Rattle.script_runner.specs.MakeLine.{opens}
use Rattle.script_runner.specs.RunSoFar.{readings_in, RunSoFar}
use Rattle.script_runner.specs.declared.report_state.ReportState.{ReportState}
use Rattle.script_runner.specs.declared.report_state.ReportState.TheVariants as state
use Rattle.script_runner.specs.declared.report_state.Told.{Told}
use Rattle.script_runner.specs.declared.report_state.LinePlace.{LinePlace}

-- each line may stand where it does, and none opens the request 0, which whole edits and whole views take
abbrev pub AllFollow : (earlier lines : List Line) → Type 0
AllFollow earlier [] = Unit {0}
AllFollow earlier (line ∷ lines) =
    MayFollow earlier line × (opens line 0 ≡ false) × AllFollow (earlier ++ line ∷ []) lines

-- The lines can be run on the farm.
pub record IsRunnable {K S : Type 0} (farm : FarmParts K S) (lines : List Line) : Type 0 where
  pub follow : AllFollow [] lines
  pub none_open : farm.requests ≡ []
  pub whole : IsWhole farm
  -- each region has the replicas that the lines speak of
  pub home : length farm.home.replicas ≡ replicas_of Home lines
  pub west : length farm.west.replicas ≡ replicas_of West lines

-- A farm may be opened with the setting: weights and bounds are within their limits, and so is the hold-off.
pub record IsAllowed (setting : Setting) : Type 0 where
  pub home_some : 0 < length setting.home_weights
  pub home_few : length setting.home_weights ≤ replicas_max
  pub west_some : 0 < length setting.west_weights
  pub west_few : length setting.west_weights ≤ replicas_max
  pub delay : setting.bounds.commit_delay ≤ bound_max
  pub skew : 0 < setting.bounds.skew
  pub holds : 0 < hold_off setting.bounds
  pub short : hold_off setting.bounds ≤ 3 * bound_max

-- none of the lines opens this request
abbrev pub NoneOpens : (id : ℕ) → List Line → Type 0
NoneOpens id [] = Unit {0}
NoneOpens id (line ∷ lines) = (opens line id ≡ false) × NoneOpens id lines

-- the answers of a run of these lines from the farm as it was, and the farm's runs go on by the lines
abbrev pub HasRun :
    {K S : Type 0} → (K → Option (List Entry)) → (K → ℕ) → (S → CacheMap Bytes) → (first now : FarmParts K S)
    → (done : List Line) → (text : Bytes) → List Answer → Type 0
HasRun content faults cache_of first now done text answers =
    (start w : World) → Stands content faults cache_of first start [] w
    → RunSoFar content faults cache_of start now done text answers

-- How far a script was run: these lines are done, and the rest is to come.
pub record IsUnderWay {K S : Type 0} (content : K → Option (List Entry)) (faults : K → ℕ)
    (cache_of : S → CacheMap Bytes)
    (first now : FarmParts K S) (at : Readings) (done : List Line) (text : Bytes) (answers : List Answer) : Type 0 where
  pub at_is : at ≡ readings_in no_readings done
  pub whole : IsWhole now
  pub home : length now.home.replicas ≡ length first.home.replicas
  pub west : length now.west.replicas ≡ length first.west.replicas
  -- what no line has opened is not open
  pub closed : (id : ℕ) → NoneOpens id done → open_at now.requests id ≡ None
  pub run : HasRun content faults cache_of first now done text answers
  pub few : length answers ≤ length done
  -- the keeper's count of faults has not fallen
  pub counts : faults first.keeper ≤ faults now.keeper

-- how much of a text a sink has: all; a prefix, since a write failed; a prefix, since memory ran out
abbrev pub IsReported :
    ReportState → (old new : Option Bytes) → (faults_before faults_now : ℕ) → (text : Bytes) → Type 0
IsReported state.Whole old new before now text = Adds old new text × (before ≤ now)
IsReported state.Failed old new before now text = AddsPrefix old new text × Rose before now
IsReported state.Memory old new before now text = AddsPrefix old new text × (before ≤ now)

-- a text is written after what is there, unless that is a prefix already: then nothing more is written
abbrev pub Continues :
    (before after : ReportState) → (old new : Option Bytes) → (faults_before faults_now : ℕ) → (more : Bytes) → Type 0
Continues state.Whole after old new before now more = IsReported after old new before now more
Continues earlier after old new before now more = (after ≡ earlier) × (new ≡ old) × (now ≡ before)

-- a line is told: its answer is counted and its lines continue the report; one without an answer has no part in it
abbrev pub Tells :
    (before after : Told) → LinePlace → Option Answer → (old new : Option Bytes) → (faults_before faults_now : ℕ)
    → Type 0
Tells told after place None old new before now = (after ≡ told) × (new ≡ old) × (now ≡ before)
Tells told after place (Some answer) old new before now =
    (after.answers ≡ told.answers + 1)
    × Continues told.state after.state old new before now (report_line place.number place.composite answer)

-- What was told of a run: its report, as far as the sink took it, and how many answers that has.
pub record Reports {K S : Type 0} (content : K → Option (List Entry)) (faults : K → ℕ) (cache_of : S → CacheMap Bytes)
    (first now : FarmParts K S) (done : List Line) (told : Told) (old new : Option Bytes) (before after : ℕ) :
    Type 0 where
  pub text : Bytes
  pub answers : List Answer
  pub run : HasRun content faults cache_of first now done text answers
  pub counts : faults first.keeper ≤ faults now.keeper
  pub counted : told.answers ≡ length answers
  pub reported : IsReported told.state old new before after text

-- What was counted of a run's answers.
pub record Counts {K S : Type 0} (content : K → Option (List Entry)) (faults : K → ℕ) (cache_of : S → CacheMap Bytes)
    (first now : FarmParts K S) (done : List Line) (summary : Summary) : Type 0 where
  pub text : Bytes
  pub answers : List Answer
  pub run : HasRun content faults cache_of first now done text answers
  pub counts : faults first.keeper ≤ faults now.keeper
  pub counted : IsSummaryOf summary answers

-- What stands between two lines: these are done, those are to come, and all answers so far were told.
pub record IsTelling {K S : Type 0} (content : K → Option (List Entry)) (faults : K → ℕ) (cache_of : S → CacheMap Bytes)
    (first now : FarmParts K S) (at : Readings) (all done rest : List ScriptLine) (number : ℕ) (told : Told)
    (old new : Option Bytes) (before after : ℕ) : Type 0 where
  pub text : Bytes
  pub answers : List Answer
  pub all_is : done ++ rest ≡ all
  pub under_way : IsUnderWay content faults cache_of first now at (lines_of done) text answers
  pub number_is : number ≡ length done
  pub counted : told.answers ≡ length answers
  pub reported : IsReported told.state old new before after text

-- The same where the answers are counted.
pub record IsCounting {K S : Type 0} (content : K → Option (List Entry)) (faults : K → ℕ)
    (cache_of : S → CacheMap Bytes)
    (first now : FarmParts K S) (at : Readings) (all done rest : List ScriptLine) (summary : Summary) : Type 0 where
  pub text : Bytes
  pub answers : List Answer
  pub all_is : done ++ rest ≡ all
  pub under_way : IsUnderWay content faults cache_of first now at (lines_of done) text answers
  pub counted : IsSummaryOf summary answers
  pub ordered : IsOrdered summary
