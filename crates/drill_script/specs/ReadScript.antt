-- What reading a script answers.
use Rattle.std.specs.Prelude.{◌≡◌, Bool, List, map, Result, Ok, Err}
use Rattle.wiki_model.specs.declared.Region.{Region}
use Rattle.wiki_model.specs.Bytes.{Bytes}
use Rattle.wiki_model.specs.Limits.{script_slots}
use Rattle.wiki_model.specs.Report.{script_setting}
use Rattle.wiki_model.specs.Script.{Line, IsScript, IsFirstFault}
use Rattle.wiki_model.specs.Titles.{Title}
use Rattle.region_state.specs.AsModel.{IsPlanOf}
use Rattle.region_state.specs.declared.plan.FarmPlan.{FarmPlan}
use Rattle.drill_script.specs.AsModel.{line_of}
use Rattle.drill_script.specs.declared.whole_script.Script.{Script}
use Rattle.drill_script.specs.declared.whole_script.ScriptFault.{ScriptFault}
use Rattle.drill_script.specs.declared.whole_script.ScriptFault.TheVariants as faults
use Rattle.drill_script.specs.declared.script_line.ScriptLine.{ScriptLine}

abbrev pub lines_of : List ScriptLine → List Line
lines_of lines = map line_of lines

-- the plan is the setting that the first lines give, in whatever way titles go together
abbrev pub IsPlan : List ScriptLine → FarmPlan → Type 0
IsPlan lines plan =
    (together : Region → Title → Title → Bool) → IsPlanOf (script_setting together (lines_of lines)) plan

-- each cache has room for 65,536 pages, and replicas apply nothing of themselves
abbrev pub HasRoom : FarmPlan → Type 0
HasRoom plan = (plan.home.slots ≡ script_slots) × (plan.west.slots ≡ script_slots) × (plan.pace ≡ 0)

-- The script is that of the bytes: item n of its lines is line n, and its plan is theirs.
pub record IsScriptOf (script : Script) (bytes : Bytes) : Type 0 where
  pub lines : IsScript (lines_of script.lines) bytes
  pub plan : IsPlan script.lines script.plan

-- the first line that is none; nothing is said when memory runs out
abbrev pub IsFaultOf : ScriptFault → Bytes → Type 0
IsFaultOf (faults.Line n) bytes = IsFirstFault bytes n
IsFaultOf faults.Memory bytes = Unit {0}

-- the script, or why there is none
abbrev pub ReadsScript : Result Script ScriptFault → Bytes → Type 0
ReadsScript (Ok script) bytes = IsScriptOf script bytes
ReadsScript (Err fault) bytes = IsFaultOf fault bytes

-- the same of the lines alone
abbrev pub ReadsLines : {X : Type 0} → (X → List ScriptLine) → Result X ScriptFault → Bytes → Type 0
ReadsLines view (Ok lines) bytes = IsScript (lines_of (view lines)) bytes
ReadsLines view (Err fault) bytes = IsFaultOf fault bytes
