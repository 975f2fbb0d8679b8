-- How the program ends: its exit status, and what stands in the sink at each end.
-- A sink that exposes its bytes at the return has what is said here; one that has fallen silent exposes nothing.
use Rattle.std.specs.Prelude.{◌≡◌, ℕ, ◌⊎◌, ◌≤◌, Bool, List, [], ◌++◌, length, reverse, Option, None, Some}
use Rattle.wiki_model.specs.declared.Region.{Region}
use Rattle.wiki_model.specs.Bytes.{Bytes}
use Rattle.wiki_model.specs.Limits.{script_slots}
use Rattle.wiki_model.specs.Titles.{Title}
use Rattle.wiki_model.specs.History.{Entry}
use Rattle.wiki_model.specs.World.{World}
use Rattle.wiki_model.specs.Steps.{Rose}
use Rattle.wiki_model.specs.Runs.{Turn, IsRun}
use Rattle.wiki_model.specs.Script.{Line, IsScript, IsFirstFault}
use Rattle.wiki_model.specs.Report.{MakesAll, no_readings, flat, report, report_from}
use Rattle.wiki_model.specs.Generator.{stirred, summary}
use Rattle.farm_base.specs.Exposed.{Adds, AddsPrefix, Stays}
use Rattle.slot_cache.specs.Slots.{same_slot}
use Rattle.script_runner.specs.Openings.{script_start}
use Rattle.wiki_cli.specs.Command.{usage_line, read_fault_line, store_fault_line, script_line, not_empty_line, door_fault_line, layout_line}
use Rattle.wiki_cli.specs.declared.status.Status.{Status}
use Rattle.wiki_cli.specs.declared.status.Status.TheVariants as status

abbrev pub exit_number : Status → ℕ
exit_number status.Ok = 0
exit_number status.Usage = 2
exit_number (status.Script n) = 3
exit_number status.ReadFault = 4
exit_number status.WriteFault = 5
exit_number status.StoreFault = 6
exit_number status.Memory = 7
exit_number status.DoorFault = 8
exit_number (status.NotEmpty n) = 9
exit_number (status.Layout n) = 10

-- in the caches of the program two titles are together if they have one slot
abbrev pub together : Region → Title → Title → Bool
together r a b = same_slot script_slots a b

-- the text is written, or a prefix of it if a write failed
abbrev pub IsWritten : (failed : Type 0) → (old new : Option Bytes) → (text : Bytes) → Type 0
IsWritten failed old new text = Adds old new text ⊎ (failed × AddsPrefix old new text)

-- what a refusal writes that hangs on nothing but its status
abbrev pub Says : (failed : Type 0) → (old new : Option Bytes) → Status → Type 0
Says failed old new status.Usage = IsWritten failed old new usage_line
Says failed old new (status.Script n) = IsWritten failed old new (script_line n)
Says failed old new status.ReadFault = IsWritten failed old new read_fault_line
Says failed old new (status.NotEmpty n) = IsWritten failed old new (not_empty_line n)
Says failed old new status.DoorFault = IsWritten failed old new door_fault_line
Says failed old new (status.Layout n) = IsWritten failed old new (layout_line n)
Says failed old new _ = Unit {0}

-- Runs of scripts

-- What a keeper shows of itself after a call: its history, if it exposes that, and its count of faults.
pub record Kept : Type 0 where
  pub history : Option (List Entry)
  pub faults : ℕ

-- The turns are those of these lines, and lead from the start to a last world, whose history is then the keeper's.
pub record IsRunFrom (start : World) (lines : List Line) (kept : Kept) (turns : List (List Turn))
    (last : World) : Type 0 where
  pub makes : MakesAll no_readings lines turns
  pub run : IsRun start (reverse (flat turns)) last
  pub history_is : kept.history ≡ Some last.history
  pub faults : last.faults ≤ kept.faults

-- the text is the report of such turns
pub record IsReportFrom (start : World) (lines : List Line) (kept : Kept) (text : Bytes) : Type 0 where
  pub turns : List (List Turn)
  pub last : World
  pub is_run : IsRunFrom start lines kept turns last
  pub text_is : text ≡ report lines turns (length last.history)

-- the text is that of their answers, without the last line: the keeper failed when it was asked for its length
pub record IsCutReportFrom (start : World) (lines : List Line) (kept : Kept) (text : Bytes) : Type 0 where
  pub turns : List (List Turn)
  pub last : World
  pub is_run : IsRunFrom start lines kept turns last
  pub rose : Rose last.faults kept.faults
  pub text_is : text ≡ report_from 1 lines turns

-- the text counts their answers
pub record IsSummaryFrom (start : World) (steps : ℕ) (lines : List Line) (kept : Kept) (text : Bytes) : Type 0 where
  pub turns : List (List Turn)
  pub last : World
  pub is_run : IsRunFrom start lines kept turns last
  pub text_is : text ≡ summary steps lines turns (length last.history)

-- The bytes are a script, of which a claim is made from its start. `began` is what the keeper had counted then.
pub record OfScript (input : Bytes) (faults_before : ℕ) (Claim : World → List Line → Type 0) : Type 0 where
  pub lines : List Line
  pub began : ℕ
  pub is_script : IsScript lines input
  pub since : faults_before ≤ began
  pub claim : Claim (script_start together lines began) lines

abbrev pub IsReportOf : (input : Bytes) → (faults_before : ℕ) → Kept → (text : Bytes) → Type 0
IsReportOf input before kept text = OfScript input before (λ start lines. IsReportFrom start lines kept text)

abbrev pub IsCutReportOf : (input : Bytes) → (faults_before : ℕ) → Kept → (text : Bytes) → Type 0
IsCutReportOf input before kept text = OfScript input before (λ start lines. IsCutReportFrom start lines kept text)

abbrev pub IsSummaryOf : (seed steps : ℕ) → (faults_before : ℕ) → Kept → (text : Bytes) → Type 0
IsSummaryOf seed steps before kept text =
    OfScript (stirred seed steps) before (λ start lines. IsSummaryFrom start steps lines kept text)

-- such a text is written, or a prefix of it
abbrev pub Writes : (Is Writes : Bytes → Type 0) → Type 0
Writes Is Has = (text : Bytes) × Is text × Has text

-- What is written of a run by its end. `Whole` says what the report is, `Cut` what it is without its last line. All
-- steps are made whatever becomes of the writing.
abbrev pub EndsReport : (Whole Cut : Bytes → Type 0) → (failed : Type 0) → (old new : Option Bytes) → Status → Type 0
EndsReport Whole Cut failed old new status.Ok = Writes Whole (Adds old new)
EndsReport Whole Cut failed old new status.WriteFault = Writes Whole (AddsPrefix old new)
EndsReport Whole Cut failed old new status.Memory = Stays old new ⊎ Writes Whole (AddsPrefix old new)
EndsReport Whole Cut failed old new status.StoreFault =
    IsWritten failed old new store_fault_line ⊎ Writes Cut (λ text. IsWritten failed old new (text ++ store_fault_line))
EndsReport Whole Cut failed old new (status.NotEmpty n) = ⊥
EndsReport Whole Cut failed old new status.DoorFault = ⊥
EndsReport Whole Cut failed old new (status.Layout n) = ⊥
EndsReport Whole Cut failed old new _ = Unit {0}

-- What `drill` makes of a script's bytes over a keeper whose history is empty.
abbrev pub Drills :
    (input : Bytes) → (faults_before : ℕ) → Kept → (failed : Type 0) → (old new : Option Bytes) → Status → Type 0
Drills input before kept failed old new said =
    EndsReport (IsReportOf input before kept) (IsCutReportOf input before kept) failed old new said

-- What is written of the counts of a run, by its end.
abbrev pub EndsSummary : (Whole : Bytes → Type 0) → (failed : Type 0) → (old new : Option Bytes) → Status → Type 0
EndsSummary Whole failed old new status.Ok = Writes Whole (Adds old new)
EndsSummary Whole failed old new status.WriteFault = Writes Whole (AddsPrefix old new)
EndsSummary Whole failed old new status.Memory = Stays old new
EndsSummary Whole failed old new status.StoreFault = IsWritten failed old new store_fault_line
EndsSummary Whole failed old new _ = ⊥

-- What `stir` makes of a seed and a number of steps over such a keeper.
abbrev pub Stirs :
    (seed steps : ℕ) → (faults_before : ℕ) → Kept → (failed : Type 0) → (old new : Option Bytes) → Status → Type 0
Stirs seed steps before kept failed old new said = EndsSummary (IsSummaryOf seed steps before kept) failed old new said

-- a script whose first faulty line this is
abbrev pub IsRefusedBy : (input : Bytes) → Status → Type 0
IsRefusedBy input (status.Script n) = IsFirstFault input n
IsRefusedBy input _ = Unit {0}

-- over a keeper that has entries nothing is run
abbrev pub IsNotEmpty : (history : List Entry) → Status → Type 0
IsNotEmpty [] said = Unit {0}
IsNotEmpty history said =
    (said ≡ status.NotEmpty (length history)) ⊎ ((said ≡ status.StoreFault) ⊎ (said ≡ status.Memory))

-- a fault of the sink or of the keeper is named only if its count rose
abbrev pub HasRisen : (write store : Type 0) → Status → Type 0
HasRisen write store status.WriteFault = write
HasRisen write store status.StoreFault = store
HasRisen write store _ = Unit {0}

-- the bytes are exposed, and have the property
abbrev pub IsExposed : Option Bytes → (Bytes → Type 0) → Type 0
IsExposed None P = ⊥
IsExposed (Some bytes) P = P bytes
