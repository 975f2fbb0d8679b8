-- What the last part of a command writes, after a script was run.
use Rattle.std.specs.Prelude.{ℕ, ◌≡◌, ◌≤◌, List, Option, Result, Ok, Err}
use Rattle.wiki_model.specs.Bytes.{Bytes}
use Rattle.wiki_model.specs.History.{Entry}
use Rattle.wiki_model.specs.Answers.{Answer}
use Rattle.wiki_model.specs.Steps.{Rose}
use Rattle.wiki_model.specs.Report.{end_line}
use Rattle.wiki_model.specs.Generator.{summary_of}
use Rattle.farm_base.specs.Exposed.{Adds, AddsPrefix}
use Rattle.revision_keeper.specs.declared.keeper.KeepFault.{KeepFault}
use Rattle.revision_keeper.specs.declared.keeper.KeepFault.TheVariants as keep
use Rattle.drill_script.specs.Summary.{IsSummaryOf}
use Rattle.drill_script.specs.declared.count_answers.Summary.{Summary}
use Rattle.script_runner.specs.declared.report_state.ReportState.{ReportState}
use Rattle.script_runner.specs.declared.report_state.ReportState.TheVariants as state
use Rattle.script_runner.specs.declared.report_state.Told.{Told}
use Rattle.wiki_cli.specs.Command.{store_fault_line}
use Rattle.wiki_cli.specs.Ends.{Kept, IsWritten}
use Rattle.wiki_cli.specs.declared.status.Status.{Status}
use Rattle.wiki_cli.specs.declared.status.Status.TheVariants as status

-- the keeper that is left, as it exposes itself
abbrev pub kept_by : {K : Type 0} → (K → Option (List Entry)) → (K → ℕ) → K → Kept
kept_by content faults keeper = record { history = content keeper; faults = faults keeper }

-- how a run may end
abbrev pub IsRunEnd : Status → Type 0
IsRunEnd status.Ok = Unit {0}
IsRunEnd status.WriteFault = Unit {0}
IsRunEnd status.StoreFault = Unit {0}
IsRunEnd status.Memory = Unit {0}
IsRunEnd _ = ⊥

-- a text is written, or a prefix of it
abbrev pub WritesText : (old new : Option Bytes) → (faults_before faults_now : ℕ) → (text : Bytes) → Status → Type 0
WritesText old new before now text status.Ok = Adds old new text × (before ≤ now)
WritesText old new before now text status.WriteFault = AddsPrefix old new text × Rose before now
WritesText old new before now text _ = ⊥

-- a text is written after a report that is whole; a report that is not stays as it is
abbrev pub WritesLast :
    (before : ReportState) → (old new : Option Bytes) → (faults_before faults_now : ℕ) → (text : Bytes) → Status
    → Type 0
WritesLast state.Whole old new before now text status.Ok = Adds old new text × (before ≤ now)
WritesLast state.Whole old new before now text status.WriteFault = AddsPrefix old new text × Rose before now
WritesLast state.Whole old new before now text status.Memory = AddsPrefix old new text × (before ≤ now)
WritesLast state.Failed old new before now text status.WriteFault = (new ≡ old) × (now ≡ before)
WritesLast state.Memory old new before now text status.Memory = (new ≡ old) × (now ≡ before)
WritesLast _ old new before now text _ = ⊥

-- the keeper failed when it was asked for its length
abbrev pub FailsReport : ReportState → (old new : Option Bytes) → (faults_before faults_now : ℕ) → Status → Type 0
FailsReport state.Whole old new before now status.StoreFault =
    IsWritten (Rose before now) old new store_fault_line × (before ≤ now)
FailsReport state.Failed old new before now status.StoreFault = (new ≡ old) × (now ≡ before)
FailsReport state.Memory old new before now status.Memory = (new ≡ old) × (now ≡ before)
FailsReport _ old new before now _ = ⊥

-- what is written after the answers of a report
abbrev pub ClosesReport :
    Told → Result ℕ KeepFault → (old new : Option Bytes) → (faults_before faults_now : ℕ) → Status → Type 0
ClosesReport told (Ok entries) old new before now said =
    WritesLast told.state old new before now (end_line told.answers entries) said
ClosesReport told (Err keep.Fault) old new before now said = FailsReport told.state old new before now said
ClosesReport told (Err keep.Memory) old new before now said = (said ≡ status.Memory) × (new ≡ old) × (now ≡ before)

-- what is written of counted answers: nothing, if memory runs out
abbrev pub WritesCounts :
    (old new : Option Bytes) → (faults_before faults_now : ℕ) → (steps entries : ℕ) → Summary → Status → Type 0
WritesCounts old new before now steps entries summary status.Ok =
    (answers : List Answer) → IsSummaryOf summary answers → Adds old new (summary_of steps entries answers)
WritesCounts old new before now steps entries summary status.WriteFault =
    ((answers : List Answer) → IsSummaryOf summary answers → AddsPrefix old new (summary_of steps entries answers))
    × Rose before now
WritesCounts old new before now steps entries summary status.Memory = new ≡ old
WritesCounts old new before now steps entries summary _ = ⊥

abbrev pub WritesSummary :
    (steps : ℕ) → Summary → Result ℕ KeepFault → (old new : Option Bytes) → (faults_before faults_now : ℕ) → Status
    → Type 0
WritesSummary steps summary (Ok entries) old new before now said =
    WritesCounts old new before now steps entries summary said
WritesSummary steps summary (Err keep.Fault) old new before now said =
    (said ≡ status.StoreFault) × IsWritten (Rose before now) old new store_fault_line
WritesSummary steps summary (Err keep.Memory) old new before now said = (said ≡ status.Memory) × (new ≡ old)
