-- What a command does over a keeper, by what was there before and after it.
use Rattle.std.specs.Prelude.{ℕ, ◌≡◌, ◌<◌, ◌≤◌, List, [], length, Option, Some}
use Rattle.wiki_model.specs.Bytes.{Bytes}
use Rattle.wiki_model.specs.World.{World}
use Rattle.wiki_model.specs.History.{Entry}
use Rattle.wiki_model.specs.Limits.{seed_limit, steps_max}
use Rattle.wiki_model.specs.Script.{Line}
use Rattle.farm_core.specs.declared.farm.NewFault.{NewFault}
use Rattle.farm_core.specs.declared.farm.NewFault.TheVariants as new
use Rattle.script_runner.specs.Openings.{script_start}
use Rattle.farm_base.specs.Exposed.{Stays}
use Rattle.wiki_cli.specs.Command.{store_fault_line}
use Rattle.wiki_cli.specs.Ends.{together, IsWritten, Kept, OfScript, IsSummaryFrom, EndsSummary}
use Rattle.wiki_cli.specs.RunFarm.{IsRunEnd}
use Rattle.wiki_cli.specs.declared.command.Command.{Command}
use Rattle.wiki_cli.specs.declared.command.Command.TheVariants as command
use Rattle.wiki_cli.specs.declared.command.ScriptCommand.{ScriptCommand}
use Rattle.wiki_cli.specs.declared.command.ScriptCommand.TheVariants as script
use Rattle.wiki_cli.specs.declared.status.Status.{Status}
use Rattle.wiki_cli.specs.declared.status.Status.TheVariants as status

-- what holds of the runs of these lines, from each start that a keeper without entries allows
abbrev pub FromStart :
    {K : Type 0} → (K → Option (List Entry)) → (K → ℕ) → (keeper : K) → List Line → (World → Type 0) → Type 0
FromStart content faults keeper lines Claim =
    content keeper ≡ Some [] → Claim (script_start together lines (faults keeper))

-- a farm that was not opened: the status says why
abbrev pub fault_status : NewFault → Status
fault_status new.Fault = status.StoreFault
fault_status new.Memory = status.Memory

abbrev pub RefusesOpening : (failed : Type 0) → (old now : Option Bytes) → NewFault → Type 0
RefusesOpening failed old now new.Fault = IsWritten failed old now store_fault_line
RefusesOpening failed old now new.Memory = Stays old now

-- how each command may end

abbrev pub IsDrillEnd : Status → Type 0
IsDrillEnd (status.Script n) = Unit {0}
IsDrillEnd said = IsRunEnd said

abbrev pub IsSourceEnd : Status → Type 0
IsSourceEnd status.ReadFault = Unit {0}
IsSourceEnd said = IsDrillEnd said

-- over a keeper that may have entries
abbrev pub IsScriptEnd : Status → Type 0
IsScriptEnd (status.NotEmpty n) = Unit {0}
IsScriptEnd said = IsSourceEnd said

-- of a wiki that is served
abbrev pub IsServeEnd : Status → Type 0
IsServeEnd status.Usage = ⊥
IsServeEnd (status.Script n) = ⊥
IsServeEnd (status.NotEmpty n) = ⊥
IsServeEnd _ = Unit {0}

abbrev pub IsCommandEnd : Command → Status → Type 0
IsCommandEnd (command.Script script) said = IsScriptEnd said
IsCommandEnd (command.Serve connections) said = IsServeEnd said

-- What is written of a script's counts, by its bytes.
abbrev pub CountsScript :
    (input : Bytes) → (steps faults_before : ℕ) → Kept → (failed : Type 0) → (old now : Option Bytes) → Status → Type 0
CountsScript input steps before kept failed old now said =
    EndsSummary
    (λ text. OfScript input before (λ start lines. IsSummaryFrom start steps lines kept text)) failed old now said

-- the numbers of a command are within their limits
abbrev pub IsAllowed : ScriptCommand → Type 0
IsAllowed script.Drill = Unit {0}
IsAllowed (script.Stir seed steps) = (seed < seed_limit) × (steps ≤ steps_max)

-- a history that is said to have entries has as many, and some
abbrev pub CountsEntries : (history : List Entry) → Status → Type 0
CountsEntries history (status.NotEmpty n) = (length history ≡ n) × (0 < n)
CountsEntries history _ = Unit {0}

-- both keepers are there, and have the property
abbrev pub OfKeepers : {K : Type 0} → (before after : Option K) → (K → K → Type 0) → Type 0
OfKeepers (Some before) (Some after) P = P before after
OfKeepers _ _ P = ⊥
