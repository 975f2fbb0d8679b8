-- How a run may end, and that a fault is named only if its count rose.
use Rattle.std.proofs.Common.{ℕ, ◌≤◌, Option, Result, Ok, Err, refl, sym, subst}
use Rattle.wiki_model.specs.Bytes.{Bytes}
use Rattle.wiki_model.specs.Steps.{Rose}
use Rattle.revision_keeper.specs.declared.keeper.KeepFault.{KeepFault}
use Rattle.revision_keeper.specs.declared.keeper.KeepFault.TheVariants as keep
use Rattle.revision_keeper.specs.Causes.{HasFault}
use Rattle.drill_script.specs.declared.count_answers.Summary.{Summary}
use Rattle.script_runner.specs.RunScript.{IsReported}
use Rattle.script_runner.specs.declared.report_state.ReportState.{ReportState}
use Rattle.script_runner.specs.declared.report_state.ReportState.TheVariants as state
use Rattle.script_runner.specs.declared.report_state.Told.{Told}
use Rattle.script_runner.proofs.Reported.{rose_after}
use Rattle.wiki_cli.specs.Ends.{HasRisen}
use Rattle.wiki_cli.specs.RunFarm.{IsRunEnd, WritesLast, FailsReport, ClosesReport, WritesCounts, WritesSummary}
use Rattle.wiki_cli.specs.declared.status.Status.{Status}
use Rattle.wiki_cli.specs.declared.status.Status.TheVariants as status

last_end : (s : ReportState) (b c : Option Bytes) (g h : ℕ) (text : Bytes) (said : Status) → WritesLast s b c g h text said → IsRunEnd said
last_end state.Whole b c g h text status.Ok w = tt
last_end state.Whole b c g h text status.WriteFault w = tt
last_end state.Whole b c g h text status.Memory w = tt
last_end state.Whole b c g h text status.StoreFault w = absurd w
last_end state.Whole b c g h text status.Usage w = absurd w
last_end state.Whole b c g h text (status.Script n) w = absurd w
last_end state.Whole b c g h text status.ReadFault w = absurd w
last_end state.Whole b c g h text (status.NotEmpty n) w = absurd w
last_end state.Whole b c g h text status.DoorFault w = absurd w
last_end state.Whole b c g h text (status.Layout n) w = absurd w
last_end state.Failed b c g h text status.Ok w = absurd w
last_end state.Failed b c g h text status.WriteFault w = tt
last_end state.Failed b c g h text status.Memory w = absurd w
last_end state.Failed b c g h text status.StoreFault w = absurd w
last_end state.Failed b c g h text status.Usage w = absurd w
last_end state.Failed b c g h text (status.Script n) w = absurd w
last_end state.Failed b c g h text status.ReadFault w = absurd w
last_end state.Failed b c g h text (status.NotEmpty n) w = absurd w
last_end state.Failed b c g h text status.DoorFault w = absurd w
last_end state.Failed b c g h text (status.Layout n) w = absurd w
last_end state.Memory b c g h text status.Ok w = absurd w
last_end state.Memory b c g h text status.WriteFault w = absurd w
last_end state.Memory b c g h text status.Memory w = tt
last_end state.Memory b c g h text status.StoreFault w = absurd w
last_end state.Memory b c g h text status.Usage w = absurd w
last_end state.Memory b c g h text (status.Script n) w = absurd w
last_end state.Memory b c g h text status.ReadFault w = absurd w
last_end state.Memory b c g h text (status.NotEmpty n) w = absurd w
last_end state.Memory b c g h text status.DoorFault w = absurd w
last_end state.Memory b c g h text (status.Layout n) w = absurd w

fault_end : (s : ReportState) (b c : Option Bytes) (g h : ℕ) (said : Status) → FailsReport s b c g h said → IsRunEnd said
fault_end state.Whole b c g h status.Ok w = absurd w
fault_end state.Whole b c g h status.WriteFault w = absurd w
fault_end state.Whole b c g h status.Memory w = absurd w
fault_end state.Whole b c g h status.StoreFault w = tt
fault_end state.Whole b c g h status.Usage w = absurd w
fault_end state.Whole b c g h (status.Script n) w = absurd w
fault_end state.Whole b c g h status.ReadFault w = absurd w
fault_end state.Whole b c g h (status.NotEmpty n) w = absurd w
fault_end state.Whole b c g h status.DoorFault w = absurd w
fault_end state.Whole b c g h (status.Layout n) w = absurd w
fault_end state.Failed b c g h status.Ok w = absurd w
fault_end state.Failed b c g h status.WriteFault w = absurd w
fault_end state.Failed b c g h status.Memory w = absurd w
fault_end state.Failed b c g h status.StoreFault w = tt
fault_end state.Failed b c g h status.Usage w = absurd w
fault_end state.Failed b c g h (status.Script n) w = absurd w
fault_end state.Failed b c g h status.ReadFault w = absurd w
fault_end state.Failed b c g h (status.NotEmpty n) w = absurd w
fault_end state.Failed b c g h status.DoorFault w = absurd w
fault_end state.Failed b c g h (status.Layout n) w = absurd w
fault_end state.Memory b c g h status.Ok w = absurd w
fault_end state.Memory b c g h status.WriteFault w = absurd w
fault_end state.Memory b c g h status.Memory w = tt
fault_end state.Memory b c g h status.StoreFault w = absurd w
fault_end state.Memory b c g h status.Usage w = absurd w
fault_end state.Memory b c g h (status.Script n) w = absurd w
fault_end state.Memory b c g h status.ReadFault w = absurd w
fault_end state.Memory b c g h (status.NotEmpty n) w = absurd w
fault_end state.Memory b c g h status.DoorFault w = absurd w
fault_end state.Memory b c g h (status.Layout n) w = absurd w

pub report_end : (told : Told) (entries : Result ℕ KeepFault) (b c : Option Bytes) (g h : ℕ) (said : Status) → ClosesReport told entries b c g h said → IsRunEnd said
report_end told (Ok n) b c g h said w = last_end told.state b c g h _ said w
report_end told (Err keep.Fault) b c g h said w = fault_end told.state b c g h said w
report_end told (Err keep.Memory) b c g h said w = subst IsRunEnd (sym w.0) tt

-- the sink's count, from before the report on
last_risen : (store : Type 0) (s : ReportState) (a b c : Option Bytes) (f g h : ℕ) (before text : Bytes) (said : Status) → IsReported s a b f g before → WritesLast s b c g h text said → HasRisen (Rose f h) store said
last_risen store state.Whole a b c f g h before text status.Ok r w = tt
last_risen store state.Whole a b c f g h before text status.WriteFault r w = rose_after f g h r.1 w.1
last_risen store state.Whole a b c f g h before text status.Memory r w = tt
last_risen store state.Whole a b c f g h before text status.StoreFault r w = absurd w
last_risen store state.Whole a b c f g h before text status.Usage r w = absurd w
last_risen store state.Whole a b c f g h before text (status.Script n) r w = absurd w
last_risen store state.Whole a b c f g h before text status.ReadFault r w = absurd w
last_risen store state.Whole a b c f g h before text (status.NotEmpty n) r w = absurd w
last_risen store state.Whole a b c f g h before text status.DoorFault r w = absurd w
last_risen store state.Whole a b c f g h before text (status.Layout n) r w = absurd w
last_risen store state.Failed a b c f g h before text status.Ok r w = absurd w
last_risen store state.Failed a b c f g h before text status.WriteFault r w = subst (λ n. Rose f n) (sym w.1) r.1
last_risen store state.Failed a b c f g h before text status.Memory r w = absurd w
last_risen store state.Failed a b c f g h before text status.StoreFault r w = absurd w
last_risen store state.Failed a b c f g h before text status.Usage r w = absurd w
last_risen store state.Failed a b c f g h before text (status.Script n) r w = absurd w
last_risen store state.Failed a b c f g h before text status.ReadFault r w = absurd w
last_risen store state.Failed a b c f g h before text (status.NotEmpty n) r w = absurd w
last_risen store state.Failed a b c f g h before text status.DoorFault r w = absurd w
last_risen store state.Failed a b c f g h before text (status.Layout n) r w = absurd w
last_risen store state.Memory a b c f g h before text status.Ok r w = absurd w
last_risen store state.Memory a b c f g h before text status.WriteFault r w = absurd w
last_risen store state.Memory a b c f g h before text status.Memory r w = tt
last_risen store state.Memory a b c f g h before text status.StoreFault r w = absurd w
last_risen store state.Memory a b c f g h before text status.Usage r w = absurd w
last_risen store state.Memory a b c f g h before text (status.Script n) r w = absurd w
last_risen store state.Memory a b c f g h before text status.ReadFault r w = absurd w
last_risen store state.Memory a b c f g h before text (status.NotEmpty n) r w = absurd w
last_risen store state.Memory a b c f g h before text status.DoorFault r w = absurd w
last_risen store state.Memory a b c f g h before text (status.Layout n) r w = absurd w

fault_risen : (write store : Type 0) (s : ReportState) (b c : Option Bytes) (g h : ℕ) (said : Status) → store → FailsReport s b c g h said → HasRisen write store said
fault_risen write store state.Whole b c g h status.Ok rose w = absurd w
fault_risen write store state.Whole b c g h status.WriteFault rose w = absurd w
fault_risen write store state.Whole b c g h status.Memory rose w = absurd w
fault_risen write store state.Whole b c g h status.StoreFault rose w = rose
fault_risen write store state.Whole b c g h status.Usage rose w = absurd w
fault_risen write store state.Whole b c g h (status.Script n) rose w = absurd w
fault_risen write store state.Whole b c g h status.ReadFault rose w = absurd w
fault_risen write store state.Whole b c g h (status.NotEmpty n) rose w = absurd w
fault_risen write store state.Whole b c g h status.DoorFault rose w = absurd w
fault_risen write store state.Whole b c g h (status.Layout n) rose w = absurd w
fault_risen write store state.Failed b c g h status.Ok rose w = absurd w
fault_risen write store state.Failed b c g h status.WriteFault rose w = absurd w
fault_risen write store state.Failed b c g h status.Memory rose w = absurd w
fault_risen write store state.Failed b c g h status.StoreFault rose w = rose
fault_risen write store state.Failed b c g h status.Usage rose w = absurd w
fault_risen write store state.Failed b c g h (status.Script n) rose w = absurd w
fault_risen write store state.Failed b c g h status.ReadFault rose w = absurd w
fault_risen write store state.Failed b c g h (status.NotEmpty n) rose w = absurd w
fault_risen write store state.Failed b c g h status.DoorFault rose w = absurd w
fault_risen write store state.Failed b c g h (status.Layout n) rose w = absurd w
fault_risen write store state.Memory b c g h status.Ok rose w = absurd w
fault_risen write store state.Memory b c g h status.WriteFault rose w = absurd w
fault_risen write store state.Memory b c g h status.Memory rose w = tt
fault_risen write store state.Memory b c g h status.StoreFault rose w = absurd w
fault_risen write store state.Memory b c g h status.Usage rose w = absurd w
fault_risen write store state.Memory b c g h (status.Script n) rose w = absurd w
fault_risen write store state.Memory b c g h status.ReadFault rose w = absurd w
fault_risen write store state.Memory b c g h (status.NotEmpty n) rose w = absurd w
fault_risen write store state.Memory b c g h status.DoorFault rose w = absurd w
fault_risen write store state.Memory b c g h (status.Layout n) rose w = absurd w

pub report_risen : (told : Told) (entries : Result ℕ KeepFault) (a b c : Option Bytes) (f g h : ℕ) (before : Bytes) (said : Status) (first now after : ℕ) → first ≤ now → IsReported told.state a b f g before → HasFault now after entries → ClosesReport told entries b c g h said
    → HasRisen (Rose f h) (Rose first after) said
report_risen told (Ok n) a b c f g h before said first now after up r why w = last_risen (Rose first after) told.state a b c f g h before _ said r w
report_risen told (Err keep.Fault) a b c f g h before said first now after up r why w = fault_risen (Rose f h) (Rose first after) told.state b c g h said (rose_after first now after up (why.fault refl)) w
report_risen told (Err keep.Memory) a b c f g h before said first now after up r why w = subst (HasRisen (Rose f h) (Rose first after)) (sym w.0) tt

counts_end : (a c : Option Bytes) (g h steps n : ℕ) (summary : Summary) (said : Status) → WritesCounts a c g h steps n summary said → IsRunEnd said
counts_end a c g h steps n summary status.Ok w = tt
counts_end a c g h steps n summary status.WriteFault w = tt
counts_end a c g h steps n summary status.Memory w = tt
counts_end a c g h steps n summary status.StoreFault w = absurd w
counts_end a c g h steps n summary status.Usage w = absurd w
counts_end a c g h steps n summary (status.Script k) w = absurd w
counts_end a c g h steps n summary status.ReadFault w = absurd w
counts_end a c g h steps n summary (status.NotEmpty k) w = absurd w
counts_end a c g h steps n summary status.DoorFault w = absurd w
counts_end a c g h steps n summary (status.Layout k) w = absurd w

pub summary_end : (steps : ℕ) (summary : Summary) (entries : Result ℕ KeepFault) (a c : Option Bytes) (g h : ℕ) (said : Status) → WritesSummary steps summary entries a c g h said → IsRunEnd said
summary_end steps summary (Ok n) a c g h said w = counts_end a c g h steps n summary said w
summary_end steps summary (Err keep.Fault) a c g h said w = subst IsRunEnd (sym w.0) tt
summary_end steps summary (Err keep.Memory) a c g h said w = subst IsRunEnd (sym w.0) tt

counts_risen : (store : Type 0) (a c : Option Bytes) (g h steps n : ℕ) (summary : Summary) (said : Status) → WritesCounts a c g h steps n summary said → HasRisen (Rose g h) store said
counts_risen store a c g h steps n summary status.Ok w = tt
counts_risen store a c g h steps n summary status.WriteFault w = w.1
counts_risen store a c g h steps n summary status.Memory w = tt
counts_risen store a c g h steps n summary status.StoreFault w = absurd w
counts_risen store a c g h steps n summary status.Usage w = absurd w
counts_risen store a c g h steps n summary (status.Script k) w = absurd w
counts_risen store a c g h steps n summary status.ReadFault w = absurd w
counts_risen store a c g h steps n summary (status.NotEmpty k) w = absurd w
counts_risen store a c g h steps n summary status.DoorFault w = absurd w
counts_risen store a c g h steps n summary (status.Layout k) w = absurd w

pub summary_risen : (steps : ℕ) (summary : Summary) (entries : Result ℕ KeepFault) (a c : Option Bytes) (g h : ℕ) (said : Status) (first now after : ℕ) → first ≤ now → HasFault now after entries → WritesSummary steps summary entries a c g h said
    → HasRisen (Rose g h) (Rose first after) said
summary_risen steps summary (Ok n) a c g h said first now after up why w = counts_risen (Rose first after) a c g h steps n summary said w
summary_risen steps summary (Err keep.Fault) a c g h said first now after up why w = subst (HasRisen (Rose g h) (Rose first after)) (sym w.0) (rose_after first now after up (why.fault refl))
summary_risen steps summary (Err keep.Memory) a c g h said first now after up why w = subst (HasRisen (Rose g h) (Rose first after)) (sym w.0) tt
