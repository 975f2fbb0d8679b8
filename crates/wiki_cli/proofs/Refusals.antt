-- A farm that is not opened, and counts of faults that began lower.
use Rattle.std.proofs.Common.{◌≡◌, ℕ, ◌≤◌, inl, Option, Ok, sym, subst}
use Rattle.wiki_model.specs.Bytes.{Bytes}
use Rattle.wiki_model.specs.Steps.{Rose}
use Rattle.farm_core.specs.NewFarm.{HasNewFault}
use Rattle.farm_core.specs.declared.farm.NewFault.{NewFault}
use Rattle.farm_core.specs.declared.farm.NewFault.TheVariants as new
use Rattle.script_runner.proofs.Reported.{rose_after}
use Rattle.wiki_cli.specs.Ends.{EndsReport, EndsSummary, HasRisen}
use Rattle.wiki_cli.specs.RunFarm.{IsRunEnd}
use Rattle.wiki_cli.specs.Commands.{IsDrillEnd, IsSourceEnd, IsScriptEnd, fault_status, RefusesOpening}
use Rattle.wiki_cli.specs.declared.status.Status.{Status}
use Rattle.wiki_cli.specs.declared.status.Status.TheVariants as status

pub risen_before : (write : Type 0) (a b c : ℕ) (said : Status) → a ≤ b → HasRisen write (Rose b c) said → HasRisen write (Rose a c) said
risen_before write a b c status.Ok up rose = tt
risen_before write a b c status.Usage up rose = tt
risen_before write a b c (status.Script n) up rose = tt
risen_before write a b c status.ReadFault up rose = tt
risen_before write a b c status.WriteFault up rose = rose
risen_before write a b c status.StoreFault up rose = rose_after a b c up rose
risen_before write a b c status.Memory up rose = tt
risen_before write a b c (status.NotEmpty n) up rose = tt
risen_before write a b c status.DoorFault up rose = tt
risen_before write a b c (status.Layout n) up rose = tt

pub opening_ends : (Whole Cut : Bytes → Type 0) (failed : Type 0) (old now : Option Bytes) (fault : NewFault) (said : Status) → said ≡ fault_status fault → RefusesOpening failed old now fault → EndsReport Whole Cut failed old now said
opening_ends Whole Cut failed old now new.Fault said is says = subst (λ (s : Status). EndsReport Whole Cut failed old now s) (sym is) (inl says)
opening_ends Whole Cut failed old now new.Memory said is says = subst (λ (s : Status). EndsReport Whole Cut failed old now s) (sym is) (inl says)

pub opening_counts : (Whole : Bytes → Type 0) (failed : Type 0) (old now : Option Bytes) (fault : NewFault) (said : Status) → said ≡ fault_status fault → RefusesOpening failed old now fault → EndsSummary Whole failed old now said
opening_counts Whole failed old now new.Fault said is says = subst (λ (s : Status). EndsSummary Whole failed old now s) (sym is) says
opening_counts Whole failed old now new.Memory said is says = subst (λ (s : Status). EndsSummary Whole failed old now s) (sym is) says

pub opening_end : (fault : NewFault) (said : Status) → said ≡ fault_status fault → IsRunEnd said
opening_end new.Fault said is = subst IsRunEnd (sym is) tt
opening_end new.Memory said is = subst IsRunEnd (sym is) tt

pub opening_risen : (write : Type 0) (before after : ℕ) (fault : NewFault) (said : Status) → said ≡ fault_status fault → HasNewFault before after fault → HasRisen write (Rose before after) said
opening_risen write before after new.Fault said is rose = subst (HasRisen write (Rose before after)) (sym is) rose
opening_risen write before after new.Memory said is up = subst (HasRisen write (Rose before after)) (sym is) tt

-- ends that may come are among those of more

pub drill_end : (said : Status) → IsRunEnd said → IsDrillEnd said
drill_end status.Ok e = tt
drill_end status.Usage e = e
drill_end (status.Script n) e = tt
drill_end status.ReadFault e = e
drill_end status.WriteFault e = tt
drill_end status.StoreFault e = tt
drill_end status.Memory e = tt
drill_end (status.NotEmpty n) e = e
drill_end status.DoorFault e = e
drill_end (status.Layout n) e = e

pub source_end : (said : Status) → IsDrillEnd said → IsSourceEnd said
source_end status.Ok e = tt
source_end status.Usage e = e
source_end (status.Script n) e = tt
source_end status.ReadFault e = tt
source_end status.WriteFault e = tt
source_end status.StoreFault e = tt
source_end status.Memory e = tt
source_end (status.NotEmpty n) e = e
source_end status.DoorFault e = e
source_end (status.Layout n) e = e

pub command_end : (said : Status) → IsSourceEnd said → IsScriptEnd said
command_end status.Ok e = tt
command_end status.Usage e = e
command_end (status.Script n) e = tt
command_end status.ReadFault e = tt
command_end status.WriteFault e = tt
command_end status.StoreFault e = tt
command_end status.Memory e = tt
command_end (status.NotEmpty n) e = tt
command_end status.DoorFault e = e
command_end (status.Layout n) e = e
