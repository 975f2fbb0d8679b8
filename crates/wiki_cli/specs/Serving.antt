-- What the command `serve` does and writes, by its end: of which connections, over which keeper, and in the sink.
use Rattle.std.specs.Prelude.{ℕ, ◌≡◌, ◌⊎◌, ◌<◌, ◌≤◌, Option, Ok, Err}
use Rattle.wiki_model.specs.Bytes.{Bytes}
use Rattle.wiki_model.specs.Steps.{Rose}
use Rattle.farm_base.specs.Exposed.{Adds, AddsPrefix, Stays}
use Rattle.wiki_layout.specs.Layout.{Plan, layout_of}
use Rattle.wiki_serve.specs.Connections.{Conn}
use Rattle.wiki_host.specs.declared.host.HostEnd.{HostEnd}
use Rattle.wiki_host.specs.declared.host.HostEnd.TheVariants as ended
use Rattle.wiki_host.specs.Visits.{IsEnough}
use Rattle.wiki_host.specs.Hosting.{HostSeen, HostsSome, IsUntouched, IsUnopened}
use Rattle.wiki_cli.specs.Command.{served_line, door_fault_line, layout_line, read_fault_line, store_fault_line}
use Rattle.wiki_cli.specs.Ends.{IsWritten}
use Rattle.wiki_cli.specs.declared.status.Status.{Status}
use Rattle.wiki_cli.specs.declared.status.Status.TheVariants as status

-- the bytes say how a wiki is laid out
abbrev pub IsLayout : Bytes → Type 0
IsLayout bytes = (plan : Plan) × (layout_of bytes ≡ Ok plan)

-- so many connections were served, all that were wanted or all that the door had, and of their number this is written
abbrev pub ServesEnough : {A : Type 0} → (seen : A → Conn) → (wanted : ℕ) → (layout : Bytes)
    → (before after : HostSeen A) → (ℕ → Type 0) → Type 0
ServesEnough seen wanted layout before after Written =
    HostsSome seen layout before after (λ count.
    IsEnough wanted before.door.nones after.door.nones count × Written count)

-- A wiki of this layout was served, or why not, and what is written of it. `failed` says that a write failed.
abbrev pub Serves : {A : Type 0} → (seen : A → Conn) → (wanted : ℕ) → (layout : Bytes) → (before after : HostSeen A)
    → (failed : Type 0) → (old new : Option Bytes) → Status → Type 0
Serves seen wanted layout before after failed old new status.Ok =
    ServesEnough seen wanted layout before after (λ count. Adds old new (served_line count))
Serves seen wanted layout before after failed old new status.WriteFault =
    ServesEnough seen wanted layout before after (λ count. AddsPrefix old new (served_line count))
Serves seen wanted layout before after failed old new status.DoorFault =
    HostsSome seen layout before after (λ count. count < wanted) × IsWritten failed old new door_fault_line
Serves seen wanted layout before after failed old new (status.Layout rule) =
    (layout_of layout ≡ Err rule) × IsUntouched before after × IsWritten failed old new (layout_line rule)
Serves seen wanted layout before after failed old new status.StoreFault =
    IsUnopened before after × IsWritten failed old new store_fault_line
Serves seen wanted layout before after failed old new status.ReadFault =
    IsUntouched before after × IsWritten failed old new read_fault_line
Serves seen wanted layout before after failed old new status.Memory =
    (IsUnopened before after × Stays old new)
    ⊎ ServesEnough seen wanted layout before after (λ count. Stays old new)
Serves seen wanted layout before after failed old new _ = ⊥

-- how many connections were served is written, or as much of it as the sink takes
abbrev pub WritesServed : (count : ℕ) → (old new : Option Bytes) → (faults_before faults_now : ℕ) → Status → Type 0
WritesServed count old new before now status.Ok = Adds old new (served_line count) × (before ≤ now)
WritesServed count old new before now status.WriteFault = AddsPrefix old new (served_line count) × Rose before now
WritesServed count old new before now status.Memory = (new ≡ old) × (now ≡ before)
WritesServed count old new before now _ = ⊥

-- a layout is refused by the rule that it breaks first
abbrev pub RefusesLayout : (rule : ℕ) → (old new : Option Bytes) → (faults_before faults_now : ℕ) → Status → Type 0
RefusesLayout rule old new before now (status.Layout n) =
    (n ≡ rule) × IsWritten (Rose before now) old new (layout_line rule)
RefusesLayout rule old new before now status.Memory = (new ≡ old) × (now ≡ before)
RefusesLayout rule old new before now _ = ⊥

-- what is written of a hosting's end
abbrev pub WritesHostEnd : HostEnd → (old new : Option Bytes) → (faults_before faults_now : ℕ) → Status → Type 0
WritesHostEnd (ended.Served n) old new before now said = WritesServed n old new before now said
WritesHostEnd ended.DoorFault old new before now said =
    (said ≡ status.DoorFault) × IsWritten (Rose before now) old new door_fault_line
WritesHostEnd (ended.BadLayout rule) old new before now said = RefusesLayout rule old new before now said
WritesHostEnd ended.StoreFault old new before now said =
    (said ≡ status.StoreFault) × IsWritten (Rose before now) old new store_fault_line
WritesHostEnd ended.Memory old new before now said = (said ≡ status.Memory) × (new ≡ old) × (now ≡ before)
