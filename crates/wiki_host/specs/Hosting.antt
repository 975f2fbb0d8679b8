-- A whole hosting: one run of one farm, from its opening by a layout over the connections of a door.
use Rattle.std.specs.Prelude.{ℕ, ◌≡◌, ◌⊎◌, ◌<◌, ◌≤◌, List, [], ◌∷◌, ◌++◌, length, reverse, All, Option, Some, IfSome, Result, Ok, Err}
use Rattle.farm_base.specs.Series.{Series, Gives}
use Rattle.farm_base.specs.declared.streams.OutFault.{OutFault}
use Rattle.wiki_model.specs.declared.Readings.{Readings}
use Rattle.wiki_model.specs.Bytes.{Bytes}
use Rattle.wiki_model.specs.World.{World}
use Rattle.wiki_model.specs.Steps.{Rose}
use Rattle.wiki_model.specs.Runs.{IsRun}
use Rattle.wiki_layout.specs.Layout.{Plan, layout_of}
use Rattle.wiki_serve.specs.Exchanges.{Heard, AreHeard, services}
use Rattle.wiki_serve.specs.Services.{Held}
use Rattle.wiki_serve.specs.Connections.{Conn}
use Rattle.wiki_host.specs.declared.host.HostEnd.{HostEnd}
use Rattle.wiki_host.specs.declared.host.HostEnd.TheVariants as ended
use Rattle.wiki_serve.specs.Turns.{Standing}
use Rattle.wiki_host.specs.Visits.{Visit, exchanges_of, visit_turns, IsVisit, VisitsLead, IsHanded, DoorSeen, HasVisited, IsEnough}
use Rattle.wiki_host.specs.Opening.{KeeperSeen, host_start, markup_turn}

-- the run has the history and the faults that the keeper has
abbrev pub IsRunOf : KeeperSeen → Standing
IsRunOf keeper start turns w = IsRun start turns w × (keeper.history ≡ Some w.history) × (w.faults ≤ keeper.faults)

-- how a hosting whose farm was opened ends after so many visits
abbrev pub EndsHost : {A : Type 0} → (wanted : ℕ) → (door_before door_now : DoorSeen A) → (count : ℕ) → HostEnd → Type 0
EndsHost wanted door_before door_now count (ended.Served connections) =
    (connections ≡ count) × IsEnough wanted door_before.nones door_now.nones count
EndsHost wanted door_before door_now count ended.DoorFault =
    (count < wanted) × Rose door_before.faults door_now.faults
EndsHost wanted door_before door_now count _ = ⊥

abbrev pub visits_end : Result ℕ OutFault → HostEnd
visits_end (Ok connections) = ended.Served connections
visits_end (Err fault) = ended.DoorFault

-- The door's connections were served on a farm that was open, and the farm was closed.
pub record ClosesVisits {A : Type 0} (seen : A → Conn) (pace wanted : ℕ) (door_before door_now : DoorSeen A)
    (before now : Heard) (unsent_before : List ℕ) (Stood : Standing) (keeper : KeeperSeen) (end : HostEnd)
    : Type 0 where
  pub count : ℕ
  pub unsent : List ℕ
  pub visited : HasVisited seen pace door_before door_now before now unsent_before unsent Stood (IsRunOf keeper) count
  pub ends : EndsHost wanted door_before door_now count end

-- What is seen from outside at one point: the door, what clocks, lots and wire expose, and the keeper.
pub record HostSeen (A : Type 0) : Type 0 where
  pub door : DoorSeen A
  pub heard : Heard
  pub keeper : KeeperSeen

abbrev pub host_seen : {A : Type 0} → DoorSeen A → Heard → KeeperSeen → HostSeen A
host_seen door heard keeper = record { door = door; heard = heard; keeper = keeper }

-- The run of a hosting: the markup is set, and then the visits follow. The keeper has the history of its last world.
pub record IsHostedRun {A : Type 0} (seen : A → Conn) (pace : ℕ) (start : World) (first : Readings)
    (keeper : KeeperSeen) (visits : List (Visit A)) : Type 0 where
  pub opened : World
  pub last : Held
  pub marked : IsRun start (markup_turn first ∷ []) opened
  pub leads : VisitsLead seen pace visits (record { world = opened; unsent = [] }) last
  pub run : IsRun start (reverse (visit_turns visits) ++ markup_turn first ∷ []) last.world
  pub history : keeper.history ≡ Some last.world.history
  pub faults : last.world.faults ≤ keeper.faults

-- A wiki of this layout was hosted, and there were these visits.
pub record IsHosting {A : Type 0} (seen : A → Conn) (layout : Bytes) (before after : HostSeen A)
    (visits : List (Visit A)) : Type 0 where
  pub plan : Plan
  pub is_plan : layout_of layout ≡ Ok plan
  -- the clocks' first reading, and what they had to give after it
  pub first : Readings
  pub coming : Option (Series Readings)
  pub opened : Gives before.heard.clock coming first
  pub heard : AreHeard (record before.heard { clock = coming }) after.heard (services (exchanges_of visits))
  pub talks : All (IsVisit seen) visits
  pub handed : IsHanded before.door.offered after.door.offered visits
  -- what the keeper had counted when the farm was opened
  pub began : ℕ
  pub since : before.keeper.faults ≤ began
  -- and that the count did not fall
  pub counts : began ≤ after.keeper.faults
  pub run : IfSome before.keeper.history (λ history.
      IsHostedRun seen plan.pace (host_start plan history began first) first after.keeper visits)

-- Nothing was asked of clocks, lots, wire and door.
pub record IsUntouched {A : Type 0} (before after : HostSeen A) : Type 0 where
  pub door : after.door ≡ before.door
  pub heard : after.heard ≡ before.heard
  pub history : after.keeper.history ≡ before.keeper.history

-- Nothing was asked but one reading of the clocks.
pub record IsOnlyRead {A : Type 0} (before after : HostSeen A) : Type 0 where
  pub door : after.door ≡ before.door
  pub first : Readings
  pub clock : Gives before.heard.clock after.heard.clock first
  pub heard : after.heard ≡ record before.heard { clock = after.heard.clock }
  pub history : after.keeper.history ≡ before.keeper.history

-- no connection was asked for
abbrev pub IsUnopened : {A : Type 0} → (before after : HostSeen A) → Type 0
IsUnopened before after = IsUntouched before after ⊎ IsOnlyRead before after

-- There were visits, and so many.
abbrev pub HostsSome : {A : Type 0} → (seen : A → Conn) → (layout : Bytes) → (before after : HostSeen A)
    → (ℕ → Type 0) → Type 0
HostsSome {A} seen layout before after Many =
    (visits : List (Visit A)) × IsHosting seen layout before after visits × Many (length visits)

-- What came of a hosting, by its end.
abbrev pub Hosts : {A : Type 0} → (seen : A → Conn) → (wanted : ℕ) → (layout : Bytes) → (before after : HostSeen A)
    → HostEnd → Type 0
Hosts seen wanted layout before after (ended.BadLayout rule) =
    (layout_of layout ≡ Err rule) × IsUntouched before after
Hosts seen wanted layout before after ended.StoreFault =
    Rose before.keeper.faults after.keeper.faults × IsUnopened before after
Hosts seen wanted layout before after ended.Memory = IsUnopened before after
Hosts seen wanted layout before after end =
    HostsSome seen layout before after (λ count. EndsHost wanted before.door after.door count end)
