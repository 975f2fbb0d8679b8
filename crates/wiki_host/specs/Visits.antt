-- Visits: connections that a door gave, each served to its end and handed back before the next was asked for.
use Rattle.std.specs.Prelude.{ℕ, ◌≡◌, ◌⊎◌, ◌<◌, ◌≤◌, List, [], ◌∷◌, ◌++◌, length, map, flat_map, reverse, All, Option, Some, IfSome, Result, Ok, Err}
use Rattle.farm_base.specs.Offered.{Offered}
use Rattle.farm_base.specs.declared.streams.OutFault.{OutFault}
use Rattle.wiki_model.specs.World.{World}
use Rattle.wiki_model.specs.Steps.{Rose}
use Rattle.wiki_model.specs.Runs.{Turn}
use Rattle.wiki_serve.specs.Exchanges.{Exchange, Service, Heard, AreHeard, services, turns_of}
use Rattle.wiki_serve.specs.Callers.{Desk}
use Rattle.wiki_serve.specs.Services.{Held, DoesOne, DoesAll}
use Rattle.wiki_serve.specs.Connections.{Conn, End, Talks}
use Rattle.wiki_serve.specs.Turns.{Standing}
use Rattle.wiki_host.specs.declared.door_visits.Next.{Next}
use Rattle.wiki_host.specs.declared.door_visits.Next.TheVariants as next

-- One visit: the connection as the door gave it and as it was handed back, what was exchanged, and how it ended.
pub record Visit (A : Type 0) : Type 0 where
  pub came : A
  pub went : A
  pub exchanges : List (Exchange Service)
  pub end : End

-- the exchanges of all visits, in their order
abbrev pub exchanges_of : {A : Type 0} → List (Visit A) → List (Exchange Service)
exchanges_of visits = flat_map (λ visit. visit.exchanges) visits

-- the turns of all visits, in their order
abbrev pub visit_turns : {A : Type 0} → List (Visit A) → List Turn
visit_turns visits = turns_of (exchanges_of visits)

-- What a connection shows of itself is a parameter.
module _ {A : Type 0} (seen : A → Conn) where
  -- what was read and written in a visit is its exchanges
  abbrev pub IsVisit : Visit A → Type 0
  IsVisit visit = Talks (seen visit.came) (seen visit.went) visit.exchanges visit.end

  -- whom a visit is from, on a farm of this pace
  abbrev pub desk_at : (pace : ℕ) → Visit A → Desk
  desk_at pace visit = record { peer = (seen visit.came).peer; pace = pace }

  -- the exchanges of the visits lead from v to w, one visit after another
  abbrev pub VisitsLead : (pace : ℕ) → List (Visit A) → (v w : Held) → Type 0
  VisitsLead pace [] v w = w ≡ v
  VisitsLead pace (visit ∷ visits) v w =
      (u : Held) × DoesAll (DoesOne (desk_at pace visit)) visit.exchanges v u × VisitsLead pace visits u w

  -- each run for which the farm stood goes on by the turns of these visits to one for which it stands
  abbrev pub GoesOnByVisits : (pace : ℕ) → (Stood Now : Standing) → (unsent_before unsent_now : List ℕ)
      → List (Visit A) → Type 0
  GoesOnByVisits pace Stood Now unsent_before unsent_now visits =
      (start : World) (turns : List Turn) (v : World) → Stood start turns v
      → (w : World) × Now start (reverse (visit_turns visits) ++ turns) w
      × VisitsLead pace visits (record { world = v; unsent = unsent_before })
      (record { world = w; unsent = unsent_now })

-- the door gave these connections first, and has each back as it was left
abbrev pub IsHanded : {A : Type 0} → (before now : Option (Offered A)) → List (Visit A) → Type 0
IsHanded {A} before now visits = IfSome before (λ old.
    (rest : List A) × (old.left ≡ map (λ visit. visit.came) visits ++ rest)
    × (now ≡ Some (record {
      left = rest;
      out = old.out;
      returned = old.returned ++ map (λ visit. visit.went) visits;
    })))

-- What a door shows: its connections, and its counts of faults and of calls that gave none.
pub record DoorSeen (A : Type 0) : Type 0 where
  pub offered : Option (Offered A)
  pub faults : ℕ
  pub nones : ℕ

abbrev pub door_seen : {A : Type 0} → Option (Offered A) → (faults nones : ℕ) → DoorSeen A
door_seen offered faults nones = record { offered = offered; faults = faults; nones = nones }

-- Between two points there were these visits, one after another.
pub record VisitedSoFar {A : Type 0} (seen : A → Conn) (pace : ℕ) (door_before door_now : DoorSeen A)
    (before now : Heard) (unsent_before unsent_now : List ℕ) (Stood Now : Standing) (visits : List (Visit A))
    : Type 0 where
  pub talks : All (IsVisit seen) visits
  pub handed : IsHanded door_before.offered door_now.offered visits
  pub faults : door_before.faults ≤ door_now.faults
  pub heard : AreHeard before now (services (exchanges_of visits))
  pub goes_on : GoesOnByVisits seen pace Stood Now unsent_before unsent_now visits

-- So many visits were had.
pub record HasVisited {A : Type 0} (seen : A → Conn) (pace : ℕ) (door_before door_now : DoorSeen A)
    (before now : Heard) (unsent_before unsent_now : List ℕ) (Stood Now : Standing) (count : ℕ) : Type 0 where
  pub visits : List (Visit A)
  pub number : length visits ≡ count
  pub so_far : VisitedSoFar seen pace door_before door_now before now unsent_before unsent_now Stood Now visits

-- what of the next connection: it was served, or there was none, or the door failed
abbrev pub VisitsNext : {A : Type 0} → (seen : A → Conn) → (pace : ℕ) → (door_before door_now : DoorSeen A)
    → (before now : Heard) → (unsent_before unsent_now : List ℕ) → (Stood Now : Standing)
    → Result Next OutFault → Type 0
VisitsNext seen pace door_before door_now before now unsent_before unsent_now Stood Now (Ok next.Served) =
    HasVisited seen pace door_before door_now before now unsent_before unsent_now Stood Now 1
    × (door_now.nones ≡ door_before.nones)
VisitsNext seen pace door_before door_now before now unsent_before unsent_now Stood Now (Ok next.NoneLeft) =
    HasVisited seen pace door_before door_now before now unsent_before unsent_now Stood Now 0
    × Rose door_before.nones door_now.nones
VisitsNext seen pace door_before door_now before now unsent_before unsent_now Stood Now (Err fault) =
    HasVisited seen pace door_before door_now before now unsent_before unsent_now Stood Now 0
    × Rose door_before.faults door_now.faults

-- so many connections are served: all that are wanted, or the door gave none
abbrev pub IsEnough : (wanted : ℕ) → (nones_before nones_now : ℕ) → (count : ℕ) → Type 0
IsEnough wanted nones_before nones_now count = (count ≤ wanted) × ((count ≡ wanted) ⊎ Rose nones_before nones_now)

-- how the visits of a door end: there were so many, or it failed before there were as many as are wanted
abbrev pub EndsVisits : {A : Type 0} → (wanted : ℕ) → (door_before door_now : DoorSeen A) → (count : ℕ)
    → Result ℕ OutFault → Type 0
EndsVisits wanted door_before door_now count (Ok served) =
    (served ≡ count) × IsEnough wanted door_before.nones door_now.nones count
EndsVisits wanted door_before door_now count (Err fault) =
    (count < wanted) × Rose door_before.faults door_now.faults

-- The door's connections were served until the end that is answered.
pub record VisitsAll {A : Type 0} (seen : A → Conn) (pace wanted : ℕ) (door_before door_now : DoorSeen A)
    (before now : Heard) (unsent_before unsent_now : List ℕ) (Stood Now : Standing) (result : Result ℕ OutFault)
    : Type 0 where
  pub count : ℕ
  pub visited : HasVisited seen pace door_before door_now before now unsent_before unsent_now Stood Now count
  pub ends : EndsVisits wanted door_before door_now count result
