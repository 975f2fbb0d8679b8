-- The main claim in one definition: what holds of a page that a run answers. It is the page of the prefix that it
-- names; it reaches what its session may not miss; and a hit that is not marked lagged lacks no commit whose purge was
-- received within the bounds.
use Rattle.std.specs.Prelude.{ℕ, ◌≡◌, ◌⊎◌, ◌≤◌, Bool, false, List, [], ◌∷◌, length, Option, Some, None}
use Rattle.wiki_model.specs.declared.Region.{Region}
use Rattle.wiki_model.specs.declared.Origin.TheVariants as via
use Rattle.wiki_model.specs.Bytes.{IsIn}
use Rattle.wiki_model.specs.Titles.{Title}
use Rattle.wiki_model.specs.History.{page_text}
use Rattle.wiki_model.specs.World.{World, OpenView, Floor, Request, Job, request_at, at_readings}
use Rattle.wiki_model.specs.World.Request.{ViewArrived, ViewWaited, ViewLooked, ViewSnapped}
use Rattle.wiki_model.specs.World.Job.{ViewJob}
use Rattle.wiki_model.specs.HoldOff.{IsNotStale}
use Rattle.wiki_model.specs.Sessions.{lag_of, floor_of}
use Rattle.wiki_model.specs.Steps.{Step}
use Rattle.wiki_model.specs.Runs.{Turn, IsRun}
use Rattle.wiki_model.specs.Answers.{PageAnswer, IsOfPrefix, Reaches}

pub record IsPromised (v : World) (r : Region) (title : Title) (floor : Floor)
    (p : PageAnswer) : Type 0 where
  -- 1. It is the page of the prefix that it names.
  pub prefix : IsOfPrefix v title p
  -- 2. The prefix has what the session may not miss.
  pub reaches : Reaches floor p.source
  -- 3. A hit that is not marked lagged lacks no commit whose purge was received within the bounds.
  pub not_stale : p.origin ≡ via.Hit → p.lagged ≡ false → IsNotStale v r p.source title

-- the open view of a request and its floor, once its step wait has given one
abbrev pub floor_in : Option Request → Option (OpenView × Floor)
floor_in (Some (ViewWaited view floor)) = Some (view, floor)
floor_in (Some (ViewLooked view floor)) = Some (view, floor)
floor_in (Some (ViewSnapped view floor s)) = Some (view, floor)
floor_in _ = None

-- the request with this id is an open view with this floor
abbrev pub IsOpen : World → (id : ℕ) → OpenView → Floor → Type 0
IsOpen v id view floor = floor_in (request_at v id) ≡ Some (view, floor)

-- the step answers the request with this id
abbrev pub IsOfRequest : Step → (id : ℕ) → Type 0
IsOfRequest step id = (step ≡ Step.Look id) ⊎ (step ≡ Step.Store id)

-- At this turn the request's step wait found the view not behind, and gave it this floor.
pub record Gives (v : World) (turn : Turn) (id : ℕ) (view : OpenView) (floor : Floor) : Type 0 where
  pub last : Bool
  pub step : turn.step ≡ Step.Wait id last
  pub arrived : request_at v id ≡ Some (ViewArrived view)
  pub not_behind : lag_of (at_readings turn.at v) view ≡ None
  pub floor_is : floor ≡ floor_of (at_readings turn.at v) view

-- a turn of this run, the newest first, gave the floor, and the view has been open with it ever since
abbrev pub WasGiven : (start : World) (turns : List Turn) (w : World) → IsRun start turns w
    → (id : ℕ) → OpenView → Floor → Type 0
WasGiven start [] w run id view floor = ⊥
WasGiven start (turn ∷ earlier) w run id view floor =
    Gives run.0 turn id view floor
    ⊎ (IsOpen run.0 id view floor × WasGiven start earlier run.0 run.1 id view floor)

-- The page answers the view that its step names, as promised, and the view's floor is the one that its step wait gave.
pub record AnswersView (start : World) (turns : List Turn) (v : World) (run : IsRun start turns v)
    (turn : Turn) (p : PageAnswer) : Type 0 where
  pub id : ℕ
  pub view : OpenView
  pub floor : Floor
  pub step : IsOfRequest turn.step id
  pub is_open : IsOpen v id view floor
  pub given : WasGiven start turns v run id view floor
  pub own : floor.own ≤ floor.need
  pub promised : IsPromised (at_readings turn.at v) view.region view.view.title floor p

-- The answer that there is no page is as true, and misses as little.
pub record AnswersNoPage (start : World) (turns : List Turn) (v : World)
    (run : IsRun start turns v) (turn : Turn) (source : ℕ) : Type 0 where
  pub id : ℕ
  pub view : OpenView
  pub floor : Floor
  pub step : IsOfRequest turn.step id
  pub is_open : IsOpen v id view floor
  pub given : WasGiven start turns v run id view floor
  pub within : source ≤ length v.history
  pub none : page_text v.history source view.view.title ≡ None
  pub reaches : Reaches floor source

-- the page answers a job of a round as promised: a job's floor is its need
abbrev pub AnswersJob : World → Region → List Job → PageAnswer → Type 0
AnswersJob v r jobs p =
    (title : Title) × (need : ℕ) × (word : ℕ) × IsIn (ViewJob title need word) jobs
    × IsPromised v r title (record { need = need; own = 0 }) p

-- a job of the round asks for a page that the prefix does not have, and the prefix reaches the job's need
abbrev pub HasNoPageFor : World → List Job → (source : ℕ) → Type 0
HasNoPageFor v jobs source =
    (title : Title) × (need : ℕ) × (word : ℕ) × IsIn (ViewJob title need word) jobs
    × (source ≤ length v.history) × (page_text v.history source title ≡ None) × (need ≤ source)
