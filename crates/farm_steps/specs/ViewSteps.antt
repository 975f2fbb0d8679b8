-- What the steps of a view do with its request and with its region.
use Rattle.std.specs.Prelude.{ℕ, ◌≡◌, ◌⊎◌, ◌+◌, ◌||◌, ◌↔◌, IsTrue, Bool, false, All, [], ◌∷◌, Option, Some, None, IfSome, Result, Ok, Err, IfOk, nat_le, bytes_eq}
use Rattle.wiki_model.specs.declared.Region.{Region}
use Rattle.wiki_model.specs.declared.Region.TheVariants.{Home, West}
use Rattle.wiki_model.specs.declared.Readings.{Readings}
use Rattle.wiki_model.specs.Bytes.{Bytes}
use Rattle.wiki_model.specs.Titles.{Title}
use Rattle.wiki_model.specs.Limits.{wait_limit}
use Rattle.wiki_model.specs.Cache.{CacheMap, Found, Hit, Interim, Missed, look}
use Rattle.wiki_model.specs.CacheCalls.{look_answer}
use Rattle.wiki_model.specs.Answers.{Answer, NotOpen, Lagging, NoMemory}
use Rattle.edit_core.specs.declared.begun_edit.BegunEdit.{BegunEdit}
use Rattle.farm_base.specs.declared.memory.Memory.{Memory}
use Rattle.region_state.specs.declared.open_view.OpenView.{OpenView}
use Rattle.region_state.specs.declared.snap_view.Snapped.{Snapped}
use Rattle.farm_steps.specs.declared.open_request.OpenRequest.{OpenRequest}
use Rattle.farm_steps.specs.declared.open_request.OpenRequest.TheVariants as point
use Rattle.region_state.specs.declared.wait_view.Wait.{Wait}
use Rattle.region_state.specs.declared.wait_view.Wait.TheVariants as wait
use Rattle.farm_steps.specs.RequestMap.{Entries, Places, kept_at, open_at}
use Rattle.region_state.specs.RegionState.{RegionParts}
use Rattle.farm_steps.specs.Moments.{moment_of}
use Rattle.region_state.specs.WaitView.{known_in, lag_in, waits}
use Rattle.region_state.specs.SnapView.{ask_for, SnapsIn}
use Rattle.region_state.specs.StoreView.{StoresIn}

abbrev pub region_at : {S : Type 0} → Region → (home west : RegionParts S) → RegionParts S
region_at Home home west = home
region_at West home west = west

abbrev pub other_region : Region → Region
other_region Home = West
other_region West = Home

-- no request stands at the step's point
abbrev pub NoneThere : ℕ → (old new : Entries) → Option Answer → Type 0
NoneThere id old new answer = (answer ≡ Some (NotOpen id)) × (new ≡ old)

abbrev pub WaitsTo : Wait → ℕ → OpenView → (old new : Entries) → Option Answer → Type 0
WaitsTo (wait.Go need) id view old new answer = (answer ≡ None) × Places old new id (Some (point.ViewWaited view need))
WaitsTo wait.Stay id view old new answer = (answer ≡ None) × Places old new id (Some (point.ViewArrived view))
WaitsTo (wait.Lag by needed reached) id view old new answer =
    (answer ≡ Some (Lagging by needed reached)) × Places old new id None

abbrev pub Waits : {S : Type 0} → (home west : RegionParts S) → Readings → ℕ → (last : Bool) → (old new : Entries)
    → Option Answer → Option OpenView → Type 0
Waits home west at id last old new answer None = NoneThere id old new answer
Waits home west at id last old new answer (Some view) =
    let parts = region_at view.region home west in
    let now = moment_of view.region at in
    WaitsTo (waits (last || nat_le (view.arrived + wait_limit) now)
    (known_in parts.positions view.ask.client now).position (lag_in parts view.ask now)) id view old new answer

-- what a look finds closes the request or has it go on
abbrev pub LooksAt : ℕ → OpenView → (need : ℕ) → (old new : Entries) → Option Answer → Found Bytes → Type 0
LooksAt id view need old new answer (Hit v) =
    (answer ≡ Some (look_answer view.ask.title (Hit v))) × Places old new id None
LooksAt id view need old new answer (Interim v) =
    (answer ≡ Some (look_answer view.ask.title (Interim v))) × Places old new id None
LooksAt id view need old new answer (Missed why) =
    (answer ≡ Some (look_answer view.ask.title (Missed why))) × Places old new id (Some (point.ViewLooked view need))

-- so may being out of memory close it
abbrev pub LooksTo : ℕ → OpenView → (need : ℕ) → (old new : Entries) → Option Answer → Found Bytes → Type 0
LooksTo id view need old new answer found =
    ((answer ≡ Some NoMemory) × Places old new id None) ⊎ LooksAt id view need old new answer found

abbrev pub Looks : {S : Type 0} → (S → CacheMap Bytes) → (home west : RegionParts S) → Readings → ℕ
    → (old new : Entries) → Option Answer → Option (OpenView × ℕ) → Type 0
Looks cache_of home west at id old new answer None = NoneThere id old new answer
Looks cache_of home west at id old new answer (Some (view, need)) =
    let parts = region_at view.region home west in
    IfSome parts.cache (λ c. LooksTo id view need old new answer
    (look (cache_of c) view.ask.title (moment_of view.region at) (ask_for parts need)))

-- whether the request is a begun edit of the title
abbrev pub begun_on : Title → OpenRequest → Bool
begun_on title (point.EditBegun begun) = bytes_eq begun.ask.title title
begun_on title _ = false

-- whether one of these requests is a begun edit of the title
abbrev pub any_begun : Title → Entries → Bool
any_begun title [] = false
any_begun title (e ∷ es) = begun_on title e.1 || any_begun title es

-- each request is found at its id
abbrev pub AreFound : Entries → Type 0
AreFound entries = All (λ e. kept_at entries e.0 ≡ Some e.1) entries

-- an edit of the title is begun
abbrev pub HasBegun : Entries → Title → Type 0
HasBegun entries title =
    (id : ℕ) × (begun : BegunEdit) × (open_at entries id ≡ Some (point.EditBegun begun)) × (begun.ask.title ≡ title)

-- an edit of the title is point at home
abbrev pub IsPendingIn : Region → Entries → Title → Bool → Type 0
IsPendingIn Home entries title pending = IsTrue pending ↔ HasBegun entries title
IsPendingIn West entries title pending = pending ≡ false

-- a snapshot has the request go on, and being out of memory closes it
abbrev pub SnapsView : ℕ → OpenView → (old new : Entries) → Option Answer → Result Snapped Memory → Type 0
SnapsView id view old new answer (Ok snapped) =
    (answer ≡ None) × Places old new id (Some (point.ViewSnapped view snapped))
SnapsView id view old new answer (Err want) = (answer ≡ Some NoMemory) × Places old new id None

pub record TakesSnapshot {S : Type 0} (home west : RegionParts S) (at : Readings) (id : ℕ) (old new : Entries)
    (answer : Option Answer) (view : OpenView) (need : ℕ) : Type 0 where
  pub made : Result Snapped Memory
  pub ends : SnapsView id view old new answer made
  pub pending : Bool
  pub is_pending : IsPendingIn view.region old view.ask.title pending
  pub snaps : IfOk made (λ s. SnapsIn (region_at view.region home west) view.ask.title need view.ask.word pending
      (moment_of view.region at) s)

abbrev pub SnapsTo : {S : Type 0} → (home west : RegionParts S) → Readings → ℕ → (old new : Entries) → Option Answer
    → Option (OpenView × ℕ) → Type 0
SnapsTo home west at id old new answer None = NoneThere id old new answer
SnapsTo home west at id old new answer (Some (view, need)) = TakesSnapshot home west at id old new answer view need

-- the region of a view after a store, and the request closed
abbrev pub StoresTo : {S : Type 0} → (S → CacheMap Bytes) → (home west home_after west_after : RegionParts S) → Readings
    → ℕ → (old new : Entries) → Answer → Option (OpenView × Snapped) → Type 0
StoresTo cache_of home west home_after west_after at id old new answer None =
    NoneThere id old new (Some answer) × (home_after ≡ home) × (west_after ≡ west)
StoresTo cache_of home west home_after west_after at id old new answer (Some (view, snapped)) =
    Places old new id None × StoresIn cache_of (region_at view.region home west)
    (region_at view.region home_after west_after) view.ask.title snapped (moment_of view.region at) answer
    × (region_at (other_region view.region) home_after west_after ≡ region_at (other_region view.region) home west)

-- a request that has waited is closed
abbrev pub Needs : ℕ → (old new : Entries) → Option (OpenView × ℕ) → Type 0
Needs id old new None = new ≡ old
Needs id old new (Some found) = Places old new id None
