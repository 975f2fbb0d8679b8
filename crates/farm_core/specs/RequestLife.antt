-- The life of a request: at which point each one stands, and where a step leaves its own, by its answer. This holds
-- over every keeper, whether it exposes its history or not.
use Rattle.std.specs.Prelude.{ℕ, ◌≡◌, ◌⊎◌, false, Bool, nat_eq, Option, None, Some, option_map}
use Rattle.wiki_model.specs.Answers.{Answer, Page, EditSaved, NoPage, Conflict, TokenUsed, Lagging, Miss, NotOpen, StoreFault, NoMemory}
use Rattle.region_state.specs.declared.answer.Answer.{Answer as CodeAnswer}
use Rattle.region_state.specs.AsModel.{answer_of}
use Rattle.region_state.specs.declared.ask.Asked.{Asked}
use Rattle.region_state.specs.declared.ask.Asked.TheVariants as asked
use Rattle.farm_steps.specs.declared.open_request.OpenRequest.{OpenRequest}
use Rattle.farm_steps.specs.declared.open_request.OpenRequest.TheVariants as point
use Rattle.farm_steps.specs.RequestMap.{Entries, open_at, waited_view, need_of}

pub data Point : Type 0 where
  Closed : Point
  ArrivedEdit : Point
  BegunEdit : Point
  ArrivedView : Point
  WaitedView : Point
  LookedView : Point
  SnappedView : Point

abbrev pub point_of : Option OpenRequest → Point
point_of None = Closed
point_of (Some (point.EditArrived ask)) = ArrivedEdit
point_of (Some (point.EditBegun begun)) = BegunEdit
point_of (Some (point.ViewArrived view)) = ArrivedView
point_of (Some (point.ViewWaited view need)) = WaitedView
point_of (Some (point.ViewLooked view need)) = LookedView
point_of (Some (point.ViewSnapped view snapped)) = SnappedView
point_of (Some point.Taken) = Closed

abbrev pub point_at : Entries → (id : ℕ) → Point
point_at entries id = point_of (open_at entries id)

-- A step moves a request from the point that it needs, and no other. If the request stands elsewhere, it is not open
-- for the step.
pub record MovesOn (id : ℕ) (from : Point) (To : Option Answer → Point → Type 0) (answer : Option Answer)
    (old new : Entries) : Type 0 where
  pub others : (other : ℕ) → nat_eq other id ≡ false → open_at new other ≡ open_at old other
  pub moved : point_at old id ≡ from → To answer (point_at new id)
  pub refused : (point_at old id ≡ from → ⊥) → (answer ≡ Some (NotOpen id)) × (new ≡ old)

-- where each step leaves its request; an answer that is not listed is never given

abbrev pub BeginsAt : Option Answer → Point → Type 0
BeginsAt None p = p ≡ BegunEdit
BeginsAt (Some (EditSaved saved)) p = p ≡ Closed
BeginsAt (Some (TokenUsed entry)) p = p ≡ Closed
BeginsAt (Some (Conflict base current)) p = p ≡ Closed
BeginsAt (Some StoreFault) p = p ≡ Closed
BeginsAt (Some NoMemory) p = p ≡ Closed
BeginsAt (Some answer) p = ⊥

abbrev pub CommitsAt : Option Answer → Point → Type 0
CommitsAt (Some (EditSaved saved)) p = p ≡ Closed
CommitsAt (Some (TokenUsed entry)) p = p ≡ Closed
CommitsAt (Some (Conflict base current)) p = p ≡ Closed
CommitsAt (Some StoreFault) p = p ≡ Closed
CommitsAt (Some NoMemory) p = p ≡ Closed
CommitsAt answer p = ⊥

-- a view that may wait again may stay where it is
abbrev pub WaitsAt : (last : Bool) → Option Answer → Point → Type 0
WaitsAt last None p = (p ≡ WaitedView) ⊎ ((last ≡ false) × (p ≡ ArrivedView))
WaitsAt last (Some (Lagging by needed reached)) p = p ≡ Closed
WaitsAt last (Some answer) p = ⊥

abbrev pub LooksFrom : Option Answer → Point → Type 0
LooksFrom (Some (Page page)) p = p ≡ Closed
LooksFrom (Some (Miss why)) p = p ≡ LookedView
LooksFrom (Some NoMemory) p = p ≡ Closed
LooksFrom answer p = ⊥

abbrev pub SnapsAt : Option Answer → Point → Type 0
SnapsAt None p = p ≡ SnappedView
SnapsAt (Some NoMemory) p = p ≡ Closed
SnapsAt (Some answer) p = ⊥

abbrev pub StoresFrom : Option Answer → Point → Type 0
StoresFrom (Some (Page page)) p = p ≡ Closed
StoresFrom (Some (NoPage source)) p = p ≡ Closed
StoresFrom (Some NoMemory) p = p ≡ Closed
StoresFrom answer p = ⊥

-- the point at which a request arrives
abbrev pub first_point : Asked → Point
first_point (asked.Edit ask) = ArrivedEdit
first_point (asked.View view) = ArrivedView

-- a request that arrives stands at its first point, or is not noted
pub record OpensRequest (id : ℕ) (first : Point) (answer : Option Answer) (old new : Entries) : Type 0 where
  pub others : (other : ℕ) → nat_eq other id ≡ false → open_at new other ≡ open_at old other
  pub opened : answer ≡ None → point_at new id ≡ first
  pub refused : (answer ≡ None) ⊎ ((answer ≡ Some NoMemory) × (new ≡ old))

-- a request that has waited is closed, and its need told; nothing is answered
pub record ClosesWaited (id : ℕ) (need : Option ℕ) (old new : Entries) : Type 0 where
  pub others : (other : ℕ) → nat_eq other id ≡ false → open_at new other ≡ open_at old other
  pub closed : point_at old id ≡ WaitedView → point_at new id ≡ Closed
  pub stays : (point_at old id ≡ WaitedView → ⊥) → new ≡ old
  pub need_is : need ≡ need_of (waited_view (open_at old id))

-- no request is touched
abbrev pub LeavesRequests : (old new : Entries) → Type 0
LeavesRequests old new = new ≡ old

-- what each step does with its request, by what the farm answers

abbrev pub Arrives : (id : ℕ) → Asked → Option CodeAnswer → (old new : Entries) → Type 0
Arrives id what result = OpensRequest id (first_point what) (option_map answer_of result)

abbrev pub Begins : (id : ℕ) → Option CodeAnswer → (old new : Entries) → Type 0
Begins id result = MovesOn id ArrivedEdit BeginsAt (option_map answer_of result)

abbrev pub Commits : (id : ℕ) → Option CodeAnswer → (old new : Entries) → Type 0
Commits id result = MovesOn id BegunEdit CommitsAt (option_map answer_of result)

abbrev pub Waits : (id : ℕ) → (last : Bool) → Option CodeAnswer → (old new : Entries) → Type 0
Waits id last result = MovesOn id ArrivedView (WaitsAt last) (option_map answer_of result)

abbrev pub Looks : (id : ℕ) → Option CodeAnswer → (old new : Entries) → Type 0
Looks id result = MovesOn id WaitedView LooksFrom (option_map answer_of result)

abbrev pub Snaps : (id : ℕ) → Option CodeAnswer → (old new : Entries) → Type 0
Snaps id result = MovesOn id LookedView SnapsAt (option_map answer_of result)

abbrev pub Stores : (id : ℕ) → Option CodeAnswer → (old new : Entries) → Type 0
Stores id result = MovesOn id SnappedView StoresFrom (option_map answer_of result)
