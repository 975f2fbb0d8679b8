-- The open requests of a farm, as a list by id, and when one of them is a request of the world.
use Rattle.std.specs.Prelude.{ℕ, ◌≡◌, ◌+◌, ◌≤◌, false, List, [], ◌∷◌, length, Option, Some, None, option_map, option_and_then, nat_eq}
use Rattle.std.specs.BTreeMap.{is_at}
use Rattle.std.specs.Map.{lookup}
use Rattle.std.specs.Ordering.{nat_cmp}
use Rattle.wiki_model.specs.Titles.{Title}
use Rattle.wiki_model.specs.History.{Edit, stamp_at, page_text}
use Rattle.wiki_model.specs.Html.{html}
use Rattle.wiki_model.specs.World as world
use Rattle.wiki_model.specs.World.{World, Request, Floor}
use Rattle.wiki_model.specs.HoldOff.{IsIssued}
use Rattle.replica_apply.specs.declared.snapshot.Snapshot.{Snapshot}
use Rattle.edit_core.specs.declared.edit_ask.EditAsk.{EditAsk}
use Rattle.edit_core.specs.declared.begun_edit.BegunEdit.{BegunEdit}
use Rattle.edit_core.specs.AsModel.{edit_of}
use Rattle.region_state.specs.declared.open_view.OpenView.{OpenView}
use Rattle.region_state.specs.declared.snap_view.Snapped.{Snapped}
use Rattle.farm_steps.specs.declared.open_request.OpenRequest.{OpenRequest}
use Rattle.farm_steps.specs.declared.open_request.OpenRequest.TheVariants as point
use Rattle.region_state.specs.AsModel.{open_view_of, snapshot_of}
use Rattle.region_state.specs.StoreView.{rendered}

abbrev pub Entries : Type 0
Entries = List (ℕ × OpenRequest)

-- a request that a step has in its hands counts as none
abbrev pub unless_taken : OpenRequest → Option OpenRequest
unless_taken point.Taken = None
unless_taken o = Some o

-- what is kept at the id
abbrev pub kept_at : Entries → ℕ → Option OpenRequest
kept_at entries id = lookup (is_at (nat_cmp id)) entries

abbrev pub open_at : Entries → ℕ → Option OpenRequest
open_at entries id = option_and_then unless_taken (kept_at entries id)

-- the request at the id, if it has come to this point

abbrev pub arrived_edit : Option OpenRequest → Option EditAsk
arrived_edit (Some (point.EditArrived ask)) = Some ask
arrived_edit _ = None

abbrev pub begun_edit : Option OpenRequest → Option BegunEdit
begun_edit (Some (point.EditBegun begun)) = Some begun
begun_edit _ = None

abbrev pub arrived_view : Option OpenRequest → Option OpenView
arrived_view (Some (point.ViewArrived view)) = Some view
arrived_view _ = None

abbrev pub waited_view : Option OpenRequest → Option (OpenView × ℕ)
waited_view (Some (point.ViewWaited view need)) = Some (view, need)
waited_view _ = None

abbrev pub need_of : Option (OpenView × ℕ) → Option ℕ
need_of None = None
need_of (Some (view, need)) = Some need

abbrev pub looked_view : Option OpenRequest → Option (OpenView × ℕ)
looked_view (Some (point.ViewLooked view need)) = Some (view, need)
looked_view _ = None

abbrev pub snapped_view : Option OpenRequest → Option (OpenView × Snapped)
snapped_view (Some (point.ViewSnapped view snapped)) = Some (view, snapped)
snapped_view _ = None

-- how many messages a begun edit has reserved room for
abbrev pub room_of : OpenRequest → ℕ
room_of (point.EditBegun begun) = 2
room_of _ = 0

abbrev pub room : Entries → ℕ
room [] = 0
room (e ∷ entries) = room_of e.1 + room entries

abbrev pub room_at : Option OpenRequest → ℕ
room_at None = 0
room_at (Some o) = room_of o

-- The id has this request, or none, and every other id what it had; no room is reserved but for this request.
pub record Places (old new : Entries) (id : ℕ) (now : Option OpenRequest) : Type 0 where
  pub here : kept_at new id ≡ now
  pub others : (other : ℕ) → nat_eq other id ≡ false → kept_at new other ≡ kept_at old other
  pub room : room new ≤ room old + room_at now

-- the snapshot has the page of its prefix, with all that rendering it needs
pub record HasPage (w : World) (title : Title) (s : Snapshot) : Type 0 where
  pub within : s.upto ≤ length w.history
  pub stamp : s.stamp ≡ stamp_at w.history s.upto
  pub page : (markup : ℕ) → html w.history s.upto title markup ≡ option_map (λ text. rendered markup title text s)
      s.page
  pub text : page_text w.history s.upto title ≡ s.page

-- the edit's purge was issued, and its due moment is counted from then
pub record IsBegun (w : World) (begun : BegunEdit) (edit : Edit) (purge : ℕ) : Type 0 where
  pub ask : edit_of begun.ask ≡ edit
  pub title : begun.purge_title ≡ edit.title
  pub purge_is : begun.issued.purge ≡ purge
  pub issued : ℕ
  pub is_issued : IsIssued w purge edit.title issued
  pub due : begun.due ≡ issued + w.setting.bounds.commit_delay

-- What is kept of a request is what the world has.
abbrev pub IsRequest : World → OpenRequest → Request → Type 0
IsRequest w (point.EditArrived ask) request = request ≡ world.EditArrived (edit_of ask)
IsRequest w (point.EditBegun begun) request =
    (edit : Edit) × (purge : ℕ) × (request ≡ world.EditBegun edit purge) × IsBegun w begun edit purge
IsRequest w (point.ViewArrived view) request = request ≡ world.ViewArrived (open_view_of view)
IsRequest w (point.ViewWaited view need) request =
    (floor : Floor) × (request ≡ world.ViewWaited (open_view_of view) floor) × (need ≡ floor.need)
IsRequest w (point.ViewLooked view need) request =
    (floor : Floor) × (request ≡ world.ViewLooked (open_view_of view) floor) × (need ≡ floor.need)
IsRequest w (point.ViewSnapped view snapped) request =
    (floor : Floor) × (request ≡ world.ViewSnapped (open_view_of view) floor (snapshot_of snapped))
    × HasPage w view.ask.title snapped.snapshot
IsRequest w point.Taken request = ⊥

abbrev pub AgreeAt : World → Option OpenRequest → Option Request → Type 0
AgreeAt w None None = Unit {0}
AgreeAt w (Some o) (Some request) = IsRequest w o request
AgreeAt w None (Some request) = ⊥
AgreeAt w (Some o) None = ⊥
