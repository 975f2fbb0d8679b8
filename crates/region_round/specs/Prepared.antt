-- What is prepared for a view, beside a cache that stays as it is: a snapshot that the region takes, with its page.
use Rattle.std.specs.Prelude.{ℕ, ◌≡◌, Option, Some, None}
use Rattle.std.specs.Arc.{arc_value}
use Rattle.wiki_model.specs.Bytes.{Bytes}
use Rattle.wiki_model.specs.Titles.{Title}
use Rattle.replica_apply.specs.declared.snapshot.Snapshot.{Snapshot}
use Rattle.region_state.specs.RegionState.{RegionParts}
use Rattle.region_state.specs.SnapView.{SnapsIn}
use Rattle.region_state.specs.StoreView.{rendered}
use Rattle.region_round.specs.declared.job.ViewJob.{ViewJob}
use Rattle.region_round.specs.declared.prepare_view.Pages.{Pages}
use Rattle.region_round.specs.declared.prepare_view.Prepared.{Prepared}
use Rattle.region_round.specs.declared.prepare_view.ViewTerms.{ViewTerms}

-- the snapshot has no page, or this one
abbrev pub IsMade : (markup : ℕ) → Title → Snapshot → Option Pages → Type 0
IsMade markup title s None = s.page ≡ None
IsMade markup title s (Some made) =
    (text : Bytes) × (s.page ≡ Some text) × (made.name ≡ title)
    × (arc_value made.page ≡ rendered markup title text s) × (arc_value made.shared ≡ rendered markup title text s)

-- a snapshot for the view, where an edit is begun as the terms say, and its page
pub record IsPrepared {S : Type 0} (parts : RegionParts S) (view : ViewJob) (terms : ViewTerms)
    (prepared : Prepared) : Type 0 where
  pub snaps : SnapsIn parts view.title view.need view.word terms.pending terms.at prepared.snapped
  pub made : IsMade terms.rules.markup view.title prepared.snapped.snapshot prepared.pages

-- where an edit is begun as the snapshot itself says
abbrev pub IsPreparedFor : {S : Type 0} → RegionParts S → ViewJob → ViewTerms → Prepared → Type 0
IsPreparedFor parts view terms prepared =
    IsPrepared parts view (record terms { pending = prepared.snapped.pending }) prepared
