-- Where a page that a cache answers comes from: an earlier turn of its run made it, by a step store or in a round.
-- So no cached page is of a source that its region never rendered.
use Rattle.std.specs.Prelude.{ℕ, ◌≡◌, ◌⊎◌, List, [], ◌∷◌, Some}
use Rattle.wiki_model.specs.declared.Region.{Region}
use Rattle.wiki_model.specs.declared.Readings.{Readings}
use Rattle.wiki_model.specs.declared.PutNote.{PutNote}
use Rattle.wiki_model.specs.Bytes.{IsIn}
use Rattle.wiki_model.specs.Titles.{Title}
use Rattle.wiki_model.specs.History.{Entry}
use Rattle.wiki_model.specs.World.{World, Setting, OpenView, Floor, Snapshot, Job, request_at}
use Rattle.wiki_model.specs.World.Request.{ViewWaited, ViewSnapped}
use Rattle.wiki_model.specs.Answers.{Answer, PageAnswer}
use Rattle.wiki_model.specs.Answers.Answer.{Page}
use Rattle.wiki_model.specs.Steps.{Step}
use Rattle.wiki_model.specs.Runs.{Turn, Leads, IsRun, opening}
use Rattle.wiki_model.specs.Runs.Reply.{One, Many}

-- The page is of this title and source, and its value was put.
pub record IsPutOf (title : Title) (source : ℕ) (p : PageAnswer) : Type 0 where
  pub title_is : p.title ≡ title
  pub source_is : p.source ≡ source
  pub put : (note : PutNote) × (p.put ≡ Some note)

-- At this turn a step store answered such a page, for a view of the region with its snapshot in world v.
pub record StoresPage (v : World) (turn : Turn) (r : Region) (title : Title)
    (source : ℕ) : Type 0 where
  pub id : ℕ
  pub view : OpenView
  pub floor : Floor
  pub snapshot : Snapshot
  pub page : PageAnswer
  pub step : turn.step ≡ Step.Store id
  pub snapped : request_at v id ≡ Some (ViewSnapped view floor snapshot)
  pub region : view.region ≡ r
  pub answered : turn.reply ≡ One (Some (Page page))
  pub is_put : IsPutOf title source page

-- At this turn a round of the region answered such a page.
pub record RoundsPage (turn : Turn) (r : Region) (title : Title) (source : ℕ) : Type 0 where
  pub jobs : List Job
  pub answers : List Answer
  pub page : PageAnswer
  pub step : turn.step ≡ Step.Round r jobs
  pub answered : turn.reply ≡ Many (Some answers)
  pub there : IsIn (Page page) answers
  pub is_put : IsPutOf title source page

abbrev pub MakesPage : World → Turn → Region → Title → (source : ℕ) → Type 0
MakesPage v turn r title source =
    StoresPage v turn r title source ⊎ RoundsPage turn r title source

-- a turn of this run made the page of this title and source for the region
abbrev pub WasStoredBy : (start : World) (turns : List Turn) (w : World) → IsRun start turns w
    → Region → Title → (source : ℕ) → Type 0
WasStoredBy start [] w run r title source = ⊥
WasStoredBy start (turn ∷ earlier) w run r title source =
    MakesPage run.0 turn r title source ⊎ WasStoredBy start earlier run.0 run.1 r title source

-- the view that a look answers had waited, and an earlier turn made the page for its region
pub record LooksUpStored (start : World) (turns : List Turn) (v : World)
    (run : IsRun start turns v) (id : ℕ) (p : PageAnswer) : Type 0 where
  pub view : OpenView
  pub floor : Floor
  pub waited : request_at v id ≡ Some (ViewWaited view floor)
  pub title : p.title ≡ view.view.title
  pub stored : WasStoredBy start turns v run view.region p.title p.source

-- The law: a page that a step look answers was made by an earlier turn of the run, a store or a round of the same
-- region.
abbrev pub CachedSourcesWereStored : Type 0
CachedSourcesWereStored =
    (setting : Setting) (history : List Entry) (faults : ℕ) (at : Readings) (turns : List Turn)
    (turn : Turn) (v w : World) (id : ℕ) (p : PageAnswer)
    → (run : IsRun (opening setting history faults at) turns v) → Leads v turn w
    → turn.step ≡ Step.Look id → turn.reply ≡ One (Some (Page p))
    → LooksUpStored (opening setting history faults at) turns v run id p
