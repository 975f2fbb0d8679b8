-- Each page that a run answers is as promised, by what its step allows.
-- In a round it is so by what its job allows.
use Rattle.std.proofs.Common.{◌≡◌, ◌≤◌, ℕ, List, [], ◌∷◌, ◌++◌, length, Bool, true, false, cond, Some, None, Option, refl, sym, ◌∙◌, ap, subst, inl, inr}
use Rattle.wiki_model.specs.declared.Region.{Region}
use Rattle.wiki_model.specs.declared.Origin.{Origin}
use Rattle.wiki_model.specs.declared.Origin.TheVariants as via
use Rattle.wiki_model.specs.Bytes.{IsIn}
use Rattle.wiki_model.specs.Titles.{Title}
use Rattle.wiki_model.specs.History.{Entry, Edit, Numbered, commit_with_token, current_revision, page_text}
use Rattle.wiki_model.specs.declared.Readings.{Readings}
use Rattle.wiki_model.specs.World.{World, Setting, OpenView, Floor, Snapshot, Job, Request, Message, request_at, message_at, at_readings}
use Rattle.wiki_model.specs.World.Request.{EditArrived, EditBegun, ViewArrived, ViewWaited, ViewLooked, ViewSnapped}
use Rattle.wiki_model.specs.World.Job.{ViewJob, ReceiptJob}
use Rattle.wiki_model.specs.Sessions.{Lag, lag_of}
use Rattle.wiki_model.specs.HoldOff.{IsNotStale}
use Rattle.wiki_model.specs.Answers.{Answer, PageAnswer, Reaches, edit_answer, edit_answer_of, same_token, is_same_edit, IsSoundFromCache, IsSoundFromReplica, IsFromCache}
use Rattle.wiki_model.specs.Answers.Answer.{Page}
use Rattle.wiki_model.specs.Steps.{Step, Allows, AtPoint, Begins, Commits, Waits, Looks, Snaps, Stores, arrived_edit, begun_edit, arrived_view, waited_view, looked_view, snapped_view, waited, gives_up, lag_answer, dropped}
use Rattle.wiki_model.specs.Rounds.{MakesRound, rounded, AnswersJobs, IsJobAnswer, floor_for}
use Rattle.wiki_model.specs.Runs.{Turn, One, Many, Reply, Takes, IsRun, opening, with_faults}
use Rattle.wiki_model.specs.Consistent.{IsOpened, IsFitting}
use Rattle.wiki_model.specs.Promised.{IsPromised, floor_in, IsOpen, IsOfRequest, AnswersView, AnswersNoPage, AnswersJob, HasNoPageFor}
use Rattle.wiki_model.proofs.StepLaws.{was-waited, opened-run-keeps}
use Rattle.wiki_model.proofs.FloorLaws.{floors-given}

-- the history decides no edit by a page
token-no_page : (edit : Edit) (n : Numbered) (p : PageAnswer) → same_token edit n ≡ Page p → ⊥
token-no_page edit n p e = by (is_same_edit edit n.commit.edit) e
  where
    by : (b : Bool) → cond b (Answer.EditSaved (Rattle.wiki_model.specs.Answers.saved n.number n.commit)) (Answer.TokenUsed n.number) ≡ Page p → ⊥
    by true e = cc
    by false e = cc

edit-no_page : (history : List Entry) (edit : Edit) (p : PageAnswer) → edit_answer history edit ≡ Some (Page p) → ⊥
edit-no_page history edit p e = by (commit_with_token history edit.client edit.token) e
  where
    either : (b : Bool) → cond b (let o : Option Answer = None in o) (Some (Answer.Conflict edit.base (current_revision history edit.title))) ≡ Some (Page p) → ⊥
    either true e = cc
    either false e = cc

    by : (o : Option Numbered) → edit_answer_of history edit o ≡ Some (Page p) → ⊥
    by (Some n) e = token-no_page edit n p cc
    by None e = either _ e

at-point : {A : Type 0} (o : Option A) (id : ℕ) (v : World) (p : PageAnswer) (w : World) (P : A → Type 0) (Q : Type 0) → ((a : A) → o ≡ Some a → P a → Q) → AtPoint o id v (Some (Page p)) w P → Q
at-point None id v p w P Q f row = let no : Some (Page p) ≡ Some (Answer.NotOpen id) = row.0 in let none : ⊥ = cc in absurd none
at-point (Some a) id v p w P Q f row = f a refl row

from-cache : (v w : World) (r : Region) (title : Title) (floor : Floor) (p : PageAnswer) → IsSoundFromCache v w r title floor p → IsPromised v r title floor p
from-cache v w r title floor p is = record { prefix = is.prefix; reaches = is.reaches; not_stale = λ hit whole. by p.origin hit is.origin whole }
  where
    by : (o : Origin) → o ≡ via.Hit → IsFromCache v w r title p o → p.lagged ≡ false → IsNotStale v r p.source title
    by Origin.Hit e h whole = h.not_stale whole
    by Origin.Interim e h whole = let no : ⊥ = cc in absurd no
    by (Origin.Replica i) e h whole = absurd h

from-replica : (v : World) (r : Region) (title : Title) (floor : Floor) (s : Snapshot) (p : PageAnswer) → IsSoundFromReplica v title floor s p → IsPromised v r title floor p
from-replica v r title floor s p is = record { prefix = is.prefix; reaches = is.reaches; not_stale = λ hit whole. let no : via.Replica is.origin.0 ≡ via.Hit = sym is.origin.2 ∙ hit in let none : ⊥ = cc in absurd none }

pub was-snapped : (o : Option Request) (p : OpenView × Floor × Snapshot) → snapped_view o ≡ Some p → o ≡ Some (ViewSnapped p.0 p.1 p.2)
was-snapped None p e = let no : ⊥ = cc in absurd no
was-snapped (Some (ViewSnapped view floor s)) p e = let same : (let x : OpenView × Floor × Snapshot = (view, floor, s) in x) ≡ p = cc in ap (λ (q : OpenView × Floor × Snapshot). Some (ViewSnapped q.0 q.1 q.2)) same
was-snapped (Some (EditArrived edit)) p e = let no : ⊥ = cc in absurd no
was-snapped (Some (EditBegun edit purge)) p e = let no : ⊥ = cc in absurd no
was-snapped (Some (ViewArrived view)) p e = let no : ⊥ = cc in absurd no
was-snapped (Some (ViewWaited view floor)) p e = let no : ⊥ = cc in absurd no
was-snapped (Some (ViewLooked view floor)) p e = let no : ⊥ = cc in absurd no

wait-no_page : (id : ℕ) (last : Bool) (view : OpenView) (v : World) (p : PageAnswer) (w : World) → Waits id last view v (Some (Page p)) w → ⊥
wait-no_page id last view v p w row = by (lag_of v view) row.0
  where
    by : (o : Option Lag) → Some (Page p) ≡ (waited id view last v o).0 → ⊥
    by None e = cc
    by (Some lag) e = either (gives_up v view last) e
      where
        either : (b : Bool) → Some (Page p) ≡ (cond b (let x : Option Answer × World = (Some (lag_answer lag), Rattle.wiki_model.specs.World.without_request id v) in x) (None, v)).0 → ⊥
        either true e = cc
        either false e = cc

drop-no_page : (number : ℕ) (v : World) (p : PageAnswer) (o : Option Message) → Some (Page p) ≡ (dropped number v o).0 → ⊥
drop-no_page number v p None e = cc
drop-no_page number v p (Some m) e = cc

-- the step answers an open view, as promised
record AnswersOpen (v : World) (step : Step) (p : PageAnswer) : Type 0 where
  pub id : ℕ
  pub view : OpenView
  pub floor : Floor
  pub of : IsOfRequest step id
  pub is_open : IsOpen v id view floor
  pub promised : IsPromised v view.region view.view.title floor p

row-page : (step : Step) (v : World) (p : PageAnswer) (w : World) → Allows step v (Some (Page p)) w → AnswersOpen v step p
row-page Step.MakeBeat v p w row = absurd row
row-page (Step.Arrive id asked) v p w row = absurd row
row-page (Step.Begin id) v p w row = at-point (arrived_edit (request_at v id)) id v p w (λ edit. Begins id edit v (Some (Page p)) w) (AnswersOpen v (Step.Begin id) p) (λ edit e r. absurd (edit-no_page v.history edit p r.0)) row
row-page (Step.CommitEdit id) v p w row = at-point (begun_edit (request_at v id)) id v p w (λ e. Commits id e v (Some (Page p)) w) (AnswersOpen v (Step.CommitEdit id) p) (λ e is r. absurd (by e r)) row
  where
    by : (e : Edit × ℕ) → Commits id e v (Some (Page p)) w → ⊥
    by (edit, purge) (inl r) = edit-no_page v.history edit p r.0
    by (edit, purge) (inr r) = let no = r.1 in cc
row-page (Step.Wait id last) v p w row = at-point (arrived_view (request_at v id)) id v p w (λ view. Waits id last view v (Some (Page p)) w) (AnswersOpen v (Step.Wait id last) p) (λ view e r. absurd (wait-no_page id last view v p w r)) row
row-page (Step.Look id) v p w row = at-point (waited_view (request_at v id)) id v p w (λ q. Looks id q v (Some (Page p)) w) (AnswersOpen v (Step.Look id) p)
    (λ q e r. record { id = id; view = q.0; floor = q.1; of = inl refl; is_open = ap floor_in (was-waited (request_at v id) q e); promised = from-cache v v q.0.region q.0.view.title q.1 p r.0 }) row
row-page (Step.Snap id) v p w row = at-point (looked_view (request_at v id)) id v p w (λ q. Snaps id q v (Some (Page p)) w) (AnswersOpen v (Step.Snap id) p) (λ q e r. absurd r) row
row-page (Step.Store id) v p w row = at-point (snapped_view (request_at v id)) id v p w (λ q. Stores id q v (Some (Page p)) w) (AnswersOpen v (Step.Store id) p)
    (λ q e r. record { id = id; view = q.0; floor = q.1; of = inr refl; is_open = ap floor_in (was-snapped (request_at v id) q e); promised = from-replica v q.0.region q.0.view.title q.1 q.2 p r.0 }) row
row-page (Step.Apply r replica count) v p w row = absurd row.3
row-page (Step.Carry number shown) v p w row = absurd row
row-page (Step.Drop number) v p w row = absurd (drop-no_page number v p (message_at v number) row.0)
row-page (Step.Need id) v p w row = let no = row.0 in let none : ⊥ = cc in absurd none
row-page (Step.SetMarkup markup) v p w row = let no = row.0 in let none : ⊥ = cc in absurd none
row-page (Step.Round r jobs) v p w row = absurd row

step-page : (start : World) (turns : List Turn) (turn : Turn) (w : World) (p : PageAnswer) (run : IsRun start (turn ∷ turns) w) → turn.reply ≡ One (Some (Page p)) → AnswersOpen (at_readings turn.at run.0) turn.step p
step-page start turns turn w p run is = by turn.step turn.reply is run.2.takes
  where
    as-allowed : (step : Step) (answer : Option Answer) → answer ≡ Some (Page p) → Takes step (at_readings turn.at run.0) (One answer) (with_faults run.0.faults w) → Allows step (at_readings turn.at run.0) (Some (Page p)) (with_faults run.0.faults w)
    as-allowed step answer same t = subst (λ a. Allows step (at_readings turn.at run.0) a (with_faults run.0.faults w)) same t

    by : (step : Step) (reply : Reply) → reply ≡ One (Some (Page p)) → Takes step (at_readings turn.at run.0) reply (with_faults run.0.faults w) → AnswersOpen (at_readings turn.at run.0) step p
    by (Step.Round r jobs) (Many answers) e t = let no : ⊥ = cc in absurd no
    by step (Many answers) e t = let no : ⊥ = cc in absurd no
    by step (One answer) e t = let same : answer ≡ Some (Page p) = cc in row-page step (at_readings turn.at run.0) p (with_faults run.0.faults w) (as-allowed step answer same t)

fitting : (w : World) (o : Option Request) (p : OpenView × Floor) → floor_in o ≡ Some p → ((q : Request) → o ≡ Some q → IsFitting w q) → p.1.own ≤ p.1.need
fitting w None p e f = let no : ⊥ = cc in absurd no
fitting w (Some (ViewWaited view floor)) p e f = let same : (let x : OpenView × Floor = (view, floor) in x) ≡ p = cc in subst (λ (x : OpenView × Floor). x.1.own ≤ x.1.need) same (f (ViewWaited view floor) refl)
fitting w (Some (ViewLooked view floor)) p e f = let same : (let x : OpenView × Floor = (view, floor) in x) ≡ p = cc in subst (λ (x : OpenView × Floor). x.1.own ≤ x.1.need) same (f (ViewLooked view floor) refl)
fitting w (Some (ViewSnapped view floor s)) p e f = let same : (let x : OpenView × Floor = (view, floor) in x) ≡ p = cc in subst (λ (x : OpenView × Floor). x.1.own ≤ x.1.need) same ((f (ViewSnapped view floor s) refl).own)
fitting w (Some (EditArrived edit)) p e f = let no : ⊥ = cc in absurd no
fitting w (Some (EditBegun edit purge)) p e f = let no : ⊥ = cc in absurd no
fitting w (Some (ViewArrived view)) p e f = let no : ⊥ = cc in absurd no

-- Each page that a step of a run answers is as promised to the view that the step names.
pub page-promised : (setting : Setting) (history : List Entry) (faults : ℕ) (at : Readings) (turns : List Turn) (turn : Turn) (w : World) (p : PageAnswer)
    → IsOpened setting history → (run : IsRun (opening setting history faults at) (turn ∷ turns) w) → turn.reply ≡ One (Some (Page p)) → AnswersView (opening setting history faults at) turns run.0 run.1 turn p
page-promised setting history faults at turns turn w p o run is =
    let a = step-page (opening setting history faults at) turns turn w p run is in
    record {
      id = a.id;
      view = a.view;
      floor = a.floor;
      step = a.of;
      is_open = a.is_open;
      given = floors-given setting history faults at turns run.0 a.id a.view a.floor run.1 a.is_open;
      own = fitting run.0 (request_at run.0 a.id) (a.view, a.floor) a.is_open ((opened-run-keeps setting history faults at turns run.0 o run.1).requests a.id);
      promised = a.promised;
    }

-- Each page that a round answers is as promised.
pub job-promised : (v with_all : World) (r : Region) (earlier jobs : List Job) (answers : List Answer) (p : PageAnswer) → AnswersJobs v with_all r earlier jobs answers → IsIn (Page p) answers → AnswersJob v r jobs p
job-promised v with_all r earlier [] [] p is there = absurd there
job-promised v with_all r earlier [] (a ∷ answers) p is there = absurd is
job-promised v with_all r earlier (ReceiptJob purge ∷ jobs) answers p is there =
    let rest = job-promised v with_all r (earlier ++ ReceiptJob purge ∷ []) jobs answers p is there in (rest.0, rest.1, rest.2, inr rest.3, rest.4)
job-promised v with_all r earlier (ViewJob title need word ∷ jobs) [] p is there = absurd is
job-promised v with_all r earlier (ViewJob title need word ∷ jobs) (a ∷ answers) p is (inl same) = (title, need, word, inl refl, by (subst (IsJobAnswer v with_all r title need word) (sym same) is.0))
  where
    by : IsJobAnswer v with_all r title need word (Page p) → IsPromised v r title (floor_for need) p
    by (inl cached) = from-cache v with_all r title (floor_for need) p cached
    by (inr rendered) = from-replica v r title (floor_for need) rendered.0 p rendered.2
job-promised v with_all r earlier (ViewJob title need word ∷ jobs) (a ∷ answers) p is (inr there) =
    let rest = job-promised v with_all r (earlier ++ ViewJob title need word ∷ []) jobs answers p is.2 there in (rest.0, rest.1, rest.2, inr rest.3, rest.4)

-- Each page of a round of a run is as promised.
pub round-promised : (start : World) (turns : List Turn) (turn : Turn) (w : World) (r : Region) (jobs : List Job) (answers : List Answer) (p : PageAnswer)
    → (run : IsRun start (turn ∷ turns) w) → turn.step ≡ Step.Round r jobs → turn.reply ≡ Many (Some answers) → IsIn (Page p) answers
    → AnswersJob (at_readings turn.at run.0) r jobs p
round-promised start turns turn w r jobs answers p run is_round replied there =
    let row : MakesRound r jobs (at_readings turn.at run.0) (Some answers) (with_faults run.0.faults w) =
    subst (λ (reply : Reply). Takes (Step.Round r jobs) (at_readings turn.at run.0) reply (with_faults run.0.faults w)) replied
    (subst (λ (step : Step). Takes step (at_readings turn.at run.0) turn.reply (with_faults run.0.faults w)) is_round run.2.takes) in
    job-promised (at_readings turn.at run.0) (rounded r jobs false answers (at_readings turn.at run.0)) r [] jobs answers p row.1 there

-- The same of the answer that there is no page, of a round's and then of a single step's.

no_page-job : (v with_all : World) (r : Region) (earlier jobs : List Job) (answers : List Answer) (source : ℕ)
    → AnswersJobs v with_all r earlier jobs answers → IsIn (Answer.NoPage source) answers → HasNoPageFor v jobs source
no_page-job v with_all r earlier [] [] source is there = absurd there
no_page-job v with_all r earlier [] (a ∷ answers) source is there = absurd is
no_page-job v with_all r earlier (ReceiptJob purge ∷ jobs) answers source is there =
    let rest = no_page-job v with_all r (earlier ++ ReceiptJob purge ∷ []) jobs answers source is there in
    (rest.0, rest.1, rest.2, inr rest.3, rest.4, rest.5, rest.6)
no_page-job v with_all r earlier (ViewJob title need word ∷ jobs) [] source is there = absurd is
no_page-job v with_all r earlier (ViewJob title need word ∷ jobs) (a ∷ answers) source is (inl same) =
    let job : IsJobAnswer v with_all r title need word (Answer.NoPage source) =
    subst (IsJobAnswer v with_all r title need word) (sym same) is.0 in
    (title, need, word, inl refl, job.2.within, job.2.none, job.2.reaches.need)
no_page-job v with_all r earlier (ViewJob title need word ∷ jobs) (a ∷ answers) source is (inr there) =
    let rest = no_page-job v with_all r (earlier ++ ViewJob title need word ∷ []) jobs answers source is.2 there in
    (rest.0, rest.1, rest.2, inr rest.3, rest.4, rest.5, rest.6)

pub no_page-round : (start : World) (turns : List Turn) (turn : Turn) (w : World) (r : Region) (jobs : List Job) (answers : List Answer) (source : ℕ)
    → (run : IsRun start (turn ∷ turns) w) → turn.step ≡ Step.Round r jobs → turn.reply ≡ Many (Some answers)
    → IsIn (Answer.NoPage source) answers → HasNoPageFor (at_readings turn.at run.0) jobs source
no_page-round start turns turn w r jobs answers source run is_round replied there =
    let v : World = at_readings turn.at run.0 in
    let row : MakesRound r jobs (at_readings turn.at run.0) (Some answers) (with_faults run.0.faults w) =
    subst (λ (reply : Reply). Takes (Step.Round r jobs) (at_readings turn.at run.0) reply (with_faults run.0.faults w)) replied
    (subst (λ (step : Step). Takes step (at_readings turn.at run.0) turn.reply (with_faults run.0.faults w)) is_round run.2.takes) in
    no_page-job v (rounded r jobs false answers v) r [] jobs answers source row.1 there

edit-no_none : (history : List Entry) (edit : Edit) (k : ℕ) → edit_answer history edit ≡ Some (Answer.NoPage k) → ⊥
edit-no_none history edit k e = by (commit_with_token history edit.client edit.token) e
  where
    token : (n : Numbered) (b : Bool) → cond b (Answer.EditSaved (Rattle.wiki_model.specs.Answers.saved n.number n.commit)) (Answer.TokenUsed n.number) ≡ Answer.NoPage k → ⊥
    token n true e = cc
    token n false e = cc

    either : (b : Bool) → cond b (let o : Option Answer = None in o) (Some (Answer.Conflict edit.base (current_revision history edit.title))) ≡ Some (Answer.NoPage k) → ⊥
    either true e = cc
    either false e = cc

    by : (o : Option Numbered) → edit_answer_of history edit o ≡ Some (Answer.NoPage k) → ⊥
    by (Some n) e = token n (is_same_edit edit n.commit.edit) cc
    by None e = either _ e

at-none : {A : Type 0} (o : Option A) (id : ℕ) (v : World) (k : ℕ) (w : World) (P : A → Type 0) (Q : Type 0) → ((a : A) → o ≡ Some a → P a → Q) → AtPoint o id v (Some (Answer.NoPage k)) w P → Q
at-none None id v k w P Q f row = let no : Some (Answer.NoPage k) ≡ Some (Answer.NotOpen id) = row.0 in let none : ⊥ = cc in absurd none
at-none (Some a) id v k w P Q f row = f a refl row

wait-no_none : (id : ℕ) (last : Bool) (view : OpenView) (v : World) (k : ℕ) (w : World) → Waits id last view v (Some (Answer.NoPage k)) w → ⊥
wait-no_none id last view v k w row = by (lag_of v view) row.0
  where
    either : (b : Bool) (lag : Lag) → Some (Answer.NoPage k) ≡ (cond b (let x : Option Answer × World = (Some (lag_answer lag), Rattle.wiki_model.specs.World.without_request id v) in x) (None, v)).0 → ⊥
    either true lag e = cc
    either false lag e = cc

    by : (o : Option Lag) → Some (Answer.NoPage k) ≡ (waited id view last v o).0 → ⊥
    by None e = cc
    by (Some lag) e = either (gives_up v view last) lag e

drop-no_none : (number : ℕ) (v : World) (k : ℕ) (o : Option Message) → Some (Answer.NoPage k) ≡ (dropped number v o).0 → ⊥
drop-no_none number v k None e = cc
drop-no_none number v k (Some m) e = cc

record AnswersNone (v : World) (step : Step) (k : ℕ) : Type 0 where
  pub id : ℕ
  pub view : OpenView
  pub floor : Floor
  pub of : IsOfRequest step id
  pub is_open : IsOpen v id view floor
  pub within : k ≤ length v.history
  pub none : page_text v.history k view.view.title ≡ None
  pub reaches : Reaches floor k

row-none : (step : Step) (v : World) (k : ℕ) (w : World) → Allows step v (Some (Answer.NoPage k)) w → AnswersNone v step k
row-none Step.MakeBeat v k w row = absurd row
row-none (Step.Arrive id asked) v k w row = absurd row
row-none (Step.Begin id) v k w row = at-none (arrived_edit (request_at v id)) id v k w (λ edit. Begins id edit v (Some (Answer.NoPage k)) w) (AnswersNone v (Step.Begin id) k) (λ edit e r. absurd (edit-no_none v.history edit k r.0)) row
row-none (Step.CommitEdit id) v k w row = at-none (begun_edit (request_at v id)) id v k w (λ e. Commits id e v (Some (Answer.NoPage k)) w) (AnswersNone v (Step.CommitEdit id) k) (λ e is r. absurd (by e r)) row
  where
    by : (e : Edit × ℕ) → Commits id e v (Some (Answer.NoPage k)) w → ⊥
    by (edit, purge) (inl r) = edit-no_none v.history edit k r.0
    by (edit, purge) (inr r) = let no = r.1 in cc
row-none (Step.Wait id last) v k w row = at-none (arrived_view (request_at v id)) id v k w (λ view. Waits id last view v (Some (Answer.NoPage k)) w) (AnswersNone v (Step.Wait id last) k) (λ view e r. absurd (wait-no_none id last view v k w r)) row
row-none (Step.Look id) v k w row = at-none (waited_view (request_at v id)) id v k w (λ q. Looks id q v (Some (Answer.NoPage k)) w) (AnswersNone v (Step.Look id) k) (λ q e r. absurd r) row
row-none (Step.Snap id) v k w row = at-none (looked_view (request_at v id)) id v k w (λ q. Snaps id q v (Some (Answer.NoPage k)) w) (AnswersNone v (Step.Snap id) k) (λ q e r. absurd r) row
row-none (Step.Store id) v k w row = at-none (snapped_view (request_at v id)) id v k w (λ q. Stores id q v (Some (Answer.NoPage k)) w) (AnswersNone v (Step.Store id) k)
    (λ q e r. record { id = id; view = q.0; floor = q.1; of = inr refl; is_open = ap floor_in (was-snapped (request_at v id) q e); within = r.0.within; none = r.0.none; reaches = r.0.reaches }) row
row-none (Step.Apply r replica count) v k w row = absurd row.3
row-none (Step.Carry number shown) v k w row = absurd row
row-none (Step.Drop number) v k w row = absurd (drop-no_none number v k (message_at v number) row.0)
row-none (Step.Need id) v k w row = let no = row.0 in let none : ⊥ = cc in absurd none
row-none (Step.SetMarkup markup) v k w row = let no = row.0 in let none : ⊥ = cc in absurd none
row-none (Step.Round r jobs) v k w row = absurd row

step-none : (start : World) (turns : List Turn) (turn : Turn) (w : World) (k : ℕ) (run : IsRun start (turn ∷ turns) w) → turn.reply ≡ One (Some (Answer.NoPage k)) → AnswersNone (at_readings turn.at run.0) turn.step k
step-none start turns turn w k run is = by turn.step turn.reply is run.2.takes
  where
    as-allowed : (step : Step) (answer : Option Answer) → answer ≡ Some (Answer.NoPage k) → Takes step (at_readings turn.at run.0) (One answer) (with_faults run.0.faults w) → Allows step (at_readings turn.at run.0) (Some (Answer.NoPage k)) (with_faults run.0.faults w)
    as-allowed step answer same t = subst (λ a. Allows step (at_readings turn.at run.0) a (with_faults run.0.faults w)) same t

    by : (step : Step) (reply : Reply) → reply ≡ One (Some (Answer.NoPage k)) → Takes step (at_readings turn.at run.0) reply (with_faults run.0.faults w) → AnswersNone (at_readings turn.at run.0) step k
    by (Step.Round r jobs) (Many answers) e t = let no : ⊥ = cc in absurd no
    by step (Many answers) e t = let no : ⊥ = cc in absurd no
    by step (One answer) e t = let same : answer ≡ Some (Answer.NoPage k) = cc in row-none step (at_readings turn.at run.0) k (with_faults run.0.faults w) (as-allowed step answer same t)

pub no_page-promised : (setting : Setting) (history : List Entry) (faults : ℕ) (at : Readings) (turns : List Turn) (turn : Turn) (w : World) (source : ℕ)
    → (run : IsRun (opening setting history faults at) (turn ∷ turns) w) → turn.reply ≡ One (Some (Answer.NoPage source)) → AnswersNoPage (opening setting history faults at) turns run.0 run.1 turn source
no_page-promised setting history faults at turns turn w source run is =
    let a = step-none (opening setting history faults at) turns turn w source run is in
    record {
      id = a.id;
      view = a.view;
      floor = a.floor;
      step = a.of;
      is_open = a.is_open;
      given = floors-given setting history faults at turns run.0 a.id a.view a.floor run.1 a.is_open;
      within = a.within;
      none = a.none;
      reaches = a.reaches;
    }
