-- An open view's floor is the one that a step `wait` of the run gave it, where the view was not behind.
-- By cases on the steps: only `wait` makes a floor, and every other step keeps it or closes the request.
use Rattle.std.proofs.Common.{◌≡◌, ℕ, List, [], ◌∷◌, Bool, true, false, cond, ◌⊎◌, Some, None, Option, refl, sym, ◌∙◌, ap, subst, inl, inr}
use Rattle.std.specs.Ordering.{nat_cmp, eq_by_cmp}
use Rattle.std.specs.FinMap.{get, empty, get-insert, get-remove, get-empty, nat_cmp-IsAntisymmetric}
use Rattle.std.proofs.lemmas.Map.Views.{tells_apart}
use Rattle.std.proofs.lemmas.Cmp.{nat_cmp_total}
use Rattle.wiki_model.specs.declared.Region.{Region}
use Rattle.wiki_model.specs.declared.Readings.{Readings}
use Rattle.wiki_model.specs.History.{Entry, Edit, Beat, Committed}
use Rattle.wiki_model.specs.World.{World, Setting, OpenView, Floor, Snapshot, Request, Requests, Job, Body, Message, Asked, moment, request_at, message_at, with_request, with_applied, without_request, with_entry, hears, at_readings}
use Rattle.wiki_model.specs.World.Asked.{AskedView, AskedEdit}
use Rattle.wiki_model.specs.World.Body.{Purge, Position}
use Rattle.wiki_model.specs.World.Job.{ViewJob, ReceiptJob}
use Rattle.wiki_model.specs.World.Request.{EditArrived, EditBegun, ViewArrived, ViewWaited, ViewLooked, ViewSnapped}
use Rattle.wiki_model.specs.Sessions.{Lag, lag_of, floor_of}
use Rattle.wiki_model.specs.Answers.{Answer, edit_answer}
use Rattle.wiki_model.specs.Steps.{Step, Allows, AtPoint, IsRefused, IsOutOfMemory, Decided, Begins, Commits, Waits, Looks, Snaps, Stores, Applies, Carries, arrived_edit, begun_edit, arrived_view, waited_view, looked_view, snapped_view, request_of, begun, appended, purged_again, next_entry, next_commit, is_late, waited, gives_up, lag_answer, kept, reach, carried, dropped, closed_if}
use Rattle.wiki_model.specs.Rounds.{MakesRound, rounded, received, received_message, received_body}
use Rattle.wiki_model.specs.Runs.{Turn, Reply, One, Many, Takes, IsRun, opening, with_faults}
use Rattle.wiki_model.specs.Promised.{floor_in, IsOpen, Gives, WasGiven}
use Rattle.wiki_model.proofs.StepLaws.{was-waited, was-looked}

was-arrived : (o : Option Request) (view : OpenView) → arrived_view o ≡ Some view → o ≡ Some (ViewArrived view)
was-arrived None view e = let no : ⊥ = cc in absurd no
was-arrived (Some (ViewArrived other)) view e = let same : other ≡ view = cc in ap (λ (q : OpenView). Some (ViewArrived q)) same
was-arrived (Some (EditArrived edit)) view e = let no : ⊥ = cc in absurd no
was-arrived (Some (EditBegun edit purge)) view e = let no : ⊥ = cc in absurd no
was-arrived (Some (ViewWaited other floor)) view e = let no : ⊥ = cc in absurd no
was-arrived (Some (ViewLooked other floor)) view e = let no : ⊥ = cc in absurd no
was-arrived (Some (ViewSnapped other floor s)) view e = let no : ⊥ = cc in absurd no

appended-requests : (edit : Edit) (purge : ℕ) (v : World) → (appended edit purge v).requests ≡ v.requests
appended-requests edit purge v = by (is_late v purge)
  where
    by : (b : Bool) → (cond b (purged_again (next_entry v) edit.title (hears Region.Home (next_entry v) (with_entry (Committed (next_commit v edit purge)) v))) (hears Region.Home (next_entry v) (with_entry (Committed (next_commit v edit purge)) v))).requests ≡ v.requests
    by true = refl
    by false = refl

received-requests : (r : Region) (jobs : List Job) (v : World) → (received r jobs v).requests ≡ v.requests
received-requests r [] v = refl
received-requests r (ViewJob title need word ∷ jobs) v = received-requests r jobs v
received-requests r (ReceiptJob purge ∷ jobs) v = received-requests r jobs (received_message r (message_at v purge) v) ∙ by (message_at v purge)
  where
    body : (b : Body) → (received_body r b v).requests ≡ v.requests
    body (Purge purge title issued) = refl
    body (Position client index entry stamp) = refl

    by : (o : Option Message) → (received_message r o v).requests ≡ v.requests
    by None = refl
    by (Some m) = body m.body

arrived : (v : World) (asked : Asked) (p : OpenView × Floor) → floor_in (Some (request_of v asked)) ≡ Some p → ⊥
arrived v (AskedEdit edit) p e = cc
arrived v (AskedView view) p e = cc

-- the floor was there before, or this step gives it
abbrev GivesNow : Step → World → (id : ℕ) → OpenView × Floor → Type 0
GivesNow step v id p = (last : Bool) × (step ≡ Step.Wait id last) × (request_at v id ≡ Some (ViewArrived p.0)) × (lag_of v p.0 ≡ None) × (p.1 ≡ floor_of v p.0)

module _ (step : Step) where
  abbrev Before : World → World → Type 0
  Before v w = (id : ℕ) (p : OpenView × Floor) → floor_in (request_at w id) ≡ Some p → (floor_in (request_at v id) ≡ Some p) ⊎ GivesNow step v id p

  same-requests : (v w : World) → w.requests ≡ v.requests → Before v w
  same-requests v w e id p h = inl (ap (λ (rs : Requests). floor_in (get rs id)) (sym e) ∙ h)

  is : (v x w : World) → Before v x → w ≡ x → Before v w
  is v x w b e = subst (Before v) (sym e) b

  closing : (k : ℕ) (v u : World) → u.requests ≡ v.requests → Before v (without_request k u)
  closing k v u e id p h = inl (by (eq_by_cmp nat_cmp id k) (ap floor_in (sym (get-remove nat_cmp_total u.requests k id)) ∙ h))
    where
      by : (b : Bool) → floor_in (cond b None (get u.requests id)) ≡ Some p → floor_in (request_at v id) ≡ Some p
      by true h = let no : ⊥ = cc in absurd no
      by false h = ap (λ (rs : Requests). floor_in (get rs id)) (sym e) ∙ h

  opening-request : (k : ℕ) (q : Request) (v u : World) → u.requests ≡ v.requests → ((p : OpenView × Floor) → floor_in (Some q) ≡ Some p → (floor_in (request_at v k) ≡ Some p) ⊎ GivesNow step v k p)
      → Before v (with_request k q u)
  opening-request k q v u e new id p h = by (eq_by_cmp nat_cmp id k) refl (ap floor_in (sym (get-insert nat_cmp_total u.requests k q id)) ∙ h)
    where
      by : (b : Bool) → eq_by_cmp nat_cmp id k ≡ b → floor_in (cond b (Some q) (get u.requests id)) ≡ Some p → (floor_in (request_at v id) ≡ Some p) ⊎ GivesNow step v id p
      by true at h = subst (λ (i : ℕ). (floor_in (request_at v i) ≡ Some p) ⊎ GivesNow step v i p) (sym (tells_apart nat_cmp-IsAntisymmetric id k at)) (new p h)
      by false at h = inl (ap (λ (rs : Requests). floor_in (get rs id)) (sym e) ∙ h)

  same : (v : World) → Before v v
  same v = same-requests v v refl

  refused : (v x w : World) (a : Answer) → Before v x → IsRefused x w a → Before v w
  refused v x w Answer.NoMemory b e = is v x w b e
  refused v x w Answer.StoreFault b e = is v x w b e
  refused v x w _ b e = absurd e

  out_of_memory : (v x w : World) (a : Answer) → Before v x → IsOutOfMemory x w a → Before v w
  out_of_memory v x w Answer.NoMemory b e = is v x w b e
  out_of_memory v x w _ b e = absurd e

  decided : (d : Option Answer) (id : ℕ) (v w : World) (a : Answer) → Decided d id v w a → Before v w
  decided d id v w Answer.StoreFault row = is v (without_request id v) w (closing id v v refl) row
  decided d id v w Answer.NoMemory row = is v (without_request id v) w (closing id v v refl) row
  decided d id v w _ row = is v (without_request id v) w (closing id v v refl) row.1

  at-point : {A : Type 0} (o : Option A) (id : ℕ) (v : World) (answer : Option Answer) (w : World) (P : A → Type 0) → ((a : A) → o ≡ Some a → P a → Before v w) → AtPoint o id v answer w P → Before v w
  at-point None id v answer w P f row = is v v w (same v) row.1
  at-point (Some a) id v answer w P f row = f a refl row

  wait : (id : ℕ) (last : Bool) (view : OpenView) (v : World) (answer : Option Answer) (w : World) → step ≡ Step.Wait id last → request_at v id ≡ Some (ViewArrived view) → Waits id last view v answer w → Before v w
  wait id last view v answer w is_wait there row = by (lag_of v view) refl row.1
    where
      either : (b : Bool) (lag : Lag) → w ≡ (cond b (let x : Option Answer × World = (Some (lag_answer lag), without_request id v) in x) (None, v)).1 → Before v w
      either true lag e = is v (without_request id v) w (closing id v v refl) e
      either false lag e = is v v w (same v) e

      by : (o : Option Lag) → lag_of v view ≡ o → w ≡ (waited id view last v o).1 → Before v w
      by None free e = is v (with_request id (ViewWaited view (floor_of v view)) v) w
          (opening-request id (ViewWaited view (floor_of v view)) v v refl (λ p h. let one : (let x : OpenView × Floor = (view, floor_of v view) in x) ≡ p = given p h in inr (last, is_wait, there ∙ ap (λ (x : OpenView × Floor). Some (ViewArrived x.0)) one, ap (λ (x : OpenView × Floor). lag_of v x.0) (sym one) ∙ free, sym (ap (λ (x : OpenView × Floor). x.1) one) ∙ ap (λ (x : OpenView × Floor). floor_of v x.0) one))) e
        where
          given : (p : OpenView × Floor) → (let o : Option (OpenView × Floor) = Some (view, floor_of v view) in o) ≡ Some p → (let x : OpenView × Floor = (view, floor_of v view) in x) ≡ p
          given p h = cc
      by (Some lag) free e = either (gives_up v view last) lag e

  row-before : (s : Step) → step ≡ s → (v : World) (answer : Option Answer) (w : World) → Allows s v answer w → Before v w
  row-before Step.MakeBeat it v None w row = is v (with_entry (Beat (moment Region.Home v)) v) w (same-requests v (with_entry (Beat (moment Region.Home v)) v) refl) row
  row-before Step.MakeBeat it v (Some a) w row = refused v v w a (same v) row
  row-before (Step.Arrive id asked) it v None w row = is v (with_request id (request_of v asked) v) w (opening-request id (request_of v asked) v v refl (λ p e. absurd (arrived v asked p e))) row
  row-before (Step.Arrive id asked) it v (Some a) w row = out_of_memory v v w a (same v) row
  row-before (Step.Begin id) it v answer w row = at-point (arrived_edit (request_at v id)) id v answer w (λ edit. Begins id edit v answer w) (λ edit e r. by answer edit r) row
    where
      by : (answer : Option Answer) (edit : Edit) → Begins id edit v answer w → Before v w
      by None edit r = is v (begun id edit v) w (opening-request id (EditBegun edit (Rattle.wiki_model.specs.Steps.next_message v)) v (Rattle.wiki_model.specs.Steps.purged edit.title v) refl (λ p e. let no : ⊥ = cc in absurd no)) r.1
      by (Some a) edit r = decided (edit_answer v.history edit) id v w a r
  row-before (Step.CommitEdit id) it v answer w row = at-point (begun_edit (request_at v id)) id v answer w (λ e. Commits id e v answer w) (λ e is r. by answer e r) row
    where
      by : (answer : Option Answer) (e : Edit × ℕ) → Commits id e v answer w → Before v w
      by None (edit, purge) r = absurd r
      by (Some a) (edit, purge) (inl r) = decided (edit_answer v.history edit) id v w a r
      by (Some a) (edit, purge) (inr r) = is v (without_request id (appended edit purge v)) w (closing id v (appended edit purge v) (appended-requests edit purge v)) r.2
  row-before (Step.Wait id last) it v answer w row = at-point (arrived_view (request_at v id)) id v answer w (λ view. Waits id last view v answer w) (λ view e r. wait id last view v answer w it (was-arrived (request_at v id) view e) r) row
  row-before (Step.Look id) it v answer w row = at-point (waited_view (request_at v id)) id v answer w (λ q. Looks id q v answer w) (λ q e r. by answer q (was-waited (request_at v id) q e) r) row
    where
      by : (answer : Option Answer) (q : OpenView × Floor) → request_at v id ≡ Some (ViewWaited q.0 q.1) → Looks id q v answer w → Before v w
      by (Some (Answer.Page p)) (view, floor) e r = is v (without_request id v) w (closing id v v refl) r.2
      by (Some (Answer.Miss cause)) (view, floor) e r = is v (with_request id (ViewLooked view floor) v) w (opening-request id (ViewLooked view floor) v v refl (λ p h. inl (ap floor_in e ∙ h))) r.2
      by (Some Answer.NoMemory) (view, floor) e r = is v (without_request id v) w (closing id v v refl) r
      by (Some _) (view, floor) e r = absurd r
      by None (view, floor) e r = absurd r
  row-before (Step.Snap id) it v answer w row = at-point (looked_view (request_at v id)) id v answer w (λ q. Snaps id q v answer w) (λ q e r. by answer q (was-looked (request_at v id) q e) r) row
    where
      by : (answer : Option Answer) (q : OpenView × Floor) → request_at v id ≡ Some (ViewLooked q.0 q.1) → Snaps id q v answer w → Before v w
      by None (view, floor) e r = is v (with_request id (ViewSnapped view floor r.0) v) w (opening-request id (ViewSnapped view floor r.0) v v refl (λ p h. inl (ap floor_in e ∙ h))) r.2
      by (Some a) (view, floor) e r = out_of_memory v (without_request id v) w a (closing id v v refl) r
  row-before (Step.Store id) it v answer w row = at-point (snapped_view (request_at v id)) id v answer w (λ q. Stores id q v answer w) (λ q e r. by answer q r) row
    where
      by : (answer : Option Answer) (q : OpenView × Floor × Snapshot) → Stores id q v answer w → Before v w
      by (Some (Answer.Page p)) (view, floor, s) r = is v (without_request id (kept v view.region p r.1)) w (closing id v (kept v view.region p r.1) refl) r.4
      by (Some (Answer.NoPage source)) (view, floor, s) r = is v (without_request id v) w (closing id v v refl) r.1
      by (Some Answer.NoMemory) (view, floor, s) r = is v (without_request id v) w (closing id v v refl) r
      by (Some _) (view, floor, s) r = absurd r
      by None (view, floor, s) r = absurd r
  row-before (Step.Apply r replica count) it v None w row = is v (with_applied r replica (reach v r replica count) v) w (same-requests v (with_applied r replica (reach v r replica count) v) refl) row
  row-before (Step.Apply r replica count) it v (Some a) w row = refused v (with_applied r replica row.0 v) w a (same-requests v (with_applied r replica row.0 v) refl) row.3
  row-before (Step.Carry number shown) it v None w row = is v (carried row.0.body v) w (same-requests v (carried row.0.body v) (by row.0.body)) row.3
    where
      by : (b : Body) → (carried b v).requests ≡ v.requests
      by (Purge purge title issued) = refl
      by (Position client index entry stamp) = refl
  row-before (Step.Carry number shown) it v (Some (Answer.Gone m)) w row = is v v w (same v) row.2
  row-before (Step.Carry number shown) it v (Some (Answer.Unknown m)) w row = is v v w (same v) row.2
  row-before (Step.Carry number shown) it v (Some Answer.NoMemory) w row = is v v w (same v) row.1
  row-before (Step.Carry number shown) it v (Some _) w row = absurd row
  row-before (Step.Drop number) it v answer w row = is v ((dropped number v (message_at v number)).1) w (same-requests v ((dropped number v (message_at v number)).1) (by (message_at v number))) row.1
    where
      by : (o : Option Message) → ((dropped number v o).1).requests ≡ v.requests
      by None = refl
      by (Some m) = refl
  row-before (Step.Need id) it v answer w row = is v (closed_if id v (waited_view (request_at v id))) w (by (waited_view (request_at v id))) row.1
    where
      by : (o : Option (OpenView × Floor)) → Before v (closed_if id v o)
      by None = same v
      by (Some p) = closing id v v refl
  row-before (Step.SetMarkup markup) it v answer w row = is v (record v { markup = markup }) w (same-requests v (record v { markup = markup }) refl) row.1
  row-before (Step.Round r jobs) it v answer w row = absurd row

  round-before : (r : Region) (jobs : List Job) (v : World) (answers : Option (List Answer)) (w : World) → MakesRound r jobs v answers w → Before v w
  round-before r jobs v (Some answers) w row = is v (rounded r jobs false answers v) w (same-requests v (rounded r jobs false answers v) (received-requests r jobs v)) row.2
  round-before r jobs v None w row = is v (rounded r jobs true [] v) w (same-requests v (rounded r jobs true [] v) (received-requests r jobs v)) row.1

  takes-before : (s : Step) → step ≡ s → (v : World) (reply : Reply) (w : World) → Takes s v reply w → Before v w
  takes-before (Step.Round r jobs) it v (Many answers) w t = round-before r jobs v answers w t
  takes-before s it v (One answer) w t = row-before s it v answer w t
  takes-before s it v (Many answers) w t = absurd t

floor-given : (start : World) (turns : List Turn) (w : World) → start.requests ≡ empty → (run : IsRun start turns w) → (id : ℕ) (p : OpenView × Floor) → floor_in (request_at w id) ≡ Some p → WasGiven start turns w run id p.0 p.1
floor-given start [] w none run id p h =
    let first : floor_in (get start.requests id) ≡ Some p = ap (λ (x : World). floor_in (request_at x id)) run.0 ∙ h in
    let no : None ≡ Some p = sym (ap floor_in (ap (λ (rs : Requests). get rs id) none ∙ get-empty nat_cmp id)) ∙ first in
    let false_ : ⊥ = cc in absurd false_
floor-given start (turn ∷ earlier) w none run id p h =
    by (takes-before turn.step turn.step refl (at_readings turn.at run.0) turn.reply (with_faults run.0.faults w) run.2.takes id p h) (λ e. floor-given start earlier run.0 none run.1 id p e)
  where
    by : (floor_in (request_at (at_readings turn.at run.0) id) ≡ Some p) ⊎ GivesNow turn.step (at_readings turn.at run.0) id p
        → (floor_in (request_at run.0 id) ≡ Some p → WasGiven start earlier run.0 run.1 id p.0 p.1) → Gives run.0 turn id p.0 p.1 ⊎ (IsOpen run.0 id p.0 p.1 × WasGiven start earlier run.0 run.1 id p.0 p.1)
    by (inl x) rec = inr (x, rec x)
    by (inr x) rec = inl (record { last = x.0; step = x.1; arrived = x.2; not_behind = x.3; floor_is = x.4 })

-- In a run from an opening, the floor of each open view is the one that its own step wait gave it, where it was not behind.
pub floors-given : (setting : Setting) (history : List Entry) (faults : ℕ) (at : Readings) (turns : List Turn) (w : World) (id : ℕ) (view : OpenView) (floor : Floor)
    → (run : IsRun (opening setting history faults at) turns w) → IsOpen w id view floor → WasGiven (opening setting history faults at) turns w run id view floor
floors-given setting history faults at turns w id view floor run e = floor-given (opening setting history faults at) turns w refl run id (view, floor) e
