-- A whole view gets its page, or is told by how much it is behind, and a whole edit that the history does not decide is saved.
-- Between the steps of one request nothing changes but the open request and what begin sends, and a second reading of the same clocks moves no moment.
use Rattle.std.proofs.Common.{◌≡◌, ◌≤◌, ℕ, max, ◌+◌, Bool, true, false, if◌then◌else◌, List, [], ◌∷◌, ◌++◌, length, Some, None, Option, refl, sym, ◌∙◌, ap, subst, inl, inr, arith}
use Rattle.wiki_model.specs.declared.Region.{Region}
use Rattle.wiki_model.specs.declared.Readings.{Readings}
use Rattle.wiki_model.specs.History.{Entry, Edit, Commit, Committed, commit_for, page_text}
use Rattle.wiki_model.specs.World.{World, Site, View, OpenView, Floor, Snapshot, Request, Asked, moment, cut, site_at, request_at, at_readings, with_request, with_message, with_entry, hears}
use Rattle.wiki_model.specs.World.Asked.{AskedView, AskedEdit}
use Rattle.wiki_model.specs.World.Request.{EditArrived, EditBegun, ViewArrived, ViewWaited, ViewLooked, ViewSnapped}
use Rattle.wiki_model.specs.Sessions.{Lag, lag_of, floor_of}
use Rattle.wiki_model.specs.Answers.{Answer, IsOfPrefix, edit_answer, saved}
use Rattle.wiki_model.specs.Answers.Answer.{Page, EditSaved, NoPage, Conflict, TokenUsed, Lagging, Miss, StoreFault, NoMemory}
use Rattle.wiki_model.specs.Steps.{Step, Rose, AtPoint, arrived_edit, begun_edit, arrived_view, waited_view, looked_view, snapped_view, request_of, region_of, begun, purged, purged_again, next_message, next_entry, next_commit, position_of, appended, is_late, Decided, Begins, Commits, waited, lag_answer, Looks, Snaps, Stores}
use Rattle.wiki_model.specs.Runs.{Turn, Reply, Takes, with_faults}
use Rattle.wiki_model.specs.Runs.Reply.{One, Many}
use Rattle.wiki_model.specs.Sequences.{ends, GoesOn, Makes, is_miss}
use Rattle.wiki_model.specs.Serving.{GoesBy}
use Rattle.wiki_model.specs.Answered.{LastAnswers, GetsPage, IsSaved, opened_in, ViewsGetTheirPage, UndecidedEditsAreSaved}
use Rattle.wiki_model.proofs.AnsweredLaws.{Ends, EndsOr, OnFault, chained, last-ended, last-later, over, not_over, ends-with, asks, taken, on-fault, counts-on}

-- A second reading of the same clocks

site-again : (reading : ℕ) (s : Site) → site_at reading (site_at reading s) ≡ site_at reading s
site-again reading s = ap (λ (m : ℕ). let x : Site = record s { moment = m } in x) (again s.moment (cut reading))
  where
    again : (a b : ℕ) → max (max a b) b ≡ max a b
    again a b = omega arith

readings-again : (at : Readings) (v : World) → at_readings at (at_readings at v) ≡ at_readings at v
readings-again at v =
    ap (λ (s : Site). let x : World = record v { home = s; west = site_at at.west (site_at at.west v.west) } in x) (site-again at.home v.home)
    ∙ ap (λ (s : Site). let x : World = record v { home = site_at at.home v.home; west = s } in x) (site-again at.west v.west)

-- What the steps of a view leave: history and markup

record Alike (v w : World) : Type 0 where
  pub history : w.history ≡ v.history
  pub markup : w.markup ≡ v.markup

page-alike : (v w : World) (view : View) (answer : Answer) → Alike v w → (p : Rattle.wiki_model.specs.Answers.PageAnswer) → IsOfPrefix w view.title p → IsOfPrefix v view.title p
page-alike v w view answer a p is = record {
  title_asked = is.title_asked;
  within = subst (λ (h : List Entry). p.source ≤ length h) a.history is.within;
  page = subst (λ (h : List Entry). Rattle.wiki_model.specs.Html.html h p.source view.title v.markup ≡ Some p.page) a.history
      (subst (λ (m : ℕ). Rattle.wiki_model.specs.Html.html w.history p.source view.title m ≡ Some p.page) a.markup is.page);
}

alike-asked : (id : ℕ) (q : Request) (v w u : World) → Alike v w → u ≡ with_request id q w → Alike v u
alike-asked id q v w u a e = record { history = ap (λ (x : World). x.history) e ∙ a.history; markup = ap (λ (x : World). x.markup) e ∙ a.markup }

module _ (v : World) (view : View) where
  -- a reply that goes on leaves the request so, in a world alike
  abbrev Next : World → Request → Type 0
  Next u q = (request_at u 0 ≡ Some q) × Alike v u

  look-gets : (seen : OpenView) (floor : Floor) (x u : World) (reply : Reply) → seen.view ≡ view → Alike v x → request_at x 0 ≡ Some (ViewWaited seen floor) → Takes (Step.Look 0) x reply u
      → EndsOr (GetsPage v view) reply (Next u (ViewLooked seen floor))
  look-gets seen floor x u (Many a) same alike at takes = absurd takes
  look-gets seen floor x u (One a) same alike at takes = by a (subst (λ (o : Option Request). AtPoint (waited_view o) 0 x a u (λ q. Looks 0 q x a u)) at takes)
    where
      by : (answer : Option Answer) → Looks 0 (seen, floor) x answer u → EndsOr (GetsPage v view) (One answer) (Next u (ViewLooked seen floor))
      by (Some (Page p)) (sound, forced, world) = inl (Page p, refl, refl, page-alike v x view (Page p) alike p (subst (λ (y : View). IsOfPrefix x y.title p) same sound.prefix))
      by (Some (Miss cause)) (is, forced, world) = inr (refl, (asks x u (ViewLooked seen floor) world, alike-asked 0 (ViewLooked seen floor) v x u alike world))
      by (Some NoMemory) world = inl (NoMemory, refl, refl, tt)
      by None row = absurd row
      by (Some _) row = absurd row

  snap-gets : (seen : OpenView) (floor : Floor) (x u : World) (reply : Reply) → Alike v x → request_at x 0 ≡ Some (ViewLooked seen floor) → Takes (Step.Snap 0) x reply u
      → EndsOr (GetsPage v view) reply ((snapshot : Snapshot) × Next u (ViewSnapped seen floor snapshot))
  snap-gets seen floor x u (Many a) alike at takes = absurd takes
  snap-gets seen floor x u (One a) alike at takes = by a (subst (λ (o : Option Request). AtPoint (looked_view o) 0 x a u (λ q. Snaps 0 q x a u)) at takes)
    where
      by : (answer : Option Answer) → Snaps 0 (seen, floor) x answer u → EndsOr (GetsPage v view) (One answer) ((snapshot : Snapshot) × Next u (ViewSnapped seen floor snapshot))
      by None (snapshot, is, world) = inr (refl, (snapshot, (asks x u (ViewSnapped seen floor snapshot) world, alike-asked 0 (ViewSnapped seen floor snapshot) v x u alike world)))
      by (Some NoMemory) row = inl (NoMemory, refl, refl, tt)
      by (Some _) row = absurd row

  store-gets : (seen : OpenView) (floor : Floor) (snapshot : Snapshot) (x u : World) (reply : Reply) → seen.view ≡ view → Alike v x → request_at x 0 ≡ Some (ViewSnapped seen floor snapshot) → Takes (Step.Store 0) x reply u
      → Ends (GetsPage v view) reply
  store-gets seen floor snapshot x u (Many a) same alike at takes = absurd takes
  store-gets seen floor snapshot x u (One a) same alike at takes = by a (subst (λ (o : Option Request). AtPoint (snapped_view o) 0 x a u (λ q. Stores 0 q x a u)) at takes)
    where
      by : (answer : Option Answer) → Stores 0 (seen, floor, snapshot) x answer u → Ends (GetsPage v view) (One answer)
      by (Some (Page p)) row = (Page p, refl, refl, page-alike v x view (Page p) alike p (subst (λ (y : View). IsOfPrefix x y.title p) same row.0.prefix))
      by (Some (NoPage source)) row = (
        NoPage source,
        refl,
        refl,
        subst (λ (h : List Entry). (source ≤ length h) × (page_text h source view.title ≡ None)) alike.history
            (row.0.within, subst (λ (y : View). page_text x.history source y.title ≡ None) same row.0.none),
      )
      by (Some NoMemory) row = (NoMemory, refl, refl, tt)
      by None row = absurd row
      by (Some _) row = absurd row

  wait-gets : (seen : OpenView) (x u : World) (reply : Reply) → Alike v x → lag_of x seen ≡ lag_of v (opened_in v view) → request_at x 0 ≡ Some (ViewArrived seen) → Takes (Step.Wait 0 true) x reply u
      → EndsOr (GetsPage v view) reply ((floor : Floor) × Next u (ViewWaited seen floor))
  wait-gets seen x u (Many a) alike lags at takes = absurd takes
  wait-gets seen x u (One a) alike lags at takes = by (lag_of x seen) refl (subst (λ (o : Option Request). AtPoint (arrived_view o) 0 x a u (λ y. Rattle.wiki_model.specs.Steps.Waits 0 true y x a u)) at takes)
    where
      by : (lag : Option Lag) → lag_of x seen ≡ lag → (a ≡ (waited 0 seen true x lag).0) × (u ≡ (waited 0 seen true x lag).1) → EndsOr (GetsPage v view) (One a) ((floor : Floor) × Next u (ViewWaited seen floor))
      by None e (is, world) = inr (ap (λ (y : Option Answer). ends (One y)) is, (floor_of x seen, (asks x u (ViewWaited seen (floor_of x seen)) world, alike-asked 0 (ViewWaited seen (floor_of x seen)) v x u alike world)))
      by (Some lag) e (is, world) = inl (lag_answer lag, ap (λ (y : Option Answer). One y) is, refl, sym lags ∙ e)

-- The world at a step of the sequence, once the readings are read again

alike-turn : (v u : World) (at : Readings) → Alike v u → Alike v (at_readings at u)
alike-turn v u at a = record { history = a.history; markup = a.markup }

alike-faults : (n : ℕ) (v u : World) → Alike v (with_faults n u) → Alike v u
alike-faults n v u a = record { history = a.history; markup = a.markup }

module _ (at : Readings) (v : World) (view : View) (seen : OpenView) (same : seen.view ≡ view) where
  stored-gets : (floor : Floor) (snapshot : Snapshot) (turns : List Turn) (u w : World) → Next v view u (ViewSnapped seen floor snapshot) → Makes at (Step.Store 0 ∷ []) turns → GoesBy u turns w → LastAnswers (GetsPage v view) turns
  stored-gets floor snapshot [] u w next makes goes = absurd makes
  stored-gets floor snapshot (turn ∷ more) u w (asked, alike) (read, step, on) (x, leads, others) =
      let end = store-gets v view seen floor snapshot (at_readings turn.at u) (with_faults u.faults x) turn.reply same (alike-turn v u turn.at alike) asked (taken u x turn (Step.Store 0) step leads) in
      last-ended (GetsPage v view) turn more (over (ends turn.reply) more (Makes at [] more) (ends-with (GetsPage v view) turn.reply end) on) end

  snapped-gets : (floor : Floor) (turns : List Turn) (u w : World) → Next v view u (ViewLooked seen floor) → Makes at (Step.Snap 0 ∷ Step.Store 0 ∷ []) turns → GoesBy u turns w → LastAnswers (GetsPage v view) turns
  snapped-gets floor [] u w next makes goes = absurd makes
  snapped-gets floor (turn ∷ more) u w (asked, alike) (read, step, on) (x, leads, others) =
      chained (GetsPage v view) at turn more (Step.Store 0 ∷ []) ((snapshot : Snapshot) × Next v view (with_faults u.faults x) (ViewSnapped seen floor snapshot))
      (snap-gets v view seen floor (at_readings turn.at u) (with_faults u.faults x) turn.reply (alike-turn v u turn.at alike) asked (taken u x turn (Step.Snap 0) step leads)) on
      (λ next makes. stored-gets floor next.0 more x w (next.1.0, alike-faults u.faults v x next.1.1) makes others)

  looked-gets : (floor : Floor) (turns : List Turn) (u w : World) → Next v view u (ViewWaited seen floor) → Makes at (Step.Look 0 ∷ Step.Snap 0 ∷ Step.Store 0 ∷ []) turns → GoesBy u turns w → LastAnswers (GetsPage v view) turns
  looked-gets floor [] u w next makes goes = absurd makes
  looked-gets floor (turn ∷ more) u w (asked, alike) (read, step, on) (x, leads, others) =
      chained (GetsPage v view) at turn more (Step.Snap 0 ∷ Step.Store 0 ∷ []) (Next v view (with_faults u.faults x) (ViewLooked seen floor))
      (look-gets v view seen floor (at_readings turn.at u) (with_faults u.faults x) turn.reply same (alike-turn v u turn.at alike) asked (taken u x turn (Step.Look 0) step leads)) on
      (λ next makes. snapped-gets floor more x w (next.0, alike-faults u.faults v x next.1) makes others)

  waited-gets : (turns : List Turn) (u w : World) → Next v view u (ViewArrived seen) → lag_of (at_readings at u) seen ≡ lag_of v (opened_in v view) → Makes at (Step.Wait 0 true ∷ Step.Look 0 ∷ Step.Snap 0 ∷ Step.Store 0 ∷ []) turns → GoesBy u turns w → LastAnswers (GetsPage v view) turns
  waited-gets [] u w next lags makes goes = absurd makes
  waited-gets (turn ∷ more) u w (asked, alike) lags (read, step, on) (x, leads, others) =
      chained (GetsPage v view) at turn more (Step.Look 0 ∷ Step.Snap 0 ∷ Step.Store 0 ∷ []) ((floor : Floor) × Next v view (with_faults u.faults x) (ViewWaited seen floor))
      (wait-gets v view seen (at_readings turn.at u) (with_faults u.faults x) turn.reply (alike-turn v u turn.at alike) (ap (λ (r : Readings). lag_of (at_readings r u) seen) read ∙ lags) asked (taken u x turn (Step.Wait 0 true) step leads)) on
      (λ next makes. looked-gets next.0 more x w (next.1.0, alike-faults u.faults v x next.1.1) makes others)

-- the lag is the same once the view has arrived
lag-asked : (id n : ℕ) (q : Request) (v : World) (seen : OpenView) → lag_of (with_faults n (with_request id q v)) seen ≡ lag_of v seen
lag-asked id n q v seen = by seen.region
  where
    by : (r : Region) → lag_of (with_faults n (with_request id q v)) (record { view = seen.view; region = r; arrived = seen.arrived }) ≡ lag_of v (record { view = seen.view; region = r; arrived = seen.arrived })
    by Region.Home = refl
    by Region.West = refl

lag-again : (at : Readings) (n : ℕ) (q : Request) (v u : World) (seen : OpenView) → with_faults n u ≡ with_request 0 q (at_readings at v) → lag_of (at_readings at u) seen ≡ lag_of (at_readings at v) seen
lag-again at n q v u seen e =
    let world : u ≡ with_faults u.faults (with_request 0 q (at_readings at v)) = ap (with_faults u.faults) e in
    let first : lag_of (at_readings at u) seen ≡ lag_of (with_faults u.faults (with_request 0 q (at_readings at (at_readings at v)))) seen = ap (λ (x : World). lag_of (at_readings at x) seen) world in
    first ∙ lag-asked 0 u.faults q (at_readings at (at_readings at v)) seen ∙ ap (λ (x : World). lag_of x seen) (readings-again at v)

arrive-gets : (Is : Answer → Type 0) (asked : Asked) (v u : World) (reply : Reply) → ((u ≡ v) → Is NoMemory) → Takes (Step.Arrive 0 asked) v reply u
    → EndsOr Is reply (u ≡ with_request 0 (request_of v asked) v)
arrive-gets Is asked v u (Many a) memory takes = absurd takes
arrive-gets Is asked v u (One None) memory takes = inr (refl, takes)
arrive-gets Is asked v u (One (Some NoMemory)) memory takes = inl (NoMemory, refl, refl, memory takes)
arrive-gets Is asked v u (One (Some _)) memory takes = absurd takes

pub views-get_page : ViewsGetTheirPage
views-get_page at view [] v w makes goes = absurd makes
views-get_page at view (turn ∷ more) v w (read, step, on) (u, leads, others) =
    chained (GetsPage start view) at turn more (Step.Wait 0 true ∷ Step.Look 0 ∷ Step.Snap 0 ∷ Step.Store 0 ∷ []) (with_faults v.faults u ≡ with_request 0 (ViewArrived (opened_in start view)) start)
    (arrive-gets (GetsPage start view) (AskedView view) start (with_faults v.faults u) turn.reply (λ e. tt)
    (subst (λ (r : Readings). Takes (Step.Arrive 0 (AskedView view)) (at_readings r v) turn.reply (with_faults v.faults u)) read (taken v u turn (Step.Arrive 0 (AskedView view)) step leads))) on
    (λ next makes. waited-gets at start view (opened_in start view) refl more u w
    (asks start (with_faults v.faults u) (ViewArrived (opened_in start view)) next, alike-faults v.faults start u (alike-asked 0 (ViewArrived (opened_in start view)) start start (with_faults v.faults u) (record { history = refl; markup = refl }) next))
    (lag-again at v.faults (ViewArrived (opened_in start view)) v u (opened_in start view) next) makes others)
  where
    start : World
    start = at_readings at v

-- Edits

appended-history : (edit : Edit) (purge : ℕ) (v : World) → (appended edit purge v).history ≡ v.history ++ Committed (next_commit v edit purge) ∷ []
appended-history edit purge v = by (is_late v purge)
  where
    added : World
    added = hears Region.Home (next_entry v) (with_entry (Committed (next_commit v edit purge)) v)

    told : World → World
    told u = with_message (position_of (next_entry v) (next_commit v edit purge)) u

    by : (late : Bool) → (told (if late then purged_again (next_entry v) edit.title added else added)).history ≡ v.history ++ Committed (next_commit v edit purge) ∷ []
    by true = refl
    by false = refl

module _ (v : World) (edit : Edit) where
  not_miss : (u : World) (answer : Answer) → IsSaved v u edit answer → is_miss answer ≡ false
  not_miss u (Miss cause) p = absurd p
  not_miss u _ p = refl

  decided-saved : (x u : World) (n : ℕ) (answer : Answer) → x.history ≡ v.history → edit_answer x.history edit ≡ None → (answer ≡ StoreFault → Rose v.faults u.faults)
      → Decided (edit_answer x.history edit) 0 x (with_faults n u) answer → IsSaved v u edit answer
  decided-saved x u n StoreFault history free fault is = (fault refl, ap (λ (y : World). y.history) is ∙ history)
  decided-saved x u n NoMemory history free fault is = ap (λ (y : World). y.history) is ∙ history
  decided-saved x u n _ history free fault is = let no = is.0 in let none : ⊥ = cc in absurd none

  next-same : (x : World) (purge : ℕ) → x.history ≡ v.history → moment Region.Home x ≡ moment Region.Home v → purge ≡ next_message v → next_commit x edit purge ≡ next_commit v edit (next_message v)
  next-same x purge history now same =
      ap (λ (h : List Entry). commit_for h edit (moment Region.Home x) purge) history
      ∙ ap (λ (m : ℕ). commit_for v.history edit m purge) now
      ∙ ap (λ (p : ℕ). commit_for v.history edit (moment Region.Home v) p) same

  begin-saved : (x u : World) (n : ℕ) (reply : Reply) → x.history ≡ v.history → edit_answer x.history edit ≡ None → (OnFault v.faults u.faults reply)
      → request_at x 0 ≡ Some (EditArrived edit) → Takes (Step.Begin 0) x reply (with_faults n u)
      → EndsOr (IsSaved v u edit) reply (with_faults n u ≡ begun 0 edit x)
  begin-saved x u n (Many a) history free fault at takes = absurd takes
  begin-saved x u n (One a) history free fault at takes = by a fault (subst (λ (o : Option Request). AtPoint (arrived_edit o) 0 x a (with_faults n u) (λ e. Begins 0 e x a (with_faults n u))) at takes)
    where
      by : (answer : Option Answer) → OnFault v.faults u.faults (One answer) → Begins 0 edit x answer (with_faults n u) → EndsOr (IsSaved v u edit) (One answer) (with_faults n u ≡ begun 0 edit x)
      by None f (undecided, world) = inr (refl, world)
      by (Some answer) f row = let kind = decided-saved x u n answer history free (f answer refl) row in inl (answer, refl, not_miss u answer kind, kind)

  commit-saved : (purge : ℕ) (x u : World) (n : ℕ) (reply : Reply) → x.history ≡ v.history → edit_answer x.history edit ≡ None → moment Region.Home x ≡ moment Region.Home v → purge ≡ next_message v
      → OnFault v.faults u.faults reply → request_at x 0 ≡ Some (EditBegun edit purge) → Takes (Step.CommitEdit 0) x reply (with_faults n u) → Ends (IsSaved v u edit) reply
  commit-saved purge x u n (Many a) history free now same fault at takes = absurd takes
  commit-saved purge x u n (One a) history free now same fault at takes = by a fault (subst (λ (o : Option Request). AtPoint (begun_edit o) 0 x a (with_faults n u) (λ e. Commits 0 e x a (with_faults n u))) at takes)
    where
      by : (answer : Option Answer) → OnFault v.faults u.faults (One answer) → Commits 0 (edit, purge) x answer (with_faults n u) → Ends (IsSaved v u edit) (One answer)
      by None f row = absurd row
      by (Some answer) f (inl row) = let kind = decided-saved x u n answer history free (f answer refl) row in (answer, refl, not_miss u answer kind, kind)
      by (Some answer) f (inr (undecided, is, world)) =
          let commit = next-same x purge history now same in
          let number : next_entry x ≡ next_entry v = ap (λ (h : List Entry). length h + 1) history in
          let s_is : saved (next_entry x) (next_commit x edit purge) ≡ saved (next_entry v) (next_commit v edit (next_message v)) =
          ap (λ (k : ℕ). saved k (next_commit x edit purge)) number ∙ ap (λ (c : Commit). saved (next_entry v) c) commit in
          let grown : u.history ≡ v.history ++ Committed (next_commit v edit (next_message v)) ∷ [] =
          ap (λ (y : World). y.history) world ∙ appended-history edit purge x
          ∙ ap (λ (h : List Entry). h ++ Committed (next_commit x edit purge) ∷ []) history
          ∙ ap (λ (c : Commit). v.history ++ Committed c ∷ []) commit in
          let kind : IsSaved v u edit answer = subst (IsSaved v u edit) (sym is) (s_is, grown) in
          (answer, refl, not_miss u answer kind, kind)

  saved-ended : (turn : Turn) (more : List Turn) (u w : World) → more ≡ [] → Ends (IsSaved v u edit) turn.reply → GoesBy u more w → LastAnswers (IsSaved v w edit) (turn ∷ more)
  saved-ended turn more u w none end goes =
      let same : w ≡ u = subst (λ (l : List Turn). GoesBy u l w) none goes in
      subst (λ (x : World). LastAnswers (IsSaved v x edit) (turn ∷ more)) (sym same) (last-ended (IsSaved v u edit) turn more none end)

  saved-chained : (at : Readings) (turn : Turn) (more : List Turn) (steps : List Step) (Next : Type 0) (u w : World) → EndsOr (IsSaved v u edit) turn.reply Next → GoesOn (ends turn.reply) more (Makes at steps more) → GoesBy u more w
      → (ends turn.reply ≡ false → Next → Makes at steps more → LastAnswers (IsSaved v w edit) more) → LastAnswers (IsSaved v w edit) (turn ∷ more)
  saved-chained at turn more steps Next u w (inl end) goes others later =
      saved-ended turn more u w (over (ends turn.reply) more (Makes at steps more) (ends-with (IsSaved v u edit) turn.reply end) goes) end others
  saved-chained at turn more steps Next u w (inr (on, next)) goes others later =
      last-later (IsSaved v w edit) turn more (later on next (not_over (ends turn.reply) more (Makes at steps more) on goes))

  since : (a b c : ℕ) (reply : Reply) → a ≤ b → OnFault b c reply → OnFault a c reply
  since a b c reply le fault answer is e = let rose : Rose b c = fault answer is e in omega (arith, le, rose)

  commits-saved : (at : Readings) (purge : ℕ) (turns : List Turn) (u w : World) → request_at u 0 ≡ Some (EditBegun edit purge) → purge ≡ next_message v
      → u.history ≡ v.history → moment Region.Home (at_readings at u) ≡ moment Region.Home v → v.faults ≤ u.faults → edit_answer v.history edit ≡ None
      → Makes at (Step.CommitEdit 0 ∷ []) turns → GoesBy u turns w → LastAnswers (IsSaved v w edit) turns
  commits-saved at purge [] u w asked same history now faults free makes goes = absurd makes
  commits-saved at purge (turn ∷ more) u w asked same history now faults free (read, step, on) (x, leads, others) =
      let end = commit-saved purge (at_readings turn.at u) x u.faults turn.reply history (ap (λ (h : List Entry). edit_answer h edit) history ∙ free)
      (ap (λ (r : Readings). moment Region.Home (at_readings r u)) read ∙ now) same
      (since v.faults u.faults x.faults turn.reply faults (on-fault u x turn leads)) asked (taken u x turn (Step.CommitEdit 0) step leads) in
      saved-ended turn more x w (over (ends turn.reply) more (Makes at [] more) (ends-with (IsSaved v x edit) turn.reply end) on) end others

  begins-saved : (at : Readings) (turns : List Turn) (u w : World) → request_at u 0 ≡ Some (EditArrived edit) → next_message u ≡ next_message v
      → u.history ≡ v.history → moment Region.Home (at_readings at u) ≡ moment Region.Home v → v.faults ≤ u.faults → edit_answer v.history edit ≡ None
      → Makes at (Step.Begin 0 ∷ Step.CommitEdit 0 ∷ []) turns → GoesBy u turns w → LastAnswers (IsSaved v w edit) turns
  begins-saved at [] u w asked same history now faults free makes goes = absurd makes
  begins-saved at (turn ∷ more) u w asked same history now faults free (read, step, on) (x, leads, others) =
      saved-chained at turn more (Step.CommitEdit 0 ∷ []) (with_faults u.faults x ≡ begun 0 edit (at_readings turn.at u)) x w
      (begin-saved (at_readings turn.at u) x u.faults turn.reply history (ap (λ (h : List Entry). edit_answer h edit) history ∙ free)
      (since v.faults u.faults x.faults turn.reply faults (on-fault u x turn leads)) asked (taken u x turn (Step.Begin 0) step leads)) on others
      (λ goes_on next makes.
      let still : u.faults ≤ x.faults = counts-on u.faults x.faults turn.reply goes_on leads.faults in
      commits-saved at (next_message u) more x w
      (asks (purged edit.title (at_readings turn.at u)) (with_faults u.faults x) (EditBegun edit (next_message u)) next) same
      (ap (λ (y : World). y.history) next ∙ history)
      (moment-again turn.at at u x next read ∙ now) (omega (arith, faults, still)) free makes others)
    where
      moment-again : (a b : Readings) (u x : World) → with_faults u.faults x ≡ begun 0 edit (at_readings a u) → a ≡ b → moment Region.Home (at_readings b x) ≡ moment Region.Home (at_readings b u)
      moment-again a b u x e same =
          ap (λ (y : World). moment Region.Home (at_readings b y)) (subst (λ (r : Readings). with_faults u.faults x ≡ begun 0 edit (at_readings r u)) same e)
          ∙ ap (λ (y : World). moment Region.Home y) (readings-again b u)

pub edits-saved : UndecidedEditsAreSaved
edits-saved at edit [] v w makes goes free = absurd makes
edits-saved at edit (turn ∷ more) v w (read, step, on) (u, leads, others) free =
    saved-chained (at_readings at v) edit at turn more (Step.Begin 0 ∷ Step.CommitEdit 0 ∷ []) (with_faults v.faults u ≡ with_request 0 (EditArrived edit) (at_readings at v)) u w
    (arrive-gets (IsSaved (at_readings at v) u edit) (AskedEdit edit) (at_readings at v) (with_faults v.faults u) turn.reply (λ e. ap (λ (y : World). y.history) e)
    (subst (λ (r : Readings). Takes (Step.Arrive 0 (AskedEdit edit)) (at_readings r v) turn.reply (with_faults v.faults u)) read (taken v u turn (Step.Arrive 0 (AskedEdit edit)) step leads))) on others
    (λ goes_on next makes.
    begins-saved (at_readings at v) edit at more u w
    (asks (at_readings at v) (with_faults v.faults u) (EditArrived edit) next) (ap (λ (y : World). next_message y) next) (ap (λ (y : World). y.history) next)
    (ap (λ (y : World). moment Region.Home (at_readings at y)) next ∙ ap (λ (y : World). moment Region.Home y) (readings-again at v))
    (counts-on v.faults u.faults turn.reply goes_on leads.faults) free makes others)
