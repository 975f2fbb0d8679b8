-- Each whole view and each whole edit is answered, and by its own kinds of answers alone.
use Rattle.std.specs.Prelude.{ℕ, ◌≡◌, ◌⊎◌, ◌≤◌, ◌-◌, ◌^◌, min, Bool, true, false, not, if◌then◌else◌, ◌==◌, List, [], ◌∷◌, ◌++◌, Option, Some, None, IfSome, refl}
use Rattle.std.specs.FinMap.{get, insert, get-insert}
use Rattle.std.specs.Cmp.{nat_cmp_total}
use Rattle.std.proofs.Common.{arith, sym, ap, subst, ◌∙◌, inl, inr}
use Rattle.wiki_model.specs.declared.Region.{Region}
use Rattle.wiki_model.specs.declared.Readings.{Readings}
use Rattle.wiki_model.specs.History.{Entry, Edit, Numbered, commit_with_token, current_revision}
use Rattle.wiki_model.specs.World.{World, OpenView, Floor, Snapshot, Request, Requests, Job, Asked, request_at, at_readings, with_request}
use Rattle.wiki_model.specs.World.Asked.{AskedView, AskedEdit}
use Rattle.wiki_model.specs.World.Request.{EditArrived, EditBegun, ViewArrived, ViewWaited, ViewLooked, ViewSnapped}
use Rattle.wiki_model.specs.Sessions.{Lag, lag_of, floor_of}
use Rattle.wiki_model.specs.Answers.{Answer, edit_answer, edit_answer_of, is_same_edit, saved}
use Rattle.wiki_model.specs.Answers.Answer.{Page, EditSaved, NoPage, Conflict, TokenUsed, Lagging, Miss, NotOpen, Unknown, Gone, StoreFault, NoMemory}
use Rattle.wiki_model.specs.Steps.{Step, Rose, AtPoint, arrived_edit, begun_edit, arrived_view, waited_view, looked_view, snapped_view, request_of, region_of, purged, next_message, Decided, Begins, Commits, waited, lag_answer, Waits, Looks, Snaps, Stores}
use Rattle.wiki_model.specs.Runs.{Turn, Reply, Takes, Leads, CountsFaults, with_faults}
use Rattle.wiki_model.specs.Runs.Reply.{One, Many}
use Rattle.wiki_model.specs.Sequences.{is_miss, ends, GoesOn, Makes}
use Rattle.wiki_model.specs.Serving.{GoesBy}
use Rattle.wiki_model.specs.Answered.{last_reply, LastAnswers, IsViewAnswer, IsEditAnswer, EndsBatch, ViewsAreAnswered, EditsAreAnswered, BatchesAreAnswered, PagesAreServed, EditsAreServed}

-- The last of the turns

-- a reply ends with an answer of this kind
abbrev pub Ends : (Answer → Type 0) → Reply → Type 0
Ends Is reply = (answer : Answer) × (reply ≡ One (Some answer)) × (is_miss answer ≡ false) × Is answer

-- or lets the request go on, and then this holds
abbrev pub EndsOr : (Answer → Type 0) → Reply → Type 0 → Type 0
EndsOr Is reply Next = Ends Is reply ⊎ ((ends reply ≡ false) × Next)

pub over : (b : Bool) (more : List Turn) (M : Type 0) → b ≡ true → GoesOn b more M → more ≡ []
over true more M e goes = goes
over false more M e goes = let no : ⊥ = cc in absurd no

pub not_over : (b : Bool) (more : List Turn) (M : Type 0) → b ≡ false → GoesOn b more M → M
not_over true more M e goes = let no : ⊥ = cc in absurd no
not_over false more M e goes = goes

pub ends-with : (Is : Answer → Type 0) (reply : Reply) → Ends Is reply → ends reply ≡ true
ends-with Is reply (answer, is, not_miss, p) = ap ends is ∙ ap not not_miss

pub last-ended : (Is : Answer → Type 0) (turn : Turn) (more : List Turn) → more ≡ [] → Ends Is turn.reply → LastAnswers Is (turn ∷ more)
last-ended Is turn more none (answer, is, not_miss, p) = (answer, subst (λ (l : List Turn). last_reply (turn ∷ l) ≡ Some (One (Some answer))) (sym none) (ap (λ (r : Reply). Some r) is), p)

pub last-later : (Is : Answer → Type 0) (turn : Turn) (more : List Turn) → LastAnswers Is more → LastAnswers Is (turn ∷ more)
last-later Is turn [] (answer, is, p) = let no : ⊥ = cc in absurd no
last-later Is turn (t ∷ more) last = last

pub chained : (Is : Answer → Type 0) (at : Readings) (turn : Turn) (more : List Turn) (steps : List Step) (Next : Type 0) → EndsOr Is turn.reply Next → GoesOn (ends turn.reply) more (Makes at steps more)
    → (Next → Makes at steps more → LastAnswers Is more) → LastAnswers Is (turn ∷ more)
chained Is at turn more steps Next (inl end) goes later = last-ended Is turn more (over (ends turn.reply) more (Makes at steps more) (ends-with Is turn.reply end) goes) end
chained Is at turn more steps Next (inr (on, next)) goes later = last-later Is turn more (later next (not_over (ends turn.reply) more (Makes at steps more) on goes))

found : (m : Requests) (r : Request) → get (insert m 0 r) 0 ≡ Some r
found m r = get-insert nat_cmp_total m 0 r 0

pub asks : (v u : World) (r : Request) → u ≡ with_request 0 r v → request_at u 0 ≡ Some r
asks v u r is = ap (λ (w : World). request_at w 0) is ∙ found v.requests r

-- Rows

arrive-row : (Is : Answer → Type 0) (asked : Asked) (v u : World) (reply : Reply) → Is NoMemory → Takes (Step.Arrive 0 asked) v reply u → EndsOr Is reply (request_at u 0 ≡ Some (request_of v asked))
arrive-row Is asked v u (Many a) memory takes = absurd takes
arrive-row Is asked v u (One None) memory takes = inr (refl, asks v u (request_of v asked) takes)
arrive-row Is asked v u (One (Some NoMemory)) memory takes = inl (NoMemory, refl, refl, memory)
arrive-row Is asked v u (One (Some _)) memory takes = absurd takes

wait-row : (Is : Answer → Type 0) (view : OpenView) (v u : World) (reply : Reply) → ((lag : Lag) → Is (lag_answer lag)) → request_at v 0 ≡ Some (ViewArrived view) → Takes (Step.Wait 0 true) v reply u
    → EndsOr Is reply ((floor : Floor) × (request_at u 0 ≡ Some (ViewWaited view floor)))
wait-row Is view v u (Many a) lags at takes = absurd takes
wait-row Is view v u (One a) lags at takes = by (lag_of v view) (subst (λ (o : Option Request). AtPoint (arrived_view o) 0 v a u (λ x. Waits 0 true x v a u)) at takes)
  where
    by : (lag : Option Lag) → (a ≡ (waited 0 view true v lag).0) × (u ≡ (waited 0 view true v lag).1) → EndsOr Is (One a) ((floor : Floor) × (request_at u 0 ≡ Some (ViewWaited view floor)))
    by None (is, world) = inr (ap (λ (x : Option Answer). ends (One x)) is, (floor_of v view, asks v u (ViewWaited view (floor_of v view)) world))
    by (Some lag) (is, world) = inl (lag_answer lag, ap (λ (x : Option Answer). One x) is, refl, lags lag)

look-allowed : (view : OpenView) (floor : Floor) (v u : World) (reply : Reply) → request_at v 0 ≡ Some (ViewWaited view floor) → Takes (Step.Look 0) v reply u
    → EndsOr (IsViewAnswer view.view.title) reply (request_at u 0 ≡ Some (ViewLooked view floor))
look-allowed view floor v u (Many a) at takes = absurd takes
look-allowed view floor v u (One a) at takes = by a (subst (λ (o : Option Request). AtPoint (waited_view o) 0 v a u (λ x. Looks 0 x v a u)) at takes)
  where
    by : (answer : Option Answer) → Looks 0 (view, floor) v answer u → EndsOr (IsViewAnswer view.view.title) (One answer) (request_at u 0 ≡ Some (ViewLooked view floor))
    by (Some (Page p)) (sound, forced, world) = inl (Page p, refl, refl, sound.prefix.title_asked)
    by (Some (Miss cause)) (is, forced, world) = inr (refl, asks v u (ViewLooked view floor) world)
    by (Some NoMemory) world = inl (NoMemory, refl, refl, tt)
    by None row = absurd row
    by (Some _) row = absurd row

snap-row : (view : OpenView) (floor : Floor) (v u : World) (reply : Reply) → request_at v 0 ≡ Some (ViewLooked view floor) → Takes (Step.Snap 0) v reply u
    → EndsOr (IsViewAnswer view.view.title) reply ((snapshot : Snapshot) × (request_at u 0 ≡ Some (ViewSnapped view floor snapshot)))
snap-row view floor v u (Many a) at takes = absurd takes
snap-row view floor v u (One a) at takes = by a (subst (λ (o : Option Request). AtPoint (looked_view o) 0 v a u (λ x. Snaps 0 x v a u)) at takes)
  where
    by : (answer : Option Answer) → Snaps 0 (view, floor) v answer u → EndsOr (IsViewAnswer view.view.title) (One answer) ((snapshot : Snapshot) × (request_at u 0 ≡ Some (ViewSnapped view floor snapshot)))
    by None (snapshot, is, world) = inr (refl, (snapshot, asks v u (ViewSnapped view floor snapshot) world))
    by (Some NoMemory) row = inl (NoMemory, refl, refl, tt)
    by (Some _) row = absurd row

store-allowed : (view : OpenView) (floor : Floor) (snapshot : Snapshot) (v u : World) (reply : Reply) → request_at v 0 ≡ Some (ViewSnapped view floor snapshot) → Takes (Step.Store 0) v reply u → Ends (IsViewAnswer view.view.title) reply
store-allowed view floor snapshot v u (Many a) at takes = absurd takes
store-allowed view floor snapshot v u (One a) at takes = by a (subst (λ (o : Option Request). AtPoint (snapped_view o) 0 v a u (λ x. Stores 0 x v a u)) at takes)
  where
    by : (answer : Option Answer) → Stores 0 (view, floor, snapshot) v answer u → Ends (IsViewAnswer view.view.title) (One answer)
    by (Some (Page p)) row = (Page p, refl, refl, row.0.prefix.title_asked)
    by (Some (NoPage source)) row = (NoPage source, refl, refl, tt)
    by (Some NoMemory) row = (NoMemory, refl, refl, tt)
    by None row = absurd row
    by (Some _) row = absurd row

-- Views

-- the step of a turn that was made
pub taken : (v u : World) (turn : Turn) (step : Step) → turn.step ≡ step → Leads v turn u → Takes step (at_readings turn.at v) turn.reply (with_faults v.faults u)
taken v u turn step is leads = subst (λ (s : Step). Takes s (at_readings turn.at v) turn.reply (with_faults v.faults u)) is leads.takes

stored-answers : (at : Readings) (view : OpenView) (floor : Floor) (snapshot : Snapshot) (turns : List Turn) (v w : World) → request_at v 0 ≡ Some (ViewSnapped view floor snapshot) → Makes at (Step.Store 0 ∷ []) turns → GoesBy v turns w
    → LastAnswers (IsViewAnswer view.view.title) turns
stored-answers at view floor snapshot [] v w asked makes goes = absurd makes
stored-answers at view floor snapshot (turn ∷ more) v w asked (read, step, on) (u, leads, others) =
    let end = store-allowed view floor snapshot (at_readings turn.at v) (with_faults v.faults u) turn.reply asked (taken v u turn (Step.Store 0) step leads) in
    last-ended (IsViewAnswer view.view.title) turn more (over (ends turn.reply) more (Makes at [] more) (ends-with (IsViewAnswer view.view.title) turn.reply end) on) end

snapped-answers : (at : Readings) (view : OpenView) (floor : Floor) (turns : List Turn) (v w : World) → request_at v 0 ≡ Some (ViewLooked view floor) → Makes at (Step.Snap 0 ∷ Step.Store 0 ∷ []) turns → GoesBy v turns w
    → LastAnswers (IsViewAnswer view.view.title) turns
snapped-answers at view floor [] v w asked makes goes = absurd makes
snapped-answers at view floor (turn ∷ more) v w asked (read, step, on) (u, leads, others) =
    chained (IsViewAnswer view.view.title) at turn more (Step.Store 0 ∷ []) ((snapshot : Snapshot) × (request_at u 0 ≡ Some (ViewSnapped view floor snapshot)))
    (snap-row view floor (at_readings turn.at v) (with_faults v.faults u) turn.reply asked (taken v u turn (Step.Snap 0) step leads)) on
    (λ next makes. stored-answers at view floor next.0 more u w next.1 makes others)

looked-answers : (at : Readings) (view : OpenView) (floor : Floor) (turns : List Turn) (v w : World) → request_at v 0 ≡ Some (ViewWaited view floor) → Makes at (Step.Look 0 ∷ Step.Snap 0 ∷ Step.Store 0 ∷ []) turns → GoesBy v turns w
    → LastAnswers (IsViewAnswer view.view.title) turns
looked-answers at view floor [] v w asked makes goes = absurd makes
looked-answers at view floor (turn ∷ more) v w asked (read, step, on) (u, leads, others) =
    chained (IsViewAnswer view.view.title) at turn more (Step.Snap 0 ∷ Step.Store 0 ∷ []) (request_at u 0 ≡ Some (ViewLooked view floor))
    (look-allowed view floor (at_readings turn.at v) (with_faults v.faults u) turn.reply asked (taken v u turn (Step.Look 0) step leads)) on
    (λ next makes. snapped-answers at view floor more u w next makes others)

waited-answers : (at : Readings) (view : OpenView) (turns : List Turn) (v w : World) → request_at v 0 ≡ Some (ViewArrived view) → Makes at (Step.Wait 0 true ∷ Step.Look 0 ∷ Step.Snap 0 ∷ Step.Store 0 ∷ []) turns → GoesBy v turns w
    → LastAnswers (IsViewAnswer view.view.title) turns
waited-answers at view [] v w asked makes goes = absurd makes
waited-answers at view (turn ∷ more) v w asked (read, step, on) (u, leads, others) =
    chained (IsViewAnswer view.view.title) at turn more (Step.Look 0 ∷ Step.Snap 0 ∷ Step.Store 0 ∷ []) ((floor : Floor) × (request_at u 0 ≡ Some (ViewWaited view floor)))
    (wait-row (IsViewAnswer view.view.title) view (at_readings turn.at v) (with_faults v.faults u) turn.reply (λ lag. tt) asked (taken v u turn (Step.Wait 0 true) step leads)) on
    (λ next makes. looked-answers at view next.0 more u w next.1 makes others)

pub views-answered : ViewsAreAnswered
views-answered at view [] v w makes goes = absurd makes
views-answered at view (turn ∷ more) v w (read, step, on) (u, leads, others) =
    chained (IsViewAnswer view.title) at turn more (Step.Wait 0 true ∷ Step.Look 0 ∷ Step.Snap 0 ∷ Step.Store 0 ∷ []) (request_at u 0 ≡ Some (request_of (at_readings turn.at v) (AskedView view)))
    (arrive-row (IsViewAnswer view.title) (AskedView view) (at_readings turn.at v) (with_faults v.faults u) turn.reply tt (taken v u turn (Step.Arrive 0 (AskedView view)) step leads)) on
    (λ next makes. waited-answers at (opened (request_of (at_readings turn.at v) (AskedView view))) more u w next makes others)
  where
    opened : Request → OpenView
    opened (ViewArrived o) = o
    opened _ = record { view = view; region = region_of view; arrived = 0 }

-- Edits

edit-not_miss : (before now : ℕ) (answer : Answer) → IsEditAnswer before now answer → is_miss answer ≡ false
edit-not_miss before now (Miss cause) p = absurd p
edit-not_miss before now _ p = refl

edit-earlier : (a b c : ℕ) (answer : Answer) → a ≤ b → IsEditAnswer b c answer → IsEditAnswer a c answer
edit-earlier a b c StoreFault le rose = omega (arith, le, rose)
edit-earlier a b c (EditSaved s) le p = tt
edit-earlier a b c (TokenUsed entry) le p = tt
edit-earlier a b c (Conflict base current) le p = tt
edit-earlier a b c NoMemory le p = tt
edit-earlier a b c _ le p = absurd p

-- a reply that goes on is no fault
pub counts-on : (a b : ℕ) (reply : Reply) → ends reply ≡ false → CountsFaults a b reply → a ≤ b
counts-on a b (One (Some StoreFault)) e counts = let no : ⊥ = cc in absurd no
counts-on a b (One (Some _)) e counts = counts
counts-on a b (One None) e counts = counts
counts-on a b (Many answers) e counts = counts

rose : (a b : ℕ) (reply : Reply) (answer : Answer) → CountsFaults a b reply → reply ≡ One (Some answer) → answer ≡ StoreFault → Rose a b
rose a b reply answer counts is fault = subst (CountsFaults a b) (is ∙ ap (λ (x : Answer). One (Some x)) fault) counts

decided-kinds : (a b : ℕ) (history : List Entry) (edit : Edit) (with_token : Option Numbered) → IfSome (edit_answer_of history edit with_token) (IsEditAnswer a b)
decided-kinds a b history edit (Some n) = by (is_same_edit edit n.commit.edit)
  where
    by : (same : Bool) → IsEditAnswer a b (if same then EditSaved (saved n.number n.commit) else TokenUsed n.number)
    by true = tt
    by false = tt
decided-kinds a b history edit None = by (edit.base == current_revision history edit.title)
  where
    by : (same : Bool) → IfSome (if same then None else Some (Conflict edit.base (current_revision history edit.title))) (IsEditAnswer a b)
    by true = tt
    by false = tt

decided-answer : (a b : ℕ) (decided : Option Answer) (v w : World) (answer : Answer) → IfSome decided (IsEditAnswer a b) → (answer ≡ StoreFault → Rose a b) → Decided decided 0 v w answer → IsEditAnswer a b answer
decided-answer a b decided v w StoreFault kinds fault is = fault refl
decided-answer a b decided v w NoMemory kinds fault is = tt
decided-answer a b decided v w (Page p) kinds fault is = subst (λ (o : Option Answer). IfSome o (IsEditAnswer a b)) is.0 kinds
decided-answer a b decided v w (EditSaved s) kinds fault is = tt
decided-answer a b decided v w (NoPage source) kinds fault is = subst (λ (o : Option Answer). IfSome o (IsEditAnswer a b)) is.0 kinds
decided-answer a b decided v w (Conflict base current) kinds fault is = tt
decided-answer a b decided v w (TokenUsed entry) kinds fault is = tt
decided-answer a b decided v w (Lagging by needed reached) kinds fault is = subst (λ (o : Option Answer). IfSome o (IsEditAnswer a b)) is.0 kinds
decided-answer a b decided v w (Miss cause) kinds fault is = subst (λ (o : Option Answer). IfSome o (IsEditAnswer a b)) is.0 kinds
decided-answer a b decided v w (NotOpen id) kinds fault is = subst (λ (o : Option Answer). IfSome o (IsEditAnswer a b)) is.0 kinds
decided-answer a b decided v w (Unknown message) kinds fault is = subst (λ (o : Option Answer). IfSome o (IsEditAnswer a b)) is.0 kinds
decided-answer a b decided v w (Gone message) kinds fault is = subst (λ (o : Option Answer). IfSome o (IsEditAnswer a b)) is.0 kinds

-- a keeper's fault is answered only where its count rose
abbrev pub OnFault : (a b : ℕ) → Reply → Type 0
OnFault a b reply = (answer : Answer) → reply ≡ One (Some answer) → answer ≡ StoreFault → Rose a b

begin-row : (a b : ℕ) (edit : Edit) (v u : World) (reply : Reply) → OnFault a b reply → request_at v 0 ≡ Some (EditArrived edit) → Takes (Step.Begin 0) v reply u
    → EndsOr (IsEditAnswer a b) reply ((purge : ℕ) × (request_at u 0 ≡ Some (EditBegun edit purge)))
begin-row a b edit v u (Many x) fault at takes = absurd takes
begin-row a b edit v u (One x) fault at takes = by x fault (subst (λ (o : Option Request). AtPoint (arrived_edit o) 0 v x u (λ e. Begins 0 e v x u)) at takes)
  where
    by : (answer : Option Answer) → OnFault a b (One answer) → Begins 0 edit v answer u → EndsOr (IsEditAnswer a b) (One answer) ((purge : ℕ) × (request_at u 0 ≡ Some (EditBegun edit purge)))
    by None f (undecided, world) = inr (refl, (next_message v, asks (purged edit.title v) u (EditBegun edit (next_message v)) world))
    by (Some answer) f row =
        let kind = decided-answer a b (edit_answer v.history edit) v u answer (decided-kinds a b v.history edit (commit_with_token v.history edit.client edit.token)) (f answer refl) row in
        inl (answer, refl, edit-not_miss a b answer kind, kind)

commit-row : (a b : ℕ) (edit : Edit) (purge : ℕ) (v u : World) (reply : Reply) → OnFault a b reply → request_at v 0 ≡ Some (EditBegun edit purge) → Takes (Step.CommitEdit 0) v reply u → Ends (IsEditAnswer a b) reply
commit-row a b edit purge v u (Many x) fault at takes = absurd takes
commit-row a b edit purge v u (One x) fault at takes = by x fault (subst (λ (o : Option Request). AtPoint (begun_edit o) 0 v x u (λ e. Commits 0 e v x u)) at takes)
  where
    by : (answer : Option Answer) → OnFault a b (One answer) → Commits 0 (edit, purge) v answer u → Ends (IsEditAnswer a b) (One answer)
    by None f row = absurd row
    by (Some answer) f (inl row) =
        let kind = decided-answer a b (edit_answer v.history edit) v u answer (decided-kinds a b v.history edit (commit_with_token v.history edit.client edit.token)) (f answer refl) row in
        (answer, refl, edit-not_miss a b answer kind, kind)
    by (Some answer) f (inr (undecided, is, world)) =
        let kind : IsEditAnswer a b answer = subst (IsEditAnswer a b) (sym is) tt in
        (answer, refl, edit-not_miss a b answer kind, kind)

edit-ended : (turn : Turn) (more : List Turn) (v u w : World) → more ≡ [] → Ends (IsEditAnswer v.faults u.faults) turn.reply → GoesBy u more w → LastAnswers (IsEditAnswer v.faults w.faults) (turn ∷ more)
edit-ended turn more v u w none end goes =
    let same : w ≡ u = subst (λ (l : List Turn). GoesBy u l w) none goes in
    subst (λ (x : World). LastAnswers (IsEditAnswer v.faults x.faults) (turn ∷ more)) (sym same) (last-ended (IsEditAnswer v.faults u.faults) turn more none end)

edit-later : (turn : Turn) (more : List Turn) (v u w : World) → ends turn.reply ≡ false → CountsFaults v.faults u.faults turn.reply → LastAnswers (IsEditAnswer u.faults w.faults) more → LastAnswers (IsEditAnswer v.faults w.faults) (turn ∷ more)
edit-later turn more v u w on counts (answer, is, kind) =
    last-later (IsEditAnswer v.faults w.faults) turn more (answer, is, edit-earlier v.faults u.faults w.faults answer (counts-on v.faults u.faults turn.reply on counts) kind)

edit-chained : (at : Readings) (turn : Turn) (more : List Turn) (steps : List Step) (Next : Type 0) (v u w : World) → EndsOr (IsEditAnswer v.faults u.faults) turn.reply Next → GoesOn (ends turn.reply) more (Makes at steps more)
    → CountsFaults v.faults u.faults turn.reply → GoesBy u more w → (Next → Makes at steps more → LastAnswers (IsEditAnswer u.faults w.faults) more) → LastAnswers (IsEditAnswer v.faults w.faults) (turn ∷ more)
edit-chained at turn more steps Next v u w (inl end) goes counts others later =
    edit-ended turn more v u w (over (ends turn.reply) more (Makes at steps more) (ends-with (IsEditAnswer v.faults u.faults) turn.reply end) goes) end others
edit-chained at turn more steps Next v u w (inr (on, next)) goes counts others later =
    edit-later turn more v u w on counts (later next (not_over (ends turn.reply) more (Makes at steps more) on goes))

pub on-fault : (v u : World) (turn : Turn) → Leads v turn u → OnFault v.faults u.faults turn.reply
on-fault v u turn leads answer is fault = rose v.faults u.faults turn.reply answer leads.faults is fault

committed-answers : (at : Readings) (edit : Edit) (purge : ℕ) (turns : List Turn) (v w : World) → request_at v 0 ≡ Some (EditBegun edit purge) → Makes at (Step.CommitEdit 0 ∷ []) turns → GoesBy v turns w → LastAnswers (IsEditAnswer v.faults w.faults) turns
committed-answers at edit purge [] v w asked makes goes = absurd makes
committed-answers at edit purge (turn ∷ more) v w asked (read, step, on) (u, leads, others) =
    let end = commit-row v.faults u.faults edit purge (at_readings turn.at v) (with_faults v.faults u) turn.reply (on-fault v u turn leads) asked (taken v u turn (Step.CommitEdit 0) step leads) in
    edit-ended turn more v u w (over (ends turn.reply) more (Makes at [] more) (ends-with (IsEditAnswer v.faults u.faults) turn.reply end) on) end others

begun-answers : (at : Readings) (edit : Edit) (turns : List Turn) (v w : World) → request_at v 0 ≡ Some (EditArrived edit) → Makes at (Step.Begin 0 ∷ Step.CommitEdit 0 ∷ []) turns → GoesBy v turns w → LastAnswers (IsEditAnswer v.faults w.faults) turns
begun-answers at edit [] v w asked makes goes = absurd makes
begun-answers at edit (turn ∷ more) v w asked (read, step, on) (u, leads, others) =
    edit-chained at turn more (Step.CommitEdit 0 ∷ []) ((purge : ℕ) × (request_at u 0 ≡ Some (EditBegun edit purge))) v u w
    (begin-row v.faults u.faults edit (at_readings turn.at v) (with_faults v.faults u) turn.reply (on-fault v u turn leads) asked (taken v u turn (Step.Begin 0) step leads)) on leads.faults others
    (λ next makes. committed-answers at edit next.0 more u w next.1 makes others)

pub edits-answered : EditsAreAnswered
edits-answered at edit [] v w makes goes = absurd makes
edits-answered at edit (turn ∷ more) v w (read, step, on) (u, leads, others) =
    edit-chained at turn more (Step.Begin 0 ∷ Step.CommitEdit 0 ∷ []) (request_at u 0 ≡ Some (EditArrived edit)) v u w
    (arrive-row (IsEditAnswer v.faults u.faults) (AskedEdit edit) (at_readings turn.at v) (with_faults v.faults u) turn.reply tt (taken v u turn (Step.Arrive 0 (AskedEdit edit)) step leads)) on leads.faults others
    (λ next makes. begun-answers at edit more u w next makes others)

-- Batches

abbrev BatchAnswers : List Turn → Type 0
BatchAnswers turns = LastAnswers EndsBatch turns ⊎ ((answers : Option (List Answer)) × (last_reply turns ≡ Some (Many answers)))

batch-later : (turn : Turn) (more : List Turn) → BatchAnswers more → BatchAnswers (turn ∷ more)
batch-later turn more (inl last) = inl (last-later EndsBatch turn more last)
batch-later turn [] (inr (answers, is)) = let no : ⊥ = cc in absurd no
batch-later turn (t ∷ more) (inr last) = inr last

batch-chained : (at : Readings) (turn : Turn) (more : List Turn) (steps : List Step) (Next : Type 0) → EndsOr EndsBatch turn.reply Next → GoesOn (ends turn.reply) more (Makes at steps more)
    → (Next → Makes at steps more → BatchAnswers more) → BatchAnswers (turn ∷ more)
batch-chained at turn more steps Next (inl end) goes later = inl (last-ended EndsBatch turn more (over (ends turn.reply) more (Makes at steps more) (ends-with EndsBatch turn.reply end) goes) end)
batch-chained at turn more steps Next (inr (on, next)) goes later = batch-later turn more (later next (not_over (ends turn.reply) more (Makes at steps more) on goes))

round-answers : (at : Readings) (r : Region) (jobs : List Job) (turns : List Turn) (v w : World) → Makes at (Step.Round r jobs ∷ []) turns → GoesBy v turns w → BatchAnswers turns
round-answers at r jobs [] v w makes goes = absurd makes
round-answers at r jobs (turn ∷ more) v w (read, step, on) (u, leads, others) = by turn.reply refl (taken v u turn (Step.Round r jobs) step leads)
  where
    by : (reply : Reply) → turn.reply ≡ reply → Takes (Step.Round r jobs) (at_readings turn.at v) reply (with_faults v.faults u) → BatchAnswers (turn ∷ more)
    by (One answer) is takes = absurd takes
    by (Many answers) is takes =
        let none : more ≡ [] = over (ends turn.reply) more (Makes at [] more) (ap ends is) on in
        inr (answers, subst (λ (l : List Turn). last_reply (turn ∷ l) ≡ Some (Many answers)) (sym none) (ap (λ (x : Reply). Some x) is))

need-answers : (at : Readings) (r : Region) (jobs : List Job) (turns : List Turn) (v w : World) → Makes at (Step.Need 0 ∷ Step.Round r jobs ∷ []) turns → GoesBy v turns w → BatchAnswers turns
need-answers at r jobs [] v w makes goes = absurd makes
need-answers at r jobs (turn ∷ more) v w (read, step, on) (u, leads, others) =
    batch-chained at turn more (Step.Round r jobs ∷ []) (Unit {0}) (by turn.reply (taken v u turn (Step.Need 0) step leads)) on (λ next makes. round-answers at r jobs more u w makes others)
  where
    by : (reply : Reply) → Takes (Step.Need 0) (at_readings turn.at v) reply (with_faults v.faults u) → EndsOr EndsBatch reply (Unit {0})
    by (Many answers) takes = absurd takes
    by (One answer) takes = inr (ap (λ (x : Option Answer). ends (One x)) takes.0, tt)

batch-waits : (at : Readings) (view : OpenView) (r : Region) (jobs : List Job) (turns : List Turn) (v w : World) → request_at v 0 ≡ Some (ViewArrived view) → Makes at (Step.Wait 0 true ∷ Step.Need 0 ∷ Step.Round r jobs ∷ []) turns → GoesBy v turns w → BatchAnswers turns
batch-waits at view r jobs [] v w asked makes goes = absurd makes
batch-waits at view r jobs (turn ∷ more) v w asked (read, step, on) (u, leads, others) =
    batch-chained at turn more (Step.Need 0 ∷ Step.Round r jobs ∷ []) ((floor : Floor) × (request_at u 0 ≡ Some (ViewWaited view floor)))
    (wait-row EndsBatch view (at_readings turn.at v) (with_faults v.faults u) turn.reply (λ lag. tt) asked (taken v u turn (Step.Wait 0 true) step leads)) on
    (λ next makes. need-answers at r jobs more u w makes others)

pub batches-answered : BatchesAreAnswered
batches-answered at view r jobs [] v w makes goes = absurd makes
batches-answered at view r jobs (turn ∷ more) v w (read, step, on) (u, leads, others) =
    batch-chained at turn more (Step.Wait 0 true ∷ Step.Need 0 ∷ Step.Round r jobs ∷ []) (request_at u 0 ≡ Some (request_of (at_readings turn.at v) (AskedView view)))
    (arrive-row EndsBatch (AskedView view) (at_readings turn.at v) (with_faults v.faults u) turn.reply tt (taken v u turn (Step.Arrive 0 (AskedView view)) step leads)) on
    (λ next makes. batch-waits at (opened (request_of (at_readings turn.at v) (AskedView view))) r jobs more u w next makes others)
  where
    opened : Request → OpenView
    opened (ViewArrived o) = o
    opened _ = record { view = view; region = region_of view; arrived = 0 }

-- With the housekeeping before it

last-behind : (Is : Answer → Type 0) (before own : List Turn) → LastAnswers Is own → LastAnswers Is (before ++ own)
last-behind Is [] own last = last
last-behind Is (turn ∷ before) own last = last-later Is turn (before ++ own) (last-behind Is before own last)

-- the keeper's count of faults does not fall, up to the end of its type
counts-kept : (a b : ℕ) (reply : Reply) → CountsFaults a b reply → min a (2 ^ 64 - 1) ≤ b
counts-kept a b (One (Some StoreFault)) counts = omega (arith, counts)
counts-kept a b (One (Some _)) counts = omega (arith, counts)
counts-kept a b (One None) counts = omega (arith, counts)
counts-kept a b (Many answers) counts = omega (arith, counts)

faults-kept : (turns : List Turn) (v w : World) → GoesBy v turns w → min v.faults (2 ^ 64 - 1) ≤ w.faults
faults-kept [] v w goes = let same : w.faults ≡ v.faults = ap (λ (x : World). x.faults) goes in omega (arith, same)
faults-kept (turn ∷ turns) v w (u, leads, others) =
    let one = counts-kept v.faults u.faults turn.reply leads.faults in
    let more = faults-kept turns u w others in
    omega (arith, one, more)

edit-behind : (a b c : ℕ) (answer : Answer) → min a (2 ^ 64 - 1) ≤ b → IsEditAnswer b c answer → IsEditAnswer a c answer
edit-behind a b c StoreFault le rose = omega (arith, le, rose)
edit-behind a b c (EditSaved s) le p = tt
edit-behind a b c (TokenUsed entry) le p = tt
edit-behind a b c (Conflict base current) le p = tt
edit-behind a b c NoMemory le p = tt
edit-behind a b c _ le p = absurd p

pub pages-served : PagesAreServed
pages-served at pace taken view turns v w s =
    subst (LastAnswers (IsViewAnswer view.title)) (sym s.all) (last-behind (IsViewAnswer view.title) s.before s.own (views-answered at view s.own s.middle w s.makes s.goes))

pub edits-served : EditsAreServed
edits-served at pace taken edit turns v w s =
    let (answer, is, kind) = edits-answered at edit s.own s.middle w s.makes s.goes in
    let first = faults-kept s.housekeeping.carrying v s.housekeeping.middle s.housekeeping.goes in
    let second = faults-kept s.housekeeping.keeping s.housekeeping.middle s.middle s.housekeeping.goes_on in
    let kind_too : IsEditAnswer v.faults w.faults answer = edit-behind v.faults s.middle.faults w.faults answer (omega (arith, first, second)) kind in
    subst (LastAnswers (IsEditAnswer v.faults w.faults)) (sym s.all) (last-behind (IsEditAnswer v.faults w.faults) s.before s.own (answer, is, kind_too))
