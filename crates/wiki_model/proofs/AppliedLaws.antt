-- What a view may not miss is reached by a replica of its region, from its step wait on: applied numbers do not fall.
-- By cases on the steps: only `apply` changes them.
use Rattle.std.proofs.Common.{◌≡◌, ℕ, ◌≤◌, List, [], ◌∷◌, Bool, true, false, cond, Some, None, Option, refl, sym, ◌∙◌, ap, arith, subst, inl, inr, zero, suc, ◌+◌, ◌⊎◌, length, nat_lt}
use Rattle.std.specs.Prelude.{fold, max, min, unwrap_or, slice_get, slice_set}
use Rattle.std.proofs.lemmas.Bool.Decides.{nat_tests}
use Rattle.wiki_model.specs.declared.Region.{Region}
use Rattle.wiki_model.specs.declared.Region.TheVariants.{Home, West}
use Rattle.wiki_model.specs.declared.Readings.{Readings}
use Rattle.wiki_model.specs.History.{Entry, Beat, Committed, Edit}
use Rattle.wiki_model.specs.Answers.{Answer, edit_answer}
use Rattle.wiki_model.specs.World.{World, Setting, Site, with_applied, site, moment, Body, Message, message_at, request_at, Event, Job, at_readings, with_entry, with_event, event_in, with_site, hears, heard_in, applied_in, without_request, with_request, with_message, OpenView, Floor, Snapshot}
use Rattle.wiki_model.specs.World.Event.{Received, Kept, Rounded}
use Rattle.wiki_model.specs.World.Job.{ViewJob, ReceiptJob}
use Rattle.wiki_model.specs.World.Body.{Purge, Position}
use Rattle.wiki_model.specs.Sessions.{Known, known, live_index, Lag, lag_of, lag_behind, greatest}
use Rattle.wiki_model.specs.Steps.{Step, Allows, AtPoint, IsRefused, IsOutOfMemory, Begins, Commits, Waits, Looks, Snaps, Stores, Applies, Carries, Decided, is_late, purged_again, next_entry, next_commit, waited, gives_up, lag_answer, waited_view, carried, dropped, closed_if, kept, stored, reach, position_of, request_of, begun}
use Rattle.wiki_model.specs.Rounds.{MakesRound, rounded, received, received_message, received_body, batch}
use Rattle.wiki_model.specs.Runs.{Turn, Reply, One, Many, Takes, Leads, IsRun, opening, with_faults}
use Rattle.wiki_model.specs.Consistent.{IsConsistent, IsOpened}
use Rattle.wiki_model.specs.Promised.{IsOpen, Gives, WasGiven}
use Rattle.wiki_model.proofs.ConsistentLaws.{readings-keep}
use Rattle.wiki_model.proofs.StepLaws.{opened-run-keeps}
use Rattle.wiki_model.proofs.FloorLaws.{floors-given}

-- every replica keeps its number
record Keeps (v w : World) : Type 0 where
  pub home : w.home.applied ≡ v.home.applied
  pub west : w.west.applied ≡ v.west.applied

same : (v : World) → Keeps v v
same v = record { home = refl; west = refl }

goes-on : (u v w : World) → Keeps u v → Keeps v w → Keeps u w
goes-on u v w a b = record { home = b.home ∙ a.home; west = b.west ∙ a.west }

to : (v x w : World) → Keeps v x → w ≡ x → Keeps v w
to v x w g e = subst (Keeps v) (sym e) g

at-site : (r : Region) (s : Site) (v : World) → s.applied ≡ (site r v).applied → Keeps v (with_site r s v)
at-site Home s v e = record { home = e; west = refl }
at-site West s v e = record { home = refl; west = e }

event : (r : Region) (e : Event) (v : World) → Keeps v (with_event r e v)
event r e v = at-site r (event_in e (site r v)) v refl

refused : (v x w : World) (a : Answer) → Keeps v x → IsRefused x w a → Keeps v w
refused v x w Answer.NoMemory g e = to v x w g e
refused v x w Answer.StoreFault g e = to v x w g e
refused v x w _ g e = absurd e

out_of_memory : (v x w : World) (a : Answer) → Keeps v x → IsOutOfMemory x w a → Keeps v w
out_of_memory v x w Answer.NoMemory g e = to v x w g e
out_of_memory v x w _ g e = absurd e

at_point : {A : Type 0} (o : Option A) (id : ℕ) (v : World) (answer : Option Answer) (w : World) (P : A → Type 0) → ((a : A) → P a → Keeps v w) → AtPoint o id v answer w P → Keeps v w
at_point None id v answer w P f row = to v v w (same v) row.1
at_point (Some a) id v answer w P f row = f a row

decided : (d : Option Answer) (id : ℕ) (v w : World) (a : Answer) → Decided d id v w a → Keeps v w
decided d id v w Answer.StoreFault row = to v _ w (record { home = refl; west = refl }) row
decided d id v w Answer.NoMemory row = to v _ w (record { home = refl; west = refl }) row
decided d id v w _ row = to v _ w (record { home = refl; west = refl }) row.1

commit : (id : ℕ) (p : Edit × ℕ) (v : World) (answer : Option Answer) (w : World) → Commits id p v answer w → Keeps v w
commit id (edit, purge) v None w row = absurd row
commit id (edit, purge) v (Some a) w (inl row) = decided (edit_answer v.history edit) id v w a row
commit id (edit, purge) v (Some a) w (inr row) = to v _ w (late (is_late v purge)) row.2
  where
    x : World
    x = hears Home (next_entry v) (with_entry (Committed (next_commit v edit purge)) v)

    late : (b : Bool) → Keeps v (without_request id (with_message (position_of (next_entry v) (next_commit v edit purge))
        (cond b (purged_again (next_entry v) edit.title (hears Home (next_entry v) (with_entry (Committed (next_commit v edit purge)) v))) (hears Home (next_entry v) (with_entry (Committed (next_commit v edit purge)) v)))))
    late true = record { home = refl; west = refl }
    late false = record { home = refl; west = refl }

wait : (id : ℕ) (last : Bool) (view : OpenView) (v : World) (answer : Option Answer) (w : World) → Waits id last view v answer w → Keeps v w
wait id last view v answer w row = to v _ w (by (lag_of v view)) row.1
  where
    choose : (b : Bool) (lag : Lag) → Keeps v ((cond b (let o : Option Answer × World = (Some (lag_answer lag), without_request id v) in o) (None, v)).1)
    choose true lag = record { home = refl; west = refl }
    choose false lag = same v

    by : (o : Option Lag) → Keeps v ((waited id view last v o).1)
    by None = record { home = refl; west = refl }
    by (Some lag) = choose (gives_up v view last) lag

look : (id : ℕ) (p : OpenView × Floor) (v : World) (answer : Option Answer) (w : World) → Looks id p v answer w → Keeps v w
look id (view, floor) v (Some (Answer.Page page)) w row = to v _ w (record { home = refl; west = refl }) row.2
look id (view, floor) v (Some (Answer.Miss cause)) w row = to v _ w (record { home = refl; west = refl }) row.2
look id (view, floor) v (Some Answer.NoMemory) w row = to v _ w (record { home = refl; west = refl }) row
look id (view, floor) v (Some _) w row = absurd row
look id (view, floor) v None w row = absurd row

snap : (id : ℕ) (p : OpenView × Floor) (v : World) (answer : Option Answer) (w : World) → Snaps id p v answer w → Keeps v w
snap id (view, floor) v None w row = to v _ w (record { home = refl; west = refl }) row.2
snap id (view, floor) v (Some a) w row = out_of_memory v _ w a (record { home = refl; west = refl }) row

store : (id : ℕ) (p : OpenView × Floor × Snapshot) (v : World) (answer : Option Answer) (w : World) → Stores id p v answer w → Keeps v w
store id (view, floor, s) v (Some (Answer.Page p)) w row =
    to v _ w (goes-on v (kept v view.region p row.1) _ (event view.region (Kept (stored v view.region p row.1)) v) (record { home = refl; west = refl })) row.4
store id (view, floor, s) v (Some (Answer.NoPage source)) w row = to v _ w (record { home = refl; west = refl }) row.1
store id (view, floor, s) v (Some Answer.NoMemory) w row = to v _ w (record { home = refl; west = refl }) row
store id (view, floor, s) v (Some _) w row = absurd row
store id (view, floor, s) v None w row = absurd row

carry : (number : ℕ) (shown : Option Body) (v : World) (answer : Option Answer) (w : World) → Carries number shown v answer w → Keeps v w
carry number shown v None w row = to v _ w (body row.0.body) row.3
  where
    body : (b : Body) → Keeps v (carried b v)
    body (Purge purge title issued) = event West (Received purge title (moment West v)) v
    body (Position client index entry stamp) = at-site West (heard_in entry v.west) v refl
carry number shown v (Some (Answer.Gone m)) w row = to v v w (same v) row.2
carry number shown v (Some (Answer.Unknown m)) w row = to v v w (same v) row.2
carry number shown v (Some Answer.NoMemory) w row = to v v w (same v) row.1
carry number shown v (Some _) w row = absurd row

abbrev IsNoApply : Step → Type 0
IsNoApply (Step.Apply r replica count) = ⊥
IsNoApply _ = Unit {0}

row-goes : (step : Step) → IsNoApply step → (v : World) (answer : Option Answer) (w : World) → Allows step v answer w → Keeps v w
row-goes Step.MakeBeat tt v None w row = to v (with_entry (Beat (moment Home v)) v) w (record { home = refl; west = refl }) row
row-goes Step.MakeBeat tt v (Some a) w row = refused v v w a (same v) row
row-goes (Step.Arrive id asked) tt v None w row = to v (with_request id (request_of v asked) v) w (record { home = refl; west = refl }) row
row-goes (Step.Arrive id asked) tt v (Some a) w row = out_of_memory v v w a (same v) row
row-goes (Step.Begin id) tt v None w row = at_point _ id v None w (λ edit. Begins id edit v None w) (λ (edit : Edit) (r : Begins id edit v None w). to v (begun id edit v) w (record { home = refl; west = refl }) r.1) row
row-goes (Step.Begin id) tt v (Some a) w row = at_point _ id v (Some a) w _ (λ edit r. decided (edit_answer v.history edit) id v w a r) row
row-goes (Step.CommitEdit id) tt v answer w row = at_point _ id v answer w _ (λ p r. commit id p v answer w r) row
row-goes (Step.Wait id last) tt v answer w row = at_point _ id v answer w _ (λ view r. wait id last view v answer w r) row
row-goes (Step.Look id) tt v answer w row = at_point _ id v answer w _ (λ p r. look id p v answer w r) row
row-goes (Step.Snap id) tt v answer w row = at_point _ id v answer w _ (λ p r. snap id p v answer w r) row
row-goes (Step.Store id) tt v answer w row = at_point _ id v answer w _ (λ p r. store id p v answer w r) row
row-goes (Step.Apply r replica count) is v answer w row = absurd is
row-goes (Step.Carry number shown) tt v answer w row = carry number shown v answer w row
row-goes (Step.Drop number) tt v answer w row = to v _ w (by (message_at v number)) row.1
  where
    by : (o : Option Message) → Keeps v ((dropped number v o).1)
    by None = same v
    by (Some m) = record { home = refl; west = refl }
row-goes (Step.Need id) tt v answer w row = to v _ w (by (waited_view (request_at v id))) row.1
  where
    by : (o : Option (OpenView × Floor)) → Keeps v (closed_if id v o)
    by None = same v
    by (Some p) = record { home = refl; west = refl }
row-goes (Step.SetMarkup markup) tt v answer w row = to v (record v { markup = markup }) w (record { home = refl; west = refl }) row.1
row-goes (Step.Round r jobs) tt v answer w row = absurd row

received-goes : (r : Region) (jobs : List Job) (v : World) → Keeps v (received r jobs v)
received-goes r [] v = same v
received-goes r (ViewJob title need word ∷ jobs) v = received-goes r jobs v
received-goes r (ReceiptJob purge ∷ jobs) v = goes-on v (received_message r (message_at v purge) v) _ (by (message_at v purge)) (received-goes r jobs (received_message r (message_at v purge) v))
  where
    by : (o : Option Message) → Keeps v (received_message r o v)
    by None = same v
    by (Some m) = go m.body
      where
        go : (b : Body) → Keeps v (received_body r b v)
        go (Purge p title issued) = event r (Received p title (moment r v)) v
        go (Position client index entry stamp) = same v

rounded-goes : (r : Region) (jobs : List Job) (lost : Bool) (answers : List Answer) (v : World) → Keeps v (rounded r jobs lost answers v)
rounded-goes r jobs lost answers v = goes-on v (received r jobs v) _ (received-goes r jobs v) (event r (Rounded (batch v r jobs lost answers)) (received r jobs v))

round-goes : (r : Region) (jobs : List Job) (v : World) (answers : Option (List Answer)) (w : World) → MakesRound r jobs v answers w → Keeps v w
round-goes r jobs v (Some answers) w row = to v _ w (rounded-goes r jobs false answers v) row.2
round-goes r jobs v None w row = to v _ w (rounded-goes r jobs true [] v) row.1

takes-goes : (step : Step) → IsNoApply step → (v : World) (reply : Reply) (w : World) → Takes step v reply w → Keeps v w
takes-goes (Step.Round r jobs) is v (Many answers) w t = round-goes r jobs v answers w t
takes-goes step is v (One answer) w t = row-goes step is v answer w t
takes-goes step is v (Many answers) w t = absurd t

-- a greatest number does not fall where one number is replaced by one that is not less
fold-more : (xs : List ℕ) (a b : ℕ) → a ≤ b → fold max a xs ≤ fold max b xs
fold-more [] a b le = le
fold-more (x ∷ xs) a b le = fold-more xs (max a x) (max b x) (omega (arith, le))

fold-set : (xs : List ℕ) (i n a : ℕ) → unwrap_or (slice_get xs i) 0 ≤ n → fold max a xs ≤ fold max a (slice_set xs i n)
fold-set [] i n a le = omega arith
fold-set (x ∷ xs) zero n a le = fold-more xs (max a x) (max a n) (omega (arith, le))
fold-set (x ∷ xs) (suc i) n a le = fold-set xs i n (max a x) le

length-set : (xs : List ℕ) (i n : ℕ) → length (slice_set xs i n) ≡ length xs
length-set [] i n = refl
length-set (x ∷ xs) zero n = refl
length-set (x ∷ xs) (suc i) n = let e = length-set xs i n in omega (arith, e)

-- no greatest applied number falls, and no replica comes or goes
record Reaches (s t : Site) : Type 0 where
  pub greatest_is : greatest s.applied ≤ greatest t.applied
  pub many : length t.applied ≡ length s.applied

kept-reaches : (s t : Site) → t.applied ≡ s.applied → Reaches s t
kept-reaches s t e = subst (λ (xs : List ℕ). (let f : Type 0 = Reaches s (record t { applied = xs }) in f)) (sym e) (record { greatest_is = omega arith; many = refl })

set-reaches : (s : Site) (replica n : ℕ) → unwrap_or (slice_get s.applied replica) 0 ≤ n → Reaches s (applied_in replica n s)
set-reaches s replica n le = record { greatest_is = fold-set s.applied replica n 0 le; many = length-set s.applied replica n }

keeps-reaches : (r : Region) (v w : World) → Keeps v w → Reaches (site r v) (site r w)
keeps-reaches Home v w k = kept-reaches v.home w.home k.home
keeps-reaches West v w k = kept-reaches v.west w.west k.west

at-replica : (r q : Region) (replica n : ℕ) (v : World) → unwrap_or (slice_get (site r v).applied replica) 0 ≤ n → Reaches (site q v) (site q (with_applied r replica n v))
at-replica Home Home replica n v le = set-reaches v.home replica n le
at-replica Home West replica n v le = kept-reaches v.west v.west refl
at-replica West Home replica n v le = kept-reaches v.home v.home refl
at-replica West West replica n v le = set-reaches v.west replica n le

is-refused : (x w : World) (a : Answer) → IsRefused x w a → w ≡ x
is-refused x w Answer.NoMemory e = e
is-refused x w Answer.StoreFault e = e
is-refused x w _ e = absurd e

within-reach : (xs : List ℕ) (i count long : ℕ) → ((n : ℕ) → slice_get xs i ≡ Some n → n ≤ long) → unwrap_or (slice_get xs i) 0 ≤ min (unwrap_or (slice_get xs i) 0 + count) long
within-reach xs i count long f = by (slice_get xs i) f
  where
    by : (o : Option ℕ) → ((n : ℕ) → o ≡ Some n → n ≤ long) → unwrap_or o 0 ≤ min (unwrap_or o 0 + count) long
    by None f = omega arith
    by (Some n) f = let le = f n refl in omega (arith, le)

apply-reaches : (r q : Region) (replica count : ℕ) (v : World) (answer : Option Answer) (w : World) → IsConsistent v → Applies r replica count v answer w → Reaches (site q v) (site q w)
apply-reaches r q replica count v None w c row = subst (λ (x : World). Reaches (site q v) (site q x)) (sym row)
    (at-replica r q replica (reach v r replica count) v (within-reach (site r v).applied replica count (length v.history) (λ n e. (c.sites r).applied replica n e)))
apply-reaches r q replica count v (Some a) w c row = subst (λ (x : World). Reaches (site q v) (site q x)) (sym (is-refused (with_applied r replica row.0 v) w a row.3)) (at-replica r q replica row.0 v row.1)

takes-reaches : (step : Step) (q : Region) (v : World) (reply : Reply) (w : World) → IsConsistent v → Takes step v reply w → Reaches (site q v) (site q w)
takes-reaches (Step.Apply r replica count) q v (One answer) w c t = apply-reaches r q replica count v answer w c t
takes-reaches (Step.Apply r replica count) q v (Many answers) w c t = absurd t
takes-reaches Step.MakeBeat q v reply w c t = keeps-reaches q v w (takes-goes Step.MakeBeat tt v reply w t)
takes-reaches (Step.Arrive id asked) q v reply w c t = keeps-reaches q v w (takes-goes (Step.Arrive id asked) tt v reply w t)
takes-reaches (Step.Begin id) q v reply w c t = keeps-reaches q v w (takes-goes (Step.Begin id) tt v reply w t)
takes-reaches (Step.CommitEdit id) q v reply w c t = keeps-reaches q v w (takes-goes (Step.CommitEdit id) tt v reply w t)
takes-reaches (Step.Wait id last) q v reply w c t = keeps-reaches q v w (takes-goes (Step.Wait id last) tt v reply w t)
takes-reaches (Step.Look id) q v reply w c t = keeps-reaches q v w (takes-goes (Step.Look id) tt v reply w t)
takes-reaches (Step.Snap id) q v reply w c t = keeps-reaches q v w (takes-goes (Step.Snap id) tt v reply w t)
takes-reaches (Step.Store id) q v reply w c t = keeps-reaches q v w (takes-goes (Step.Store id) tt v reply w t)
takes-reaches (Step.Carry number shown) q v reply w c t = keeps-reaches q v w (takes-goes (Step.Carry number shown) tt v reply w t)
takes-reaches (Step.Drop number) q v reply w c t = keeps-reaches q v w (takes-goes (Step.Drop number) tt v reply w t)
takes-reaches (Step.Need id) q v reply w c t = keeps-reaches q v w (takes-goes (Step.Need id) tt v reply w t)
takes-reaches (Step.SetMarkup markup) q v reply w c t = keeps-reaches q v w (takes-goes (Step.SetMarkup markup) tt v reply w t)
takes-reaches (Step.Round r jobs) q v reply w c t = keeps-reaches q v w (takes-goes (Step.Round r jobs) tt v reply w t)

turn-reaches : (q : Region) (v : World) (turn : Turn) (w : World) → IsConsistent v → Leads v turn w → Reaches (site q v) (site q w)
turn-reaches Home v turn w c l = let r = takes-reaches turn.step Home (at_readings turn.at v) turn.reply (with_faults v.faults w) (readings-keep turn.at v c) l.takes in record { greatest_is = r.greatest_is; many = r.many }
turn-reaches West v turn w c l = let r = takes-reaches turn.step West (at_readings turn.at v) turn.reply (with_faults v.faults w) (readings-keep turn.at v c) l.takes in record { greatest_is = r.greatest_is; many = r.many }

free-reached : (index : ℕ) (k : Known) (applied : ℕ) → lag_behind index k applied ≡ None → k.position ≤ applied
free-reached index k applied e = by (nat_lt k.index index) (nat_lt applied k.position) refl e
  where
    by : (a b : Bool) → nat_lt applied k.position ≡ b → cond a (let l : Option Lag = Some (record { by = Rattle.wiki_model.specs.declared.Behind.TheVariants.Index; needed = index; reached = k.index }) in l)
        (cond b (Some (record { by = Rattle.wiki_model.specs.declared.Behind.TheVariants.Entry; needed = k.position; reached = applied })) None) ≡ None → k.position ≤ applied
    by true b is h = let no : ⊥ = cc in absurd no
    by false true is h = let no : ⊥ = cc in absurd no
    by false false is h = grind (arith, nat_tests, is)

same-applied : (r : Region) (at : Readings) (v : World) → (site r (at_readings at v)).applied ≡ (site r v).applied
same-applied Home at v = refl
same-applied West at v = refl

need-given : (setting : Setting) (history : List Entry) (faults : ℕ) (at : Readings) → IsOpened setting history → (turns : List Turn) (w : World) (run : IsRun (opening setting history faults at) turns w) (id : ℕ) (view : OpenView) (floor : Floor)
    → WasGiven (opening setting history faults at) turns w run id view floor → floor.need ≤ greatest (site view.region w).applied
need-given setting history faults at o [] w run id view floor given = absurd given
need-given setting history faults at o (turn ∷ earlier) w run id view floor given = by given (λ x. need-given setting history faults at o earlier run.0 run.1 id view floor x)
  where
    c : IsConsistent run.0
    c = opened-run-keeps setting history faults at earlier run.0 o run.1

    goes : greatest (site view.region run.0).applied ≤ greatest (site view.region w).applied
    goes = (turn-reaches view.region run.0 turn w c run.2).greatest_is

    by : Gives run.0 turn id view floor ⊎ (IsOpen run.0 id view floor × WasGiven (opening setting history faults at) earlier run.0 run.1 id view floor)
        → (WasGiven (opening setting history faults at) earlier run.0 run.1 id view floor → floor.need ≤ greatest (site view.region run.0).applied) → floor.need ≤ greatest (site view.region w).applied
    by (inr x) rec = let before = rec x.1 in omega (arith, before, goes)
    by (inl g) rec =
        let r = view.region in
        let u = at_readings turn.at run.0 in
        let reached = free-reached (live_index (moment r u) view.view) (known u r view.view.client) (greatest (site r u).applied) g.not_behind in
        let is : floor.need ≡ (known u r view.view.client).position = ap (λ (f : Floor). f.need) g.floor_is in
        let old : greatest (site r u).applied ≡ greatest (site r run.0).applied = ap greatest (same-applied r turn.at run.0) in
        omega (arith, reached, is, old, goes)

-- What an open view may not miss is reached by a replica of its region.
pub need-reached : (setting : Setting) (history : List Entry) (faults : ℕ) (at : Readings) (turns : List Turn) (w : World) (id : ℕ) (view : OpenView) (floor : Floor)
    → IsOpened setting history → IsRun (opening setting history faults at) turns w → IsOpen w id view floor → floor.need ≤ greatest (site view.region w).applied
need-reached setting history faults at turns w id view floor o run is = need-given setting history faults at o turns w run id view floor (floors-given setting history faults at turns w id view floor run is)
