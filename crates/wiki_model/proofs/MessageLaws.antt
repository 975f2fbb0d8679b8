-- No step takes a message away: along a request its messages only grow in number, and its history too.
-- By cases on the steps.
use Rattle.std.proofs.Common.{◌≡◌, ℕ, zero, suc, ◌+◌, length, ◌≤◌, List, [], ◌∷◌, ◌++◌, Bool, true, false, cond, Some, None, Option, refl, sym, ap, arith, subst, append-nil, inl, inr}
use Rattle.std.proofs.lemmas.List.{length-append}
use Rattle.wiki_model.specs.declared.Region.{Region}
use Rattle.wiki_model.specs.declared.Region.TheVariants.{Home, West}
use Rattle.wiki_model.specs.declared.Readings.{Readings}
use Rattle.wiki_model.specs.History.{Beat, Committed, Edit}
use Rattle.wiki_model.specs.Answers.{Answer, edit_answer}
use Rattle.wiki_model.specs.World.{World, Site, site, moment, Body, Message, message_at, request_at, Event, Job, at_readings, with_entry, with_event, event_in, with_site, hears, heard_in, applied_in, without_request, with_request, with_message, OpenView, Floor, Snapshot, drop_at}
use Rattle.wiki_model.specs.World.Event.{Received, Kept, Rounded}
use Rattle.wiki_model.specs.World.Job.{ViewJob, ReceiptJob}
use Rattle.wiki_model.specs.World.Body.{Purge, Position}
use Rattle.wiki_model.specs.Sessions.{Lag, lag_of}
use Rattle.wiki_model.specs.Steps.{Step, Allows, AtPoint, IsRefused, IsOutOfMemory, Begins, Commits, Waits, Looks, Snaps, Stores, Applies, Carries, Decided, is_late, purged_again, next_entry, next_commit, waited, gives_up, lag_answer, waited_view, carried, dropped, closed_if, kept, stored, reach, position_of, request_of, begun}
use Rattle.wiki_model.specs.Rounds.{MakesRound, rounded, received, received_message, received_body, batch}
use Rattle.wiki_model.specs.Runs.{Turn, Reply, One, Many, Takes, Leads, with_faults}
use Rattle.wiki_model.specs.Changes.{Goes}
use Rattle.wiki_model.specs.Serving.{GoesBy}
use Rattle.wiki_model.proofs.GrowthLaws.{leads-goes, goes-on as history-on}

drop-length : (ms : List Message) (n : ℕ) → length (drop_at ms n) ≡ length ms
drop-length [] n = refl
drop-length (m ∷ ms) zero = refl
drop-length (m ∷ ms) (suc zero) = refl
drop-length (m ∷ ms) (suc (suc n)) = ap suc (drop-length ms (suc n))

-- w has the messages of v, and it may have more
record Issues (v w : World) : Type 0 where
  longer : length v.messages ≤ length w.messages

stay : (v w : World) → w.messages ≡ v.messages → Issues v w
stay v w e = let long : length w.messages ≡ length v.messages = ap (λ (l : List Message). length l) e in record { longer = omega (arith, long) }

same : (v : World) → Issues v v
same v = stay v v refl

goes-on : (u v w : World) → Issues u v → Issues v w → Issues u w
goes-on u v w a b = let x = a.longer in let y = b.longer in record { longer = omega (arith, x, y) }

to : (v x w : World) → Issues v x → w ≡ x → Issues v w
to v x w g e = subst (Issues v) (sym e) g

at-site : (r : Region) (s : Site) (v : World) → s.moment ≡ moment r v → Issues v (with_site r s v)
at-site Home s v e = stay v _ refl
at-site West s v e = stay v _ refl

read : (at : Readings) (v : World) → Issues v (at_readings at v)
read at v = stay v (at_readings at v) refl

event : (r : Region) (e : Event) (v : World) → Issues v (with_event r e v)
event r e v = at-site r (event_in e (site r v)) v refl

refused : (v x w : World) (a : Answer) → Issues v x → IsRefused x w a → Issues v w
refused v x w Answer.NoMemory g e = to v x w g e
refused v x w Answer.StoreFault g e = to v x w g e
refused v x w _ g e = absurd e

out_of_memory : (v x w : World) (a : Answer) → Issues v x → IsOutOfMemory x w a → Issues v w
out_of_memory v x w Answer.NoMemory g e = to v x w g e
out_of_memory v x w _ g e = absurd e

at_point : {A : Type 0} (o : Option A) (id : ℕ) (v : World) (answer : Option Answer) (w : World) (P : A → Type 0) → ((a : A) → P a → Issues v w) → AtPoint o id v answer w P → Issues v w
at_point None id v answer w P f row = to v v w (same v) row.1
at_point (Some a) id v answer w P f row = f a row

decided : (d : Option Answer) (id : ℕ) (v w : World) (a : Answer) → Decided d id v w a → Issues v w
decided d id v w Answer.StoreFault row = to v _ w (stay v _ refl) row
decided d id v w Answer.NoMemory row = to v _ w (stay v _ refl) row
decided d id v w _ row = to v _ w (stay v _ refl) row.1

commit : (id : ℕ) (p : Edit × ℕ) (v : World) (answer : Option Answer) (w : World) → Commits id p v answer w → Issues v w
commit id (edit, purge) v None w row = absurd row
commit id (edit, purge) v (Some a) w (inl row) = decided (edit_answer v.history edit) id v w a row
commit id (edit, purge) v (Some a) w (inr row) = to v _ w (late (is_late v purge)) row.2
  where
    x : World
    x = hears Home (next_entry v) (with_entry (Committed (next_commit v edit purge)) v)

    late : (b : Bool) → Issues v (without_request id (with_message (position_of (next_entry v) (next_commit v edit purge))
        (cond b (purged_again (next_entry v) edit.title (hears Home (next_entry v) (with_entry (Committed (next_commit v edit purge)) v))) (hears Home (next_entry v) (with_entry (Committed (next_commit v edit purge)) v)))))
    late true = let one = length-append v.messages ((let m : Message = record { body = Purge (length v.messages + 1) edit.title v.home.moment; dropped = false } in m) ∷ []) in let two = length-append (v.messages ++ (let m : Message = record { body = Purge (length v.messages + 1) edit.title v.home.moment; dropped = false } in m) ∷ []) ((let m : Message = record { body = position_of (next_entry v) (next_commit v edit purge); dropped = false } in m) ∷ []) in record { longer = omega (arith, one, two) }
    late false = let one = length-append v.messages ((let m : Message = record { body = position_of (next_entry v) (next_commit v edit purge); dropped = false } in m) ∷ []) in record { longer = omega (arith, one) }

wait : (id : ℕ) (last : Bool) (view : OpenView) (v : World) (answer : Option Answer) (w : World) → Waits id last view v answer w → Issues v w
wait id last view v answer w row = to v _ w (by (lag_of v view)) row.1
  where
    choose : (b : Bool) (lag : Lag) → Issues v ((cond b (let o : Option Answer × World = (Some (lag_answer lag), without_request id v) in o) (None, v)).1)
    choose true lag = stay v _ refl
    choose false lag = same v

    by : (o : Option Lag) → Issues v ((waited id view last v o).1)
    by None = stay v _ refl
    by (Some lag) = choose (gives_up v view last) lag

look : (id : ℕ) (p : OpenView × Floor) (v : World) (answer : Option Answer) (w : World) → Looks id p v answer w → Issues v w
look id (view, floor) v (Some (Answer.Page page)) w row = to v _ w (stay v _ refl) row.2
look id (view, floor) v (Some (Answer.Miss cause)) w row = to v _ w (stay v _ refl) row.2
look id (view, floor) v (Some Answer.NoMemory) w row = to v _ w (stay v _ refl) row
look id (view, floor) v (Some _) w row = absurd row
look id (view, floor) v None w row = absurd row

snap : (id : ℕ) (p : OpenView × Floor) (v : World) (answer : Option Answer) (w : World) → Snaps id p v answer w → Issues v w
snap id (view, floor) v None w row = to v _ w (stay v _ refl) row.2
snap id (view, floor) v (Some a) w row = out_of_memory v _ w a (stay v _ refl) row

store : (id : ℕ) (p : OpenView × Floor × Snapshot) (v : World) (answer : Option Answer) (w : World) → Stores id p v answer w → Issues v w
store id (view, floor, s) v (Some (Answer.Page p)) w row =
    to v _ w (goes-on v (kept v view.region p row.1) _ (event view.region (Kept (stored v view.region p row.1)) v) (stay (kept v view.region p row.1) _ refl)) row.4
store id (view, floor, s) v (Some (Answer.NoPage source)) w row = to v _ w (stay v _ refl) row.1
store id (view, floor, s) v (Some Answer.NoMemory) w row = to v _ w (stay v _ refl) row
store id (view, floor, s) v (Some _) w row = absurd row
store id (view, floor, s) v None w row = absurd row

apply : (r : Region) (replica count : ℕ) (v : World) (answer : Option Answer) (w : World) → Applies r replica count v answer w → Issues v w
apply r replica count v None w row = to v _ w (at-site r (applied_in replica (reach v r replica count) (site r v)) v refl) row
apply r replica count v (Some a) w row = refused v _ w a (at-site r (applied_in replica row.0 (site r v)) v refl) row.3

carry : (number : ℕ) (shown : Option Body) (v : World) (answer : Option Answer) (w : World) → Carries number shown v answer w → Issues v w
carry number shown v None w row = to v _ w (body row.0.body) row.3
  where
    body : (b : Body) → Issues v (carried b v)
    body (Purge purge title issued) = event West (Received purge title (moment West v)) v
    body (Position client index entry stamp) = at-site West (heard_in entry v.west) v refl
carry number shown v (Some (Answer.Gone m)) w row = to v v w (same v) row.2
carry number shown v (Some (Answer.Unknown m)) w row = to v v w (same v) row.2
carry number shown v (Some Answer.NoMemory) w row = to v v w (same v) row.1
carry number shown v (Some _) w row = absurd row

row-goes : (step : Step) (v : World) (answer : Option Answer) (w : World) → Allows step v answer w → Issues v w
row-goes Step.MakeBeat v None w row = to v (with_entry (Beat (moment Home v)) v) w (stay v (with_entry (Beat (moment Home v)) v) refl) row
row-goes Step.MakeBeat v (Some a) w row = refused v v w a (same v) row
row-goes (Step.Arrive id asked) v None w row = to v (with_request id (request_of v asked) v) w (stay v _ refl) row
row-goes (Step.Arrive id asked) v (Some a) w row = out_of_memory v v w a (same v) row
row-goes (Step.Begin id) v None w row = at_point _ id v None w (λ edit. Begins id edit v None w) (λ (edit : Edit) (r : Begins id edit v None w). to v (begun id edit v) w (let one = length-append v.messages ((let m : Message = record { body = Purge (length v.messages + 1) edit.title v.home.moment; dropped = false } in m) ∷ []) in record { longer = omega (arith, one) }) r.1) row
row-goes (Step.Begin id) v (Some a) w row = at_point _ id v (Some a) w _ (λ edit r. decided (edit_answer v.history edit) id v w a r) row
row-goes (Step.CommitEdit id) v answer w row = at_point _ id v answer w _ (λ p r. commit id p v answer w r) row
row-goes (Step.Wait id last) v answer w row = at_point _ id v answer w _ (λ view r. wait id last view v answer w r) row
row-goes (Step.Look id) v answer w row = at_point _ id v answer w _ (λ p r. look id p v answer w r) row
row-goes (Step.Snap id) v answer w row = at_point _ id v answer w _ (λ p r. snap id p v answer w r) row
row-goes (Step.Store id) v answer w row = at_point _ id v answer w _ (λ p r. store id p v answer w r) row
row-goes (Step.Apply r replica count) v answer w row = apply r replica count v answer w row
row-goes (Step.Carry number shown) v answer w row = carry number shown v answer w row
row-goes (Step.Drop number) v answer w row = to v _ w (by (message_at v number)) row.1
  where
    by : (o : Option Message) → Issues v ((dropped number v o).1)
    by None = same v
    by (Some m) = let kept_all = drop-length v.messages number in record { longer = omega (arith, kept_all) }
row-goes (Step.Need id) v answer w row = to v _ w (by (waited_view (request_at v id))) row.1
  where
    by : (o : Option (OpenView × Floor)) → Issues v (closed_if id v o)
    by None = same v
    by (Some p) = stay v _ refl
row-goes (Step.SetMarkup markup) v answer w row = to v (record v { markup = markup }) w (stay v _ refl) row.1
row-goes (Step.Round r jobs) v answer w row = absurd row

received-goes : (r : Region) (jobs : List Job) (v : World) → Issues v (received r jobs v)
received-goes r [] v = same v
received-goes r (ViewJob title need word ∷ jobs) v = received-goes r jobs v
received-goes r (ReceiptJob purge ∷ jobs) v = goes-on v (received_message r (message_at v purge) v) _ (by (message_at v purge)) (received-goes r jobs (received_message r (message_at v purge) v))
  where
    by : (o : Option Message) → Issues v (received_message r o v)
    by None = same v
    by (Some m) = go m.body
      where
        go : (b : Body) → Issues v (received_body r b v)
        go (Purge p title issued) = event r (Received p title (moment r v)) v
        go (Position client index entry stamp) = same v

rounded-goes : (r : Region) (jobs : List Job) (lost : Bool) (answers : List Answer) (v : World) → Issues v (rounded r jobs lost answers v)
rounded-goes r jobs lost answers v = goes-on v (received r jobs v) _ (received-goes r jobs v) (event r (Rounded (batch v r jobs lost answers)) (received r jobs v))

round-goes : (r : Region) (jobs : List Job) (v : World) (answers : Option (List Answer)) (w : World) → MakesRound r jobs v answers w → Issues v w
round-goes r jobs v (Some answers) w row = to v _ w (rounded-goes r jobs false answers v) row.2
round-goes r jobs v None w row = to v _ w (rounded-goes r jobs true [] v) row.1

takes-goes : (step : Step) (v : World) (reply : Reply) (w : World) → Takes step v reply w → Issues v w
takes-goes (Step.Round r jobs) v (Many answers) w t = round-goes r jobs v answers w t
takes-goes step v (One answer) w t = row-goes step v answer w t
takes-goes step v (Many answers) w t = absurd t

uncounted : (n : ℕ) (v w : World) → Issues v (with_faults n w) → Issues v w
uncounted n v w g = record { longer = g.longer }

leads-issue : (v : World) (turn : Turn) (w : World) → Leads v turn w → Issues v w
leads-issue v turn w l = goes-on v (at_readings turn.at v) w (read turn.at v) (uncounted v.faults (at_readings turn.at v) w (takes-goes turn.step (at_readings turn.at v) turn.reply (with_faults v.faults w) l.takes))

-- over the turns of a request
pub goes-issue : (turns : List Turn) (v w : World) → GoesBy v turns w → length v.messages ≤ length w.messages
goes-issue [] v w goes = (to v v w (same v) goes).longer
goes-issue (turn ∷ turns) v w (u, leads, others) = let one = (leads-issue v turn u leads).longer in let more = goes-issue turns u w others in omega (arith, one, more)

pub goes-grow : (turns : List Turn) (v w : World) → GoesBy v turns w → Goes v w
goes-grow [] v w goes = subst (Goes v) (sym goes) (record { more = []; history = sym (append-nil v.history); setting = refl; home = omega arith; west = omega arith })
goes-grow (turn ∷ turns) v w (u, leads, others) = history-on v u w (leads-goes v turn u leads) (goes-grow turns u w others)
