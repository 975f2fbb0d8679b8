-- Each commit of a run has a prompt purge: the one that it names, or the second one of a commit that came late.
-- By cases on the steps: only a commit that is appended needs one.
use Rattle.std.proofs.Common.{◌≡◌, ℕ, ◌≤◌, List, [], ◌∷◌, ◌++◌, Bool, true, false, cond, Some, None, Option, refl, sym, ◌∙◌, ap, arith, subst, inl, inr, zero, suc, ◌<◌, ◌+◌, ◌⊎◌, length, nat_lt}
use Rattle.std.specs.Prelude.{slice_get}
use Rattle.std.proofs.lemmas.Bool.Decides.{nat_tests}
use Rattle.wiki_model.specs.declared.Region.{Region}
use Rattle.wiki_model.specs.declared.Region.TheVariants.{Home, West}
use Rattle.wiki_model.specs.declared.Readings.{Readings}
use Rattle.wiki_model.specs.Bytes.{IsIn}
use Rattle.wiki_model.specs.Titles.{Title}
use Rattle.wiki_model.specs.HoldOff.{IsIssued, IsPrompt, HasPrompt}
use Rattle.wiki_model.specs.History.{Entry, Beat, Committed, Commit, Edit, commit_at, commit_of}
use Rattle.wiki_model.specs.Answers.{Answer, edit_answer}
use Rattle.wiki_model.specs.World.{World, Setting, Site, Request, with_applied, site, moment, Body, Message, message_at, request_at, Event, Job, at_readings, with_entry, with_event, event_in, with_site, heard_in, applied_in, without_request, with_request, with_message, OpenView, Floor, Snapshot}
use Rattle.wiki_model.specs.World.Request.{EditArrived, EditBegun, ViewArrived, ViewWaited, ViewLooked, ViewSnapped}
use Rattle.wiki_model.specs.World.Event.{Received, Kept, Rounded}
use Rattle.wiki_model.specs.World.Job.{ViewJob, ReceiptJob}
use Rattle.wiki_model.specs.World.Body.{Purge, Position}
use Rattle.wiki_model.specs.Sessions.{Lag, lag_of}
use Rattle.wiki_model.specs.Steps.{Step, Allows, AtPoint, IsRefused, IsOutOfMemory, Begins, Commits, Waits, Looks, Snaps, Stores, Carries, Decided, begun_edit, purged, next_message, is_after, is_late_by, is_late, purged_again, next_entry, next_commit, waited, gives_up, lag_answer, waited_view, carried, dropped, closed_if, kept, stored, reach, position_of, request_of, begun, added}
use Rattle.wiki_model.specs.Rounds.{MakesRound, rounded, received, received_message, received_body, batch}
use Rattle.wiki_model.specs.Runs.{Turn, Reply, One, Many, Takes, IsRun, opening, with_faults}
use Rattle.wiki_model.specs.Consistent.{IsConsistent, IsOpened, IsPurge}
use Rattle.wiki_model.proofs.ConsistentLaws.{readings-keep, message-later, dropping-later}
use Rattle.wiki_model.proofs.StepLaws.{opened-run-keeps, purged-is_issued}
use Rattle.wiki_model.proofs.HistoryGrowth.{commit-cases}
use Rattle.wiki_model.proofs.HoldOffLaws.{commit-within}

-- what was said of purges is still said, and each new commit has a prompt one
record Keeps (v w : World) : Type 0 where
  pub issued : (p : ℕ) (t : Title) (q : ℕ) → IsIssued v p t q → IsIssued w p t q
  pub repeated : (x : ℕ × ℕ) → IsIn x v.repeated → IsIn x w.repeated
  pub setting : w.setting ≡ v.setting
  pub commits : (n : ℕ) (c : Commit) → commit_at w.history n ≡ Some c → (commit_at v.history n ≡ Some c) ⊎ HasPrompt w n c

like : (v w : World) → w.messages ≡ v.messages → w.repeated ≡ v.repeated → w.setting ≡ v.setting → w.history ≡ v.history → Keeps v w
like v w m r s h = record {
  issued = λ p t q i. (i.0, at p i.0 i.1, i.2);
  repeated = λ x e. subst (IsIn x) (sym r) e;
  setting = s;
  commits = λ n c e. inl (ap (λ (x : List Entry). commit_at x n) (sym h) ∙ e);
}
  where
    at : (p : ℕ) (m1 : Message) → message_at v p ≡ Some m1 → message_at w p ≡ Some m1
    at zero m1 e = e
    at (suc p) m1 e = ap (λ (ms : List Message). slice_get ms p) m ∙ e

same : (v : World) → Keeps v v
same v = like v v refl refl refl refl

prompt-on : (v w : World) (n : ℕ) (c : Commit) → ((p : ℕ) (t : Title) (q : ℕ) → IsIssued v p t q → IsIssued w p t q) → ((x : ℕ × ℕ) → IsIn x v.repeated → IsIn x w.repeated) → w.setting ≡ v.setting → HasPrompt v n c → HasPrompt w n c
prompt-on v w n c issued repeated setting h = record {
  purge = h.purge;
  issued = h.issued;
  of = of h.of;
  is_issued = issued h.purge c.edit.title h.issued h.is_issued;
  prompt = subst (λ (s : Setting). IsPrompt s.bounds c h.issued) (sym setting) h.prompt;
}
  where
    of : (h.purge ≡ c.purge) ⊎ IsIn (n, h.purge) v.repeated → (h.purge ≡ c.purge) ⊎ IsIn (n, h.purge) w.repeated
    of (inl e) = inl e
    of (inr e) = inr (repeated (n, h.purge) e)

goes-on : (u v w : World) → Keeps u v → Keeps v w → Keeps u w
goes-on u v w a b = record {
  issued = λ p t q i. b.issued p t q (a.issued p t q i);
  repeated = λ x e. b.repeated x (a.repeated x e);
  setting = b.setting ∙ a.setting;
  commits = λ n c e. by n c (b.commits n c e);
}
  where
    by : (n : ℕ) (c : Commit) → (commit_at v.history n ≡ Some c) ⊎ HasPrompt w n c → (commit_at u.history n ≡ Some c) ⊎ HasPrompt w n c
    by n c (inr h) = inr h
    by n c (inl e) = old n c (a.commits n c e)
      where
        old : (n : ℕ) (c : Commit) → (commit_at u.history n ≡ Some c) ⊎ HasPrompt v n c → (commit_at u.history n ≡ Some c) ⊎ HasPrompt w n c
        old n c (inl e) = inl e
        old n c (inr h) = inr (prompt-on v w n c b.issued b.repeated b.setting h)

to : (v x w : World) → Keeps v x → w ≡ x → Keeps v w
to v x w g e = subst (Keeps v) (sym e) g

at-site : (r : Region) (s : Site) (v : World) → Keeps v (with_site r s v)
at-site r s v = like v (with_site r s v) refl refl refl refl

event : (r : Region) (e : Event) (v : World) → Keeps v (with_event r e v)
event r e v = at-site r (event_in e (site r v)) v

refused : (v x w : World) (a : Answer) → Keeps v x → IsRefused x w a → Keeps v w
refused v x w Answer.NoMemory g e = to v x w g e
refused v x w Answer.StoreFault g e = to v x w g e
refused v x w _ g e = absurd e

out_of_memory : (v x w : World) (a : Answer) → Keeps v x → IsOutOfMemory x w a → Keeps v w
out_of_memory v x w Answer.NoMemory g e = to v x w g e
out_of_memory v x w _ g e = absurd e

at_point : {A : Type 0} (o : Option A) (id : ℕ) (v : World) (answer : Option Answer) (w : World) (P : A → Type 0) → ((a : A) → P a → Keeps v w) → AtPoint o id v answer w P → Keeps v w
at_point None id v answer w P f row = to v v w (same v) row.1
at_point (Some a) id v answer w P f row = f a row

decided : (d : Option Answer) (id : ℕ) (v w : World) (a : Answer) → Decided d id v w a → Keeps v w
decided d id v w Answer.StoreFault row = to v _ w (like v _ refl refl refl refl) row
decided d id v w Answer.NoMemory row = to v _ w (like v _ refl refl refl refl) row
decided d id v w _ row = to v _ w (like v _ refl refl refl refl) row.1

entry-keeps : (entry : Entry) (v : World) → ((c : Commit) → commit_of entry ≡ Some c → ⊥) → Keeps v (with_entry entry v)
entry-keeps entry v none = record {
  issued = λ p t q i. i;
  repeated = λ x e. e;
  setting = refl;
  commits = λ n c e. by n c e;
}
  where
    by : (n : ℕ) (c : Commit) → commit_at (v.history ++ entry ∷ []) n ≡ Some c → (commit_at v.history n ≡ Some c) ⊎ HasPrompt (with_entry entry v) n c
    by zero c e = let no : ⊥ = cc in absurd no
    by (suc n) c e = go (commit-cases v.history entry n c e)
      where
        go : ((n < length v.history) × (commit_at v.history (suc n) ≡ Some c)) ⊎ ((n ≡ length v.history) × (commit_of entry ≡ Some c)) → (commit_at v.history (suc n) ≡ Some c) ⊎ HasPrompt (with_entry entry v) (suc n) c
        go (inl x) = inl x.1
        go (inr x) = absurd (none c x.1)

message-keeps : (body : Body) (v : World) → Keeps v (with_message body v)
message-keeps body v = record { issued = (message-later v body).issued; repeated = λ x e. e; setting = refl; commits = λ n c e. inl e }

-- a world that has one commit more than v, which has a prompt purge
one-more : (v w : World) (commit : Commit) → w.history ≡ v.history ++ Committed commit ∷ [] → w.setting ≡ v.setting → ((p : ℕ) (t : Title) (q : ℕ) → IsIssued v p t q → IsIssued w p t q) → ((x : ℕ × ℕ) → IsIn x v.repeated → IsIn x w.repeated)
    → HasPrompt w (suc (length v.history)) commit → Keeps v w
one-more v w commit history setting issued repeated prompt = record {
  issued = issued;
  repeated = repeated;
  setting = setting;
  commits = λ n c e. by n c (ap (λ (h : List Entry). commit_at h n) (sym history) ∙ e);
}
  where
    by : (n : ℕ) (c : Commit) → commit_at (v.history ++ Committed commit ∷ []) n ≡ Some c → (commit_at v.history n ≡ Some c) ⊎ HasPrompt w n c
    by zero c e = let no : ⊥ = cc in absurd no
    by (suc n) c e = go (commit-cases v.history (Committed commit) n c e)
      where
        go : ((n < length v.history) × (commit_at v.history (suc n) ≡ Some c)) ⊎ ((n ≡ length v.history) × (commit_of (Committed commit) ≡ Some c)) → (commit_at v.history (suc n) ≡ Some c) ⊎ HasPrompt w (suc n) c
        go (inl x) = inl x.1
        go (inr x) = let same : commit ≡ c = let e : Some commit ≡ Some c = x.1 in cc in inr (subst (λ (k : ℕ). HasPrompt w (suc k) c) (sym x.0) (subst (HasPrompt w (suc (length v.history))) same prompt))

abbrev told : ℕ → Edit → (purge : ℕ) → (v x : World) → World
told id edit purge v x = without_request id (with_message (position_of (next_entry v) (next_commit v edit purge)) x)

early : (id : ℕ) (edit : Edit) (purge : ℕ) (v : World) → IsPurge v purge edit.title → is_late v purge ≡ false → Keeps v (told id edit purge v (added edit purge v))
early id edit purge v is soon = one-more v (told id edit purge v (added edit purge v)) (next_commit v edit purge) refl refl still (λ x e. e)
    (record { purge = purge; issued = is.0; of = inl refl; is_issued = still purge edit.title is.0 is.1; prompt = prompt })
  where
    still : (p : ℕ) (t : Title) (q : ℕ) → IsIssued v p t q → IsIssued (told id edit purge v (added edit purge v)) p t q
    still = (message-later (added edit purge v) (position_of (next_entry v) (next_commit v edit purge))).issued

    prompt : moment Home v ≤ is.0 + v.setting.bounds.commit_delay
    prompt =
        let found : is_late v purge ≡ is_late_by v (Some is.1.0) = ap (is_late_by v) is.1.1 in
        let of : is_late_by v (Some is.1.0) ≡ nat_lt (is.0 + v.setting.bounds.commit_delay) (moment Home v) = ap (is_after v.setting.bounds.commit_delay (moment Home v)) is.1.2 in
        let test : nat_lt (is.0 + v.setting.bounds.commit_delay) (moment Home v) ≡ false = sym of ∙ sym found ∙ soon in
        grind (arith, nat_tests, test)

late-keeps : (id : ℕ) (edit : Edit) (purge : ℕ) (v : World) → Keeps v (told id edit purge v (purged_again (next_entry v) edit.title (added edit purge v)))
late-keeps id edit purge v = one-more v w (next_commit v edit purge) refl refl still (λ x e. inr e)
    (record { purge = next_message v; issued = moment Home v; of = inr (inl number); is_issued = told-on (next_message v) edit.title (moment Home v) (purged-is_issued edit.title (added edit purge v)); prompt = omega arith })
  where
    x : World
    x = purged_again (next_entry v) edit.title (added edit purge v)

    w : World
    w = told id edit purge v (purged_again (next_entry v) edit.title (added edit purge v))

    number : (let p : ℕ × ℕ = (suc (length v.history), next_message v) in p) ≡ (next_entry v, next_message v)
    number = let e : suc (length v.history) ≡ next_entry v = omega arith in ap (λ (n : ℕ). let p : ℕ × ℕ = (n, next_message v) in p) e

    told-on : (p : ℕ) (t : Title) (q : ℕ) → IsIssued (purged edit.title (added edit purge v)) p t q → IsIssued (told id edit purge v (purged_again (next_entry v) edit.title (added edit purge v))) p t q
    told-on = (message-later (purged edit.title (added edit purge v)) (position_of (next_entry v) (next_commit v edit purge))).issued

    still : (p : ℕ) (t : Title) (q : ℕ) → IsIssued v p t q → IsIssued (told id edit purge v (purged_again (next_entry v) edit.title (added edit purge v))) p t q
    still p t q i = told-on p t q ((message-later (added edit purge v) (Purge (next_message v) edit.title (moment Home v))).issued p t q i)

commit : (id : ℕ) (p : Edit × ℕ) (v : World) (answer : Option Answer) (w : World) → IsPurge v p.1 p.0.title → Commits id p v answer w → Keeps v w
commit id (edit, purge) v None w is row = absurd row
commit id (edit, purge) v (Some a) w is (inl row) = decided (edit_answer v.history edit) id v w a row
commit id (edit, purge) v (Some a) w is (inr row) = to v _ w (by (is_late v purge) refl) row.2
  where
    by : (b : Bool) → is_late v purge ≡ b → Keeps v (told id edit purge v (cond b (purged_again (next_entry v) edit.title (added edit purge v)) (added edit purge v)))
    by true e = late-keeps id edit purge v
    by false e = early id edit purge v is e

wait : (id : ℕ) (last : Bool) (view : OpenView) (v : World) (answer : Option Answer) (w : World) → Waits id last view v answer w → Keeps v w
wait id last view v answer w row = to v _ w (by (lag_of v view)) row.1
  where
    choose : (b : Bool) (lag : Lag) → Keeps v ((cond b (let o : Option Answer × World = (Some (lag_answer lag), without_request id v) in o) (None, v)).1)
    choose true lag = like v _ refl refl refl refl
    choose false lag = same v

    by : (o : Option Lag) → Keeps v ((waited id view last v o).1)
    by None = like v _ refl refl refl refl
    by (Some lag) = choose (gives_up v view last) lag

look : (id : ℕ) (p : OpenView × Floor) (v : World) (answer : Option Answer) (w : World) → Looks id p v answer w → Keeps v w
look id (view, floor) v (Some (Answer.Page page)) w row = to v _ w (like v _ refl refl refl refl) row.2
look id (view, floor) v (Some (Answer.Miss cause)) w row = to v _ w (like v _ refl refl refl refl) row.2
look id (view, floor) v (Some Answer.NoMemory) w row = to v _ w (like v _ refl refl refl refl) row
look id (view, floor) v (Some _) w row = absurd row
look id (view, floor) v None w row = absurd row

snap : (id : ℕ) (p : OpenView × Floor) (v : World) (answer : Option Answer) (w : World) → Snaps id p v answer w → Keeps v w
snap id (view, floor) v None w row = to v _ w (like v _ refl refl refl refl) row.2
snap id (view, floor) v (Some a) w row = out_of_memory v _ w a (like v _ refl refl refl refl) row

store : (id : ℕ) (p : OpenView × Floor × Snapshot) (v : World) (answer : Option Answer) (w : World) → Stores id p v answer w → Keeps v w
store id (view, floor, s) v (Some (Answer.Page p)) w row =
    to v _ w (goes-on v (kept v view.region p row.1) _ (event view.region (Kept (stored v view.region p row.1)) v) (like (kept v view.region p row.1) _ refl refl refl refl)) row.4
store id (view, floor, s) v (Some (Answer.NoPage source)) w row = to v _ w (like v _ refl refl refl refl) row.1
store id (view, floor, s) v (Some Answer.NoMemory) w row = to v _ w (like v _ refl refl refl refl) row
store id (view, floor, s) v (Some _) w row = absurd row
store id (view, floor, s) v None w row = absurd row

carry : (number : ℕ) (shown : Option Body) (v : World) (answer : Option Answer) (w : World) → Carries number shown v answer w → Keeps v w
carry number shown v None w row = to v _ w (body row.0.body) row.3
  where
    body : (b : Body) → Keeps v (carried b v)
    body (Purge purge title issued) = event West (Received purge title (moment West v)) v
    body (Position client index entry stamp) = at-site West (heard_in entry v.west) v
carry number shown v (Some (Answer.Gone m)) w row = to v v w (same v) row.2
carry number shown v (Some (Answer.Unknown m)) w row = to v v w (same v) row.2
carry number shown v (Some Answer.NoMemory) w row = to v v w (same v) row.1
carry number shown v (Some _) w row = absurd row

was-begun : (o : Option Request) (p : Edit × ℕ) → begun_edit o ≡ Some p → o ≡ Some (EditBegun p.0 p.1)
was-begun None p e = let no : ⊥ = cc in absurd no
was-begun (Some (EditBegun edit purge)) p e = let same : (let x : Edit × ℕ = (edit, purge) in x) ≡ p = cc in ap (λ (q : Edit × ℕ). Some (EditBegun q.0 q.1)) same
was-begun (Some (EditArrived edit)) p e = let no : ⊥ = cc in absurd no
was-begun (Some (ViewArrived view)) p e = let no : ⊥ = cc in absurd no
was-begun (Some (ViewWaited view floor)) p e = let no : ⊥ = cc in absurd no
was-begun (Some (ViewLooked view floor)) p e = let no : ⊥ = cc in absurd no
was-begun (Some (ViewSnapped view floor s)) p e = let no : ⊥ = cc in absurd no

at_begun : (o : Option (Edit × ℕ)) (id : ℕ) (v : World) (answer : Option Answer) (w : World) → ((p : Edit × ℕ) → o ≡ Some p → Commits id p v answer w → Keeps v w) → AtPoint o id v answer w (λ p. Commits id p v answer w) → Keeps v w
at_begun None id v answer w f row = to v v w (same v) row.1
at_begun (Some p) id v answer w f row = f p refl row

row-goes : (step : Step) (v : World) (answer : Option Answer) (w : World) → IsConsistent v → Allows step v answer w → Keeps v w
row-goes Step.MakeBeat v None w c row = to v (with_entry (Beat (moment Home v)) v) w (entry-keeps (Beat (moment Home v)) v (λ d e. let no : ⊥ = cc in no)) row
row-goes Step.MakeBeat v (Some a) w c row = refused v v w a (same v) row
row-goes (Step.Arrive id asked) v None w c row = to v (with_request id (request_of v asked) v) w (like v _ refl refl refl refl) row
row-goes (Step.Arrive id asked) v (Some a) w c row = out_of_memory v v w a (same v) row
row-goes (Step.Begin id) v None w c row = at_point _ id v None w (λ edit. Begins id edit v None w) (λ (edit : Edit) (r : Begins id edit v None w). to v (begun id edit v) w (goes-on v (with_message (Purge (next_message v) edit.title (moment Home v)) v) (begun id edit v) (message-keeps (Purge (next_message v) edit.title (moment Home v)) v) (like (with_message (Purge (next_message v) edit.title (moment Home v)) v) (begun id edit v) refl refl refl refl)) r.1) row
row-goes (Step.Begin id) v (Some a) w c row = at_point _ id v (Some a) w _ (λ edit r. decided (edit_answer v.history edit) id v w a r) row
row-goes (Step.CommitEdit id) v answer w c row = at_begun (begun_edit (request_at v id)) id v answer w (λ p e r. commit id p v answer w (c.requests id (EditBegun p.0 p.1) (was-begun (request_at v id) p e)) r) row
row-goes (Step.Wait id last) v answer w c row = at_point _ id v answer w _ (λ view r. wait id last view v answer w r) row
row-goes (Step.Look id) v answer w c row = at_point _ id v answer w _ (λ p r. look id p v answer w r) row
row-goes (Step.Snap id) v answer w c row = at_point _ id v answer w _ (λ p r. snap id p v answer w r) row
row-goes (Step.Store id) v answer w c row = at_point _ id v answer w _ (λ p r. store id p v answer w r) row
row-goes (Step.Apply r replica count) v None w c row = to v (with_applied r replica (reach v r replica count) v) w (at-site r (applied_in replica (reach v r replica count) (site r v)) v) row
row-goes (Step.Apply r replica count) v (Some a) w c row = refused v (with_applied r replica row.0 v) w a (at-site r (applied_in replica row.0 (site r v)) v) row.3
row-goes (Step.Carry number shown) v answer w c row = carry number shown v answer w row
row-goes (Step.Drop number) v answer w c row = to v _ w (by (message_at v number)) row.1
  where
    by : (o : Option Message) → Keeps v ((dropped number v o).1)
    by None = same v
    by (Some m) = record { issued = (dropping-later number v).issued; repeated = λ x e. e; setting = refl; commits = λ n c e. inl e }
row-goes (Step.Need id) v answer w c row = to v _ w (by (waited_view (request_at v id))) row.1
  where
    by : (o : Option (OpenView × Floor)) → Keeps v (closed_if id v o)
    by None = same v
    by (Some p) = like v _ refl refl refl refl
row-goes (Step.SetMarkup markup) v answer w c row = to v (record v { markup = markup }) w (like v _ refl refl refl refl) row.1
row-goes (Step.Round r jobs) v answer w c row = absurd row

received-goes : (r : Region) (jobs : List Job) (v : World) → Keeps v (received r jobs v)
received-goes r [] v = same v
received-goes r (ViewJob title need word ∷ jobs) v = received-goes r jobs v
received-goes r (ReceiptJob purge ∷ jobs) v = goes-on v (received_message r (message_at v purge) v) _ (by (message_at v purge)) (received-goes r jobs (received_message r (message_at v purge) v))
  where
    by : (o : Option Message) → Keeps v (received_message r o v)
    by None = same v
    by (Some m) = go m.body
      where
        go : (b : Body) → Keeps v (received_body r b v)
        go (Purge p title issued) = event r (Received p title (moment r v)) v
        go (Position client index entry stamp) = same v

rounded-goes : (r : Region) (jobs : List Job) (lost : Bool) (answers : List Answer) (v : World) → Keeps v (rounded r jobs lost answers v)
rounded-goes r jobs lost answers v = goes-on v (received r jobs v) _ (received-goes r jobs v) (event r (Rounded (batch v r jobs lost answers)) (received r jobs v))

round-goes : (r : Region) (jobs : List Job) (v : World) (answers : Option (List Answer)) (w : World) → MakesRound r jobs v answers w → Keeps v w
round-goes r jobs v (Some answers) w row = to v _ w (rounded-goes r jobs false answers v) row.2
round-goes r jobs v None w row = to v _ w (rounded-goes r jobs true [] v) row.1

takes-goes : (step : Step) (v : World) (reply : Reply) (w : World) → IsConsistent v → Takes step v reply w → Keeps v w
takes-goes (Step.Round r jobs) v (Many answers) w c t = round-goes r jobs v answers w t
takes-goes step v (One answer) w c t = row-goes step v answer w c t
takes-goes step v (Many answers) w c t = absurd t

-- Each commit of the run has a prompt purge.
commits-prompt : (setting : Setting) (history : List Entry) (faults : ℕ) (at : Readings) → IsOpened setting history → (turns : List Turn) (w : World) → IsRun (opening setting history faults at) turns w
    → (n : ℕ) (c : Commit) → commit_at w.history n ≡ Some c → (commit_at history n ≡ Some c) ⊎ HasPrompt w n c
commits-prompt setting history faults at o [] w run n c e = inl (ap (λ (x : World). commit_at x.history n) run.0 ∙ e)
commits-prompt setting history faults at o (turn ∷ earlier) w run n c e = by (goes.commits n c e) (λ old. commits-prompt setting history faults at o earlier run.0 run.1 n c old)
  where
    goes : Keeps (at_readings turn.at run.0) (with_faults run.0.faults w)
    goes = takes-goes turn.step (at_readings turn.at run.0) turn.reply (with_faults run.0.faults w) (readings-keep turn.at run.0 (opened-run-keeps setting history faults at earlier run.0 o run.1)) run.2.takes

    here : HasPrompt (with_faults run.0.faults w) n c → HasPrompt w n c
    here h = record { purge = h.purge; issued = h.issued; of = h.of; is_issued = h.is_issued; prompt = h.prompt }

    by : (commit_at run.0.history n ≡ Some c) ⊎ HasPrompt (with_faults run.0.faults w) n c → (commit_at run.0.history n ≡ Some c → (commit_at history n ≡ Some c) ⊎ HasPrompt run.0 n c) → (commit_at history n ≡ Some c) ⊎ HasPrompt w n c
    by (inr h) rec = inr (here h)
    by (inl old) rec = go (rec old)
      where
        go : (commit_at history n ≡ Some c) ⊎ HasPrompt run.0 n c → (commit_at history n ≡ Some c) ⊎ HasPrompt w n c
        go (inl first) = inl first
        go (inr h) = inr (here (prompt-on (at_readings turn.at run.0) (with_faults run.0.faults w) n c goes.issued goes.repeated goes.setting
            (record { purge = h.purge; issued = h.issued; of = h.of; is_issued = h.is_issued; prompt = h.prompt })))

-- A commit that was there at the opening has a number up to its length; each later one has a prompt purge.
pub prompt-purged : (setting : Setting) (history : List Entry) (faults : ℕ) (at : Readings) (turns : List Turn) (w : World) (n : ℕ) (c : Commit)
    → IsOpened setting history → IsRun (opening setting history faults at) turns w → length history < n → commit_at w.history n ≡ Some c → HasPrompt w n c
prompt-purged setting history faults at turns w n c o run past e = by (commits-prompt setting history faults at o turns w run n c e)
  where
    by : (commit_at history n ≡ Some c) ⊎ HasPrompt w n c → HasPrompt w n c
    by (inr h) = h
    by (inl first) = let within = (commit-within history n c first).0 in let no : ⊥ = omega (arith, within, past) in absurd no
