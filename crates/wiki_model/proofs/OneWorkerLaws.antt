-- A round of one worker, done job by job, is allowed, and the cache then stands for the world after the round.
-- By induction over the jobs, with a second world in which each earlier job is an event of its own.
use Rattle.std.proofs.Common.{◌≡◌, ◌≢◌, ℕ, zero, suc, ◌+◌, ◌-◌, ◌≤◌, ◌⊎◌, List, [], ◌∷◌, ◌++◌, Bool, true, false, ◌||◌, Some, None, Option, option_map, refl, sym, ◌∙◌, ap, arith, subst, inl, inr}
use Rattle.std.specs.Prelude.{filter_map}
use Rattle.std.specs.List.{AllByRecursion, cons_option}
use Rattle.wiki_model.specs.declared.Region.{Region}
use Rattle.wiki_model.specs.declared.Class.{Class}
use Rattle.wiki_model.specs.declared.Origin.{Origin}
use Rattle.wiki_model.specs.declared.Put.{Put}
use Rattle.wiki_model.specs.declared.PutNote.{PutNote}
use Rattle.wiki_model.specs.declared.SetRule.{SetRule}
use Rattle.wiki_model.specs.Bytes.{IsIn, Bytes}
use Rattle.wiki_model.specs.Titles.{Title, Text}
use Rattle.wiki_model.specs.History.{Entry, is_shared_title, page_text}
use Rattle.wiki_model.specs.Html.{html, html_of_text}
use Rattle.wiki_model.specs.Limits.{hold_off}
use Rattle.wiki_model.specs.Cache.{CacheMap, Cached, Found, Hit, Interim, Missed, IsCache, Places, Ask, set_rule, look}
use Rattle.wiki_model.specs.World.{World, Setting, site, moment, Event, Stored, Batch, Job, Snapshot, Floor, Message, message_at, with_event}
use Rattle.wiki_model.specs.World.Event.{Received, Kept, Rounded}
use Rattle.wiki_model.specs.World.Job.{ViewJob, ReceiptJob}
use Rattle.wiki_model.specs.HoldOff.{HasReceipt, IsIssued}
use Rattle.wiki_model.specs.Values.{IsTrueValue}
use Rattle.wiki_model.specs.Reuse.{IsQuiet, IsNote, LeavesTitle, LastStored, matters, main_life, interim_life}
use Rattle.wiki_model.specs.Answers.{Answer, PageAnswer, IsSnapshot, IsCached, IsFromCache, IsSoundFromCache, IsSoundFromReplica, HasRaised, HasMaker, HasMark, WasMadeBy, ChosenReplica}
use Rattle.wiki_model.specs.Answers.Answer.{Page, NoPage}
use Rattle.wiki_model.specs.Steps.{stored}
use Rattle.wiki_model.specs.Rounds.{MakesRound, AnswersJobs, IsJobAnswer, IsForcedJob, ComesFrom, JobLeaves, OfMessage, OfPurge, IsProperJob, rounded, received, batch, stored_by, floor_for}
use Rattle.wiki_model.specs.Caches.{CacheStands, IsTrueIn, IsRaisedBy, class_check}
use Rattle.wiki_model.specs.Consistent.{IsConsistent, IsPurge, event_at}
use Rattle.wiki_model.specs.Changes.{IsEvent}
use Rattle.wiki_model.specs.CacheCalls.{TakesPurge, IsNoteOf, IsMarkedBy, ask_of, answer_from, answer_of_replica, value_of_snapshot}
use Rattle.wiki_model.specs.OneWorker.{TakesReceipt, PutsValue, KeepsPage, Renders, AnswersFound, AnswersView, DoesJobs}
use Rattle.wiki_model.proofs.Purged.{issued-once}
use Rattle.wiki_model.proofs.ConsistentLaws.{event-keeps}
use Rattle.wiki_model.proofs.ChoiceLaws.{snapshot-reaches}
use Rattle.wiki_model.proofs.StepLaws.{IsReceivable, proper-jobs, received-moment, received-still}
use Rattle.wiki_model.proofs.RoundLaws.{received-history, received-setting, received-cases, named-received}
use Rattle.wiki_model.proofs.FrameLaws.{event-is, if_map, last-cases}
use Rattle.wiki_model.proofs.PurgeLaws.{purge-stands}
use Rattle.wiki_model.proofs.StoreLaws.{put-stands, no_put-stands, put-note, whole-true, lagged-true}
use Rattle.wiki_model.proofs.LookLaws.{hit-sound, interim-sound, must-hit, must-show_interim}
use Rattle.wiki_model.proofs.JobLaws.{IsDuring, must-hit-during, must-show-during, sound-during}

-- What the round's world says of what happened during it.
pub record IsGathered (u w : World) (r : Region) : Type 0 where
  pub setting : w.setting ≡ u.setting
  pub moments : moment r w ≡ moment r u
  receipts : (purge : ℕ) (of : Title) (at : ℕ) → HasReceipt u r purge of at → HasReceipt w r purge of at
  rounds : (b : Batch) → IsIn (Rounded b) (site r u).events → IsIn (Rounded b) (site r w).events
  made : (s : Stored) → WasMadeBy u r s → WasMadeBy w r s

quiet-gathered : (u w : World) (r : Region) (title : Title) → IsGathered u w r → IsQuiet w r title → IsQuiet u r title
quiet-gathered u w r title g q = record {
  receipts = λ purge of at there m.
      let after = q.receipts purge of at (g.receipts purge of at there) (subst (λ (s : Setting). (s.together r of title || is_shared_title of) ≡ true) (sym g.setting) m) in
      let ho = ho in let now = g.moments in omega (arith, after, ho, now);
  rounds = λ b there may. let after = q.rounds b (g.rounds b there) may in let ho = ho in let now = g.moments in omega (arith, after, ho, now);
}
  where
    ho : hold_off w.setting.bounds ≡ hold_off u.setting.bounds
    ho = ap (λ (s : Setting). hold_off s.bounds) g.setting

maker-gathered : (u w : World) (r : Region) (title : Title) (value : Cached Bytes) → IsGathered u w r → HasMaker u r title value → HasMaker w r title value
maker-gathered u w r title value g m = (m.0, m.1, g.made m.0 m.2)

cached-gathered : (u w : World) (r : Region) (title : Title) (p : PageAnswer) → IsGathered u w r → IsCached u u r title p → IsCached u w r title p
cached-gathered u w r title p g is = record {
  value = is.value;
  is_true = is.is_true;
  alive = is.alive;
  epoch = is.epoch;
  source = is.source;
  page = is.page;
  mark = is.mark;
  stored = maker-gathered u w r title is.value g is.stored;
}

sound-gathered : (u w : World) (r : Region) (title : Title) (floor : Floor) (p : PageAnswer) → IsGathered u w r → IsSoundFromCache u u r title floor p → IsSoundFromCache u w r title floor p
unfolding cached-gathered
sound-gathered u w r title floor p g is = record { prefix = is.prefix; reaches = is.reaches; put = is.put; origin = by p.origin is.origin }
  where
    by : (o : Origin) → IsFromCache u u r title p o → IsFromCache u w r title p o
    by Origin.Hit h = record { cached = cached-gathered u w r title p g h.cached; settled = h.settled; not_stale = h.not_stale; recent = h.recent }
    by Origin.Interim h = record { cached = cached-gathered u w r title p g h.cached; not_lagged = h.not_lagged; young = h.young; recent = h.recent; not_quiet = λ q. h.not_quiet (quiet-gathered u w r title g q) }
    by (Origin.Replica i) h = absurd h

-- The state between two jobs.
record IsMidway (v w : World) (r : Region) (earlier : List Job) (u : World) (cache : CacheMap Bytes) : Type 0 where
  events : List Event
  during : IsDuring v u r events
  fits : IsConsistent u
  stands : CacheStands u r cache
  times : (e : Event) → IsIn e events → event_at e ≡ moment r v
  left : (title : Title) → AllByRecursion (JobLeaves v r title) earlier → AllByRecursion (LeavesTitle v r title) events
  gathered : IsGathered u w r

all-prefix : {X : Type 0} (P : X → Type 0) (xs ys : List X) → AllByRecursion P (xs ++ ys) → AllByRecursion P xs × AllByRecursion P ys
all-prefix P [] ys all = (tt, all)
all-prefix P (x ∷ xs) ys all = let rest = all-prefix P xs ys all.1 in ((all.0, rest.0), rest.1)

-- a job without an event
no-event : (v w : World) (r : Region) (earlier : List Job) (job : Job) (u : World) (old new : CacheMap Bytes) → IsMidway v w r earlier u old → new ≡ old → IsMidway v w r (earlier ++ job ∷ []) u new
no-event v w r earlier job u old new m same = record {
  events = m.events;
  during = m.during;
  fits = m.fits;
  stands = subst (CacheStands u r) (sym same) m.stands;
  times = m.times;
  left = λ title all. m.left title (all-prefix (JobLeaves v r title) earlier (job ∷ []) all).0;
  gathered = m.gathered;
}

-- a job with an event
gathered-event : (u w : World) (r : Region) (e : Event) → IsGathered u w r
    → ((purge : ℕ) (of : Title) (at : ℕ) → Received purge of at ≡ e → HasReceipt w r purge of at) → ((b : Batch) → Rounded b ≡ e → ⊥) → ((s : Stored) → Kept s ≡ e → WasMadeBy w r s) → IsGathered (with_event r e u) w r
gathered-event u w r e g receipt round made = record {
  setting = g.setting;
  moments = g.moments ∙ sym (event-is r e u).moment;
  receipts = λ purge of at there. receipts purge of at (subst (IsIn (Received purge of at)) (event-is r e u).events there);
  rounds = λ b there. rounds b (subst (IsIn (Rounded b)) (event-is r e u).events there);
  made = λ s by. makers s by;
}
  where
    receipts : (purge : ℕ) (of : Title) (at : ℕ) → (Received purge of at ≡ e) ⊎ HasReceipt u r purge of at → HasReceipt w r purge of at
    receipts purge of at (inl same) = receipt purge of at same
    receipts purge of at (inr there) = g.receipts purge of at there

    rounds : (b : Batch) → (Rounded b ≡ e) ⊎ IsIn (Rounded b) (site r u).events → IsIn (Rounded b) (site r w).events
    rounds b (inl same) = absurd (round b same)
    rounds b (inr there) = g.rounds b there

    kept : (s : Stored) → (Kept s ≡ e) ⊎ IsIn (Kept s) (site r u).events → WasMadeBy w r s
    kept s (inl same) = made s same
    kept s (inr there) = g.made s (inl there)

    batched : (s : Stored) (b : Batch) → IsIn s b.rendered → (Rounded b ≡ e) ⊎ IsIn (Rounded b) (site r u).events → WasMadeBy w r s
    batched s b in_batch (inl same) = absurd (round b same)
    batched s b in_batch (inr there) = g.made s (inr (b, there, in_batch))

    makers : (s : Stored) → WasMadeBy (with_event r e u) r s → WasMadeBy w r s
    makers s (inl there) = kept s (subst (IsIn (Kept s)) (event-is r e u).events there)
    makers s (inr x) = batched s x.0 x.2 (subst (IsIn (Rounded x.0)) (event-is r e u).events x.1)

one-event : (v w : World) (r : Region) (earlier : List Job) (job : Job) (u : World) (old new : CacheMap Bytes) (e : Event) → (m : IsMidway v w r earlier u old)
    → IsConsistent (with_event r e u) → CacheStands (with_event r e u) r new → event_at e ≡ moment r v → ((title : Title) → JobLeaves v r title job → LeavesTitle v r title e)
    → IsGathered (with_event r e u) w r → IsMidway v w r (earlier ++ job ∷ []) (with_event r e u) new
one-event v w r earlier job u old new e m fits stands now left g = record {
  events = e ∷ m.events;
  during = record {
    history = m.during.history;
    setting = m.during.setting;
    markup = m.during.markup;
    moment = (event-is r e u).moment ∙ m.during.moment;
    messages = m.during.messages;
    repeated = m.during.repeated;
    events = (event-is r e u).events ∙ ap (λ es. e ∷ es) m.during.events;
  };
  fits = fits;
  stands = stands;
  times = λ x there. times x there;
  left = λ title all. let parts = all-prefix (JobLeaves v r title) earlier (job ∷ []) all in (left title parts.1.0, m.left title parts.0);
  gathered = g;
}
  where
    times : (x : Event) → (x ≡ e) ⊎ IsIn x m.events → event_at x ≡ moment r v
    times x (inl same) = ap event_at same ∙ now
    times x (inr there) = m.times x there

-- A receipt job.
receipt-step : (v w : World) (r : Region) (earlier : List Job) (purge : ℕ) (u : World) (old new : CacheMap Bytes) → IsMidway v w r earlier u old → IsCache new → (takes : TakesReceipt v r purge old new)
    → HasReceipt w r purge takes.0 (moment r v) → IsMidway v w r (earlier ++ ReceiptJob purge ∷ []) (with_event r (Received purge takes.0 (moment r v)) u) new
receipt-step v w r earlier purge u old new m is_cache (title, of, takes) received_ =
    one-event v w r earlier (ReceiptJob purge) u old new (Received purge title (moment r v)) m
    (event-keeps r (Received purge title (moment r v)) u m.fits (sym m.during.moment, issued))
    (purge-stands u (with_event r (Received purge title (moment r v)) u) r old new purge title m.stands is_cache (subst (TakesPurge old new title) (sym m.during.moment) takes)
    (subst (λ n. IsEvent u (with_event r (Received purge title (moment r v)) u) r (Received purge title n)) (sym m.during.moment) (event-is r (Received purge title (moment r v)) u)))
    refl
    leaves
    (gathered-event u w r (Received purge title (moment r v)) m.gathered
    (λ p t at same. subst (λ e. IsIn e (site r w).events) (sym same) received_)
    (λ b same. let no : ⊥ = cc in no)
    (λ s same. let no : ⊥ = cc in absurd no))
  where
    issued : IsPurge u purge title
    issued = by purge of.1
      where
        by : (p : ℕ) → IsIssued v p title of.0 → IsPurge u p title
        by p i = (of.0, (i.0, at p i.1, i.2))
          where
            at : (n : ℕ) → message_at v n ≡ Some i.0 → message_at u n ≡ Some i.0
            at zero e = let no : ⊥ = cc in absurd no
            at (suc n) e = ap (λ (ms : List Message). Rattle.std.specs.Prelude.slice_get ms n) m.during.messages ∙ e

    leaves : (t : Title) → JobLeaves v r t (ReceiptJob purge) → LeavesTitle v r t (Received purge title (moment r v))
    leaves t j =
        let found : OfMessage (Some of.1.0) (λ x. matters v r x t ≡ false) = subst (λ o. OfMessage o (λ x. matters v r x t ≡ false)) of.1.1 j in
        subst (λ b. OfPurge b (λ x. matters v r x t ≡ false)) of.1.2 found

-- A view job.

true-like : (a b : World) (r : Region) → b.history ≡ a.history → b.setting ≡ a.setting → moment r b ≡ moment r a → (title : Title) (value : Cached Bytes) → IsTrueIn a r title value → IsTrueIn b r title value
true-like a b r history setting now title value is =
    let x : IsTrueValue b.history a.setting.bounds.read_lag (moment r a) title value = subst (λ h. IsTrueValue h a.setting.bounds.read_lag (moment r a) title value) (sym history) is in
    let y : IsTrueValue b.history b.setting.bounds.read_lag (moment r a) title value = subst (λ (s : Setting). IsTrueValue b.history s.bounds.read_lag (moment r a) title value) (sym setting) x in
    subst (λ n. IsTrueValue b.history b.setting.bounds.read_lag n title value) (sym now) y

-- what the answer of a job is, and that it is what an earlier store forces
abbrev IsRight : World → World → Region → (earlier : List Job) → Title → (need word : ℕ) → Answer → Type 0
IsRight v w r earlier title need word answer = IsJobAnswer v w r title need word answer × (v.setting.workers ≡ 1 → AllByRecursion (JobLeaves v r title) earlier → IsForcedJob v r title need answer)

look-during : (v u : World) (r : Region) (events : List Event) (cache : CacheMap Bytes) (title : Title) (need : ℕ) → IsDuring v u r events → look cache title (moment r u) (ask_of u need) ≡ look cache title (moment r v) (ask_of v need)
look-during v u r events cache title need d =
    ap (λ n. look cache title n (ask_of u need)) d.moment
    ∙ ap (λ (s : Setting). look cache title (moment r v) (let a : Ask = record { epoch = s.epoch; version = u.markup; need = need } in a)) d.setting
    ∙ ap (λ n. look cache title (moment r v) (let a : Ask = record { epoch = v.setting.epoch; version = n; need = need } in a)) d.markup

note-map : (P Q : Type 0) → (Q → P) → (rule : SetRule) (note : PutNote) → IsNote P rule note → IsNote Q rule note
note-map P Q f SetRule.Whole PutNote.Whole is = tt
note-map P Q f SetRule.Whole PutNote.Interim is = λ q. is (f q)
note-map P Q f SetRule.Lagged PutNote.Lagged is = tt
note-map P Q f SetRule.Lagged PutNote.Held is = λ q. is (f q)
note-map P Q f SetRule.Whole PutNote.Memory is = tt
note-map P Q f SetRule.Lagged PutNote.Memory is = tt
note-map P Q f SetRule.NoPending PutNote.NoPending is = tt
note-map P Q f SetRule.NoOld PutNote.NoOld is = tt
note-map P Q f SetRule.NoMedium PutNote.NoMedium is = tt
note-map P Q f _ _ is = absurd is

mark-of : (old new : CacheMap Bytes) (title : Title) (value : Cached Bytes) (answer : Put) (note : PutNote) → Places old new title value answer → IsNoteOf answer value.lagged note → note ≢ PutNote.Memory → HasMark note value.lagged
mark-of old new title value answer note placed of not_memory = go answer note value.lagged refl placed of not_memory
  where
    go : (a : Put) (n : PutNote) (b : Bool) → value.lagged ≡ b → Places old new title value a → IsNoteOf a b n → n ≢ PutNote.Memory → HasMark n b
    go Put.Main PutNote.Whole false e p o m = refl
    go Put.Main PutNote.Lagged true e p o m = refl
    go Put.Interim PutNote.Interim b e p o m = sym e ∙ p.1
    go (Put.Held until) PutNote.Held b e p o m = sym e ∙ p.1
    go Put.Memory PutNote.Memory b e p o m = absurd (m refl)
    go _ _ true e p o m = absurd o
    go _ _ false e p o m = absurd o

-- what the round rendered
rendered-in : (v : World) (r : Region) (answers : List Answer) (p : PageAnswer) (s : Stored) → IsIn (Page p) answers → stored_by v r (Page p) ≡ Some s → IsIn s (filter_map (stored_by v r) answers)
rendered-in v r [] p s there e = absurd there
rendered-in v r (a ∷ answers) p s (inl same) e =
    let first : stored_by v r a ≡ Some s = ap (stored_by v r) (sym same) ∙ e in
    subst (λ o. IsIn s (cons_option o (filter_map (stored_by v r) answers))) (sym first) (inl refl)
rendered-in v r (a ∷ answers) p s (inr there) e = by (stored_by v r a) (rendered-in v r answers p s there e)
  where
    by : (o : Option Stored) → IsIn s (filter_map (stored_by v r) answers) → IsIn s (cons_option o (filter_map (stored_by v r) answers))
    by None rest = rest
    by (Some x) rest = inr rest

-- what a view that stores a page is given of the round's world
abbrev IsRendered : World → World → Region → Title → Answer → Type 0
IsRendered v w r title answer = (p : PageAnswer) (note : PutNote) → answer ≡ Page p → p.put ≡ Some note → WasMadeBy w r (stored v r p note)

pub no-page : (history : List Entry) (k : ℕ) (title : Title) (markup : ℕ) → html history k title markup ≡ None → page_text history k title ≡ None
no-page history k title markup e = by (page_text history k title) e
  where
    by : (o : Option Text) → option_map (html_of_text history k title markup) o ≡ None → o ≡ None
    by None e = refl
    by (Some x) e = let no : ⊥ = cc in absurd no

-- the page of a snapshot is sound
pub rendered-sound : (v : World) (r : Region) (title : Title) (need word : ℕ) (s : Snapshot) (note : PutNote) (page : Bytes) (i : ℕ) → IsConsistent v → IsSnapshot v r title need word s → ChosenReplica s.choice i
    → html v.history s.upto title v.markup ≡ Some page → IsSoundFromReplica v title (floor_for need) s (answer_of_replica title s i note page)
rendered-sound v r title need word s note page i fits shot chosen shown = record {
  prefix = record { title_asked = refl; within = (fits.sites r).applied shot.replica.0 s.upto shot.replica.2; page = shown };
  reaches = record { need = snapshot-reaches v r title need word s shot; own = omega arith };
  source = refl;
  origin = (i, chosen, refl);
  mark = refl;
}

-- A page that is kept by a rule: the note is allowed, and the cache stands on with the store.
record IsKept (v w : World) (r : Region) (title : Title) (s : Snapshot) (page : Bytes) (n : PutNote) (i : ℕ) (u : World) (new : CacheMap Bytes) (rule : SetRule) : Type 0 where
  allowed : IsNote (IsQuiet w r title) rule n
  not_memory : n ≢ PutNote.Memory
  stands : CacheStands (with_event r (Kept (stored v r (answer_of_replica title s i n page) n)) u) r new

put-kept : (v w : World) (r : Region) (earlier : List Job) (title : Title) (s : Snapshot) (page : Bytes) (n : PutNote) (i : ℕ) (u : World) (old new : CacheMap Bytes) (life : ℕ) (lagged : Bool) (rule : SetRule) → IsMidway v w r earlier u old → IsCache new
    → IsTrueIn v r title (value_of_snapshot v.history page s.upto (moment r v) life lagged v.markup) → IsMarkedBy rule lagged
    → PutsValue title (value_of_snapshot v.history page s.upto (moment r v) life lagged v.markup) n old new → IsKept v w r title s page n i u new rule
put-kept v w r earlier title s page n i u old new life lagged rule m is_cache is_true marked (answer, put, of, not_memory) =
    let value = value_of_snapshot v.history page s.upto (moment r v) life lagged v.markup in
    let st = stored v r (answer_of_replica title s i n page) n in
    record {
      allowed = note-map (IsQuiet u r title) (IsQuiet w r title) (quiet-gathered u w r title m.gathered) rule n
          (put-note u r old new title value answer rule n m.stands put (sym m.during.moment) marked of);
      not_memory = not_memory;
      stands = put-stands u (with_event r (Kept st) u) r old new title value answer st m.stands is_cache put (sym m.during.moment)
          (true-like v u r m.during.history m.during.setting m.during.moment title value is_true)
          (record { title_is = refl; at = refl; source = refl; markup = refl; mark = mark-of old new title value answer n put.placed of not_memory })
          of (event-is r (Kept st) u);
    }

-- under the other rules nothing is put
unkept : (v w : World) (r : Region) (earlier : List Job) (title : Title) (s : Snapshot) (page : Bytes) (n : PutNote) (i : ℕ) (u : World) (old new : CacheMap Bytes) (rule : SetRule) → IsMidway v w r earlier u old
    → IsNote (IsQuiet w r title) rule n → n ≢ PutNote.Memory → main_life n ≡ 0 → interim_life n ≡ 0 → new ≡ old → IsKept v w r title s page n i u new rule
unkept v w r earlier title s page n i u old new rule m allowed not_memory no_main no_interim same =
    let st = stored v r (answer_of_replica title s i n page) n in
    record {
      allowed = allowed;
      not_memory = not_memory;
      stands = subst (CacheStands (with_event r (Kept st) u) r) (sym same) (no_put-stands u (with_event r (Kept st) u) r old st m.stands no_main no_interim (event-is r (Kept st) u));
    }

page-kept : (v w : World) (r : Region) (earlier : List Job) (title : Title) (need word : ℕ) (s : Snapshot) (page : Bytes) (n : PutNote) (i : ℕ) (u : World) (old new : CacheMap Bytes) (rule : SetRule) → IsConsistent v → IsMidway v w r earlier u old → IsCache new
    → IsSnapshot v r title need word s → html v.history s.upto title v.markup ≡ Some page → set_rule s.lag 0 s.pending v.setting.bounds.read_lag ≡ rule
    → KeepsPage rule v r title s page n old new → IsKept v w r title s page n i u new rule
page-kept v w r earlier title need word s page n i u old new SetRule.Whole fits m is_cache shot shown rule keeps =
    let within = (fits.sites r).applied shot.replica.0 s.upto shot.replica.2 in
    let lag : s.lag ≡ s.since - Rattle.wiki_model.specs.History.stamp_at v.history s.upto = shot.lag ∙ ap (λ n. n - Rattle.wiki_model.specs.History.stamp_at v.history s.upto) (sym shot.since) in
    let age : moment r v - s.since ≡ 0 = let since = shot.since in omega (arith, since) in
    put-kept v w r earlier title s page n i u old new 86_400_000 false SetRule.Whole m is_cache
    (whole-true v.history v.setting.bounds.read_lag (moment r v) s.since s.lag s.upto s.pending title page v.markup within lag shown (ap (λ a. set_rule s.lag a s.pending v.setting.bounds.read_lag) age ∙ rule))
    refl keeps
page-kept v w r earlier title need word s page n i u old new SetRule.Lagged fits m is_cache shot shown rule keeps =
    let within = (fits.sites r).applied shot.replica.0 s.upto shot.replica.2 in
    put-kept v w r earlier title s page n i u old new 30_000 true SetRule.Lagged m is_cache (lagged-true v.history v.setting.bounds.read_lag (moment r v) s.upto title page v.markup within shown) refl keeps
page-kept v w r earlier title need word s page n i u old new SetRule.NoPending fits m is_cache shot shown rule (is, same) =
    unkept v w r earlier title s page n i u old new SetRule.NoPending m (subst (IsNote (IsQuiet w r title) SetRule.NoPending) (sym is) tt) (λ e. let no : ⊥ = cc in no) (ap main_life is) (ap interim_life is) same
page-kept v w r earlier title need word s page n i u old new SetRule.NoOld fits m is_cache shot shown rule (is, same) =
    unkept v w r earlier title s page n i u old new SetRule.NoOld m (subst (IsNote (IsQuiet w r title) SetRule.NoOld) (sym is) tt) (λ e. let no : ⊥ = cc in no) (ap main_life is) (ap interim_life is) same
page-kept v w r earlier title need word s page n i u old new SetRule.NoMedium fits m is_cache shot shown rule (is, same) =
    unkept v w r earlier title s page n i u old new SetRule.NoMedium m (subst (IsNote (IsQuiet w r title) SetRule.NoMedium) (sym is) tt) (λ e. let no : ⊥ = cc in no) (ap main_life is) (ap interim_life is) same

-- The outcome of a view job: a right answer, and a state from which the next job goes on.
record IsViewed (v w : World) (r : Region) (earlier : List Job) (title : Title) (need word : ℕ) (answer : Answer) (u : World) (new : CacheMap Bytes) : Type 0 where
  right : IsRight v w r earlier title need word answer
  next : World
  midway : IsMidway v w r (earlier ++ ViewJob title need word ∷ []) next new
  still : (purge : ℕ) (of : Title) (at : ℕ) → HasReceipt u r purge of at → HasReceipt next r purge of at

-- what is forced is what the look finds
forced-as : (v w : World) (r : Region) (earlier : List Job) (title : Title) (need : ℕ) (u : World) (old : CacheMap Bytes) (answer : Answer) → IsMidway v w r earlier u old
    → ((value : Cached Bytes) → look old title (moment r v) (ask_of v need) ≡ Hit value → ComesFrom Origin.Hit value.upto answer)
    → ((value : Cached Bytes) → look old title (moment r v) (ask_of v need) ≡ Interim value → ComesFrom Origin.Interim value.upto answer)
    → AllByRecursion (JobLeaves v r title) earlier → IsForcedJob v r title need answer
forced-as v w r earlier title need u old answer m hit interim all = record {
  hit = λ k must.
      let found = must-hit u r old title need k m.fits m.stands (must-hit-during v u r m.events m.during title need k (m.left title all) must) in
      subst (λ n. ComesFrom Origin.Hit n answer) found.2 (hit found.0 (sym (look-during v u r m.events old title need m.during) ∙ found.1));
  interim = λ k must.
      let found = must-show_interim u r old title need k m.fits m.stands (must-show-during v u r m.events m.during title need k (m.left title all) must) in
      subst (λ n. ComesFrom Origin.Interim n answer) found.2 (interim found.0 (sym (look-during v u r m.events old title need m.during) ∙ found.1));
}

from-cache : (v w : World) (r : Region) (earlier : List Job) (title : Title) (need word : ℕ) (u : World) (old new : CacheMap Bytes) (p : PageAnswer) (answer : Answer) → IsConsistent v → IsMidway v w r earlier u old
    → IsSoundFromCache u u r title (floor_for need) p → answer ≡ Page p → new ≡ old
    → ((value : Cached Bytes) → look old title (moment r v) (ask_of v need) ≡ Hit value → ComesFrom Origin.Hit value.upto (Page p))
    → ((value : Cached Bytes) → look old title (moment r v) (ask_of v need) ≡ Interim value → ComesFrom Origin.Interim value.upto (Page p))
    → IsViewed v w r earlier title need word answer u new
from-cache v w r earlier title need word u old new p answer fits m sound is same hit interim = record {
  right = subst (IsRight v w r earlier title need word) (sym is) (
    inl (sound-during v u w r m.events m.during fits m.times title (floor_for need) p (sound-gathered u w r title (floor_for need) p m.gathered sound)),
    λ one all. forced-as v w r earlier title need u old (Page p) m hit interim all,
  );
  next = u;
  midway = no-event v w r earlier (ViewJob title need word) u old new m same;
  still = λ purge of at there. there;
}

viewed : (v w : World) (r : Region) (earlier : List Job) (title : Title) (need word : ℕ) (answer : Answer) (u : World) (old new : CacheMap Bytes) → IsConsistent v → IsMidway v w r earlier u old → IsCache new
    → IsRendered v w r title answer → AnswersView v r title need word answer old new → IsViewed v w r earlier title need word answer u new
viewed v w r earlier title need word answer u old new fits m is_cache rendered (inl wanting) = record {
  right = subst (IsRight v w r earlier title need word) (sym wanting.0) (tt, λ one all. record { hit = λ k must. tt; interim = λ k must. tt });
  next = u;
  midway = no-event v w r earlier (ViewJob title need word) u old new m wanting.1;
  still = λ purge of at there. there;
}
viewed v w r earlier title need word answer u old new fits m is_cache rendered (inr found) = by (look old title (moment r v) (ask_of v need)) refl found
  where
    at_u : {f : Found Bytes} → look old title (moment r v) (ask_of v need) ≡ f → look old title (moment r u) (ask_of u need) ≡ f
    at_u e = look-during v u r m.events old title need m.during ∙ e

    more : Rattle.wiki_model.specs.Changes.HasMore u u r
    more = record { setting = refl; events = λ e there. there }

    not_forced : (why : Rattle.wiki_model.specs.declared.Cause.Cause) → look old title (moment r v) (ask_of v need) ≡ Missed why → (a : Answer) → AllByRecursion (JobLeaves v r title) earlier → IsForcedJob v r title need a
    not_forced why e a all = forced-as v w r earlier title need u old a m (λ value f. let no : ⊥ = let both : Missed why ≡ Hit value = sym e ∙ f in cc in absurd no) (λ value f. let no : ⊥ = let both : Missed why ≡ Interim value = sym e ∙ f in cc in absurd no) all

    render : (why : Rattle.wiki_model.specs.declared.Cause.Cause) → look old title (moment r v) (ask_of v need) ≡ Missed why → (s : Snapshot) → IsSnapshot v r title need word s → (o : Option Bytes) → html v.history s.upto title v.markup ≡ o
        → Renders v r title s answer old new o → IsViewed v w r earlier title need word answer u new
    render why e s shot None none (is, same) = record {
      right = subst (IsRight v w r earlier title need word) (sym is) (
        (
          s,
          shot,
          record {
            within = (fits.sites r).applied shot.replica.0 s.upto shot.replica.2;
            none = no-page v.history s.upto title v.markup none;
            reaches = record { need = snapshot-reaches v r title need word s shot; own = omega arith };
            of_snapshot = refl;
          },
        ),
        λ one all. not_forced why e (NoPage s.upto) all,
      );
      next = u;
      midway = no-event v w r earlier (ViewJob title need word) u old new m same;
      still = λ purge of at there. there;
    }
    render why e s shot (Some page) shown (i, chosen, n, is, keeps) =
        let kept = page-kept v w r earlier title need word s page n i u old new (set_rule s.lag 0 s.pending v.setting.bounds.read_lag) fits m is_cache shot shown refl keeps in
        let p = answer_of_replica title s i n page in
        let event : Event = Kept (stored v r p n) in
        let no_age : s.since - s.since ≡ 0 = omega arith in
        record {
          right = subst (IsRight v w r earlier title need word) (sym is) (
            inr (
              s,
              shot,
              rendered-sound v r title need word s n page i fits shot chosen shown,
              n,
              refl,
              inl (
                subst (λ a. IsNote (IsQuiet w r title) (set_rule s.lag a s.pending w.setting.bounds.read_lag) n) (sym no_age)
                    (subst (λ (x : Setting). IsNote (IsQuiet w r title) (set_rule s.lag 0 s.pending x.bounds.read_lag) n) (sym (m.gathered.setting ∙ m.during.setting)) kept.allowed),
                kept.not_memory,
              ),
            ),
            λ one all. not_forced why e (Page p) all,
          );
          next = with_event r event u;
          midway = one-event v w r earlier (ViewJob title need word) u old new event m
              (event-keeps r event u m.fits (sym m.during.moment)) kept.stands refl (λ t left. left)
              (gathered-event u w r event m.gathered (λ purge of at same. let no : ⊥ = cc in absurd no) (λ b same. let no : ⊥ = cc in no)
              (λ x same. let one : x ≡ stored v r p n = cc in subst (WasMadeBy w r) (sym one) (rendered p n is refl)));
          still = λ purge of at there. subst (IsIn (Received purge of at)) (sym (event-is r event u).events) (inr there);
        }

    by : (f : Found Bytes) → look old title (moment r v) (ask_of v need) ≡ f → AnswersFound v r title need word answer old new f → IsViewed v w r earlier title need word answer u new
    by (Hit value) e (is, same) = from-cache v w r earlier title need word u old new (answer_from title Origin.Hit value) answer fits m
        (hit-sound u u r old title (floor_for need) value m.fits m.stands more (omega arith) (at_u e)) is same
        (λ x f. let one : value ≡ x = let both : Hit value ≡ Hit x = sym e ∙ f in cc in (refl, ap (λ (y : Cached Bytes). y.upto) one))
        (λ x f. let no : ⊥ = let both : Hit value ≡ Interim x = sym e ∙ f in cc in absurd no)
    by (Interim value) e (is, same) = from-cache v w r earlier title need word u old new (answer_from title Origin.Interim value) answer fits m
        (interim-sound u u r old title (floor_for need) value m.fits m.stands more refl (omega arith) (at_u e)) is same
        (λ x f. let no : ⊥ = let both : Interim value ≡ Hit x = sym e ∙ f in cc in absurd no)
        (λ x f. let one : value ≡ x = let both : Interim value ≡ Interim x = sym e ∙ f in cc in (refl, ap (λ (y : Cached Bytes). y.upto) one))
    by (Missed why) e (s, shot, renders) = render why e s shot (html v.history s.upto title v.markup) refl renders

-- All jobs.
record IsWorked (v w : World) (r : Region) (earlier jobs : List Job) (answers : List Answer) (u : World) (new : CacheMap Bytes) : Type 0 where
  answered : AnswersJobs v w r earlier jobs answers
  all : List Job
  last : World
  midway : IsMidway v w r all last new
  still : (purge : ℕ) (of : Title) (at : ℕ) → HasReceipt u r purge of at → HasReceipt last r purge of at
  gave : (purge : ℕ) (of : Title) → IsIn (ReceiptJob purge) jobs → IsPurge v purge of → HasReceipt last r purge of (moment r v)

worked : (v w : World) (r : Region) (earlier jobs : List Job) (answers : List Answer) (u : World) (old new : CacheMap Bytes) → IsConsistent v → IsMidway v w r earlier u old
    → ((purge : ℕ) (of : Title) → IsIn (ReceiptJob purge) jobs → IsPurge v purge of → HasReceipt w r purge of (moment r v))
    → ((p : PageAnswer) (note : PutNote) → IsIn (Page p) answers → p.put ≡ Some note → WasMadeBy w r (stored v r p note))
    → DoesJobs v r jobs answers old new → IsWorked v w r earlier jobs answers u new
worked v w r earlier [] [] u old new fits m named rendered does = record {
  answered = tt;
  all = earlier;
  last = u;
  midway = subst (IsMidway v w r earlier u) (sym does) m;
  still = λ purge of at there. there;
  gave = λ purge of there is. absurd there;
}
worked v w r earlier [] (answer ∷ answers) u old new fits m named rendered does = absurd does
worked v w r earlier (ReceiptJob purge ∷ jobs) answers u old new fits m named rendered (mid, is_cache, takes, does) =
    let event : Event = Received purge takes.0 (moment r v) in
    let rest = worked v w r (earlier ++ ReceiptJob purge ∷ []) jobs answers (with_event r event u) mid new fits
    (receipt-step v w r earlier purge u old mid m is_cache takes (named purge takes.0 (inl refl) takes.1)) (λ p of there. named p of (inr there)) rendered does in
    record {
      answered = rest.answered;
      all = rest.all;
      last = rest.last;
      midway = rest.midway;
      still = λ p of at there. rest.still p of at (subst (IsIn (Received p of at)) (sym (event-is r event u).events) (inr there));
      gave = λ p of there is. gave rest.last rest.still rest.gave p of there is;
    }
  where
    gave : (last : World) → ((p : ℕ) (of : Title) (at : ℕ) → HasReceipt (with_event r (Received purge takes.0 (moment r v)) u) r p of at → HasReceipt last r p of at)
        → ((p : ℕ) (of : Title) → IsIn (ReceiptJob p) jobs → IsPurge v p of → HasReceipt last r p of (moment r v))
        → (p : ℕ) (of : Title) → (ReceiptJob p ≡ ReceiptJob purge) ⊎ IsIn (ReceiptJob p) jobs → IsPurge v p of → HasReceipt last r p of (moment r v)
    gave last still more p of (inr there) is = more p of there is
    gave last still more p of (inl same) is =
        let one : p ≡ purge = cc in
        let title : of ≡ takes.0 = (issued-once v purge of takes.0 is.0 takes.1.0 (subst (λ n. IsIssued v n of is.0) one is.1) takes.1.1).0 in
        let event : Event = Received purge takes.0 (moment r v) in
        let first : HasReceipt last r purge takes.0 (moment r v) = still purge takes.0 (moment r v) (subst (IsIn event) (sym (event-is r event u).events) (inl refl)) in
        subst (λ n. HasReceipt last r n of (moment r v)) (sym one) (subst (λ t. HasReceipt last r purge t (moment r v)) (sym title) first)
worked v w r earlier (ViewJob title need word ∷ jobs) [] u old new fits m named rendered does = absurd does
worked v w r earlier (ViewJob title need word ∷ jobs) (answer ∷ answers) u old new fits m named rendered (mid, is_cache, view, does) =
    let one = viewed v w r earlier title need word answer u old mid fits m is_cache (λ p note is put. rendered p note (inl (sym is)) put) view in
    let rest = worked v w r (earlier ++ ViewJob title need word ∷ []) jobs answers one.next mid new fits one.midway (λ p of there. named p of (inr there)) (λ p note there. rendered p note (inr there)) does in
    record {
      answered = (one.right.0, one.right.1, rest.answered);
      all = rest.all;
      last = rest.last;
      midway = rest.midway;
      still = λ p of at there. rest.still p of at (one.still p of at there);
      gave = λ p of there is. gave rest.last rest.gave p of there is;
    }
  where
    gave : (last : World) → ((p : ℕ) (of : Title) → IsIn (ReceiptJob p) jobs → IsPurge v p of → HasReceipt last r p of (moment r v))
        → (p : ℕ) (of : Title) → (ReceiptJob p ≡ ViewJob title need word) ⊎ IsIn (ReceiptJob p) jobs → IsPurge v p of → HasReceipt last r p of (moment r v)
    gave last more p of (inl same) is = let no : ⊥ = cc in absurd no
    gave last more p of (inr there) is = more p of there is

-- The world of the round.
pub round-gathers : (v : World) (r : Region) (jobs : List Job) (answers : List Answer) → AllByRecursion (IsReceivable v) jobs → IsGathered v (rounded r jobs false answers v) r
round-gathers v r jobs answers all = record {
  setting = received-setting r jobs v all;
  moments = (event-is r (Rounded (batch v r jobs false answers)) (received r jobs v)).moment ∙ received-moment r jobs v all;
  receipts = λ purge of at there. still (Received purge of at) there;
  rounds = λ b there. still (Rounded b) there;
  made = λ s by. made s by;
}
  where
    still : (e : Event) → IsIn e (site r v).events → IsIn e (site r (rounded r jobs false answers v)).events
    still e there = subst (IsIn e) (sym (event-is r (Rounded (batch v r jobs false answers)) (received r jobs v)).events) (inr (received-still r jobs v all e there))

    made : (s : Stored) → WasMadeBy v r s → WasMadeBy (rounded r jobs false answers v) r s
    made s (inl there) = inl (still (Kept s) there)
    made s (inr x) = inr (x.0, still (Rounded x.0) x.1, x.2)

-- A cache that stands for the last state stands for the world after the round.
stands-after : (v : World) (r : Region) (jobs : List Job) (answers : List Answer) (new : CacheMap Bytes) → AllByRecursion (IsReceivable v) jobs → IsWorked v (rounded r jobs false answers v) r [] jobs answers v new
    → CacheStands (rounded r jobs false answers v) r new
stands-after v r jobs answers new all work = record {
  is_cache = c.is_cache;
  together = λ a b. c.together a b ∙ ap (λ (s : Setting). s.together r a b) (sym g.setting);
  held_off = record {
    main = λ t. if_map (IsTrueIn work.last r t) (IsTrueIn (rounded r jobs false answers v) r t) (new.main t) (as-true t) (c.held_off.main t);
    interim = λ t. if_map (λ x. IsTrueIn work.last r t x × (x.lagged ≡ false)) (λ x. IsTrueIn (rounded r jobs false answers v) r t x × (x.lagged ≡ false)) (new.interim t) (λ x h. (as-true t x h.0, h.1)) (c.held_off.interim t);
    floors = λ p of at there. let b = back p of at there in floors of at (c.held_off.floors b.0 of at b.1);
    checks = λ p of at there shared. let b = back p of at there in let h = c.held_off.checks b.0 of at b.1 shared in let ho = length in omega (arith, h, ho);
    set_after = λ p of at there. let b = back p of at there in if_map (λ x. at + hold_off work.last.setting.bounds ≤ x.set_at) (λ x. at + hold_off (rounded r jobs false answers v).setting.bounds ≤ x.set_at) (new.main of)
        (λ x h. let ho = length in omega (arith, h, ho)) (c.held_off.set_after b.0 of at b.1);
    times = let t = c.held_off.times in let m = g.moments in omega (arith, t, m);
    length = c.held_off.length ∙ sym length;
  };
  causes = record {
    floor = λ t above. raised t (c.causes.floor t above);
    check = λ class above. lost class (c.causes.check class above);
    main = λ t. if_map (HasMaker work.last r t) (HasMaker (rounded r jobs false answers v) r t) (new.main t) (λ x h. maker-gathered work.last (rounded r jobs false answers v) r t x g h) (c.causes.main t);
    interim = λ t. if_map (HasMaker work.last r t) (HasMaker (rounded r jobs false answers v) r t) (new.interim t) (λ x h. maker-gathered work.last (rounded r jobs false answers v) r t x g h) (c.causes.interim t);
  };
  stored = record {
    main = λ t s l life. absurd (no-last t s (last-cases (received r jobs v) (rounded r jobs false answers v) r (Rounded (batch v r jobs false answers)) (event-is r (Rounded (batch v r jobs false answers)) (received r jobs v)) t s l));
    interim = λ t s l life. absurd (no-last t s (last-cases (received r jobs v) (rounded r jobs false answers v) r (Rounded (batch v r jobs false answers)) (event-is r (Rounded (batch v r jobs false answers)) (received r jobs v)) t s l));
  };
}
  where
    c : CacheStands work.last r new
    c = work.midway.stands

    g : IsGathered work.last (rounded r jobs false answers v) r
    g = work.midway.gathered

    length : hold_off (rounded r jobs false answers v).setting.bounds ≡ hold_off work.last.setting.bounds
    length = ap (λ (s : Setting). hold_off s.bounds) (work.midway.gathered).setting

    as-true : (t : Title) (x : Cached Bytes) → IsTrueIn work.last r t x → IsTrueIn (rounded r jobs false answers v) r t x
    as-true t x is = true-like work.last (rounded r jobs false answers v) r (received-history r jobs v all ∙ sym work.midway.during.history) (work.midway.gathered).setting (work.midway.gathered).moments t x is

    cases : (p : ℕ) (of : Title) (at : ℕ) → HasReceipt v r p of at ⊎ ((at ≡ moment r v) × Rattle.wiki_model.specs.Lent.IsNamed v jobs of) → (q : ℕ) × HasReceipt work.last r q of at
    cases p of at (inl there) = (p, work.still p of at there)
    cases p of at (inr x) = (x.1.0, subst (HasReceipt work.last r x.1.0 of) (sym x.0) (work.gave x.1.0 of x.1.1 x.1.2))

    back : (p : ℕ) (of : Title) (at : ℕ) → HasReceipt (rounded r jobs false answers v) r p of at → (q : ℕ) × HasReceipt work.last r q of at
    back p of at there = by (subst (IsIn (Received p of at)) (event-is r (Rounded (batch v r jobs false answers)) (received r jobs v)).events there)
      where
        by : (Received p of at ≡ Rounded (batch v r jobs false answers)) ⊎ HasReceipt (received r jobs v) r p of at → (q : ℕ) × HasReceipt work.last r q of at
        by (inl same) = let no : ⊥ = cc in absurd no
        by (inr old) = cases p of at (received-cases r jobs v all p of at old)

    floors : (of : Title) (at : ℕ) → (at + hold_off work.last.setting.bounds ≤ new.floor of) ⊎ (at + hold_off work.last.setting.bounds ≤ moment r work.last)
        → (at + hold_off (rounded r jobs false answers v).setting.bounds ≤ new.floor of) ⊎ (at + hold_off (rounded r jobs false answers v).setting.bounds ≤ moment r (rounded r jobs false answers v))
    floors of at (inl owed) = let ho = length in inl (omega (arith, owed, ho))
    floors of at (inr over) = let ho = length in let m = (work.midway.gathered).moments in inr (omega (arith, over, ho, m))

    raised : (t : Title) → IsRaisedBy work.last r (λ of. new.together of t ≡ true) (new.floor t) → IsRaisedBy (rounded r jobs false answers v) r (λ of. new.together of t ≡ true) (new.floor t)
    raised t (inl x) = let h = x.5 in let ho = length in inl (x.0, x.1, x.2, (work.midway.gathered).receipts x.0 x.1 x.2 x.3, x.4, omega (arith, h, ho))
    raised t (inr x) = let h = x.3 in let ho = length in inr (x.0, (work.midway.gathered).rounds x.0 x.1, x.2, omega (arith, h, ho))

    lost : (class : Class) → HasRaised work.last r (λ of. is_shared_title of ≡ true) (class_check new class) → HasRaised (rounded r jobs false answers v) r (λ of. is_shared_title of ≡ true) (class_check new class)
    lost class (inl x) = let h = x.5 in let ho = length in inl (x.0, x.1, x.2, (work.midway.gathered).receipts x.0 x.1 x.2 x.3, x.4, omega (arith, h, ho))
    lost class (inr x) = let h = x.3 in let ho = length in inr (x.0, (work.midway.gathered).rounds x.0 x.1, x.2, omega (arith, h, ho))

    no-last : (t : Title) (s : Stored) → ((Rounded (batch v r jobs false answers) ≡ Kept s) × (s.title ≡ t)) ⊎ (LeavesTitle (received r jobs v) r t (Rounded (batch v r jobs false answers)) × LastStored (received r jobs v) r t s) → ⊥
    no-last t s (inl x) = let same : Rounded (batch v r jobs false answers) ≡ Kept s = x.0 in cc
    no-last t s (inr x) = x.0

-- A round of one worker that does its jobs one after another is allowed, and the cache stands for the world after it.
pub one_worker-round : (v : World) (r : Region) (jobs : List Job) (answers : List Answer) (old new : CacheMap Bytes) → IsConsistent v → AllByRecursion (IsProperJob v r) jobs → CacheStands v r old
    → DoesJobs v r jobs answers old new → MakesRound r jobs v (Some answers) (rounded r jobs false answers v) × CacheStands (rounded r jobs false answers v) r new
one_worker-round v r jobs answers old new fits proper stands does =
    let all = proper-jobs v r fits jobs proper in
    let w = rounded r jobs false answers v in
    let start : IsMidway v w r [] v old = record {
      events = [];
      during = record { history = refl; setting = refl; markup = refl; moment = refl; messages = refl; repeated = refl; events = refl };
      fits = fits;
      stands = stands;
      times = λ e there. absurd there;
      left = λ title none. tt;
      gathered = round-gathers v r jobs answers all;
    } in
    let work = worked v w r [] jobs answers v old new fits start (named all) rendered does in
    ((proper, work.answered, refl), stands-after v r jobs answers new all work)
  where
    named : AllByRecursion (IsReceivable v) jobs → (purge : ℕ) (of : Title) → IsIn (ReceiptJob purge) jobs → IsPurge v purge of → HasReceipt (rounded r jobs false answers v) r purge of (moment r v)
    named all purge of there is = subst (IsIn (Received purge of (moment r v))) (sym (event-is r (Rounded (batch v r jobs false answers)) (received r jobs v)).events) (inr (named-received r jobs v all purge of there is))

    rendered : (p : PageAnswer) (note : PutNote) → IsIn (Page p) answers → p.put ≡ Some note → WasMadeBy (rounded r jobs false answers v) r (stored v r p note)
    rendered p note there put = inr (
      batch v r jobs false answers,
      subst (IsIn (Rounded (batch v r jobs false answers))) (sym (event-is r (Rounded (batch v r jobs false answers)) (received r jobs v)).events) (inl refl),
      rendered-in v r answers p (stored v r p note) there (ap (λ o. Rattle.wiki_model.specs.Rounds.stored_note v r p o) put),
    )
