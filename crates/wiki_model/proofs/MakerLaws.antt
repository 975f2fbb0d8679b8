-- A page that a look answers was made by an earlier turn of its run.
-- A cached value has a maker among what happened to the region's cache; a store is added there by a step store alone, a round by a round, and at the opening nothing has happened yet.
use Rattle.std.proofs.Common.{◌≡◌, ℕ, List, [], ◌∷◌, Bool, true, false, cond, ◌⊎◌, Some, None, Option, refl, sym, ◌∙◌, ap, subst, inl, inr}
use Rattle.std.specs.Prelude.{filter_map}
use Rattle.std.specs.List.{cons_option}
use Rattle.wiki_model.specs.declared.Region.{Region}
use Rattle.wiki_model.specs.declared.Readings.{Readings}
use Rattle.wiki_model.specs.declared.Origin.{Origin}
use Rattle.wiki_model.specs.declared.PutNote.{PutNote}
use Rattle.wiki_model.specs.Bytes.{IsIn}
use Rattle.wiki_model.specs.Titles.{Title}
use Rattle.wiki_model.specs.History.{Edit, Beat, Committed}
use Rattle.wiki_model.specs.World.{World, Setting, Site, OpenView, Floor, Snapshot, Request, Job, Body, Message, Event, Batch, Stored, moment, site, request_at, message_at, with_request, with_applied, without_request, with_entry, with_event, with_message, receives, hears, at_readings}
use Rattle.wiki_model.specs.World.Body.{Purge, Position}
use Rattle.wiki_model.specs.World.Job.{ViewJob, ReceiptJob}
use Rattle.wiki_model.specs.World.Event.{Received, Kept, Rounded}
use Rattle.wiki_model.specs.World.Request.{ViewWaited, ViewSnapped}
use Rattle.wiki_model.specs.Sessions.{Lag, lag_of, floor_of}
use Rattle.wiki_model.specs.Answers.{Answer, PageAnswer, WasMadeBy, IsFromCache, edit_answer}
use Rattle.wiki_model.specs.Answers.Answer.{Page}
use Rattle.wiki_model.specs.Steps.{Step, Allows, AtPoint, IsRefused, IsOutOfMemory, Decided, Begins, Commits, Waits, Looks, Snaps, Stores, arrived_edit, begun_edit, arrived_view, waited_view, looked_view, snapped_view, request_of, begun, appended, purged, purged_again, next_message, next_entry, next_commit, position_of, is_late, waited, gives_up, lag_answer, kept, stored, reach, carried, dropped, closed_if}
use Rattle.wiki_model.specs.Rounds.{rounded, received, received_message, received_body, stored_by, stored_note, batch}
use Rattle.wiki_model.specs.Runs.{Turn, Reply, One, Many, Takes, IsRun, opening, with_faults}
use Rattle.wiki_model.specs.Makers.{IsPutOf, StoresPage, RoundsPage, MakesPage, WasStoredBy, LooksUpStored}
use Rattle.wiki_model.proofs.StepLaws.{was-waited}
use Rattle.wiki_model.proofs.PromiseLaws.{was-snapped}

-- what a round rendered is a page that it answered and put
rendered-page : (v : World) (r : Region) (answers : List Answer) (s : Stored) → IsIn s (filter_map (stored_by v r) answers)
    → (p : PageAnswer) × IsIn (Page p) answers × IsPutOf s.title s.source p
rendered-page v r [] s there = absurd there
rendered-page v r (a ∷ answers) s there = by a refl (λ rest. let (p, at, is) = rendered-page v r answers s rest in (p, inr at, is)) there
  where
    page : (p : PageAnswer) (o : Option PutNote) → p.put ≡ o → a ≡ Page p → (IsIn s (filter_map (stored_by v r) answers) → (p : PageAnswer) × IsIn (Page p) (a ∷ answers) × IsPutOf s.title s.source p) → IsIn s (cons_option (stored_note v r p o) (filter_map (stored_by v r) answers))
        → (q : PageAnswer) × IsIn (Page q) (a ∷ answers) × IsPutOf s.title s.source q
    page p None e is later rest = later rest
    page p (Some note) e is later (inl same) = (
      p,
      inl (sym is),
      record {
        title_is = sym (ap (λ (x : Stored). x.title) same);
        source_is = sym (ap (λ (x : Stored). x.source) same);
        put = (note, e);
      },
    )
    page p (Some note) e is later (inr rest) = later rest

    by : (b : Answer) → a ≡ b → (IsIn s (filter_map (stored_by v r) answers) → (p : PageAnswer) × IsIn (Page p) (a ∷ answers) × IsPutOf s.title s.source p) → IsIn s (cons_option (stored_by v r b) (filter_map (stored_by v r) answers)) → (p : PageAnswer) × IsIn (Page p) (a ∷ answers) × IsPutOf s.title s.source p
    by (Page p) is later rest = page p p.put refl is later rest
    by _ is later rest = later rest

-- the event is a store of the page, or a round that rendered it
abbrev IsMaking : Event → Stored → Type 0
IsMaking e s = (Kept s ≡ e) ⊎ ((b : Batch) × (Rounded b ≡ e) × IsIn s b.rendered)

made-first : (r : Region) (e : Event) (v w : World) (s : Stored) → (site r w).events ≡ e ∷ (site r v).events → WasMadeBy w r s → WasMadeBy v r s ⊎ IsMaking e s
made-first r e v w s is (inl there) = by (subst (IsIn (Kept s)) is there)
  where
    by : (Kept s ≡ e) ⊎ IsIn (Kept s) (site r v).events → WasMadeBy v r s ⊎ IsMaking e s
    by (inl same) = inr (inl same)
    by (inr old) = inl (inl old)
made-first r e v w s is (inr (b, there, in_it)) = by (subst (IsIn (Rounded b)) is there)
  where
    by : (Rounded b ≡ e) ⊎ IsIn (Rounded b) (site r v).events → WasMadeBy v r s ⊎ IsMaking e s
    by (inl same) = inr (inr (b, same, in_it))
    by (inr old) = inl (inr (b, old, in_it))

made-still : (r : Region) (v w : World) (s : Stored) → (site r w).events ≡ (site r v).events → WasMadeBy w r s → WasMadeBy v r s
made-still r v w s is (inl there) = inl (subst (IsIn (Kept s)) is there)
made-still r v w s is (inr (b, there, in_it)) = inr (b, subst (IsIn (Rounded b)) is there, in_it)

no-making : (purge : ℕ) (title : Title) (at : ℕ) (s : Stored) → IsMaking (Received purge title at) s → ⊥
no-making purge title at s (inl e) = cc
no-making purge title at s (inr (b, e, there)) = cc

module _ (x : World) (turn : Turn) where
  -- What a region's cache was made from at w was so at v, or is made by this turn.
  abbrev Before : World → World → Type 0
  Before v w = (r : Region) (s : Stored) → WasMadeBy w r s → WasMadeBy v r s ⊎ MakesPage x turn r s.title s.source

  still : (v w : World) → w.home.events ≡ v.home.events → w.west.events ≡ v.west.events → Before v w
  still v w home west Region.Home s made = inl (made-still Region.Home v w s home made)
  still v w home west Region.West s made = inl (made-still Region.West v w s west made)

  is : (v y w : World) → Before v y → w ≡ y → Before v w
  is v y w b e = subst (Before v) (sym e) b

  then : (v u w : World) → Before v u → Before u w → Before v w
  then v u w a b r s made = by (b r s made)
    where
      by : WasMadeBy u r s ⊎ MakesPage x turn r s.title s.source → WasMadeBy v r s ⊎ MakesPage x turn r s.title s.source
      by (inl old) = a r s old
      by (inr new) = inr new

  adding : (q : Region) (e : Event) (v : World) → ((s : Stored) → IsMaking e s → MakesPage x turn q s.title s.source) → Before v (with_event q e v)
  adding Region.Home e v f Region.Home s made = by (made-first Region.Home e v (with_event Region.Home e v) s refl made)
    where
      by : WasMadeBy v Region.Home s ⊎ IsMaking e s → WasMadeBy v Region.Home s ⊎ MakesPage x turn Region.Home s.title s.source
      by (inl old) = inl old
      by (inr new) = inr (f s new)
  adding Region.Home e v f Region.West s made = inl made
  adding Region.West e v f Region.Home s made = inl made
  adding Region.West e v f Region.West s made = by (made-first Region.West e v (with_event Region.West e v) s refl made)
    where
      by : WasMadeBy v Region.West s ⊎ IsMaking e s → WasMadeBy v Region.West s ⊎ MakesPage x turn Region.West s.title s.source
      by (inl old) = inl old
      by (inr new) = inr (f s new)

  receiving : (q : Region) (purge : ℕ) (title : Title) (v : World) → Before v (receives q purge title v)
  receiving q purge title v = adding q (Received purge title (moment q v)) v (λ s making. absurd (no-making purge title (moment q v) s making))

  same : (v : World) → Before v v
  same v = still v v refl refl

  closing : (k : ℕ) (v : World) → Before v (without_request k v)
  closing k v = still v (without_request k v) refl refl

  asking : (k : ℕ) (q : Request) (v : World) → Before v (with_request k q v)
  asking k q v = still v (with_request k q v) refl refl

  refused : (v y w : World) (a : Answer) → Before v y → IsRefused y w a → Before v w
  refused v y w Answer.NoMemory b e = is v y w b e
  refused v y w Answer.StoreFault b e = is v y w b e
  refused v y w _ b e = absurd e

  out_of_memory : (v y w : World) (a : Answer) → Before v y → IsOutOfMemory y w a → Before v w
  out_of_memory v y w Answer.NoMemory b e = is v y w b e
  out_of_memory v y w _ b e = absurd e

  decided : (d : Option Answer) (id : ℕ) (v w : World) (a : Answer) → Decided d id v w a → Before v w
  decided d id v w Answer.StoreFault row = is v (without_request id v) w (closing id v) row
  decided d id v w Answer.NoMemory row = is v (without_request id v) w (closing id v) row
  decided d id v w _ row = is v (without_request id v) w (closing id v) row.1

  at-point : {A : Type 0} (o : Option A) (id : ℕ) (v : World) (answer : Option Answer) (w : World) (P : A → Type 0) → ((a : A) → o ≡ Some a → P a → Before v w) → AtPoint o id v answer w P → Before v w
  at-point None id v answer w P f row = is v v w (same v) row.1
  at-point (Some a) id v answer w P f row = f a refl row

  wait : (id : ℕ) (last : Bool) (view : OpenView) (v : World) (answer : Option Answer) (w : World) → Waits id last view v answer w → Before v w
  wait id last view v answer w row = by (lag_of v view) row.1
    where
      either : (b : Bool) (lag : Lag) → w ≡ (cond b (let y : Option Answer × World = (Some (lag_answer lag), without_request id v) in y) (None, v)).1 → Before v w
      either true lag e = is v (without_request id v) w (closing id v) e
      either false lag e = is v v w (same v) e

      by : (o : Option Lag) → w ≡ (waited id view last v o).1 → Before v w
      by None e = is v (with_request id (ViewWaited view (floor_of v view)) v) w (asking id (ViewWaited view (floor_of v view)) v) e
      by (Some lag) e = either (gives_up v view last) lag e

  purging : (title : Title) (v : World) → Before v (purged title v)
  purging title v =
      let u = with_message (Purge (next_message v) title (moment Region.Home v)) v in
      then v u (purged title v) (still v u refl refl) (receiving Region.Home (next_message v) title u)

  appending : (edit : Edit) (purge : ℕ) (v : World) → Before v (appended edit purge v)
  appending edit purge v = by (is_late v purge)
    where
      added : World
      added = hears Region.Home (next_entry v) (with_entry (Committed (next_commit v edit purge)) v)

      told : World → World
      told u = with_message (position_of (next_entry v) (next_commit v edit purge)) u

      by : (late : Bool) → Before v (told (cond late (purged_again (next_entry v) edit.title added) added))
      by true = then v added (told (purged_again (next_entry v) edit.title added)) (still v added refl refl)
          (then added (purged edit.title added) (told (purged_again (next_entry v) edit.title added)) (purging edit.title added) (still (purged edit.title added) (told (purged_again (next_entry v) edit.title added)) refl refl))
      by false = still v (told added) refl refl

  applying : (r : Region) (replica n : ℕ) (v : World) → Before v (with_applied r replica n v)
  applying Region.Home replica n v = still v (with_applied Region.Home replica n v) refl refl
  applying Region.West replica n v = still v (with_applied Region.West replica n v) refl refl

  row-before : (s : Step) → turn.step ≡ s → (v : World) → v.requests ≡ x.requests → (answer : Option Answer) → turn.reply ≡ One answer → (w : World) → Allows s v answer w → Before v w
  row-before Step.MakeBeat it v asked None said w row = is v (with_entry (Beat (moment Region.Home v)) v) w (still v (with_entry (Beat (moment Region.Home v)) v) refl refl) row
  row-before Step.MakeBeat it v asked (Some a) said w row = refused v v w a (same v) row
  row-before (Step.Arrive id what) it v asked None said w row = is v (with_request id (request_of v what) v) w (asking id (request_of v what) v) row
  row-before (Step.Arrive id what) it v asked (Some a) said w row = out_of_memory v v w a (same v) row
  row-before (Step.Begin id) it v asked answer said w row = at-point (arrived_edit (request_at v id)) id v answer w (λ edit. Begins id edit v answer w) (λ edit e r. by answer edit r) row
    where
      by : (answer : Option Answer) (edit : Edit) → Begins id edit v answer w → Before v w
      by None edit r = is v (begun id edit v) w (then v (purged edit.title v) (begun id edit v) (purging edit.title v) (asking id (Rattle.wiki_model.specs.World.Request.EditBegun edit (next_message v)) (purged edit.title v))) r.1
      by (Some a) edit r = decided (edit_answer v.history edit) id v w a r
  row-before (Step.CommitEdit id) it v asked answer said w row = at-point (begun_edit (request_at v id)) id v answer w (λ e. Commits id e v answer w) (λ e there r. by answer e r) row
    where
      by : (answer : Option Answer) (e : Edit × ℕ) → Commits id e v answer w → Before v w
      by None (edit, purge) r = absurd r
      by (Some a) (edit, purge) (inl r) = decided (edit_answer v.history edit) id v w a r
      by (Some a) (edit, purge) (inr r) = is v (without_request id (appended edit purge v)) w (then v (appended edit purge v) (without_request id (appended edit purge v)) (appending edit purge v) (closing id (appended edit purge v))) r.2
  row-before (Step.Wait id last) it v asked answer said w row = at-point (arrived_view (request_at v id)) id v answer w (λ view. Waits id last view v answer w) (λ view e r. wait id last view v answer w r) row
  row-before (Step.Look id) it v asked answer said w row = at-point (waited_view (request_at v id)) id v answer w (λ q. Looks id q v answer w) (λ q e r. by answer q r) row
    where
      by : (answer : Option Answer) (q : OpenView × Floor) → Looks id q v answer w → Before v w
      by (Some (Answer.Page p)) (view, floor) r = is v (without_request id v) w (closing id v) r.2
      by (Some (Answer.Miss cause)) (view, floor) r = is v (with_request id (Rattle.wiki_model.specs.World.Request.ViewLooked view floor) v) w (asking id (Rattle.wiki_model.specs.World.Request.ViewLooked view floor) v) r.2
      by (Some Answer.NoMemory) (view, floor) r = is v (without_request id v) w (closing id v) r
      by (Some _) (view, floor) r = absurd r
      by None (view, floor) r = absurd r
  row-before (Step.Snap id) it v asked answer said w row = at-point (looked_view (request_at v id)) id v answer w (λ q. Snaps id q v answer w) (λ q e r. by answer q r) row
    where
      by : (answer : Option Answer) (q : OpenView × Floor) → Snaps id q v answer w → Before v w
      by None (view, floor) r = is v (with_request id (ViewSnapped view floor r.0) v) w (asking id (ViewSnapped view floor r.0) v) r.2
      by (Some a) (view, floor) r = out_of_memory v (without_request id v) w a (closing id v) r
  row-before (Step.Store id) it v asked answer said w row = at-point (snapped_view (request_at v id)) id v answer w (λ q. Stores id q v answer w) (λ q e r. by answer q said (was-snapped (request_at v id) q e) r) row
    where
      by : (answer : Option Answer) (q : OpenView × Floor × Snapshot) → turn.reply ≡ One answer → request_at v id ≡ Some (ViewSnapped q.0 q.1 q.2) → Stores id q v answer w → Before v w
      by (Some (Answer.Page p)) (view, floor, s) told e (sound, note, put, allowed, world) =
          is v (without_request id (kept v view.region p note)) w
          (then v (kept v view.region p note) (without_request id (kept v view.region p note)) (adding view.region (Kept (stored v view.region p note)) v made) (closing id (kept v view.region p note))) world
        where
          made : (y : Stored) → IsMaking (Kept (stored v view.region p note)) y → MakesPage x turn view.region y.title y.source
          made y (inl same) =
              let it_is : y ≡ stored v view.region p note = cc in
              inl (record {
                id = id;
                view = view;
                floor = floor;
                snapshot = s;
                page = p;
                step = it;
                snapped = ap (λ (rs : Rattle.wiki_model.specs.World.Requests). Rattle.std.specs.FinMap.get rs id) (sym asked) ∙ e;
                region = refl;
                answered = told;
                is_put = record {
                  title_is = sym (ap (λ (z : Stored). z.title) it_is);
                  source_is = sym (ap (λ (z : Stored). z.source) it_is);
                  put = (note, put);
                };
              })
          made y (inr (b, other, there)) = let none : ⊥ = cc in absurd none
      by (Some (Answer.NoPage source)) (view, floor, s) told e r = is v (without_request id v) w (closing id v) r.1
      by (Some Answer.NoMemory) (view, floor, s) told e r = is v (without_request id v) w (closing id v) r
      by (Some _) (view, floor, s) told e r = absurd r
      by None (view, floor, s) told e r = absurd r
  row-before (Step.Apply r replica count) it v asked None said w row = is v (with_applied r replica (reach v r replica count) v) w (applying r replica (reach v r replica count) v) row
  row-before (Step.Apply r replica count) it v asked (Some a) said w row = refused v (with_applied r replica row.0 v) w a (applying r replica row.0 v) row.3
  row-before (Step.Carry number shown) it v asked None said w row = is v (carried row.0.body v) w (by row.0.body) row.3
    where
      by : (b : Body) → Before v (carried b v)
      by (Purge purge title issued) = receiving Region.West purge title v
      by (Position client index entry stamp) = still v (hears Region.West entry v) refl refl
  row-before (Step.Carry number shown) it v asked (Some (Answer.Gone m)) said w row = is v v w (same v) row.2
  row-before (Step.Carry number shown) it v asked (Some (Answer.Unknown m)) said w row = is v v w (same v) row.2
  row-before (Step.Carry number shown) it v asked (Some Answer.NoMemory) said w row = is v v w (same v) row.1
  row-before (Step.Carry number shown) it v asked (Some _) said w row = absurd row
  row-before (Step.Drop number) it v asked answer said w row = is v ((dropped number v (message_at v number)).1) w (by (message_at v number)) row.1
    where
      by : (o : Option Message) → Before v ((dropped number v o).1)
      by None = same v
      by (Some m) = still v ((dropped number v (Some m)).1) refl refl
  row-before (Step.Need id) it v asked answer said w row = is v (closed_if id v (waited_view (request_at v id))) w (by (waited_view (request_at v id))) row.1
    where
      by : (o : Option (OpenView × Floor)) → Before v (closed_if id v o)
      by None = same v
      by (Some p) = closing id v
  row-before (Step.SetMarkup markup) it v asked answer said w row = is v (record v { markup = markup }) w (still v (record v { markup = markup }) refl refl) row.1
  row-before (Step.Round r jobs) it v asked answer said w row = absurd row

  receiving-all : (r : Region) (jobs : List Job) (v : World) → Before v (received r jobs v)
  receiving-all r [] v = same v
  receiving-all r (ViewJob title need word ∷ jobs) v = receiving-all r jobs v
  receiving-all r (ReceiptJob purge ∷ jobs) v =
      let u = received_message r (message_at v purge) v in
      then v u (received r jobs u) (by (message_at v purge)) (receiving-all r jobs u)
    where
      body : (b : Body) → Before v (received_body r b v)
      body (Purge purge title issued) = receiving r purge title v
      body (Position client index entry stamp) = same v

      by : (o : Option Message) → Before v (received_message r o v)
      by None = same v
      by (Some m) = body m.body

  rounding : (r : Region) (jobs : List Job) (lost : Bool) (answers : List Answer) (v : World)
      → ((s : Stored) → IsIn s (filter_map (stored_by v r) answers) → MakesPage x turn r s.title s.source) → Before v (rounded r jobs lost answers v)
  rounding r jobs lost answers v f =
      then v (received r jobs v) (rounded r jobs lost answers v) (receiving-all r jobs v) (adding r (Rounded (batch v r jobs lost answers)) (received r jobs v) made)
    where
      made : (s : Stored) → IsMaking (Rounded (batch v r jobs lost answers)) s → MakesPage x turn r s.title s.source
      made s (inl other) = let none : ⊥ = cc in absurd none
      made s (inr (b, same, there)) =
          let it_is : b ≡ batch v r jobs lost answers = cc in
          f s (subst (λ (y : Batch). IsIn s y.rendered) it_is there)

  takes-before : (s : Step) → turn.step ≡ s → (v : World) → v.requests ≡ x.requests → (reply : Reply) → turn.reply ≡ reply → (w : World) → Takes s v reply w → Before v w
  takes-before (Step.Round r jobs) it v asked (Many (Some answers)) said w t = is v (rounded r jobs false answers v) w (rounding r jobs false answers v made) t.2
    where
      made : (s : Stored) → IsIn s (filter_map (stored_by v r) answers) → MakesPage x turn r s.title s.source
      made s there = let (p, at, put) = rendered-page v r answers s there in inr (record { jobs = jobs; answers = answers; page = p; step = it; answered = said; there = at; is_put = put })
  takes-before (Step.Round r jobs) it v asked (Many None) said w t = is v (rounded r jobs true [] v) w (rounding r jobs true [] v (λ s there. absurd there)) t.1
  takes-before s it v asked (One answer) said w t = row-before s it v asked answer said w t
  takes-before s it v asked (Many answers) said w t = absurd t

made-faults : (n : ℕ) (r : Region) (s : Stored) (w : World) → WasMadeBy w r s → WasMadeBy (with_faults n w) r s
made-faults n Region.Home s w made = made
made-faults n Region.West s w made = made

made-readings : (at : Readings) (r : Region) (s : Stored) (w : World) → WasMadeBy (at_readings at w) r s → WasMadeBy w r s
made-readings at Region.Home s w made = made
made-readings at Region.West s w made = made

nothing-made : (r : Region) (s : Stored) (v : World) → v.home.events ≡ [] → v.west.events ≡ [] → WasMadeBy v r s → ⊥
nothing-made Region.Home s v home west (inl there) = subst (IsIn (Kept s)) home there
nothing-made Region.Home s v home west (inr (b, there, in_it)) = subst (IsIn (Rounded b)) home there
nothing-made Region.West s v home west (inl there) = subst (IsIn (Kept s)) west there
nothing-made Region.West s v home west (inr (b, there, in_it)) = subst (IsIn (Rounded b)) west there

was-made : (start : World) (turns : List Turn) (w : World) → start.home.events ≡ [] → start.west.events ≡ [] → (run : IsRun start turns w) (r : Region) (s : Stored) → WasMadeBy w r s
    → WasStoredBy start turns w run r s.title s.source
was-made start [] w home west run r s made =
    nothing-made r s start home west (subst (λ (x : World). WasMadeBy x r s) (sym run.0) (made-faults start.faults r s w made))
was-made start (turn ∷ earlier) w home west run r s made =
    by (takes-before run.0 turn turn.step refl (at_readings turn.at run.0) refl turn.reply refl (with_faults run.0.faults w) run.2.takes r s (made-faults run.0.faults r s w made)) (λ old. was-made start earlier run.0 home west run.1 r s old)
  where
    by : WasMadeBy (at_readings turn.at run.0) r s ⊎ MakesPage run.0 turn r s.title s.source → (WasMadeBy run.0 r s → WasStoredBy start earlier run.0 run.1 r s.title s.source) → MakesPage run.0 turn r s.title s.source ⊎ WasStoredBy start earlier run.0 run.1 r s.title s.source
    by (inl old) later = inr (later (made-readings turn.at r s run.0 old))
    by (inr new) later = inl new

-- the maker of a page that a cache answered
from-cache : (v : World) (r : Region) (title : Title) (p : PageAnswer) (o : Origin) → IsFromCache v v r title p o → (s : Stored) × (s.title ≡ title) × (s.source ≡ p.source) × WasMadeBy v r s
from-cache v r title p Origin.Hit is = let (s, value, made) = is.cached.stored in (s, value.title_is, value.source ∙ is.cached.source, made)
from-cache v r title p Origin.Interim is = let (s, value, made) = is.cached.stored in (s, value.title_is, value.source ∙ is.cached.source, made)
from-cache v r title p (Origin.Replica i) is = absurd is

look-made : (start : World) (turns : List Turn) (turn : Turn) (v w : World) (id : ℕ) (p : PageAnswer) → start.home.events ≡ [] → start.west.events ≡ []
    → (run : IsRun start turns v) → Takes (Step.Look id) (at_readings turn.at v) (One (Some (Page p))) w → LooksUpStored start turns v run id p
look-made start turns turn v w id p home west run takes = by (waited_view (request_at v id)) refl takes
  where
    by : (o : Option (OpenView × Floor)) → waited_view (request_at v id) ≡ o
        → AtPoint o id (at_readings turn.at v) (Some (Page p)) w (λ q. Looks id q (at_readings turn.at v) (Some (Page p)) w) → LooksUpStored start turns v run id p
    by None e row = let no : Some (Page p) ≡ Some (Answer.NotOpen id) = row.0 in let none : ⊥ = cc in absurd none
    by (Some (view, floor)) e (sound, forced, world) =
        let (s, title_is, source_is, made) = from-cache (at_readings turn.at v) view.region view.view.title p p.origin sound.origin in
        let there = was-made start turns v home west run view.region s (made-readings turn.at view.region s v made) in
        let same_title : s.title ≡ p.title = title_is ∙ sym sound.prefix.title_asked in
        record {
          view = view;
          floor = floor;
          waited = was-waited (request_at v id) (view, floor) e;
          title = sound.prefix.title_asked;
          stored = subst (λ (n : ℕ). WasStoredBy start turns v run view.region p.title n) source_is (subst (λ (t : Title). WasStoredBy start turns v run view.region t s.source) same_title there);
        }

pub cached-stored : Rattle.wiki_model.specs.Makers.CachedSourcesWereStored
cached-stored setting history faults at turns turn v w id p run leads is_look said =
    let as_step : Takes (Step.Look id) (at_readings turn.at v) turn.reply (with_faults v.faults w) = subst (λ (s : Step). Takes s (at_readings turn.at v) turn.reply (with_faults v.faults w)) is_look leads.takes in
    look-made (opening setting history faults at) turns turn v (with_faults v.faults w) id p refl refl run
    (subst (λ (r : Reply). Takes (Step.Look id) (at_readings turn.at v) r (with_faults v.faults w)) said as_step)
