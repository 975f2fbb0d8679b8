-- A batch: what its view needs is what the region knows of its client when it waits. Nothing of that changes between its
-- arrival and its wait, since both are made at one reading, and the arrival adds only the request.
use Rattle.std.proofs.Common.{◌≡◌, ℕ, inl, inr, Bool, true, false, List, [], ◌∷◌, ◌++◌, map, Option, Some, None, refl, sym, ap, subst, ◌∙◌, arith, max}
use Rattle.std.specs.Prelude.{IsSome, if◌then◌else◌}
use Rattle.wiki_model.specs.declared.Region.{Region}
use Rattle.wiki_model.specs.declared.Region.TheVariants.{Home, West}
use Rattle.wiki_model.specs.declared.Readings.{Readings}
use Rattle.wiki_model.specs.Bytes.{Bytes}
use Rattle.wiki_model.specs.Titles.{Title, Client}
use Rattle.wiki_model.specs.History.{Entry}
use Rattle.wiki_model.specs.Cache.{CacheMap}
use Rattle.wiki_model.specs.World as world
use Rattle.wiki_model.specs.World.{World, Job, cut, at_readings, request_at, moment, with_request}
use Rattle.wiki_model.specs.Sessions.{Lag, known, known_at, lag_of, floor_of}
use Rattle.wiki_model.specs.Answers as model
use Rattle.wiki_model.specs.Answers.{Answer}
use Rattle.wiki_model.specs.Answered.{last_reply, EndsBatch, opened_in}
use Rattle.wiki_model.specs.Steps.{Step, AtPoint, arrived_view, region_of, waited, Waits as WaitsIn}
use Rattle.wiki_model.specs.Runs.{Turn, Many, with_faults}
use Rattle.wiki_model.specs.Sequences.{is_miss}
use Rattle.wiki_model.specs.Serving.{AllMade, Taken, carries, view_job, receipt_job}
use Rattle.wiki_model.proofs.AnsweredLaws.{asks}
use Rattle.purge_relay.specs.AsModel.{row_message}
use Rattle.region_state.specs.declared.answer.Answer.{Answer as CodeAnswer}
use Rattle.region_state.specs.declared.ask.ViewAsk.{ViewAsk}
use Rattle.region_state.specs.declared.ask.Asked as code
use Rattle.region_state.specs.declared.ask.Asked.TheVariants as asked
use Rattle.region_state.specs.AsModel.{answer_of, view_of}
use Rattle.farm_steps.specs.declared.open_request.OpenRequest.{OpenRequest}
use Rattle.farm_steps.specs.declared.open_request.OpenRequest.TheVariants as point
use Rattle.farm_steps.specs.RequestMap.{open_at, waited_view, need_of, AgreeAt}
use Rattle.farm_steps.specs.ViewSteps.{region_at}
use Rattle.farm_core.specs.FarmParts.{FarmParts, SameShape, IsWhole}
use Rattle.farm_core.specs.LendCache.{round_turn}
use Rattle.farm_core.specs.RequestLife.{Point, Closed, ArrivedView, OpensRequest, MovesOn, WaitsAt, ClosesWaited, LeavesRequests, Waits, point_at}
use Rattle.farm_core.specs.Runs.{Stands, Steps, turn_of}
use Rattle.region_round.specs.declared.job.Job.{Job as CodeJob}
use Rattle.region_round.specs.AsModel.{jobs_of}
use Rattle.wiki_serve.specs.declared.serve_batch.Drawn.{Drawn}
use Rattle.wiki_serve.specs.Exchanges.{Outcome, Answered, Listed}
use Rattle.wiki_serve.specs.Turns.{MakesTurns}
use Rattle.wiki_serve.specs.Batches.{jobs_in, IsBatchAnswered, FitsBatch}
use Rattle.wiki_serve.specs.HoldingBack.{receipts_in, CarriesAll}
use Rattle.wiki_serve.specs.BatchSteps.{pair_of, job_at, KnowsNeed, EndsEarly, MakesBatch}
use Rattle.wiki_serve.proofs.Steps.{turn, all_none, step_runs, none_made, made_joined}
use Rattle.wiki_serve.proofs.Quiet.{quiet_goes, quiet_no_round, last_is_round}
use Rattle.wiki_serve.proofs.Receiving.{jobs_are, all_jobs_are}
use Rattle.wiki_serve.proofs.Asked.{closed_none, opened_said, last_one, chain_one, chain_next, Chain, ArrivesFor, ViewWaits, waits_on, waits_at}

-- What a region knows

max_again : (m n : ℕ) → max (max m n) n ≡ max m n
max_again m n = omega arith

-- what is known after a request was noted, at the same reading
known_same : (v w : World) (at : Readings) (n : ℕ) (request : world.Request) (r : Region) (client : Client) → with_faults n w ≡ with_request 0 request (at_readings at v)
    → known (at_readings at w) r client ≡ known (at_readings at v) r client
known_same v w at n request Home client same =
    ap (λ (x : World). known (at_readings at x) Home client) same
    ∙ ap (known_at (at_readings at v) Home client) (max_again v.home.moment (cut at.home))
known_same v w at n request West client same =
    ap (λ (x : World). known (at_readings at x) West client) same
    ∙ ap (known_at (at_readings at v) West client) (max_again v.west.moment (cut at.west))

-- a view that is not behind has the floor of its wait
floor_at_wait : (v u : World) (opened : world.OpenView) → AtPoint (Some opened) 0 v None u (λ x. WaitsIn 0 true x v None u) → request_at u 0 ≡ Some (world.ViewWaited opened (floor_of v opened))
floor_at_wait v u opened takes = by (lag_of v opened) takes
  where
    by : (lag : Option Lag) → (None ≡ (waited 0 opened true v lag).0) × (u ≡ (waited 0 opened true v lag).1) → request_at u 0 ≡ Some (world.ViewWaited opened (floor_of v opened))
    by None (is, there) = asks v u (world.ViewWaited opened (floor_of v opened)) there
    by (Some lag) (is, there) = let never : ⊥ = cc in absurd never

-- the farm's need is that of the world's request
need_is : (w : World) (o : Option OpenRequest) (request : Option world.Request) (opened : world.OpenView) (floor : world.Floor) (need : ℕ) → AgreeAt w o request → request ≡ Some (world.ViewWaited opened floor)
    → Some need ≡ need_of (waited_view o) → need ≡ floor.need
need_is w o request opened floor need agrees is told = by o (subst (λ (q : Option world.Request). AgreeAt w o q) is agrees) told
  where
    by : (p : Option OpenRequest) → AgreeAt w p (Some (world.ViewWaited opened floor)) → Some need ≡ need_of (waited_view p) → need ≡ floor.need
    by None a e = absurd a
    by (Some (point.EditArrived ask)) a e = let never : ⊥ = cc in absurd never
    by (Some (point.EditBegun begun)) a e = let never : ⊥ = cc in absurd never
    by (Some (point.ViewArrived view)) a e = let never : ⊥ = cc in absurd never
    by (Some (point.ViewWaited view n)) (f, same, has) e =
        let number : need ≡ n = cc in
        let floors : f ≡ floor = cc in
        number ∙ has ∙ ap (λ (x : world.Floor). x.need) floors
    by (Some (point.ViewLooked view n)) a e = let never : ⊥ = cc in absurd never
    by (Some (point.ViewSnapped view s)) a e = let never : ⊥ = cc in absurd never
    by (Some point.Taken) a e = let never : ⊥ = cc in absurd never

-- a view that is told that it is behind
wait_ends : (a : Answer) (p : Point) → WaitsAt true (Some a) p → (p ≡ Closed) × (is_miss a ≡ false) × EndsBatch a
wait_ends (model.Lagging by needed reached) p e = (e, refl, tt)
wait_ends _ p e = absurd e

no_memory_ends : (a : Answer) → a ≡ model.NoMemory → EndsBatch a
no_memory_ends a is = subst EndsBatch (sym is) tt

module _ {K S : Type 0} (content : K → Option (List Entry)) (faults : K → ℕ) (cache_of : S → CacheMap Bytes) where
  -- steps that were made, and leave no request open under the number 0
  made_by : (old new : FarmParts K S) (turns : List Turn) → Chain content faults cache_of old new turns → (open_at old.requests 0 ≡ None → open_at new.requests 0 ≡ None) → MakesTurns content faults cache_of old new turns
  made_by old new turns a closed = record { runs = a.runs; closed = closed; shape = a.shape; counts = a.counts }

  -- The view ends before its need is known.

  pub need_refused : (f0 f1 : FarmParts K S) (at : Readings) (ask : ViewAsk) (what : code.Asked) (r : Option CodeAnswer) (a : CodeAnswer) → what ≡ asked.View ask → r ≡ Some a → ArrivesFor content faults cache_of f0 f1 at what r
      → EndsEarly content faults cache_of f0 f1 at (view_of ask) (answer_of a)
  need_refused f0 f1 at ask what r a is some s =
      by (subst (λ (w : code.Asked). ArrivesFor content faults cache_of f0 f1 at w (Some a)) is (subst (λ (x : Option CodeAnswer). ArrivesFor content faults cache_of f0 f1 at what x) some s))
    where
      by : ArrivesFor content faults cache_of f0 f1 at (asked.View ask) (Some a) → EndsEarly content faults cache_of f0 f1 at (view_of ask) (answer_of a)
      by s1 =
          let over = opened_said (Some (answer_of a)) (answer_of a) f0.requests f1.requests 0 ArrivedView refl s1.requests in
          record {
            turns = turn at (Step.Arrive 0 (world.AskedView (view_of ask))) (Some (answer_of a)) ∷ [];
            quiet = refl;
            made = made_by f0 f1 (turn at (Step.Arrive 0 (world.AskedView (view_of ask))) (Some (answer_of a)) ∷ [])
                (chain_one content faults cache_of f0 f1 (turn at (Step.Arrive 0 (world.AskedView (view_of ask))) (Some (answer_of a))) (OpensRequest 0 ArrivedView (Some (answer_of a))) s1)
                (λ none. ap (λ es. open_at es 0) over.1 ∙ none);
            makes = λ jobs. (refl, refl, last_one (answer_of a) _ (ap is_miss over.0));
            last = refl;
            fits = no_memory_ends (answer_of a) over.0;
          }

  pub need_lags : (f0 f1 f2 : FarmParts K S) (at : Readings) (ask : ViewAsk) (what : code.Asked) (r r2 : Option CodeAnswer) (a : CodeAnswer) → what ≡ asked.View ask → r ≡ None → r2 ≡ Some a → ArrivesFor content faults cache_of f0 f1 at what r
      → Steps content faults cache_of f1 f2 (turn_of at (Step.Wait 0 true) r2) (Waits 0 true r2)
      → EndsEarly content faults cache_of f0 f2 at (view_of ask) (answer_of a)
  need_lags f0 f1 f2 at ask what r r2 a is none some s s2 =
      by (subst (λ (w : code.Asked). ArrivesFor content faults cache_of f0 f1 at w None) is (subst (λ (x : Option CodeAnswer). ArrivesFor content faults cache_of f0 f1 at what x) none s))
      (subst (λ (x : Option CodeAnswer). Steps content faults cache_of f1 f2 (turn_of at (Step.Wait 0 true) x) (Waits 0 true x)) some s2)
    where
      by : ArrivesFor content faults cache_of f0 f1 at (asked.View ask) None → Steps content faults cache_of f1 f2 (turn_of at (Step.Wait 0 true) (Some a)) (Waits 0 true (Some a)) → EndsEarly content faults cache_of f0 f2 at (view_of ask) (answer_of a)
      by s1 s2 =
          let over = wait_ends (answer_of a) (point_at f2.requests 0) (s2.requests.moved (s1.requests.opened refl)) in
          let t1 : Turn = turn at (Step.Arrive 0 (world.AskedView (view_of ask))) None in
          let t2 : Turn = turn at (Step.Wait 0 true) (Some (answer_of a)) in
          record {
            turns = t1 ∷ t2 ∷ [];
            quiet = refl;
            made = made_by f0 f2 (t1 ∷ t2 ∷ [])
                (chain_next content faults cache_of f0 f1 f2 (t1 ∷ []) t2 (MovesOn 0 ArrivedView (WaitsAt true) (Some (answer_of a)))
                (chain_one content faults cache_of f0 f1 t1 (OpensRequest 0 ArrivedView None) s1) s2)
                (λ none. closed_none f2.requests 0 over.0);
            makes = λ jobs. (refl, refl, (refl, refl, last_one (answer_of a) _ over.1));
            last = refl;
            fits = over.2;
          }

  -- The need is what the region knows.

  known_need : (f0 f1 f2 : FarmParts K S) (at : Readings) (ask : ViewAsk) (need : ℕ) → ViewWaits content faults cache_of f0 f1 f2 at ask → Some need ≡ need_of (waited_view (open_at f2.requests 0))
      → (start : World) (earlier : List Turn) (v : World) → Stands content faults cache_of f0 start earlier v → need ≡ (known (at_readings at v) (region_of (view_of ask)) (view_of ask).client).position
  known_need f0 f1 f2 at ask need w told start earlier v stood =
      let (w1, stands1, leads1, later1) = w.arrives.goes_on start earlier v stood in
      let (w2, stands2, leads2, later2) = w.waits.goes_on start (turn at (Step.Arrive 0 (world.AskedView (view_of ask))) None ∷ earlier) w1 stands1 in
      let opened = opened_in (at_readings at v) (view_of ask) in
      let arrived : request_at w1 0 ≡ Some (world.ViewArrived opened) = asks (at_readings at v) (with_faults v.faults w1) (world.ViewArrived opened) leads1.takes in
      let takes : AtPoint (Some opened) 0 (at_readings at w1) None (with_faults w1.faults w2) (λ x. WaitsIn 0 true x (at_readings at w1) None (with_faults w1.faults w2)) =
      subst (λ (o : Option world.Request). AtPoint (arrived_view o) 0 (at_readings at w1) None (with_faults w1.faults w2) (λ x. WaitsIn 0 true x (at_readings at w1) None (with_faults w1.faults w2))) arrived leads2.takes in
      let there : request_at w2 0 ≡ Some (world.ViewWaited opened (floor_of (at_readings at w1) opened)) = floor_at_wait (at_readings at w1) (with_faults w1.faults w2) opened takes in
      need_is w2 (open_at f2.requests 0) (request_at w2 0) opened (floor_of (at_readings at w1) opened) need (stands2.agrees.requests 0) there told
      ∙ ap (λ k. k.position) (known_same v w1 at v.faults (world.ViewArrived opened) (region_of (view_of ask)) (view_of ask).client leads1.takes)

  pub need_known : (f0 f1 f2 f3 : FarmParts K S) (at : Readings) (ask : ViewAsk) (what : code.Asked) (r r2 : Option CodeAnswer) (told : Option ℕ) (need : ℕ) → what ≡ asked.View ask → r ≡ None → r2 ≡ None → told ≡ Some need
      → ArrivesFor content faults cache_of f0 f1 at what r → Steps content faults cache_of f1 f2 (turn_of at (Step.Wait 0 true) r2) (Waits 0 true r2) → Steps content faults cache_of f2 f3 (turn_of at (Step.Need 0) None) (ClosesWaited 0 told)
      → KnowsNeed content faults cache_of f0 f3 at (view_of ask) need
  need_known f0 f1 f2 f3 at ask what r r2 told need is none none2 some s s2 s3 =
      let w = waits_by f0 f1 f2 at ask what r r2 is none none2 s s2 in
      let t1 : Turn = turn at (Step.Arrive 0 (world.AskedView (view_of ask))) None in
      let t2 : Turn = turn at (Step.Wait 0 true) None in
      let t3 : Turn = turn at (Step.Need 0) None in
      record {
        turns = t1 ∷ t2 ∷ t3 ∷ [];
        quiet = refl;
        made = made_by f0 f3 (t1 ∷ t2 ∷ t3 ∷ [])
            (chain_next content faults cache_of f0 f2 f3 (t1 ∷ t2 ∷ []) t3 (ClosesWaited 0 told) (waits_on content faults cache_of f0 f1 f2 at ask w) s3)
            (λ free. closed_none f3.requests 0 (s3.requests.closed (waits_at content faults cache_of f0 f1 f2 at ask w)));
        then_round = λ jobs round makes. (refl, refl, (refl, refl, (refl, refl, makes)));
        is = known_need f0 f1 f2 at ask need w (sym some ∙ s3.requests.need_is);
      }
    where
      waits_by : (f0 f1 f2 : FarmParts K S) (at : Readings) (ask : ViewAsk) (what : code.Asked) (r r2 : Option CodeAnswer) → what ≡ asked.View ask → r ≡ None → r2 ≡ None → ArrivesFor content faults cache_of f0 f1 at what r
          → Steps content faults cache_of f1 f2 (turn_of at (Step.Wait 0 true) r2) (Waits 0 true r2) → ViewWaits content faults cache_of f0 f1 f2 at ask
      waits_by f0 f1 f2 at ask what r r2 is none none2 s s2 = record {
        arrives = subst (λ (w : code.Asked). ArrivesFor content faults cache_of f0 f1 at w None) is (subst (λ (x : Option CodeAnswer). ArrivesFor content faults cache_of f0 f1 at what x) none s);
        waits = subst (λ (x : Option CodeAnswer). Steps content faults cache_of f1 f2 (turn_of at (Step.Wait 0 true) x) (Waits 0 true x)) none2 s2;
      }

  -- a view that has waited without an answer has a need
  pub need_there : (f0 f1 f2 : FarmParts K S) (at : Readings) (ask : ViewAsk) (what : code.Asked) (r r2 : Option CodeAnswer) (told : Option ℕ) → what ≡ asked.View ask → r ≡ None → r2 ≡ None → told ≡ need_of (waited_view (open_at f2.requests 0))
      → ArrivesFor content faults cache_of f0 f1 at what r → Steps content faults cache_of f1 f2 (turn_of at (Step.Wait 0 true) r2) (Waits 0 true r2) → told ≡ None → ⊥
  need_there f0 f1 f2 at ask what r r2 told is none none2 told_is s s2 missing =
      let w : ViewWaits content faults cache_of f0 f1 f2 at ask = record {
        arrives = subst (λ (x : code.Asked). ArrivesFor content faults cache_of f0 f1 at x None) is (subst (λ (x : Option CodeAnswer). ArrivesFor content faults cache_of f0 f1 at what x) none s);
        waits = subst (λ (x : Option CodeAnswer). Steps content faults cache_of f1 f2 (turn_of at (Step.Wait 0 true) x) (Waits 0 true x)) none2 s2;
      } in
      by (open_at f2.requests 0) (waits_at content faults cache_of f0 f1 f2 at ask w) (sym missing ∙ told_is)
    where
      by : (o : Option OpenRequest) → Rattle.farm_core.specs.RequestLife.point_of o ≡ Rattle.farm_core.specs.RequestLife.WaitedView → None ≡ need_of (waited_view o) → ⊥
      by None at_point e = let never : ⊥ = cc in never
      by (Some (point.EditArrived x)) at_point e = let never : ⊥ = cc in never
      by (Some (point.EditBegun begun)) at_point e = let never : ⊥ = cc in never
      by (Some (point.ViewArrived view)) at_point e = let never : ⊥ = cc in never
      by (Some (point.ViewWaited view need)) at_point e = let never : ⊥ = cc in never
      by (Some (point.ViewLooked view need)) at_point e = let never : ⊥ = cc in never
      by (Some (point.ViewSnapped view snapped)) at_point e = let never : ⊥ = cc in never
      by (Some point.Taken) at_point e = let never : ⊥ = cc in never

  -- The round

  round_made : (old new : FarmParts K S) (t : Turn) → Steps content faults cache_of old new t LeavesRequests → MakesTurns content faults cache_of old new (t ∷ [])
  round_made old new t s = record {
    runs = step_runs content faults cache_of old new t LeavesRequests s;
    closed = λ none. ap (λ es. open_at es 0) s.requests ∙ none;
    shape = s.shape;
    counts = s.counts;
  }

  -- the cache of a region of a whole farm is there
  pub cache_there : (old new : FarmParts K S) (r : Region) → IsWhole old → SameShape old new → IsSome (region_at r new.home new.west).cache
  cache_there old new Home whole same = (same.whole whole).0
  cache_there old new West whole same = (same.whole whole).1

  -- the purges that are held are jobs of the round, and none is left to carry
  rounded : (f0 f3 f4 : FarmParts K S) (at : Readings) (view : world.View) (need : ℕ) (drawn : List Drawn) (held : List Taken) (views jobs : List CodeJob) (r : Region) (said : Option (List Answer)) (outcome : Outcome)
      → views ≡ map (job_at need) drawn → jobs ≡ views ++ receipts_in f3.ledger.rows held → r ≡ region_of view → KnowsNeed content faults cache_of f0 f3 at view need
      → Steps content faults cache_of f3 f4 (round_turn at r (jobs_of jobs) said) LeavesRequests
      → ((turns : List Turn) → last_reply (turns ++ round_turn at r (jobs_of jobs) said ∷ []) ≡ Some (Many said) → IsBatchAnswered view.title (turns ++ round_turn at r (jobs_of jobs) said ∷ []) outcome)
      → FitsBatch outcome
      → MakesBatch content faults cache_of f0 f4 at view (map pair_of drawn) held outcome
  rounded f0 f3 f4 at view need drawn held views jobs r said outcome views_are jobs_are_all region knows step answered fits = record {
    own = knows.turns ++ last ∷ [];
    late = [];
    made = made_joined content faults cache_of f0 f4 f4 (knows.turns ++ last ∷ []) [] (made_joined content faults cache_of f0 f3 f4 knows.turns (last ∷ []) knows.made (round_made f3 f4 last step)) (none_made content faults cache_of f4);
    makes = λ start earlier v stood receivable.
        let (w, stands, goes) = knows.made.runs start earlier v stood in
        let same : map row_message f3.ledger.rows ≡ v.messages = stands.agrees.messages ∙ quiet_goes knows.turns v w knows.quiet goes in
        let asked_for : jobs_of jobs ≡ jobs_in (at_readings at v) view (map pair_of drawn) held =
        all_jobs_are v f3.ledger.rows views jobs (map (view_job need) (map pair_of drawn)) held same receivable (ap jobs_of views_are ∙ jobs_are need drawn) jobs_are_all
        ∙ ap (λ (n : ℕ). map (view_job n) (map pair_of drawn) ++ map receipt_job held) (knows.is start earlier v stood) in
        let step_is : Step.Round r (jobs_of jobs) ≡ Step.Round (region_of view) (jobs_in (at_readings at v) view (map pair_of drawn) held) =
        ap (λ (q : Region). Step.Round q (jobs_of jobs)) region ∙ ap (λ (js : List Job). Step.Round (region_of view) js) asked_for in
        knows.then_round (jobs_in (at_readings at v) view (map pair_of drawn) held) (last ∷ []) (refl, step_is, refl);
    carried_late = subst (λ (b : Bool). AllMade at (carries (if b then [] else held)) []) (sym (last_is_round knows.turns last refl)) (all_none at);
    answered = answered knows.turns (last_is knows.turns);
    fits = fits;
  }
    where
      last : Turn
      last = round_turn at r (jobs_of jobs) said

      last_is : (turns : List Turn) → last_reply (turns ++ round_turn at r (jobs_of jobs) said ∷ []) ≡ Some (Many said)
      last_is [] = refl
      last_is (x ∷ []) = refl
      last_is (x ∷ y ∷ turns) = last_is (y ∷ turns)

  pub batch_listed : (f0 f3 f4 : FarmParts K S) (at : Readings) (view : world.View) (need : ℕ) (drawn : List Drawn) (held : List Taken) (views jobs : List CodeJob) (r : Region) (said : List Answer)
      → views ≡ map (job_at need) drawn → jobs ≡ views ++ receipts_in f3.ledger.rows held → r ≡ region_of view → KnowsNeed content faults cache_of f0 f3 at view need
      → Steps content faults cache_of f3 f4 (round_turn at r (jobs_of jobs) (Some said)) LeavesRequests
      → MakesBatch content faults cache_of f0 f4 at view (map pair_of drawn) held (Listed said)
  batch_listed f0 f3 f4 at view need drawn held views jobs r said views_are jobs_are_all region knows step =
      rounded f0 f3 f4 at view need drawn held views jobs r (Some said) (Listed said) views_are jobs_are_all region knows step (λ turns last. inr (inl (said, last, refl))) tt

  pub batch_lost : (f0 f3 f4 : FarmParts K S) (at : Readings) (view : world.View) (need : ℕ) (drawn : List Drawn) (held : List Taken) (views jobs : List CodeJob) (r : Region)
      → views ≡ map (job_at need) drawn → jobs ≡ views ++ receipts_in f3.ledger.rows held → r ≡ region_of view → KnowsNeed content faults cache_of f0 f3 at view need
      → Steps content faults cache_of f3 f4 (round_turn at r (jobs_of jobs) None) LeavesRequests
      → MakesBatch content faults cache_of f0 f4 at view (map pair_of drawn) held (Answered view.title model.NoMemory)
  batch_lost f0 f3 f4 at view need drawn held views jobs r views_are jobs_are_all region knows step =
      rounded f0 f3 f4 at view need drawn held views jobs r None (Answered view.title model.NoMemory) views_are jobs_are_all region knows step (λ turns last. inr (inr (last, refl))) tt

  -- the view ended before its round, and the purges that are held were carried
  pub batch_ended : (f0 f3 f4 : FarmParts K S) (at : Readings) (view : world.View) (drawn : List (Title × ℕ)) (held : List Taken) (a : Answer) → EndsEarly content faults cache_of f0 f3 at view a → CarriesAll content faults cache_of f3 f4 at held
      → MakesBatch content faults cache_of f0 f4 at view drawn held (Answered view.title a)
  batch_ended f0 f3 f4 at view drawn held a early carrying = record {
    own = early.turns;
    late = carrying.turns;
    made = made_joined content faults cache_of f0 f3 f4 early.turns carrying.turns early.made carrying.made;
    makes = λ start earlier v stood receivable. early.makes (jobs_in (at_readings at v) view drawn held);
    carried_late = subst (λ (b : Bool). AllMade at (carries (if b then [] else held)) carrying.turns) (sym (quiet_no_round early.turns early.quiet)) carrying.are;
    answered = inl (a, early.last, refl);
    fits = early.fits;
  }
