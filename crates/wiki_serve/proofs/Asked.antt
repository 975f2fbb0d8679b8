-- A whole request ends at its first answer, since that closes it: every answer of a step but a miss does.
use Rattle.std.proofs.Common.{◌≡◌, ℕ, ◌≤◌, ◌⊎◌, inl, inr, true, false, List, [], ◌∷◌, ◌++◌, Option, Some, None, refl, sym, ap, subst, ◌∙◌, arith}
use Rattle.std.specs.Prelude.{not, option_and_then, option_map}
use Rattle.std.specs.Option.{is_some}
use Rattle.wiki_model.specs.declared.Readings.{Readings}
use Rattle.wiki_model.specs.declared.Cause.{Cause}
use Rattle.wiki_model.specs.Bytes.{Bytes}
use Rattle.wiki_model.specs.History.{Entry, Edit}
use Rattle.wiki_model.specs.Cache.{CacheMap}
use Rattle.wiki_model.specs.World as world
use Rattle.wiki_model.specs.World.{World}
use Rattle.wiki_model.specs.Answers as model
use Rattle.wiki_model.specs.Answers.{Answer}
use Rattle.wiki_model.specs.Answered.{last_reply}
use Rattle.wiki_model.specs.Steps.{Step}
use Rattle.wiki_model.specs.Runs.{Turn, One}
use Rattle.wiki_model.specs.Sequences.{Makes, GoesOn, is_miss, steps_of_asked}
use Rattle.edit_core.specs.declared.edit_ask.EditAsk.{EditAsk}
use Rattle.edit_core.specs.AsModel.{edit_of}
use Rattle.region_state.specs.declared.answer.Answer.{Answer as CodeAnswer}
use Rattle.region_state.specs.declared.ask.ViewAsk.{ViewAsk}
use Rattle.region_state.specs.declared.ask.Asked as code
use Rattle.region_state.specs.declared.ask.Asked.TheVariants as asked
use Rattle.region_state.specs.AsModel.{answer_of, asked_of, view_of}
use Rattle.farm_steps.specs.declared.open_request.OpenRequest.{OpenRequest}
use Rattle.farm_steps.specs.declared.open_request.OpenRequest.TheVariants as point
use Rattle.farm_core.specs.FarmParts.{FarmParts, SameShape}
use Rattle.farm_steps.specs.RequestMap.{Entries, open_at, kept_at, unless_taken}
use Rattle.farm_core.specs.RequestLife.{Point, Closed, ArrivedEdit, BegunEdit, ArrivedView, WaitedView, LookedView, SnappedView, point_of, point_at, MovesOn, OpensRequest, BeginsAt, CommitsAt, WaitsAt, LooksFrom, SnapsAt, StoresFrom, Arrives, Begins, Commits, Waits, Looks, Snaps, Stores}
use Rattle.farm_core.specs.Runs.{Stands, Steps, turn_of}
use Rattle.wiki_serve.specs.Turns.{TurnsBy, IsMissed, FitsAsked, MakesAsked, MakesAnswer}
use Rattle.wiki_serve.proofs.Steps.{turn, turns_joined, step_runs, shapes}

pub closed_none : (entries : Entries) (id : ℕ) → point_at entries id ≡ Closed → open_at entries id ≡ None
closed_none entries id at = by (kept_at entries id) at
  where
    by : (o : Option OpenRequest) → point_of (option_and_then unless_taken o) ≡ Closed → option_and_then unless_taken o ≡ None
    by None e = refl
    by (Some (point.EditArrived ask)) e = let no : ⊥ = cc in absurd no
    by (Some (point.EditBegun begun)) e = let no : ⊥ = cc in absurd no
    by (Some (point.ViewArrived view)) e = let no : ⊥ = cc in absurd no
    by (Some (point.ViewWaited view need)) e = let no : ⊥ = cc in absurd no
    by (Some (point.ViewLooked view need)) e = let no : ⊥ = cc in absurd no
    by (Some (point.ViewSnapped view snapped)) e = let no : ⊥ = cc in absurd no
    by (Some point.Taken) e = refl

-- the answer ends the request
pub last_one : (said : Answer) (More : Type 0) → is_miss said ≡ false → GoesOn (not (is_miss said)) [] More
last_one said More e = subst (λ b. GoesOn (not b) [] More) (sym e) refl

-- What ends a request is no miss, and a view is never answered that an edit is saved.

pub opened_said : (said : Option Answer) (a : Answer) (old new : Entries) (id : ℕ) (first : Point) → said ≡ Some a → OpensRequest id first said old new → (a ≡ model.NoMemory) × (new ≡ old)
opened_said said a old new id first is o = by o.refused
  where
    by : (said ≡ None) ⊎ ((said ≡ Some model.NoMemory) × (new ≡ old)) → (a ≡ model.NoMemory) × (new ≡ old)
    by (inl none) = let no : ⊥ = cc in absurd no
    by (inr (memory, same)) = (cc, same)

begin_said : (a : Answer) (p : Point) → BeginsAt (Some a) p → (p ≡ Closed) × (is_miss a ≡ false)
begin_said (model.EditSaved saved) p e = (e, refl)
begin_said (model.TokenUsed entry) p e = (e, refl)
begin_said (model.Conflict base current) p e = (e, refl)
begin_said model.StoreFault p e = (e, refl)
begin_said model.NoMemory p e = (e, refl)
begin_said _ p e = absurd e

commit_said : (a : Answer) (p : Point) → CommitsAt (Some a) p → (p ≡ Closed) × (is_miss a ≡ false)
commit_said (model.EditSaved saved) p e = (e, refl)
commit_said (model.TokenUsed entry) p e = (e, refl)
commit_said (model.Conflict base current) p e = (e, refl)
commit_said model.StoreFault p e = (e, refl)
commit_said model.NoMemory p e = (e, refl)
commit_said _ p e = absurd e

wait_said : (view : world.View) (a : Answer) (p : Point) → WaitsAt true (Some a) p → (p ≡ Closed) × (is_miss a ≡ false) × FitsAsked (world.AskedView view) a
wait_said view (model.Lagging by needed reached) p e = (e, refl, tt)
wait_said view _ p e = absurd e

snap_said : (view : world.View) (a : Answer) (p : Point) → SnapsAt (Some a) p → (p ≡ Closed) × (is_miss a ≡ false) × FitsAsked (world.AskedView view) a
snap_said view model.NoMemory p e = (e, refl, tt)
snap_said view _ p e = absurd e

store_said : (view : world.View) (a : Answer) (p : Point) → StoresFrom (Some a) p → (p ≡ Closed) × (is_miss a ≡ false) × FitsAsked (world.AskedView view) a
store_said view (model.Page page) p e = (e, refl, tt)
store_said view (model.NoPage source) p e = (e, refl, tt)
store_said view model.NoMemory p e = (e, refl, tt)
store_said view _ p e = absurd e

look_said : (view : world.View) (a : Answer) (p : Point) → is_miss a ≡ false → LooksFrom (Some a) p → (p ≡ Closed) × FitsAsked (world.AskedView view) a
look_said view (model.Page page) p none e = (e, tt)
look_said view (model.Miss why) p none e = let no : ⊥ = cc in absurd no
look_said view model.NoMemory p none e = (e, tt)
look_said view _ p none e = absurd e

-- a look that has a page, and one that has none
no_miss : (said : Option Answer) → (IsMissed said → ⊥) → (a : Answer) → said ≡ Some a → is_miss a ≡ false
no_miss said found a is = by a (subst (λ (s : Option Answer). IsMissed s → ⊥) is found)
  where
    by : (b : Answer) → (IsMissed (Some b) → ⊥) → is_miss b ≡ false
    by (model.Miss why) f = absurd (f tt)
    by _ f = refl

missed : (said : Option Answer) → IsMissed said → (why : Cause) × (said ≡ Some (model.Miss why))
missed (Some (model.Miss why)) m = (why, refl)
missed _ m = absurd m

pub waited : (p : Point) → (p ≡ WaitedView) ⊎ ((true ≡ false) × (p ≡ ArrivedView)) → p ≡ WaitedView
waited p (inl e) = e
waited p (inr (never, e)) = let none : ⊥ = cc in absurd none

module _ {K S : Type 0} (content : K → Option (List Entry)) (faults : K → ℕ) (cache_of : S → CacheMap Bytes) where
  -- steps that were made one after another
  pub record Chain (old new : FarmParts K S) (turns : List Turn) : Type 0 where
    pub runs : TurnsBy (Stands content faults cache_of old) (Stands content faults cache_of new) turns
    pub shape : SameShape old new
    pub counts : faults old.keeper ≤ faults new.keeper

  pub chain_one : (old new : FarmParts K S) (t : Turn) (Moves : (old new : Entries) → Type 0) → Steps content faults cache_of old new t Moves → Chain old new (t ∷ [])
  chain_one old new t Moves s = record { runs = step_runs content faults cache_of old new t Moves s; shape = s.shape; counts = s.counts }

  pub chain_next : (old mid new : FarmParts K S) (xs : List Turn) (t : Turn) (Moves : (old new : Entries) → Type 0) → Chain old mid xs → Steps content faults cache_of mid new t Moves → Chain old new (xs ++ t ∷ [])
  chain_next old mid new xs t Moves a s = record {
    runs = turns_joined (Stands content faults cache_of old) (Stands content faults cache_of mid) (Stands content faults cache_of new) xs (t ∷ []) a.runs (step_runs content faults cache_of mid new t Moves s);
    shape = shapes old mid new a.shape s.shape;
    counts = let x = a.counts in let y = s.counts in omega (arith, x, y);
  }

  chain_done : (old new : FarmParts K S) (at : Readings) (what : world.Asked) (said : Answer) (turns : List Turn) → Chain old new turns → (open_at old.requests 0 ≡ None → open_at new.requests 0 ≡ None)
      → Makes at (steps_of_asked what) turns → last_reply turns ≡ Some (One (Some said)) → FitsAsked what said → MakesAsked content faults cache_of old new at what said
  chain_done old new at what said turns a closed makes last fits = record {
    turns = turns;
    made = record { runs = a.runs; closed = closed; shape = a.shape; counts = a.counts };
    makes = makes;
    last = last;
    fits = fits;
  }

  not_noted : (old new : FarmParts K S) (at : Readings) (what : world.Asked) (first : Point) (said : Answer)
      → Steps content faults cache_of old new (turn at (Step.Arrive 0 what) (Some said)) (OpensRequest 0 first (Some said)) → MakesAsked content faults cache_of old new at what said
  not_noted old new at what first said s =
      let over = opened_said (Some said) said old.requests new.requests 0 first refl s.requests in
      chain_done old new at what said (turn at (Step.Arrive 0 what) (Some said) ∷ [])
      (chain_one old new (turn at (Step.Arrive 0 what) (Some said)) (OpensRequest 0 first (Some said)) s)
      (λ none. ap (λ (es : Entries). open_at es 0) over.1 ∙ none)
      (makes what (ap is_miss over.0)) refl (subst (FitsAsked what) (sym over.0) (fits what))
    where
      makes : (a : world.Asked) → is_miss said ≡ false → Makes at (steps_of_asked a) (turn at (Step.Arrive 0 a) (Some said) ∷ [])
      makes (world.AskedEdit edit) e = (refl, refl, last_one said _ e)
      makes (world.AskedView view) e = (refl, refl, last_one said _ e)

      fits : (a : world.Asked) → FitsAsked a model.NoMemory
      fits (world.AskedEdit edit) = tt
      fits (world.AskedView view) = tt

  -- Edits

  edit_begins : (f0 f1 f2 : FarmParts K S) (at : Readings) (edit : Edit) (said : Answer)
      → Steps content faults cache_of f0 f1 (turn at (Step.Arrive 0 (world.AskedEdit edit)) None) (OpensRequest 0 ArrivedEdit None)
      → Steps content faults cache_of f1 f2 (turn at (Step.Begin 0) (Some said)) (MovesOn 0 ArrivedEdit BeginsAt (Some said))
      → MakesAsked content faults cache_of f0 f2 at (world.AskedEdit edit) said
  edit_begins f0 f1 f2 at edit said s1 s2 =
      let over = begin_said said (point_at f2.requests 0) (s2.requests.moved (s1.requests.opened refl)) in
      let t1 : Turn = turn at (Step.Arrive 0 (world.AskedEdit edit)) None in
      let t2 : Turn = turn at (Step.Begin 0) (Some said) in
      let one = chain_one f0 f1 t1 (OpensRequest 0 ArrivedEdit None) s1 in
      let two = chain_next f0 f1 f2 (t1 ∷ []) t2 (MovesOn 0 ArrivedEdit BeginsAt (Some said)) one s2 in
      chain_done f0 f2 at (world.AskedEdit edit) said (t1 ∷ t2 ∷ []) two (λ none. closed_none f2.requests 0 over.0)
      (refl, refl, (refl, refl, last_one said _ over.1)) refl tt

  edit_commits : (f0 f1 f2 f3 : FarmParts K S) (at : Readings) (edit : Edit) (said : Option Answer)
      → Steps content faults cache_of f0 f1 (turn at (Step.Arrive 0 (world.AskedEdit edit)) None) (OpensRequest 0 ArrivedEdit None)
      → Steps content faults cache_of f1 f2 (turn at (Step.Begin 0) None) (MovesOn 0 ArrivedEdit BeginsAt None)
      → Steps content faults cache_of f2 f3 (turn at (Step.CommitEdit 0) said) (MovesOn 0 BegunEdit CommitsAt said)
      → MakesAnswer content faults cache_of f0 f3 at (world.AskedEdit edit) said
  edit_commits f0 f1 f2 f3 at edit None s1 s2 s3 = s3.requests.moved (s2.requests.moved (s1.requests.opened refl))
  edit_commits f0 f1 f2 f3 at edit (Some said) s1 s2 s3 =
      let over = commit_said said (point_at f3.requests 0) (s3.requests.moved (s2.requests.moved (s1.requests.opened refl))) in
      let t1 : Turn = turn at (Step.Arrive 0 (world.AskedEdit edit)) None in
      let t2 : Turn = turn at (Step.Begin 0) None in
      let t3 : Turn = turn at (Step.CommitEdit 0) (Some said) in
      let one = chain_one f0 f1 t1 (OpensRequest 0 ArrivedEdit None) s1 in
      let two = chain_next f0 f1 f2 (t1 ∷ []) t2 (MovesOn 0 ArrivedEdit BeginsAt None) one s2 in
      let three = chain_next f0 f2 f3 (t1 ∷ t2 ∷ []) t3 (MovesOn 0 BegunEdit CommitsAt (Some said)) two s3 in
      chain_done f0 f3 at (world.AskedEdit edit) said (t1 ∷ t2 ∷ t3 ∷ []) three (λ none. closed_none f3.requests 0 over.0)
      (refl, refl, (refl, refl, (refl, refl, last_one said _ over.1))) refl tt

  -- Views

  view_waits : (f0 f1 f2 : FarmParts K S) (at : Readings) (view : world.View) (said : Answer)
      → Steps content faults cache_of f0 f1 (turn at (Step.Arrive 0 (world.AskedView view)) None) (OpensRequest 0 ArrivedView None)
      → Steps content faults cache_of f1 f2 (turn at (Step.Wait 0 true) (Some said)) (MovesOn 0 ArrivedView (WaitsAt true) (Some said))
      → MakesAsked content faults cache_of f0 f2 at (world.AskedView view) said
  view_waits f0 f1 f2 at view said s1 s2 =
      let over = wait_said view said (point_at f2.requests 0) (s2.requests.moved (s1.requests.opened refl)) in
      let t1 : Turn = turn at (Step.Arrive 0 (world.AskedView view)) None in
      let t2 : Turn = turn at (Step.Wait 0 true) (Some said) in
      let one = chain_one f0 f1 t1 (OpensRequest 0 ArrivedView None) s1 in
      let two = chain_next f0 f1 f2 (t1 ∷ []) t2 (MovesOn 0 ArrivedView (WaitsAt true) (Some said)) one s2 in
      chain_done f0 f2 at (world.AskedView view) said (t1 ∷ t2 ∷ []) two (λ none. closed_none f2.requests 0 over.0)
      (refl, refl, (refl, refl, last_one said _ over.1)) refl over.2

  -- what a view has made when it has waited
  pub record ViewWaits (f0 f1 f2 : FarmParts K S) (at : Readings) (ask : ViewAsk) : Type 0 where
    pub arrives : Steps content faults cache_of f0 f1 (turn at (Step.Arrive 0 (world.AskedView (view_of ask))) None) (OpensRequest 0 ArrivedView None)
    pub waits : Steps content faults cache_of f1 f2 (turn at (Step.Wait 0 true) None) (MovesOn 0 ArrivedView (WaitsAt true) None)

  pub waits_on : (f0 f1 f2 : FarmParts K S) (at : Readings) (ask : ViewAsk) → ViewWaits f0 f1 f2 at ask → Chain f0 f2 (turn at (Step.Arrive 0 (world.AskedView (view_of ask))) None ∷ turn at (Step.Wait 0 true) None ∷ [])
  waits_on f0 f1 f2 at ask w =
      let t1 : Turn = turn at (Step.Arrive 0 (world.AskedView (view_of ask))) None in
      let t2 : Turn = turn at (Step.Wait 0 true) None in
      chain_next f0 f1 f2 (t1 ∷ []) t2 (MovesOn 0 ArrivedView (WaitsAt true) None) (chain_one f0 f1 t1 (OpensRequest 0 ArrivedView None) w.arrives) w.waits

  pub waits_at : (f0 f1 f2 : FarmParts K S) (at : Readings) (ask : ViewAsk) → ViewWaits f0 f1 f2 at ask → point_at f2.requests 0 ≡ WaitedView
  waits_at f0 f1 f2 at ask w = waited (point_at f2.requests 0) (w.waits.requests.moved (w.arrives.requests.opened refl))

  view_looks : (f0 f1 f2 f3 : FarmParts K S) (at : Readings) (ask : ViewAsk) (said : Option Answer) → ((a : Answer) → said ≡ Some a → is_miss a ≡ false) → ViewWaits f0 f1 f2 at ask
      → Steps content faults cache_of f2 f3 (turn at (Step.Look 0) said) (MovesOn 0 WaitedView LooksFrom said)
      → MakesAnswer content faults cache_of f0 f3 at (world.AskedView (view_of ask)) said
  view_looks f0 f1 f2 f3 at ask None no_miss w s3 = s3.requests.moved (waits_at f0 f1 f2 at ask w)
  view_looks f0 f1 f2 f3 at ask (Some said) no_miss w s3 =
      let plain = no_miss said refl in
      let over = look_said (view_of ask) said (point_at f3.requests 0) plain (s3.requests.moved (waits_at f0 f1 f2 at ask w)) in
      let t1 : Turn = turn at (Step.Arrive 0 (world.AskedView (view_of ask))) None in
      let t2 : Turn = turn at (Step.Wait 0 true) None in
      let t3 : Turn = turn at (Step.Look 0) (Some said) in
      let three = chain_next f0 f2 f3 (t1 ∷ t2 ∷ []) t3 (MovesOn 0 WaitedView LooksFrom (Some said)) (waits_on f0 f1 f2 at ask w) s3 in
      chain_done f0 f3 at (world.AskedView (view_of ask)) said (t1 ∷ t2 ∷ t3 ∷ []) three (λ none. closed_none f3.requests 0 over.0)
      (refl, refl, (refl, refl, (refl, refl, last_one said _ plain))) refl over.1

  view_snaps : (f0 f1 f2 f3 f4 : FarmParts K S) (at : Readings) (ask : ViewAsk) (why : Cause) (said : Answer) → ViewWaits f0 f1 f2 at ask
      → Steps content faults cache_of f2 f3 (turn at (Step.Look 0) (Some (model.Miss why))) (MovesOn 0 WaitedView LooksFrom (Some (model.Miss why)))
      → Steps content faults cache_of f3 f4 (turn at (Step.Snap 0) (Some said)) (MovesOn 0 LookedView SnapsAt (Some said))
      → MakesAsked content faults cache_of f0 f4 at (world.AskedView (view_of ask)) said
  view_snaps f0 f1 f2 f3 f4 at ask why said w s3 s4 =
      let over = snap_said (view_of ask) said (point_at f4.requests 0) (s4.requests.moved (s3.requests.moved (waits_at f0 f1 f2 at ask w))) in
      let t1 : Turn = turn at (Step.Arrive 0 (world.AskedView (view_of ask))) None in
      let t2 : Turn = turn at (Step.Wait 0 true) None in
      let t3 : Turn = turn at (Step.Look 0) (Some (model.Miss why)) in
      let t4 : Turn = turn at (Step.Snap 0) (Some said) in
      let three = chain_next f0 f2 f3 (t1 ∷ t2 ∷ []) t3 (MovesOn 0 WaitedView LooksFrom (Some (model.Miss why))) (waits_on f0 f1 f2 at ask w) s3 in
      let four = chain_next f0 f3 f4 (t1 ∷ t2 ∷ t3 ∷ []) t4 (MovesOn 0 LookedView SnapsAt (Some said)) three s4 in
      chain_done f0 f4 at (world.AskedView (view_of ask)) said (t1 ∷ t2 ∷ t3 ∷ t4 ∷ []) four (λ none. closed_none f4.requests 0 over.0)
      (refl, refl, (refl, refl, (refl, refl, (refl, refl, last_one said _ over.1)))) refl over.2

  view_stores : (f0 f1 f2 f3 f4 f5 : FarmParts K S) (at : Readings) (ask : ViewAsk) (why : Cause) (said : Option Answer) → ViewWaits f0 f1 f2 at ask
      → Steps content faults cache_of f2 f3 (turn at (Step.Look 0) (Some (model.Miss why))) (MovesOn 0 WaitedView LooksFrom (Some (model.Miss why)))
      → Steps content faults cache_of f3 f4 (turn at (Step.Snap 0) None) (MovesOn 0 LookedView SnapsAt None)
      → Steps content faults cache_of f4 f5 (turn at (Step.Store 0) said) (MovesOn 0 SnappedView StoresFrom said)
      → MakesAnswer content faults cache_of f0 f5 at (world.AskedView (view_of ask)) said
  view_stores f0 f1 f2 f3 f4 f5 at ask why None w s3 s4 s5 = s5.requests.moved (s4.requests.moved (s3.requests.moved (waits_at f0 f1 f2 at ask w)))
  view_stores f0 f1 f2 f3 f4 f5 at ask why (Some said) w s3 s4 s5 =
      let over = store_said (view_of ask) said (point_at f5.requests 0) (s5.requests.moved (s4.requests.moved (s3.requests.moved (waits_at f0 f1 f2 at ask w)))) in
      let t1 : Turn = turn at (Step.Arrive 0 (world.AskedView (view_of ask))) None in
      let t2 : Turn = turn at (Step.Wait 0 true) None in
      let t3 : Turn = turn at (Step.Look 0) (Some (model.Miss why)) in
      let t4 : Turn = turn at (Step.Snap 0) None in
      let t5 : Turn = turn at (Step.Store 0) (Some said) in
      let three = chain_next f0 f2 f3 (t1 ∷ t2 ∷ []) t3 (MovesOn 0 WaitedView LooksFrom (Some (model.Miss why))) (waits_on f0 f1 f2 at ask w) s3 in
      let four = chain_next f0 f3 f4 (t1 ∷ t2 ∷ t3 ∷ []) t4 (MovesOn 0 LookedView SnapsAt None) three s4 in
      let five = chain_next f0 f4 f5 (t1 ∷ t2 ∷ t3 ∷ t4 ∷ []) t5 (MovesOn 0 SnappedView StoresFrom (Some said)) four s5 in
      chain_done f0 f5 at (world.AskedView (view_of ask)) said (t1 ∷ t2 ∷ t3 ∷ t4 ∷ t5 ∷ []) five (λ none. closed_none f5.requests 0 over.0)
      (refl, refl, (refl, refl, (refl, refl, (refl, refl, (refl, refl, last_one said _ over.1))))) refl over.2

  -- The same, as the farm's calls say it

  -- the request that arrives
  abbrev pub ArrivesFor : (f0 f1 : FarmParts K S) → Readings → code.Asked → Option CodeAnswer → Type 0
  ArrivesFor f0 f1 at what r = Steps content faults cache_of f0 f1 (turn_of at (Step.Arrive 0 (asked_of what)) r) (Arrives 0 what r)

  pub edit_refused : (f0 f1 : FarmParts K S) (at : Readings) (ask : EditAsk) (what : code.Asked) (r : Option CodeAnswer) → what ≡ asked.Edit ask → true ≡ is_some r → ArrivesFor f0 f1 at what r
      → MakesAnswer content faults cache_of f0 f1 at (world.AskedEdit (edit_of ask)) (option_map answer_of r)
  edit_refused f0 f1 at ask what None is some s = let never : ⊥ = cc in absurd never
  edit_refused f0 f1 at ask what (Some a) is some s =
      not_noted f0 f1 at (world.AskedEdit (edit_of ask)) ArrivedEdit (answer_of a) (subst (λ (w : code.Asked). ArrivesFor f0 f1 at w (Some a)) is s)

  pub edit_decided : (f0 f1 f2 : FarmParts K S) (at : Readings) (ask : EditAsk) (what : code.Asked) (r r2 : Option CodeAnswer) → what ≡ asked.Edit ask → false ≡ is_some r → true ≡ is_some r2 → ArrivesFor f0 f1 at what r
      → Steps content faults cache_of f1 f2 (turn_of at (Step.Begin 0) r2) (Begins 0 r2)
      → MakesAnswer content faults cache_of f0 f2 at (world.AskedEdit (edit_of ask)) (option_map answer_of r2)
  edit_decided f0 f1 f2 at ask what (Some a) r2 is none some s s2 = let never : ⊥ = cc in absurd never
  edit_decided f0 f1 f2 at ask what None None is none some s s2 = let never : ⊥ = cc in absurd never
  edit_decided f0 f1 f2 at ask what None (Some b) is none some s s2 = edit_begins f0 f1 f2 at (edit_of ask) (answer_of b) (subst (λ (w : code.Asked). ArrivesFor f0 f1 at w None) is s) s2

  pub edit_made : (f0 f1 f2 f3 : FarmParts K S) (at : Readings) (ask : EditAsk) (what : code.Asked) (r r2 r3 : Option CodeAnswer) → what ≡ asked.Edit ask → false ≡ is_some r → false ≡ is_some r2 → ArrivesFor f0 f1 at what r
      → Steps content faults cache_of f1 f2 (turn_of at (Step.Begin 0) r2) (Begins 0 r2)
      → Steps content faults cache_of f2 f3 (turn_of at (Step.CommitEdit 0) r3) (Commits 0 r3)
      → MakesAnswer content faults cache_of f0 f3 at (world.AskedEdit (edit_of ask)) (option_map answer_of r3)
  edit_made f0 f1 f2 f3 at ask what (Some a) r2 r3 is none none2 s s2 s3 = let never : ⊥ = cc in absurd never
  edit_made f0 f1 f2 f3 at ask what None (Some b) r3 is none none2 s s2 s3 = let never : ⊥ = cc in absurd never
  edit_made f0 f1 f2 f3 at ask what None None r3 is none none2 s s2 s3 = edit_commits f0 f1 f2 f3 at (edit_of ask) (option_map answer_of r3) (subst (λ (w : code.Asked). ArrivesFor f0 f1 at w None) is s) s2 s3

  pub view_refused : (f0 f1 : FarmParts K S) (at : Readings) (ask : ViewAsk) (what : code.Asked) (r : Option CodeAnswer) → what ≡ asked.View ask → true ≡ is_some r → ArrivesFor f0 f1 at what r
      → MakesAnswer content faults cache_of f0 f1 at (world.AskedView (view_of ask)) (option_map answer_of r)
  view_refused f0 f1 at ask what None is some s = let never : ⊥ = cc in absurd never
  view_refused f0 f1 at ask what (Some a) is some s =
      not_noted f0 f1 at (world.AskedView (view_of ask)) ArrivedView (answer_of a) (subst (λ (w : code.Asked). ArrivesFor f0 f1 at w (Some a)) is s)

  pub view_lags : (f0 f1 f2 : FarmParts K S) (at : Readings) (ask : ViewAsk) (what : code.Asked) (r r2 : Option CodeAnswer) → what ≡ asked.View ask → false ≡ is_some r → true ≡ is_some r2 → ArrivesFor f0 f1 at what r
      → Steps content faults cache_of f1 f2 (turn_of at (Step.Wait 0 true) r2) (Waits 0 true r2)
      → MakesAnswer content faults cache_of f0 f2 at (world.AskedView (view_of ask)) (option_map answer_of r2)
  view_lags f0 f1 f2 at ask what (Some a) r2 is none some s s2 = let never : ⊥ = cc in absurd never
  view_lags f0 f1 f2 at ask what None None is none some s s2 = let never : ⊥ = cc in absurd never
  view_lags f0 f1 f2 at ask what None (Some b) is none some s s2 = view_waits f0 f1 f2 at (view_of ask) (answer_of b) (subst (λ (w : code.Asked). ArrivesFor f0 f1 at w None) is s) s2

  pub view_waited : (f0 f1 f2 : FarmParts K S) (at : Readings) (ask : ViewAsk) (what : code.Asked) (r r2 : Option CodeAnswer) → what ≡ asked.View ask → false ≡ is_some r → false ≡ is_some r2 → ArrivesFor f0 f1 at what r
      → Steps content faults cache_of f1 f2 (turn_of at (Step.Wait 0 true) r2) (Waits 0 true r2) → ViewWaits f0 f1 f2 at ask
  view_waited f0 f1 f2 at ask what (Some a) r2 is none none2 s s2 = let never : ⊥ = cc in absurd never
  view_waited f0 f1 f2 at ask what None (Some b) is none none2 s s2 = let never : ⊥ = cc in absurd never
  view_waited f0 f1 f2 at ask what None None is none none2 s s2 = record { arrives = subst (λ (w : code.Asked). ArrivesFor f0 f1 at w None) is s; waits = s2 }

  pub view_hits : (f0 f1 f2 f3 : FarmParts K S) (at : Readings) (ask : ViewAsk) (r3 : Option CodeAnswer) → ViewWaits f0 f1 f2 at ask → (IsMissed (option_map answer_of r3) → ⊥)
      → Steps content faults cache_of f2 f3 (turn_of at (Step.Look 0) r3) (Looks 0 r3)
      → MakesAnswer content faults cache_of f0 f3 at (world.AskedView (view_of ask)) (option_map answer_of r3)
  view_hits f0 f1 f2 f3 at ask r3 w found s3 = view_looks f0 f1 f2 f3 at ask (option_map answer_of r3) (no_miss (option_map answer_of r3) found) w s3

  pub view_is_refused : (f0 f1 f2 f3 f4 : FarmParts K S) (at : Readings) (ask : ViewAsk) (r3 r4 : Option CodeAnswer) → ViewWaits f0 f1 f2 at ask → IsMissed (option_map answer_of r3) → true ≡ is_some r4
      → Steps content faults cache_of f2 f3 (turn_of at (Step.Look 0) r3) (Looks 0 r3)
      → Steps content faults cache_of f3 f4 (turn_of at (Step.Snap 0) r4) (Snaps 0 r4)
      → MakesAnswer content faults cache_of f0 f4 at (world.AskedView (view_of ask)) (option_map answer_of r4)
  view_is_refused f0 f1 f2 f3 f4 at ask r3 None w miss some s3 s4 = let never : ⊥ = cc in absurd never
  view_is_refused f0 f1 f2 f3 f4 at ask r3 (Some d) w miss some s3 s4 =
      let m = missed (option_map answer_of r3) miss in
      view_snaps f0 f1 f2 f3 f4 at ask m.0 (answer_of d) w
      (subst (λ (said : Option Answer). Steps content faults cache_of f2 f3 (turn at (Step.Look 0) said) (MovesOn 0 WaitedView LooksFrom said)) m.1 s3) s4

  pub view_made : (f0 f1 f2 f3 f4 f5 : FarmParts K S) (at : Readings) (ask : ViewAsk) (r3 r4 r5 : Option CodeAnswer) → ViewWaits f0 f1 f2 at ask → IsMissed (option_map answer_of r3) → false ≡ is_some r4
      → Steps content faults cache_of f2 f3 (turn_of at (Step.Look 0) r3) (Looks 0 r3)
      → Steps content faults cache_of f3 f4 (turn_of at (Step.Snap 0) r4) (Snaps 0 r4)
      → Steps content faults cache_of f4 f5 (turn_of at (Step.Store 0) r5) (Stores 0 r5)
      → MakesAnswer content faults cache_of f0 f5 at (world.AskedView (view_of ask)) (option_map answer_of r5)
  view_made f0 f1 f2 f3 f4 f5 at ask r3 (Some d) r5 w miss none s3 s4 s5 = let never : ⊥ = cc in absurd never
  view_made f0 f1 f2 f3 f4 f5 at ask r3 None r5 w miss none s3 s4 s5 =
      let m = missed (option_map answer_of r3) miss in
      view_stores f0 f1 f2 f3 f4 f5 at ask m.0 (option_map answer_of r5) w
      (subst (λ (said : Option Answer). Steps content faults cache_of f2 f3 (turn at (Step.Look 0) said) (MovesOn 0 WaitedView LooksFrom said)) m.1 s3) s4 s5
