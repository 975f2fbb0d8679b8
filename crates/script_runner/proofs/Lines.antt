-- A line's steps follow each other, each from the farm that the one before it left; so a run goes on by all their turns. The line
-- ends at its first answer, since that closes the request: every answer of a step but a miss does.
use Rattle.std.proofs.Common.{◌≡◌, ℕ, ◌+◌, ◌≤◌, ◌⊎◌, inl, inr, Bool, true, false, List, [], ◌∷◌, ◌++◌, Option, Some, None, refl, sym, ap, subst, ◌∙◌, arith, nat_eq}
use Rattle.std.specs.Prelude.{not, option_and_then, option_map}
use Rattle.std.specs.Option.{is_some}
use Rattle.std.proofs.lemmas.Bool.Decides.{nat_tests}
use Rattle.wiki_model.specs.declared.Readings.{Readings}
use Rattle.wiki_model.specs.Bytes.{Bytes}
use Rattle.wiki_model.specs.History.{Entry, Edit}
use Rattle.wiki_model.specs.Cache.{CacheMap}
use Rattle.wiki_model.specs.World as world
use Rattle.wiki_model.specs.World.{World}
use Rattle.wiki_model.specs.Answers as model
use Rattle.wiki_model.specs.Answers.{Answer}
use Rattle.wiki_model.specs.Steps.{Step}
use Rattle.wiki_model.specs.Runs.{Turn, One}
use Rattle.wiki_model.specs.Sequences.{Makes, GoesOn, ends, is_miss, steps_of_asked}
use Rattle.wiki_model.specs.Script.{Line, EditLine, ViewLine, Open, steps_of, is_composite}
use Rattle.wiki_model.specs.declared.Cause.{Cause}
use Rattle.edit_core.specs.declared.edit_ask.EditAsk.{EditAsk}
use Rattle.edit_core.specs.AsModel.{edit_of}
use Rattle.region_state.specs.declared.answer.Answer.{Answer as CodeAnswer}
use Rattle.region_state.specs.declared.ask.ViewAsk.{ViewAsk}
use Rattle.region_state.specs.declared.ask.Asked as code
use Rattle.region_state.specs.declared.ask.Asked.TheVariants as asked
use Rattle.region_state.specs.AsModel.{answer_of, asked_of, view_of}
use Rattle.wiki_model.specs.Report.{shown}
use Rattle.farm_steps.specs.declared.open_request.OpenRequest.{OpenRequest}
use Rattle.farm_steps.specs.declared.open_request.OpenRequest.TheVariants as point
use Rattle.farm_core.specs.FarmParts.{FarmParts, SameShape}
use Rattle.farm_steps.specs.RequestMap.{Entries, open_at, kept_at, unless_taken}
use Rattle.farm_core.specs.RequestLife.{Point, Closed, ArrivedEdit, BegunEdit, ArrivedView, WaitedView, LookedView, SnappedView, point_of, point_at, MovesOn, OpensRequest, LeavesRequests, BeginsAt, CommitsAt, WaitsAt, LooksFrom, SnapsAt, StoresFrom, Arrives, Begins, Commits, Waits, Looks, Snaps, Stores}
use Rattle.farm_core.specs.Runs.{Stands, Steps, turn_of}
use Rattle.script_runner.specs.MakeLine.{opens, shown_once, IsMissed, MakesLine}

-- a turn of this step
abbrev pub turn : Readings → Step → Option Answer → Turn
turn at step said = record { at = at; step = step; reply = One said }

-- requests that are closed

pub closed_none : (entries : Entries) (id : ℕ) → point_at entries id ≡ Closed → open_at entries id ≡ None
closed_none entries id at = by (kept_at entries id) at
  where
    by : (o : Option OpenRequest) → point_of (option_and_then unless_taken o) ≡ Closed → option_and_then unless_taken o ≡ None
    by None e = refl
    by (Some (point.EditArrived ask)) e = let no : ⊥ = cc in absurd no
    by (Some (point.EditBegun begun)) e = let no : ⊥ = cc in absurd no
    by (Some (point.ViewArrived view)) e = let no : ⊥ = cc in absurd no
    by (Some (point.ViewWaited view need)) e = let no : ⊥ = cc in absurd no
    by (Some (point.ViewLooked view need)) e = let no : ⊥ = cc in absurd no
    by (Some (point.ViewSnapped view snapped)) e = let no : ⊥ = cc in absurd no
    by (Some point.Taken) e = refl

-- a step on a request leaves what is closed
pub moves_closed : (id : ℕ) (from : Point) (To : Option Answer → Point → Type 0) (said : Option Answer) (old new : Entries) → (Closed ≡ from → ⊥) → MovesOn id from To said old new
    → (other : ℕ) → open_at old other ≡ None → open_at new other ≡ None
moves_closed id from To said old new differs m other none = by (nat_eq other id) refl
  where
    by : (b : Bool) → nat_eq other id ≡ b → open_at new other ≡ None
    by true e =
        let same : other ≡ id = grind (arith, nat_tests, e) in
        let here : open_at old id ≡ None = ap (open_at old) (sym same) ∙ none in
        let stays = (m.refused (λ at. differs (sym (ap point_of here) ∙ at))).1 in
        ap (λ (es : Entries). open_at es other) stays ∙ none
    by false e = m.others other e ∙ none

pub opens_closed : (id : ℕ) (first : Point) (said : Option Answer) (old new : Entries) → OpensRequest id first said old new → (other : ℕ) → nat_eq id other ≡ false → open_at old other ≡ None → open_at new other ≡ None
opens_closed id first said old new o other differ none = o.others other (let e : nat_eq other id ≡ false = grind (arith, nat_tests, differ) in e) ∙ none

-- A line of one step

ended : (b : Bool) (rest : List Turn) → rest ≡ [] → GoesOn b rest (rest ≡ [])
ended true rest e = e
ended false rest e = e

shows_one : (b : Bool) (said : Option Answer) → b ≡ false → shown b (One said) ++ [] ≡ shown_once said
shows_one true said e = let no : ⊥ = cc in absurd no
shows_one false None e = refl
shows_one false (Some answer) e = refl

pub one_step : {K S : Type 0} (content : K → Option (List Entry)) (faults : K → ℕ) (cache_of : S → CacheMap Bytes) (old new : FarmParts K S) (at : Readings) (line : Line) (step : Step) (said : Option Answer) (Moves : (old new : Entries) → Type 0)
    → Steps content faults cache_of old new (turn at step said) Moves → steps_of line ≡ step ∷ [] → is_composite line ≡ false
    → ((id : ℕ) → opens line id ≡ false → open_at old.requests id ≡ None → open_at new.requests id ≡ None)
    → MakesLine content faults cache_of old new at line said
one_step content faults cache_of old new at line step said Moves s steps_is plain closed = record {
  runs = λ start turns v stands.
      let next = s.goes_on start turns v stands in
      record {
        made = turn at step said ∷ [];
        world = next.0;
        stands = next.1;
        makes = subst (λ ss. Makes at ss (turn at step said ∷ [])) (sym steps_is) (refl, refl, ended (ends (One said)) [] refl);
        shows = shows_one (is_composite line) said plain;
      };
  closed = closed;
  shape = s.shape;
  counts = s.counts;
}

-- a line that makes no step
pub no_step : {K S : Type 0} (content : K → Option (List Entry)) (faults : K → ℕ) (cache_of : S → CacheMap Bytes) (farm : FarmParts K S) (at : Readings) (line : Line) → steps_of line ≡ [] → MakesLine content faults cache_of farm farm at line None
no_step content faults cache_of farm at line none = record {
  runs = λ start turns v stands. record {
    made = [];
    world = v;
    stands = stands;
    makes = subst (λ ss. Makes at ss []) (sym none) refl;
    shows = refl;
  };
  closed = λ id opens is. is;
  shape = record { plan = refl; whole = λ whole. whole; home = refl; west = refl };
  counts = omega arith;
}

-- Several steps

-- the answer ends the line
last_one : (said : Answer) (More : Type 0) → is_miss said ≡ false → GoesOn (not (is_miss said)) [] More
last_one said More e = subst (λ b. GoesOn (not b) [] More) (sym e) refl

shows_last : (said : Answer) → is_miss said ≡ false → shown true (One (Some said)) ++ [] ≡ said ∷ []
shows_last said e = subst (λ b. (Rattle.std.specs.Prelude.if◌then◌else◌ b [] (said ∷ [])) ++ [] ≡ said ∷ []) (sym e) refl

-- what ends a request is no miss
opened_said : (said : Option Answer) (a : Answer) (old new : Entries) (id : ℕ) (first : Point) → said ≡ Some a → OpensRequest id first said old new → (is_miss a ≡ false) × (new ≡ old)
opened_said said a old new id first is o = by o.refused
  where
    by : (said ≡ None) ⊎ ((said ≡ Some model.NoMemory) × (new ≡ old)) → (is_miss a ≡ false) × (new ≡ old)
    by (inl none) = let no : ⊥ = cc in absurd no
    by (inr (memory, same)) = (let e : a ≡ model.NoMemory = cc in ap is_miss e, same)

begin_said : (a : Answer) (p : Point) → BeginsAt (Some a) p → (p ≡ Closed) × (is_miss a ≡ false)
begin_said (model.EditSaved saved) p e = (e, refl)
begin_said (model.TokenUsed entry) p e = (e, refl)
begin_said (model.Conflict base current) p e = (e, refl)
begin_said model.StoreFault p e = (e, refl)
begin_said model.NoMemory p e = (e, refl)
begin_said _ p e = absurd e

commit_said : (a : Answer) (p : Point) → CommitsAt (Some a) p → (p ≡ Closed) × (is_miss a ≡ false)
commit_said (model.EditSaved saved) p e = (e, refl)
commit_said (model.TokenUsed entry) p e = (e, refl)
commit_said (model.Conflict base current) p e = (e, refl)
commit_said model.StoreFault p e = (e, refl)
commit_said model.NoMemory p e = (e, refl)
commit_said _ p e = absurd e

wait_said : (a : Answer) (p : Point) → WaitsAt true (Some a) p → (p ≡ Closed) × (is_miss a ≡ false)
wait_said (model.Lagging by needed reached) p e = (e, refl)
wait_said _ p e = absurd e

snap_said : (a : Answer) (p : Point) → SnapsAt (Some a) p → (p ≡ Closed) × (is_miss a ≡ false)
snap_said model.NoMemory p e = (e, refl)
snap_said _ p e = absurd e

store_said : (a : Answer) (p : Point) → StoresFrom (Some a) p → (p ≡ Closed) × (is_miss a ≡ false)
store_said (model.Page page) p e = (e, refl)
store_said (model.NoPage source) p e = (e, refl)
store_said model.NoMemory p e = (e, refl)
store_said _ p e = absurd e

look_said : (a : Answer) (p : Point) → is_miss a ≡ false → LooksFrom (Some a) p → p ≡ Closed
look_said (model.Page page) p none e = e
look_said (model.Miss why) p none e = let no : ⊥ = cc in absurd no
look_said model.NoMemory p none e = e
look_said _ p none e = absurd e

-- a look that has a page, and one that has none
no_miss : (said : Option Answer) → (IsMissed said → ⊥) → (a : Answer) → said ≡ Some a → is_miss a ≡ false
no_miss said found a is = by a (subst (λ (s : Option Answer). IsMissed s → ⊥) is found)
  where
    by : (b : Answer) → (IsMissed (Some b) → ⊥) → is_miss b ≡ false
    by (model.Miss why) f = absurd (f tt)
    by _ f = refl

missed : (said : Option Answer) → IsMissed said → (why : Cause) × (said ≡ Some (model.Miss why))
missed (Some (model.Miss why)) m = (why, refl)
missed _ m = absurd m

module _ {K S : Type 0} (content : K → Option (List Entry)) (faults : K → ℕ) (cache_of : S → CacheMap Bytes) where
  -- a line that ends when its request is closed leaves what was closed
  closes : (line : Line) (old new : FarmParts K S) → point_at new.requests 0 ≡ Closed → ((id : ℕ) → nat_eq id 0 ≡ false → open_at new.requests id ≡ open_at old.requests id)
      → (id : ℕ) → opens line id ≡ false → open_at old.requests id ≡ None → open_at new.requests id ≡ None
  closes line old new closed others id opens_none none = by (nat_eq id 0) refl
    where
      by : (b : Bool) → nat_eq id 0 ≡ b → open_at new.requests id ≡ None
      by true e = let same : id ≡ 0 = grind (arith, nat_tests, e) in ap (open_at new.requests) same ∙ closed_none new.requests 0 closed
      by false e = others id e ∙ none

  shapes : (old mid new : FarmParts K S) → SameShape old mid → SameShape mid new → SameShape old new
  shapes old mid new a b = record { plan = b.plan ∙ a.plan; whole = λ whole. b.whole (a.whole whole); home = b.home ∙ a.home; west = b.west ∙ a.west }

  rises : (old mid new : FarmParts K S) → faults old.keeper ≤ faults mid.keeper → faults mid.keeper ≤ faults new.keeper → faults old.keeper ≤ faults new.keeper
  rises old mid new a b = omega (arith, a, b)

  -- a request that is not noted

  pub not_noted : (old new : FarmParts K S) (at : Readings) (line : Line) (asked : world.Asked) (first : Point) (said : Answer) → steps_of line ≡ steps_of_asked asked → is_composite line ≡ true → ((id : ℕ) → opens line id ≡ false)
      → Steps content faults cache_of old new (turn at (Step.Arrive 0 asked) (Some said)) (OpensRequest 0 first (Some said)) → MakesLine content faults cache_of old new at line (Some said)
  not_noted old new at line asked first said steps_is composite none s =
      let ends_so = opened_said (Some said) said old.requests new.requests 0 first refl s.requests in
      record {
        runs = λ start turns v stands.
            let next = s.goes_on start turns v stands in
            record {
              made = turn at (Step.Arrive 0 asked) (Some said) ∷ [];
              world = next.0;
              stands = next.1;
              makes = subst (λ ss. Makes at ss (turn at (Step.Arrive 0 asked) (Some said) ∷ [])) (sym steps_is) (by_asked asked ends_so.0);
              shows = subst (λ b. shown b (One (Some said)) ++ [] ≡ said ∷ []) (sym composite) (shows_last said ends_so.0);
            };
        closed = λ id o is. ap (λ (es : Entries). open_at es id) ends_so.1 ∙ is;
        shape = s.shape;
        counts = s.counts;
      }
    where
      by_asked : (what : world.Asked) → is_miss said ≡ false → Makes at (steps_of_asked what) (turn at (Step.Arrive 0 what) (Some said) ∷ [])
      by_asked (world.AskedEdit edit) e = (refl, refl, last_one said _ e)
      by_asked (world.AskedView view) e = (refl, refl, last_one said _ e)

  -- an edit

  pub edit_begins : (f0 f1 f2 : FarmParts K S) (at : Readings) (edit : Edit) (said : Answer)
      → Steps content faults cache_of f0 f1 (turn at (Step.Arrive 0 (world.AskedEdit edit)) None) (OpensRequest 0 ArrivedEdit None)
      → Steps content faults cache_of f1 f2 (turn at (Step.Begin 0) (Some said)) (MovesOn 0 ArrivedEdit BeginsAt (Some said))
      → MakesLine content faults cache_of f0 f2 at (EditLine edit) (Some said)
  edit_begins f0 f1 f2 at edit said s1 s2 =
      let over = begin_said said (point_at f2.requests 0) (s2.requests.moved (s1.requests.opened refl)) in
      record {
        runs = λ start turns v stands.
            let one = s1.goes_on start turns v stands in
            let two = s2.goes_on start (turn at (Step.Arrive 0 (world.AskedEdit edit)) None ∷ turns) one.0 one.1 in
            record {
              made = turn at (Step.Arrive 0 (world.AskedEdit edit)) None ∷ turn at (Step.Begin 0) (Some said) ∷ [];
              world = two.0;
              stands = two.1;
              makes = (refl, refl, (refl, refl, last_one said _ over.1));
              shows = shows_last said over.1;
            };
        closed = closes (EditLine edit) f0 f2 over.0 (λ id e. s2.requests.others id e ∙ s1.requests.others id e);
        shape = shapes f0 f1 f2 s1.shape s2.shape;
        counts = rises f0 f1 f2 s1.counts s2.counts;
      }

  pub edit_commits : (f0 f1 f2 f3 : FarmParts K S) (at : Readings) (edit : Edit) (said : Option Answer)
      → Steps content faults cache_of f0 f1 (turn at (Step.Arrive 0 (world.AskedEdit edit)) None) (OpensRequest 0 ArrivedEdit None)
      → Steps content faults cache_of f1 f2 (turn at (Step.Begin 0) None) (MovesOn 0 ArrivedEdit BeginsAt None)
      → Steps content faults cache_of f2 f3 (turn at (Step.CommitEdit 0) said) (MovesOn 0 BegunEdit CommitsAt said)
      → MakesLine content faults cache_of f0 f3 at (EditLine edit) said
  edit_commits f0 f1 f2 f3 at edit None s1 s2 s3 = absurd (s3.requests.moved (s2.requests.moved (s1.requests.opened refl)))
  edit_commits f0 f1 f2 f3 at edit (Some said) s1 s2 s3 =
      let over = commit_said said (point_at f3.requests 0) (s3.requests.moved (s2.requests.moved (s1.requests.opened refl))) in
      record {
        runs = λ start turns v stands.
            let t1 : Turn = turn at (Step.Arrive 0 (world.AskedEdit edit)) None in
            let t2 : Turn = turn at (Step.Begin 0) None in
            let one = s1.goes_on start turns v stands in
            let two = s2.goes_on start (t1 ∷ turns) one.0 one.1 in
            let three = s3.goes_on start (t2 ∷ t1 ∷ turns) two.0 two.1 in
            record {
              made = t1 ∷ t2 ∷ turn at (Step.CommitEdit 0) (Some said) ∷ [];
              world = three.0;
              stands = three.1;
              makes = (refl, refl, (refl, refl, (refl, refl, last_one said _ over.1)));
              shows = shows_last said over.1;
            };
        closed = closes (EditLine edit) f0 f3 over.0 (λ id e. s3.requests.others id e ∙ s2.requests.others id e ∙ s1.requests.others id e);
        shape = shapes f0 f2 f3 (shapes f0 f1 f2 s1.shape s2.shape) s3.shape;
        counts = rises f0 f2 f3 (rises f0 f1 f2 s1.counts s2.counts) s3.counts;
      }

  -- a view

  pub view_waits : (f0 f1 f2 : FarmParts K S) (at : Readings) (view : world.View) (said : Answer)
      → Steps content faults cache_of f0 f1 (turn at (Step.Arrive 0 (world.AskedView view)) None) (OpensRequest 0 ArrivedView None)
      → Steps content faults cache_of f1 f2 (turn at (Step.Wait 0 true) (Some said)) (MovesOn 0 ArrivedView (WaitsAt true) (Some said))
      → MakesLine content faults cache_of f0 f2 at (ViewLine view) (Some said)
  view_waits f0 f1 f2 at view said s1 s2 =
      let over = wait_said said (point_at f2.requests 0) (s2.requests.moved (s1.requests.opened refl)) in
      record {
        runs = λ start turns v stands.
            let t1 : Turn = turn at (Step.Arrive 0 (world.AskedView view)) None in
            let one = s1.goes_on start turns v stands in
            let two = s2.goes_on start (t1 ∷ turns) one.0 one.1 in
            record {
              made = t1 ∷ turn at (Step.Wait 0 true) (Some said) ∷ [];
              world = two.0;
              stands = two.1;
              makes = (refl, refl, (refl, refl, last_one said _ over.1));
              shows = shows_last said over.1;
            };
        closed = closes (ViewLine view) f0 f2 over.0 (λ id e. s2.requests.others id e ∙ s1.requests.others id e);
        shape = shapes f0 f1 f2 s1.shape s2.shape;
        counts = rises f0 f1 f2 s1.counts s2.counts;
      }

  -- a view that has waited
  record HasWaited (f0 f2 : FarmParts K S) (at : Readings) (view : world.View) : Type 0 where
    point_is : point_at f2.requests 0 ≡ WaitedView
    others : (id : ℕ) → nat_eq id 0 ≡ false → open_at f2.requests id ≡ open_at f0.requests id
    shape : SameShape f0 f2
    counts : faults f0.keeper ≤ faults f2.keeper
    runs : (start : World) (turns : List Turn) (v : World) → Stands content faults cache_of f0 start turns v
        → (w : World) × Stands content faults cache_of f2 start (turn at (Step.Wait 0 true) None ∷ turn at (Step.Arrive 0 (world.AskedView view)) None ∷ turns) w

  waited : (p : Point) → (p ≡ WaitedView) ⊎ ((true ≡ false) × (p ≡ ArrivedView)) → p ≡ WaitedView
  waited p (inl e) = e
  waited p (inr (never, e)) = let none : ⊥ = cc in absurd none

  has_waited : (f0 f1 f2 : FarmParts K S) (at : Readings) (view : world.View)
      → Steps content faults cache_of f0 f1 (turn at (Step.Arrive 0 (world.AskedView view)) None) (OpensRequest 0 ArrivedView None)
      → Steps content faults cache_of f1 f2 (turn at (Step.Wait 0 true) None) (MovesOn 0 ArrivedView (WaitsAt true) None)
      → HasWaited f0 f2 at view
  has_waited f0 f1 f2 at view s1 s2 = record {
    point_is = waited (point_at f2.requests 0) (s2.requests.moved (s1.requests.opened refl));
    others = λ id e. s2.requests.others id e ∙ s1.requests.others id e;
    shape = shapes f0 f1 f2 s1.shape s2.shape;
    counts = rises f0 f1 f2 s1.counts s2.counts;
    runs = λ start turns v stands.
        let one = s1.goes_on start turns v stands in
        let two = s2.goes_on start (turn at (Step.Arrive 0 (world.AskedView view)) None ∷ turns) one.0 one.1 in (two.0, two.1);
  }

  pub view_looks : (f0 f1 f2 f3 : FarmParts K S) (at : Readings) (view : world.View) (said : Option Answer) → ((a : Answer) → said ≡ Some a → is_miss a ≡ false)
      → Steps content faults cache_of f0 f1 (turn at (Step.Arrive 0 (world.AskedView view)) None) (OpensRequest 0 ArrivedView None)
      → Steps content faults cache_of f1 f2 (turn at (Step.Wait 0 true) None) (MovesOn 0 ArrivedView (WaitsAt true) None)
      → Steps content faults cache_of f2 f3 (turn at (Step.Look 0) said) (MovesOn 0 WaitedView LooksFrom said)
      → MakesLine content faults cache_of f0 f3 at (ViewLine view) said
  view_looks f0 f1 f2 f3 at view None no_miss s1 s2 s3 = absurd (s3.requests.moved (has_waited f0 f1 f2 at view s1 s2).point_is)
  view_looks f0 f1 f2 f3 at view (Some said) no_miss s1 s2 s3 =
      let h = has_waited f0 f1 f2 at view s1 s2 in
      let plain = no_miss said refl in
      let over = look_said said (point_at f3.requests 0) plain (s3.requests.moved h.point_is) in
      record {
        runs = λ start turns v stands.
            let t1 : Turn = turn at (Step.Arrive 0 (world.AskedView view)) None in
            let t2 : Turn = turn at (Step.Wait 0 true) None in
            let two = h.runs start turns v stands in
            let three = s3.goes_on start (t2 ∷ t1 ∷ turns) two.0 two.1 in
            record {
              made = t1 ∷ t2 ∷ turn at (Step.Look 0) (Some said) ∷ [];
              world = three.0;
              stands = three.1;
              makes = (refl, refl, (refl, refl, (refl, refl, last_one said _ plain)));
              shows = shows_last said plain;
            };
        closed = closes (ViewLine view) f0 f3 over (λ id e. s3.requests.others id e ∙ h.others id e);
        shape = shapes f0 f2 f3 h.shape s3.shape;
        counts = rises f0 f2 f3 h.counts s3.counts;
      }

  pub view_snaps : (f0 f1 f2 f3 f4 : FarmParts K S) (at : Readings) (view : world.View) (why : Cause) (said : Answer)
      → Steps content faults cache_of f0 f1 (turn at (Step.Arrive 0 (world.AskedView view)) None) (OpensRequest 0 ArrivedView None)
      → Steps content faults cache_of f1 f2 (turn at (Step.Wait 0 true) None) (MovesOn 0 ArrivedView (WaitsAt true) None)
      → Steps content faults cache_of f2 f3 (turn at (Step.Look 0) (Some (model.Miss why))) (MovesOn 0 WaitedView LooksFrom (Some (model.Miss why)))
      → Steps content faults cache_of f3 f4 (turn at (Step.Snap 0) (Some said)) (MovesOn 0 LookedView SnapsAt (Some said))
      → MakesLine content faults cache_of f0 f4 at (ViewLine view) (Some said)
  view_snaps f0 f1 f2 f3 f4 at view why said s1 s2 s3 s4 =
      let h = has_waited f0 f1 f2 at view s1 s2 in
      let over = snap_said said (point_at f4.requests 0) (s4.requests.moved (s3.requests.moved h.point_is)) in
      record {
        runs = λ start turns v stands.
            let t1 : Turn = turn at (Step.Arrive 0 (world.AskedView view)) None in
            let t2 : Turn = turn at (Step.Wait 0 true) None in
            let t3 : Turn = turn at (Step.Look 0) (Some (model.Miss why)) in
            let two = h.runs start turns v stands in
            let three = s3.goes_on start (t2 ∷ t1 ∷ turns) two.0 two.1 in
            let four = s4.goes_on start (t3 ∷ t2 ∷ t1 ∷ turns) three.0 three.1 in
            record {
              made = t1 ∷ t2 ∷ t3 ∷ turn at (Step.Snap 0) (Some said) ∷ [];
              world = four.0;
              stands = four.1;
              makes = (refl, refl, (refl, refl, (refl, refl, (refl, refl, last_one said _ over.1))));
              shows = shows_last said over.1;
            };
        closed = closes (ViewLine view) f0 f4 over.0 (λ id e. s4.requests.others id e ∙ s3.requests.others id e ∙ h.others id e);
        shape = shapes f0 f3 f4 (shapes f0 f2 f3 h.shape s3.shape) s4.shape;
        counts = rises f0 f3 f4 (rises f0 f2 f3 h.counts s3.counts) s4.counts;
      }

  pub view_stores : (f0 f1 f2 f3 f4 f5 : FarmParts K S) (at : Readings) (view : world.View) (why : Cause) (said : Option Answer)
      → Steps content faults cache_of f0 f1 (turn at (Step.Arrive 0 (world.AskedView view)) None) (OpensRequest 0 ArrivedView None)
      → Steps content faults cache_of f1 f2 (turn at (Step.Wait 0 true) None) (MovesOn 0 ArrivedView (WaitsAt true) None)
      → Steps content faults cache_of f2 f3 (turn at (Step.Look 0) (Some (model.Miss why))) (MovesOn 0 WaitedView LooksFrom (Some (model.Miss why)))
      → Steps content faults cache_of f3 f4 (turn at (Step.Snap 0) None) (MovesOn 0 LookedView SnapsAt None)
      → Steps content faults cache_of f4 f5 (turn at (Step.Store 0) said) (MovesOn 0 SnappedView StoresFrom said)
      → MakesLine content faults cache_of f0 f5 at (ViewLine view) said
  view_stores f0 f1 f2 f3 f4 f5 at view why None s1 s2 s3 s4 s5 = absurd (s5.requests.moved (s4.requests.moved (s3.requests.moved (has_waited f0 f1 f2 at view s1 s2).point_is)))
  view_stores f0 f1 f2 f3 f4 f5 at view why (Some said) s1 s2 s3 s4 s5 =
      let h = has_waited f0 f1 f2 at view s1 s2 in
      let over = store_said said (point_at f5.requests 0) (s5.requests.moved (s4.requests.moved (s3.requests.moved h.point_is))) in
      record {
        runs = λ start turns v stands.
            let t1 : Turn = turn at (Step.Arrive 0 (world.AskedView view)) None in
            let t2 : Turn = turn at (Step.Wait 0 true) None in
            let t3 : Turn = turn at (Step.Look 0) (Some (model.Miss why)) in
            let t4 : Turn = turn at (Step.Snap 0) None in
            let two = h.runs start turns v stands in
            let three = s3.goes_on start (t2 ∷ t1 ∷ turns) two.0 two.1 in
            let four = s4.goes_on start (t3 ∷ t2 ∷ t1 ∷ turns) three.0 three.1 in
            let five = s5.goes_on start (t4 ∷ t3 ∷ t2 ∷ t1 ∷ turns) four.0 four.1 in
            record {
              made = t1 ∷ t2 ∷ t3 ∷ t4 ∷ turn at (Step.Store 0) (Some said) ∷ [];
              world = five.0;
              stands = five.1;
              makes = (refl, refl, (refl, refl, (refl, refl, (refl, refl, (refl, refl, last_one said _ over.1)))));
              shows = shows_last said over.1;
            };
        closed = closes (ViewLine view) f0 f5 over.0 (λ id e. s5.requests.others id e ∙ s4.requests.others id e ∙ s3.requests.others id e ∙ h.others id e);
        shape = shapes f0 f4 f5 (shapes f0 f3 f4 (shapes f0 f2 f3 h.shape s3.shape) s4.shape) s5.shape;
        counts = rises f0 f4 f5 (rises f0 f3 f4 (rises f0 f2 f3 h.counts s3.counts) s4.counts) s5.counts;
      }

  -- The same, as the farm's calls say it

  pub leaves_line : (old new : FarmParts K S) (at : Readings) (line is_line : Line) (step : Step) (said : Option Answer) → is_line ≡ line → steps_of line ≡ step ∷ [] → is_composite line ≡ false
      → Steps content faults cache_of old new (turn at step said) LeavesRequests → MakesLine content faults cache_of old new at is_line said
  leaves_line old new at line is_line step said is steps_is plain s =
      subst (λ (l : Line). MakesLine content faults cache_of old new at l said) (sym is)
      (one_step content faults cache_of old new at line step said LeavesRequests s steps_is plain (λ id o none. ap (λ (es : Entries). open_at es id) s.requests ∙ none))

  pub moves_line : (old new : FarmParts K S) (at : Readings) (line is_line : Line) (step : Step) (said : Option Answer) (id : ℕ) (from : Point) (To : Option Answer → Point → Type 0) → is_line ≡ line → steps_of line ≡ step ∷ [] → is_composite line ≡ false → (Closed ≡ from → ⊥)
      → Steps content faults cache_of old new (turn at step said) (MovesOn id from To said) → MakesLine content faults cache_of old new at is_line said
  moves_line old new at line is_line step said id from To is steps_is plain differs s =
      subst (λ (l : Line). MakesLine content faults cache_of old new at l said) (sym is)
      (one_step content faults cache_of old new at line step said (MovesOn id from To said) s steps_is plain (λ other o none. moves_closed id from To said old.requests new.requests differs s.requests other none))

  pub opens_line : (old new : FarmParts K S) (at : Readings) (is_line : Line) (id : ℕ) (asked : world.Asked) (first : Point) (said : Option Answer) → is_line ≡ Open id asked
      → Steps content faults cache_of old new (turn at (Step.Arrive id asked) said) (OpensRequest id first said) → MakesLine content faults cache_of old new at is_line said
  opens_line old new at is_line id asked first said is s =
      subst (λ (l : Line). MakesLine content faults cache_of old new at l said) (sym is)
      (one_step content faults cache_of old new at (Open id asked) (Step.Arrive id asked) said (OpensRequest id first said) s refl refl (λ other o none. opens_closed id first said old.requests new.requests s.requests other o none))

  pub idle_line : (farm : FarmParts K S) (at : Readings) (line is_line : Line) → is_line ≡ line → steps_of line ≡ [] → MakesLine content faults cache_of farm farm at is_line None
  idle_line farm at line is_line is none =
      subst (λ (l : Line). MakesLine content faults cache_of farm farm at l None) (sym is) (no_step content faults cache_of farm at line none)

  -- the request that arrives for a line of several steps
  abbrev pub ArrivesFor : (f0 f1 : FarmParts K S) → Readings → code.Asked → Option CodeAnswer → Type 0
  ArrivesFor f0 f1 at what r = Steps content faults cache_of f0 f1 (turn_of at (Step.Arrive 0 (asked_of what)) r) (Arrives 0 what r)

  pub edit_refused : (f0 f1 : FarmParts K S) (at : Readings) (ask : EditAsk) (what : code.Asked) (r : Option CodeAnswer) → what ≡ asked.Edit ask → true ≡ is_some r → ArrivesFor f0 f1 at what r
      → MakesLine content faults cache_of f0 f1 at (EditLine (edit_of ask)) (option_map answer_of r)
  edit_refused f0 f1 at ask what None is some s = let never : ⊥ = cc in absurd never
  edit_refused f0 f1 at ask what (Some a) is some s =
      not_noted f0 f1 at (EditLine (edit_of ask)) (world.AskedEdit (edit_of ask)) ArrivedEdit (answer_of a) refl refl (λ id. refl) (subst (λ (w : code.Asked). ArrivesFor f0 f1 at w (Some a)) is s)

  pub edit_decided : (f0 f1 f2 : FarmParts K S) (at : Readings) (ask : EditAsk) (what : code.Asked) (r r2 : Option CodeAnswer) → what ≡ asked.Edit ask → false ≡ is_some r → true ≡ is_some r2 → ArrivesFor f0 f1 at what r
      → Steps content faults cache_of f1 f2 (turn_of at (Step.Begin 0) r2) (Begins 0 r2)
      → MakesLine content faults cache_of f0 f2 at (EditLine (edit_of ask)) (option_map answer_of r2)
  edit_decided f0 f1 f2 at ask what (Some a) r2 is none some s s2 = let never : ⊥ = cc in absurd never
  edit_decided f0 f1 f2 at ask what None None is none some s s2 = let never : ⊥ = cc in absurd never
  edit_decided f0 f1 f2 at ask what None (Some b) is none some s s2 = edit_begins f0 f1 f2 at (edit_of ask) (answer_of b) (subst (λ (w : code.Asked). ArrivesFor f0 f1 at w None) is s) s2

  pub edit_made : (f0 f1 f2 f3 : FarmParts K S) (at : Readings) (ask : EditAsk) (what : code.Asked) (r r2 r3 : Option CodeAnswer) → what ≡ asked.Edit ask → false ≡ is_some r → false ≡ is_some r2 → ArrivesFor f0 f1 at what r
      → Steps content faults cache_of f1 f2 (turn_of at (Step.Begin 0) r2) (Begins 0 r2)
      → Steps content faults cache_of f2 f3 (turn_of at (Step.CommitEdit 0) r3) (Commits 0 r3)
      → MakesLine content faults cache_of f0 f3 at (EditLine (edit_of ask)) (option_map answer_of r3)
  edit_made f0 f1 f2 f3 at ask what (Some a) r2 r3 is none none2 s s2 s3 = let never : ⊥ = cc in absurd never
  edit_made f0 f1 f2 f3 at ask what None (Some b) r3 is none none2 s s2 s3 = let never : ⊥ = cc in absurd never
  edit_made f0 f1 f2 f3 at ask what None None r3 is none none2 s s2 s3 = edit_commits f0 f1 f2 f3 at (edit_of ask) (option_map answer_of r3) (subst (λ (w : code.Asked). ArrivesFor f0 f1 at w None) is s) s2 s3

  pub view_refused : (f0 f1 : FarmParts K S) (at : Readings) (ask : ViewAsk) (what : code.Asked) (r : Option CodeAnswer) → what ≡ asked.View ask → true ≡ is_some r → ArrivesFor f0 f1 at what r
      → MakesLine content faults cache_of f0 f1 at (ViewLine (view_of ask)) (option_map answer_of r)
  view_refused f0 f1 at ask what None is some s = let never : ⊥ = cc in absurd never
  view_refused f0 f1 at ask what (Some a) is some s =
      not_noted f0 f1 at (ViewLine (view_of ask)) (world.AskedView (view_of ask)) ArrivedView (answer_of a) refl refl (λ id. refl) (subst (λ (w : code.Asked). ArrivesFor f0 f1 at w (Some a)) is s)

  pub view_lags : (f0 f1 f2 : FarmParts K S) (at : Readings) (ask : ViewAsk) (what : code.Asked) (r r2 : Option CodeAnswer) → what ≡ asked.View ask → false ≡ is_some r → true ≡ is_some r2 → ArrivesFor f0 f1 at what r
      → Steps content faults cache_of f1 f2 (turn_of at (Step.Wait 0 true) r2) (Waits 0 true r2)
      → MakesLine content faults cache_of f0 f2 at (ViewLine (view_of ask)) (option_map answer_of r2)
  view_lags f0 f1 f2 at ask what (Some a) r2 is none some s s2 = let never : ⊥ = cc in absurd never
  view_lags f0 f1 f2 at ask what None None is none some s s2 = let never : ⊥ = cc in absurd never
  view_lags f0 f1 f2 at ask what None (Some b) is none some s s2 = view_waits f0 f1 f2 at (view_of ask) (answer_of b) (subst (λ (w : code.Asked). ArrivesFor f0 f1 at w None) is s) s2

  -- what a view has made when it has waited
  pub record ViewWaits (f0 f1 f2 : FarmParts K S) (at : Readings) (ask : ViewAsk) : Type 0 where
    pub arrives : Steps content faults cache_of f0 f1 (turn at (Step.Arrive 0 (world.AskedView (view_of ask))) None) (OpensRequest 0 ArrivedView None)
    pub waits : Steps content faults cache_of f1 f2 (turn at (Step.Wait 0 true) None) (MovesOn 0 ArrivedView (WaitsAt true) None)

  pub view_waited : (f0 f1 f2 : FarmParts K S) (at : Readings) (ask : ViewAsk) (what : code.Asked) (r r2 : Option CodeAnswer) → what ≡ asked.View ask → false ≡ is_some r → false ≡ is_some r2 → ArrivesFor f0 f1 at what r
      → Steps content faults cache_of f1 f2 (turn_of at (Step.Wait 0 true) r2) (Waits 0 true r2) → ViewWaits f0 f1 f2 at ask
  view_waited f0 f1 f2 at ask what (Some a) r2 is none none2 s s2 = let never : ⊥ = cc in absurd never
  view_waited f0 f1 f2 at ask what None (Some b) is none none2 s s2 = let never : ⊥ = cc in absurd never
  view_waited f0 f1 f2 at ask what None None is none none2 s s2 = record { arrives = subst (λ (w : code.Asked). ArrivesFor f0 f1 at w None) is s; waits = s2 }

  pub view_hits : (f0 f1 f2 f3 : FarmParts K S) (at : Readings) (ask : ViewAsk) (r3 : Option CodeAnswer) → ViewWaits f0 f1 f2 at ask → (IsMissed (option_map answer_of r3) → ⊥)
      → Steps content faults cache_of f2 f3 (turn_of at (Step.Look 0) r3) (Looks 0 r3)
      → MakesLine content faults cache_of f0 f3 at (ViewLine (view_of ask)) (option_map answer_of r3)
  view_hits f0 f1 f2 f3 at ask r3 w found s3 = view_looks f0 f1 f2 f3 at (view_of ask) (option_map answer_of r3) (no_miss (option_map answer_of r3) found) w.arrives w.waits s3

  pub view_is_refused : (f0 f1 f2 f3 f4 : FarmParts K S) (at : Readings) (ask : ViewAsk) (r3 r4 : Option CodeAnswer) → ViewWaits f0 f1 f2 at ask → IsMissed (option_map answer_of r3) → true ≡ is_some r4
      → Steps content faults cache_of f2 f3 (turn_of at (Step.Look 0) r3) (Looks 0 r3)
      → Steps content faults cache_of f3 f4 (turn_of at (Step.Snap 0) r4) (Snaps 0 r4)
      → MakesLine content faults cache_of f0 f4 at (ViewLine (view_of ask)) (option_map answer_of r4)
  view_is_refused f0 f1 f2 f3 f4 at ask r3 None w miss some s3 s4 = let never : ⊥ = cc in absurd never
  view_is_refused f0 f1 f2 f3 f4 at ask r3 (Some d) w miss some s3 s4 =
      let m = missed (option_map answer_of r3) miss in
      view_snaps f0 f1 f2 f3 f4 at (view_of ask) m.0 (answer_of d) w.arrives w.waits
      (subst (λ (said : Option Answer). Steps content faults cache_of f2 f3 (turn at (Step.Look 0) said) (MovesOn 0 WaitedView LooksFrom said)) m.1 s3) s4

  pub view_made : (f0 f1 f2 f3 f4 f5 : FarmParts K S) (at : Readings) (ask : ViewAsk) (r3 r4 r5 : Option CodeAnswer) → ViewWaits f0 f1 f2 at ask → IsMissed (option_map answer_of r3) → false ≡ is_some r4
      → Steps content faults cache_of f2 f3 (turn_of at (Step.Look 0) r3) (Looks 0 r3)
      → Steps content faults cache_of f3 f4 (turn_of at (Step.Snap 0) r4) (Snaps 0 r4)
      → Steps content faults cache_of f4 f5 (turn_of at (Step.Store 0) r5) (Stores 0 r5)
      → MakesLine content faults cache_of f0 f5 at (ViewLine (view_of ask)) (option_map answer_of r5)
  view_made f0 f1 f2 f3 f4 f5 at ask r3 (Some d) r5 w miss none s3 s4 s5 = let never : ⊥ = cc in absurd never
  view_made f0 f1 f2 f3 f4 f5 at ask r3 None r5 w miss none s3 s4 s5 =
      let m = missed (option_map answer_of r3) miss in
      view_stores f0 f1 f2 f3 f4 f5 at (view_of ask) m.0 (option_map answer_of r5) w.arrives w.waits
      (subst (λ (said : Option Answer). Steps content faults cache_of f2 f3 (turn at (Step.Look 0) said) (MovesOn 0 WaitedView LooksFrom said)) m.1 s3) s4 s5
