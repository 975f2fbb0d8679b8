-- Steps follow each other, each from the farm that the one before it left; so a run goes on by all their turns.
use Rattle.std.proofs.Common.{◌≡◌, ℕ, List, [], ◌∷◌, ◌++◌, Option, refl, sym, ap, subst, ◌∙◌, arith, append_assoc, reverse}
use Rattle.std.proofs.lemmas.List.{reverse-append}
use Rattle.std.specs.Prelude.{map}
use Rattle.std.proofs.lemmas.List.{map-append}
use Rattle.std.proofs.lemmas.List.Elements.{All-nil, All-cons, All-append}
use Rattle.wiki_model.specs.declared.Readings.{Readings}
use Rattle.wiki_model.specs.Bytes.{Bytes}
use Rattle.wiki_model.specs.History.{Entry}
use Rattle.wiki_model.specs.Cache.{CacheMap}
use Rattle.wiki_model.specs.World.{World}
use Rattle.wiki_model.specs.Answers.{Answer}
use Rattle.wiki_model.specs.Steps.{Step}
use Rattle.wiki_model.specs.Runs.{Turn, One}
use Rattle.wiki_model.specs.Serving.{GoesBy, AllMade}
use Rattle.farm_steps.specs.RequestMap.{Entries, open_at}
use Rattle.farm_core.specs.FarmParts.{FarmParts, SameShape}
use Rattle.farm_core.specs.RequestLife.{LeavesRequests}
use Rattle.farm_core.specs.Runs.{Stands, Steps}
use Rattle.wiki_serve.specs.Turns.{Standing, TurnsBy, MakesTurns, MakesStep}

-- a turn of this step
abbrev pub turn : Readings → Step → Option Answer → Turn
turn at step said = record { at = at; step = step; reply = One said }

-- Turns that are made

goes_more : (xs ys : List Turn) (v u w : World) → GoesBy v xs u → GoesBy u ys w → GoesBy v (xs ++ ys) w
goes_more [] ys v u w first second = subst (λ (x : World). GoesBy x ys w) first second
goes_more (x ∷ xs) ys v u w first second = let (next, one, others) = first in (next, one, goes_more xs ys next u w others second)

pub turns_none : (Stands : Standing) → TurnsBy Stands Stands []
turns_none Stands start earlier v stood = (v, stood, refl)

pub turns_joined : (Stood Stands Later : Standing) (xs ys : List Turn) → TurnsBy Stood Stands xs → TurnsBy Stands Later ys → TurnsBy Stood Later (xs ++ ys)
turns_joined Stood Stands Later xs ys first second start earlier v stood =
    let (u, stands, went) = first start earlier v stood in
    let (w, later, goes) = second start (reverse xs ++ earlier) u stands in
    let order : reverse ys ++ (reverse xs ++ earlier) ≡ reverse (xs ++ ys) ++ earlier = sym (ap (λ l. l ++ earlier) (reverse-append xs ys) ∙ append_assoc (reverse ys) (reverse xs) earlier) in
    (w, subst (λ (l : List Turn). Later start l w) order later, goes_more xs ys v u w went goes)

pub shapes : {K S : Type 0} (old mid new : FarmParts K S) → SameShape old mid → SameShape mid new → SameShape old new
shapes old mid new a b = record { plan = b.plan ∙ a.plan; whole = λ whole. b.whole (a.whole whole); home = b.home ∙ a.home; west = b.west ∙ a.west }

pub same_shape : {K S : Type 0} (farm : FarmParts K S) → SameShape farm farm
same_shape farm = record { plan = refl; whole = λ whole. whole; home = refl; west = refl }

-- Lists of steps that were made

pub all_none : (at : Readings) → AllMade at [] []
all_none at = (refl, All-nil (λ (t : Turn). t.at ≡ at))

pub all_one : (at : Readings) (step : Step) (said : Option Answer) → AllMade at (step ∷ []) (turn at step said ∷ [])
all_one at step said = (refl, All-cons (λ (t : Turn). t.at ≡ at) (turn at step said) [] refl (All-nil (λ (t : Turn). t.at ≡ at)))

pub all_joined : (at : Readings) (steps more : List Step) (turns later : List Turn) → AllMade at steps turns → AllMade at more later → AllMade at (steps ++ more) (turns ++ later)
all_joined at steps more turns later first second = (
  map-append (λ (t : Turn). t.step) turns later ∙ ap (λ l. l ++ map (λ (t : Turn). t.step) later) first.0 ∙ ap (λ l. steps ++ l) second.0,
  All-append (λ (t : Turn). t.at ≡ at) turns later first.1 second.1,
)

module _ {K S : Type 0} (content : K → Option (List Entry)) (faults : K → ℕ) (cache_of : S → CacheMap Bytes) where
  pub step_runs : (old new : FarmParts K S) (t : Turn) (Moves : (old new : Entries) → Type 0) → Steps content faults cache_of old new t Moves
      → TurnsBy (Stands content faults cache_of old) (Stands content faults cache_of new) (t ∷ [])
  step_runs old new t Moves s start earlier v stood = let next = s.goes_on start earlier v stood in (next.0, next.1, (next.0, next.2, refl))

  -- a step that touches no request
  pub step_made : (old new : FarmParts K S) (at : Readings) (step : Step) (said : Option Answer) → Steps content faults cache_of old new (turn at step said) LeavesRequests
      → MakesStep content faults cache_of old new at step
  step_made old new at step said s = record {
    said = said;
    made = record {
      runs = step_runs old new (turn at step said) LeavesRequests s;
      closed = λ none. ap (λ (es : Entries). open_at es 0) s.requests ∙ none;
      shape = s.shape;
      counts = s.counts;
    };
  }

  pub none_made : (farm : FarmParts K S) → MakesTurns content faults cache_of farm farm []
  none_made farm = record {
    runs = turns_none (Stands content faults cache_of farm);
    closed = λ none. none;
    shape = same_shape farm;
    counts = omega arith;
  }

  pub made_joined : (old mid new : FarmParts K S) (xs ys : List Turn) → MakesTurns content faults cache_of old mid xs → MakesTurns content faults cache_of mid new ys
      → MakesTurns content faults cache_of old new (xs ++ ys)
  made_joined old mid new xs ys a b = record {
    runs = turns_joined (Stands content faults cache_of old) (Stands content faults cache_of mid) (Stands content faults cache_of new) xs ys a.runs b.runs;
    closed = λ none. b.closed (a.closed none);
    shape = shapes old mid new a.shape b.shape;
    counts = let x = a.counts in let y = b.counts in omega (arith, x, y);
  }
