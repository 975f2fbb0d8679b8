-- What a farm makes: turns by which each of its runs goes on.
use Rattle.std.specs.Prelude.{ℕ, ◌≡◌, ◌≤◌, ◌+◌, ◌-◌, List, [], ◌∷◌, ◌++◌, length, reverse, Option, Some, None}
use Rattle.wiki_model.specs.declared.Readings.{Readings}
use Rattle.wiki_model.specs.Bytes.{Bytes}
use Rattle.wiki_model.specs.History.{Entry}
use Rattle.wiki_model.specs.Cache.{CacheMap}
use Rattle.wiki_model.specs.World.{World, Asked}
use Rattle.wiki_model.specs.World.Asked.{AskedView}
use Rattle.wiki_model.specs.Answers.{Answer, Miss, EditSaved}
use Rattle.wiki_model.specs.Answered.{last_reply}
use Rattle.wiki_model.specs.Steps.{Step}
use Rattle.wiki_model.specs.Runs.{Turn}
use Rattle.wiki_model.specs.Runs.Reply.{One}
use Rattle.wiki_model.specs.Sequences.{Makes, steps_of_asked}
use Rattle.wiki_model.specs.Serving.{GoesBy}
use Rattle.farm_steps.specs.RequestMap.{open_at}
use Rattle.farm_core.specs.FarmParts.{FarmParts, SameShape}
use Rattle.farm_core.specs.Runs.{Stands}
use Rattle.wiki_serve.specs.Services.{numbers_from}

-- which runs stand, as a relation of where a run began, its turns with the newest first, and its last world
abbrev pub Standing : Type 1
Standing = World → List Turn → World → Type 0

-- each run that stood goes on by these turns, the first of them first, from its own last world
abbrev pub TurnsBy : (Stood Now : Standing) → List Turn → Type 0
TurnsBy Stood Now turns =
    (start : World) (earlier : List Turn) (v : World) → Stood start earlier v
    → (w : World) × Now start (reverse turns ++ earlier) w × GoesBy v turns w

-- The farm made these turns.
pub record MakesTurns {K S : Type 0} (content : K → Option (List Entry)) (faults : K → ℕ)
    (cache_of : S → CacheMap Bytes) (old new : FarmParts K S) (turns : List Turn) : Type 0 where
  pub runs : TurnsBy (Stands content faults cache_of old) (Stands content faults cache_of new) turns
  -- the number of whole requests is free again
  pub closed : open_at old.requests 0 ≡ None → open_at new.requests 0 ≡ None
  pub shape : SameShape old new
  -- the keeper's count of faults does not fall
  pub counts : faults old.keeper ≤ faults new.keeper

-- The farm made a step at these readings, whatever it answered.
pub record MakesStep {K S : Type 0} (content : K → Option (List Entry)) (faults : K → ℕ)
    (cache_of : S → CacheMap Bytes) (old new : FarmParts K S) (at : Readings) (step : Step) : Type 0 where
  pub said : Option Answer
  pub made : MakesTurns content faults cache_of old new (record { at = at; step = step; reply = One said } ∷ [])

-- the view looked, and has to snap
abbrev pub IsMissed : Option Answer → Type 0
IsMissed (Some (Miss why)) = Unit {0}
IsMissed _ = ⊥

-- a view is never answered that an edit is saved
abbrev pub FitsAsked : Asked → Answer → Type 0
FitsAsked (AskedView view) (EditSaved saved) = ⊥
FitsAsked _ _ = Unit {0}

-- A whole request was made at these readings, and answered so.
pub record MakesAsked {K S : Type 0} (content : K → Option (List Entry)) (faults : K → ℕ)
    (cache_of : S → CacheMap Bytes) (old new : FarmParts K S) (at : Readings) (asked : Asked)
    (answer : Answer) : Type 0 where
  pub turns : List Turn
  pub made : MakesTurns content faults cache_of old new turns
  pub makes : Makes at (steps_of_asked asked) turns
  pub last : last_reply turns ≡ Some (One (Some answer))
  pub fits : FitsAsked asked answer

-- the same, as far as there is an answer: there is one
abbrev pub MakesAnswer : {K S : Type 0} → (K → Option (List Entry)) → (K → ℕ) → (S → CacheMap Bytes)
    → (old new : FarmParts K S) → Readings → Asked → Option Answer → Type 0
MakesAnswer content faults cache_of old new at asked None = ⊥
MakesAnswer content faults cache_of old new at asked (Some answer) =
    MakesAsked content faults cache_of old new at asked answer

-- The farm stands for a run, and no more of its messages were given to the wire than it has issued.
pub record StandsSent {K S : Type 0} (content : K → Option (List Entry)) (faults : K → ℕ)
    (cache_of : S → CacheMap Bytes) (farm : FarmParts K S) (sent : ℕ) (start : World) (turns : List Turn)
    (w : World) : Type 0 where
  pub stands : Stands content faults cache_of farm start turns w
  pub within : sent ≤ length w.messages

-- the numbers of the messages that were not given to the wire
abbrev pub unsent_of : {K S : Type 0} → FarmParts K S → (sent : ℕ) → List ℕ
unsent_of farm sent = numbers_from (sent + 1) (length farm.ledger.rows - sent)
