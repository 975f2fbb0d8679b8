-- How a batch is made: its titles with their words, the need of its view, and its round with the purges that were held
-- back for it, which are carried if there is none.
use Rattle.std.specs.Prelude.{ℕ, ◌≡◌, ◌≤◌, ◌-◌, Bool, true, false, All, List, [], ◌∷◌, ◌++◌, length, map, Option, Some, None}
use Rattle.std.specs.Prelude.{Result, Ok, Err}
use Rattle.std.specs.List.{list_all}
use Rattle.wiki_model.specs.declared.Readings.{Readings}
use Rattle.wiki_model.specs.Bytes.{Bytes, first_of_list}
use Rattle.wiki_model.specs.Limits.{jobs_max}
use Rattle.wiki_model.specs.Titles.{Title}
use Rattle.wiki_model.specs.History.{Entry}
use Rattle.wiki_model.specs.Cache.{CacheMap}
use Rattle.wiki_model.specs.World.{World, View, Job, at_readings}
use Rattle.wiki_model.specs.Sessions.{known}
use Rattle.wiki_model.specs.Answers as model
use Rattle.wiki_model.specs.Answered.{last_reply, EndsBatch}
use Rattle.wiki_model.specs.Steps.{Step, region_of}
use Rattle.wiki_model.specs.Sequences.{Makes}
use Rattle.wiki_model.specs.Runs.{Turn}
use Rattle.wiki_model.specs.Runs.Reply.{One}
use Rattle.wiki_model.specs.Serving.{AllMade, Taken, IsReceivable, carries, not_received, room_beside}
use Rattle.wiki_model.specs.Asking.{Call, BatchCall}
use Rattle.farm_base.specs.Series.{Series, Gives}
use Rattle.region_state.specs.declared.answer.Answer.{Answer}
use Rattle.region_state.specs.AsModel.{answer_of, view_of}
use Rattle.farm_core.specs.FarmParts.{FarmParts}
use Rattle.farm_core.specs.Runs.{Stands}
use Rattle.region_round.specs.declared.job.Job.{Job as CodeJob}
use Rattle.region_round.specs.declared.job.Job.TheVariants as job
use Rattle.region_round.specs.AsModel.{answers_of}
use Rattle.wiki_serve.specs.declared.serve_batch.Drawn.{Drawn}
use Rattle.wiki_serve.specs.declared.serve_batch.BatchRoom.{BatchRoom}
use Rattle.wiki_serve.specs.declared.serve_batch.BatchAsk.{BatchAsk}
use Rattle.wiki_serve.specs.declared.serve_batch.Said.{Said}
use Rattle.wiki_serve.specs.declared.serve_batch.Said.TheVariants as said
use Rattle.wiki_serve.specs.Exchanges.{Outcome, Answered, Listed, GivesAll}
use Rattle.wiki_serve.specs.Batches.{steps_to_round, jobs_in, IsBatchAnswered, FitsBatch}
use Rattle.wiki_serve.specs.Turns.{MakesTurns}
use Rattle.wiki_serve.specs.Housework.{WireSeen, DoesHousework}

-- Titles and words

abbrev pub title_of : Drawn → Title
title_of d = d.title

abbrev pub word_of : Drawn → ℕ
word_of d = d.word

abbrev pub pair_of : Drawn → Title × ℕ
pair_of d = (d.title, d.word)

-- the view job of a title with its word
abbrev pub job_at : (need : ℕ) → Drawn → CodeJob
job_at need d = job.View (record { title = d.title; need = need; word = d.word })

-- the room that a batch of these titles needs
pub record IsRoomFor (room : BatchRoom) (titles : List Title) : Type 0 where
  pub first : first_of_list titles ≡ Some room.first
  pub few : length titles ≤ jobs_max
  pub none_drawn : room.drawn.items ≡ []
  pub room_drawn : length titles ≤ room.drawn.cap
  pub no_jobs : room.jobs.items ≡ []
  pub room_jobs : jobs_max ≤ room.jobs.cap
  pub none_held : room.held.items ≡ []
  pub room_held : jobs_max - length titles ≤ room.held.cap

-- the jobs of a batch find their room
pub record HasRoomForJobs (ask : BatchAsk) : Type 0 where
  pub few : length ask.drawn.items ≤ jobs_max
  pub no_jobs : ask.jobs.items ≡ []
  pub room_jobs : jobs_max ≤ ask.jobs.cap

-- so many purges may be held back for a batch
abbrev pub room_of : BatchAsk → ℕ
room_of ask = room_beside (region_of (view_of ask.view)) (length ask.drawn.items)

abbrev pub HasRoomFor : Call → Option BatchRoom → Type 0
HasRoomFor (BatchCall titles) None = ⊥
HasRoomFor (BatchCall titles) (Some room) = IsRoomFor room titles
HasRoomFor _ _ = Unit {0}

-- a word was drawn for each title
pub record IsDrawn (old new : Option (Series ℕ)) (titles : List Title) (drawn : List Drawn) : Type 0 where
  pub titles_are : map title_of drawn ≡ titles
  pub words : GivesAll old (map word_of drawn) new

-- a word was drawn for one more title
pub record IsOneDrawn (old new : Option (Series ℕ)) (title : Title) (before now : List Drawn) : Type 0 where
  pub word : ℕ
  pub gives : Gives old new word
  pub now_is : now ≡ before ++ record { title = title; word = word } ∷ []

-- What is said

abbrev pub said_outcome : Title → Said → Outcome
said_outcome title (said.One answer) = Answered title (answer_of answer)
said_outcome title (said.Many answers) = Listed (answers_of answers.items)

-- Steps

-- no step of these adds a message, drops one, or is a round
abbrev pub is_quiet : Step → Bool
is_quiet (Step.Arrive id asked) = true
is_quiet (Step.Wait id last) = true
is_quiet (Step.Need id) = true
is_quiet (Step.Carry number shown) = true
is_quiet Step.MakeBeat = true
is_quiet (Step.Apply r replica count) = true
is_quiet _ = false

abbrev pub are_quiet : List Step → Bool
are_quiet steps = list_all is_quiet steps

-- the view has waited, its need is what its client is known to have saved, and it is no longer open
pub record KnowsNeed {K S : Type 0} (content : K → Option (List Entry)) (faults : K → ℕ)
    (cache_of : S → CacheMap Bytes) (old new : FarmParts K S) (at : Readings) (view : View) (need : ℕ) : Type 0 where
  pub turns : List Turn
  pub made : MakesTurns content faults cache_of old new turns
  pub quiet : are_quiet (map (λ t. t.step) turns) ≡ true
  pub then_round : (jobs : List Job) (round : List Turn)
      → Makes at (Step.Round (region_of view) jobs ∷ []) round → Makes at (steps_to_round view jobs) (turns ++ round)
  pub is : (start : World) (earlier : List Turn) (v : World) → Stands content faults cache_of old start earlier v
      → need ≡ (known (at_readings at v) (region_of view) view.client).position

-- the view ended before
pub record EndsEarly {K S : Type 0} (content : K → Option (List Entry)) (faults : K → ℕ)
    (cache_of : S → CacheMap Bytes) (old new : FarmParts K S) (at : Readings) (view : View) (answer : model.Answer)
    : Type 0 where
  pub turns : List Turn
  pub made : MakesTurns content faults cache_of old new turns
  pub quiet : are_quiet (map (λ t. t.step) turns) ≡ true
  pub makes : (jobs : List Job) → Makes at (steps_to_round view jobs) turns
  pub last : last_reply turns ≡ Some (One (Some answer))
  pub fits : EndsBatch answer

abbrev pub FindsNeed : {K S : Type 0} → (K → Option (List Entry)) → (K → ℕ) → (S → CacheMap Bytes)
    → (old new : FarmParts K S) → Readings → View → Result ℕ Answer → Type 0
FindsNeed content faults cache_of old new at view (Ok need) =
    KnowsNeed content faults cache_of old new at view need
FindsNeed content faults cache_of old new at view (Err answer) =
    EndsEarly content faults cache_of old new at view (answer_of answer)

-- A batch was made at these readings, and answered so. These purges were held back for it.
pub record MakesBatch {K S : Type 0} (content : K → Option (List Entry)) (faults : K → ℕ)
    (cache_of : S → CacheMap Bytes) (old new : FarmParts K S) (at : Readings) (view : View)
    (drawn : List (Title × ℕ)) (held : List Taken) (outcome : Outcome) : Type 0 where
  pub own : List Turn
  pub late : List Turn
  pub made : MakesTurns content faults cache_of old new (own ++ late)
  -- if its world would receive each of them, they are jobs of its round
  pub makes : (start : World) (earlier : List Turn) (v : World) → Stands content faults cache_of old start earlier v
      → All (IsReceivable v) held → Makes at (steps_to_round view (jobs_in (at_readings at v) view drawn held)) own
  -- if it ended before, they were carried
  pub carried_late : AllMade at (carries (not_received own held)) late
  pub answered : IsBatchAnswered view.title own outcome
  pub fits : FitsBatch outcome

-- the same after its housekeeping
pub record ServesBatch {K S : Type 0} (content : K → Option (List Entry)) (faults : K → ℕ)
    (cache_of : S → CacheMap Bytes) (old new : FarmParts K S) (sent_old sent_new : ℕ) (at : Readings)
    (before now : WireSeen) (view : View) (drawn : List (Title × ℕ)) (outcome : Outcome) : Type 0 where
  pub middle : FarmParts K S
  pub held : List Taken
  pub housework : DoesHousework content faults cache_of old middle sent_old sent_new at before now
      (room_beside (region_of view) (length drawn)) held
  pub own : MakesBatch content faults cache_of middle new at view drawn held outcome
