-- What a batch makes the farm do: after its housekeeping a view of each title, all of them in one round, which receives
-- the purges that were held back for it.
use Rattle.std.specs.Prelude.{ℕ, ◌≡◌, ◌⊎◌, true, List, [], ◌∷◌, map, Some, None}
use Rattle.wiki_model.specs.Titles.{Title}
use Rattle.wiki_model.specs.World.{World, View, Job}
use Rattle.wiki_model.specs.World.Asked.{AskedView}
use Rattle.wiki_model.specs.Sessions.{known}
use Rattle.wiki_model.specs.Answers.{Answer}
use Rattle.wiki_model.specs.Answers.Answer.{NoMemory}
use Rattle.wiki_model.specs.Answered.{last_reply, EndsBatch}
use Rattle.wiki_model.specs.Steps.{Step, region_of}
use Rattle.wiki_model.specs.Runs.{Turn}
use Rattle.wiki_model.specs.Runs.Reply.{Many}
use Rattle.wiki_model.specs.Serving.{Taken, ServesBatch, jobs_of}
use Rattle.wiki_model.specs.Asking.{Request}
use Rattle.wiki_serve.specs.Exchanges.{Outcome, Answered, Listed, IsAnswered, Service}
use Rattle.wiki_serve.specs.Callers.{Desk, moment_for, view_for}

-- a round of these jobs, after the view has waited and told its need
abbrev pub steps_to_round : View → List Job → List Step
steps_to_round view jobs =
    Step.Arrive 0 (AskedView view) ∷ Step.Wait 0 true ∷ Step.Need 0 ∷ Step.Round (region_of view) jobs ∷ []

-- a job for each title with its word, none of which misses what the view's client is known to have saved by the world
-- after the readings; and after them a receipt of each purge that is held
abbrev pub jobs_in : World → View → List (Title × ℕ) → (held : List Taken) → List Job
jobs_in v view drawn held = jobs_of (known v (region_of view) view.client).position drawn held

-- it ends before its round as a view of its first title would, or is answered by the round, or the round was out of
-- memory
abbrev pub IsBatchAnswered : Title → List Turn → Outcome → Type 0
IsBatchAnswered title turns outcome =
    IsAnswered title turns outcome
    ⊎ ((answers : List Answer) × (last_reply turns ≡ Some (Many (Some answers))) × (outcome ≡ Listed answers))
    ⊎ ((last_reply turns ≡ Some (Many None)) × (outcome ≡ Answered title NoMemory))

-- A batch draws a word for each title, in their order. Its view is that of the first title and word. What becomes of the
-- messages that were taken for it, and of each step, is the model's.
pub record DoesBatch (desk : Desk) (request : Request) (titles : List Title) (service : Service) (v w : World)
    : Type 0 where
  pub drawn : List (Title × ℕ)
  pub title : Title
  pub word : ℕ
  pub titles_are : map (λ d. d.0) drawn ≡ titles
  pub words_are : service.words ≡ map (λ d. d.1) drawn
  pub serves : ServesBatch service.at desk.pace service.taken
      (view_for desk (moment_for v service.at request) request word title) drawn v service.turns w
  pub answered : IsBatchAnswered title serves.own service.outcome

-- an answer that is not a list is that the view is behind, or out of memory
abbrev pub FitsBatch : Outcome → Type 0
FitsBatch (Answered title answer) = EndsBatch answer
FitsBatch (Listed answers) = Unit {0}
