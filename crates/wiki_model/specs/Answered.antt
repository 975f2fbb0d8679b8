-- What a whole request, made step by step at one reading, is answered: each ends with one answer, and of these kinds
-- alone.
use Rattle.std.specs.Prelude.{ℕ, ◌≡◌, ◌⊎◌, ◌≤◌, true, List, [], ◌∷◌, ◌++◌, length, Option, Some, None, option_map}
use Rattle.wiki_model.specs.declared.Region.{Region}
use Rattle.wiki_model.specs.declared.Readings.{Readings}
use Rattle.wiki_model.specs.Bytes.{last_of}
use Rattle.wiki_model.specs.Titles.{Title}
use Rattle.wiki_model.specs.History.{Edit, Committed, page_text}
use Rattle.wiki_model.specs.World.{World, View, OpenView, Job, moment, at_readings}
use Rattle.wiki_model.specs.World.Asked.{AskedView, AskedEdit}
use Rattle.wiki_model.specs.Sessions.{lag_of}
use Rattle.wiki_model.specs.Answers.{Answer, edit_answer, saved, IsOfPrefix}
use Rattle.wiki_model.specs.Answers.Answer.{Page, EditSaved, NoPage, Conflict, TokenUsed, Lagging, StoreFault, NoMemory}
use Rattle.wiki_model.specs.Steps.{Step, Rose, region_of, next_message, next_entry, next_commit}
use Rattle.wiki_model.specs.Runs.{Turn, Reply}
use Rattle.wiki_model.specs.Runs.Reply.{One, Many}
use Rattle.wiki_model.specs.Sequences.{Makes, steps_of_asked}
use Rattle.wiki_model.specs.Serving.{GoesBy, Taken, ServesOne}

-- what the last turn answered
abbrev pub last_reply : List Turn → Option Reply
last_reply turns = option_map (λ turn. turn.reply) (last_of turns)

-- the last turn gave one answer, of this kind
abbrev pub LastAnswers : (Answer → Type 0) → List Turn → Type 0
LastAnswers Is turns = (answer : Answer) × (last_reply turns ≡ Some (One (Some answer))) × Is answer

-- a view: a page of its title, that there is none, how far it is behind, or out of memory
abbrev pub IsViewAnswer : Title → Answer → Type 0
IsViewAnswer title (Page p) = p.title ≡ title
IsViewAnswer title (NoPage source) = Unit {0}
IsViewAnswer title (Lagging by needed reached) = Unit {0}
IsViewAnswer title NoMemory = Unit {0}
IsViewAnswer title _ = ⊥

-- an edit: what the history says of it, out of memory, or a fault of the keeper, whose count then rose
abbrev pub IsEditAnswer : (faults_before faults_now : ℕ) → Answer → Type 0
IsEditAnswer before now (EditSaved s) = Unit {0}
IsEditAnswer before now (TokenUsed entry) = Unit {0}
IsEditAnswer before now (Conflict base current) = Unit {0}
IsEditAnswer before now StoreFault = Rose before now
IsEditAnswer before now NoMemory = Unit {0}
IsEditAnswer before now _ = ⊥

-- a batch that ends before its round
abbrev pub EndsBatch : Answer → Type 0
EndsBatch (Lagging by needed reached) = Unit {0}
EndsBatch NoMemory = Unit {0}
EndsBatch _ = ⊥

-- a view at world v: its page of a prefix, that this prefix has none, how far v is behind, or out of memory
abbrev pub opened_in : World → View → OpenView
opened_in v view = record { view = view; region = region_of view; arrived = moment (region_of view) v }

abbrev pub GetsPage : World → View → Answer → Type 0
GetsPage v view (Page p) = IsOfPrefix v view.title p
GetsPage v view (NoPage source) =
    (source ≤ length v.history) × (page_text v.history source view.title ≡ None)
GetsPage v view (Lagging by needed reached) =
    lag_of v (opened_in v view) ≡ Some (record { by = by; needed = needed; reached = reached })
GetsPage v view NoMemory = Unit {0}
GetsPage v view _ = ⊥

-- an edit at world v that the history did not decide: saved as its next entry, out of memory, or a fault of the keeper;
-- the history has the commit if the edit is saved, and is as before if not
abbrev pub IsSaved : (v w : World) → Edit → Answer → Type 0
IsSaved v w edit (EditSaved s) =
    let commit = next_commit v edit (next_message v) in
    (s ≡ saved (next_entry v) commit) × (w.history ≡ v.history ++ Committed commit ∷ [])
IsSaved v w edit StoreFault = Rose v.faults w.faults × (w.history ≡ v.history)
IsSaved v w edit NoMemory = w.history ≡ v.history
IsSaved v w edit _ = ⊥

-- The laws

abbrev pub ViewsAreAnswered : Type 0
ViewsAreAnswered =
    (at : Readings) (view : View) (turns : List Turn) (v w : World)
    → Makes at (steps_of_asked (AskedView view)) turns → GoesBy v turns w
    → LastAnswers (IsViewAnswer view.title) turns

abbrev pub EditsAreAnswered : Type 0
EditsAreAnswered =
    (at : Readings) (edit : Edit) (turns : List Turn) (v w : World)
    → Makes at (steps_of_asked (AskedEdit edit)) turns → GoesBy v turns w
    → LastAnswers (IsEditAnswer v.faults w.faults) turns

-- a view that is not behind gets its page, or that there is none, or out of memory
abbrev pub ViewsGetTheirPage : Type 0
ViewsGetTheirPage =
    (at : Readings) (view : View) (turns : List Turn) (v w : World)
    → Makes at (steps_of_asked (AskedView view)) turns → GoesBy v turns w
    → LastAnswers (GetsPage (at_readings at v) view) turns

-- an edit that the history does not decide is saved, out of memory, or meets a fault of the keeper
abbrev pub UndecidedEditsAreSaved : Type 0
UndecidedEditsAreSaved =
    (at : Readings) (edit : Edit) (turns : List Turn) (v w : World)
    → Makes at (steps_of_asked (AskedEdit edit)) turns → GoesBy v turns w
    → edit_answer v.history edit ≡ None
    → LastAnswers (IsSaved (at_readings at v) w edit) turns

-- a batch's round answers a list, or that it was out of memory
abbrev pub BatchesAreAnswered : Type 0
BatchesAreAnswered =
    (at : Readings) (view : View) (r : Region) (jobs : List Job) (turns : List Turn) (v w : World)
    → Makes at (Step.Arrive 0 (AskedView view) ∷ Step.Wait 0 true ∷ Step.Need 0 ∷ Step.Round r jobs ∷ []) turns
    → GoesBy v turns w
    → LastAnswers EndsBatch turns
    ⊎ ((answers : Option (List Answer)) × (last_reply turns ≡ Some (Many answers)))

-- so is a view with its housekeeping before it, and an edit
abbrev pub PagesAreServed : Type 0
PagesAreServed =
    (at : Readings) (pace : ℕ) (taken : List Taken) (view : View) (turns : List Turn) (v w : World)
    → ServesOne at pace taken (AskedView view) v turns w
    → LastAnswers (IsViewAnswer view.title) turns

abbrev pub EditsAreServed : Type 0
EditsAreServed =
    (at : Readings) (pace : ℕ) (taken : List Taken) (edit : Edit) (turns : List Turn) (v w : World)
    → ServesOne at pace taken (AskedEdit edit) v turns w
    → LastAnswers (IsEditAnswer v.faults w.faults) turns
