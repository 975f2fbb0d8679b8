-- What a round of several workers does with the cache that is lent to it: what each of its jobs may answer by what a
-- seat has seen. With the cache given back as agreed, such answers are allowed by `MakesRound`.
use Rattle.std.specs.Prelude.{ℕ, ◌≡◌, ◌⊎◌, ◌≤◌, max, true, false, List, [], ◌∷◌, Option, Some, None, IfSome}
use Rattle.wiki_model.specs.declared.Region.{Region}
use Rattle.wiki_model.specs.declared.PutNote.{PutNote}
use Rattle.wiki_model.specs.declared.PutNote.TheVariants as note
use Rattle.wiki_model.specs.declared.SetRule.{SetRule}
use Rattle.wiki_model.specs.declared.SetRule.TheVariants as rule
use Rattle.wiki_model.specs.Bytes.{Bytes}
use Rattle.wiki_model.specs.Titles.{Title}
use Rattle.wiki_model.specs.Html.{html}
use Rattle.wiki_model.specs.Cache.{CacheMap, Cached, Found, Hit, Interim, Missed, found, is_held, set_rule}
use Rattle.wiki_model.specs.World.{World, moment, Snapshot, Job}
use Rattle.wiki_model.specs.World.Job.{ViewJob, ReceiptJob}
use Rattle.wiki_model.specs.Answers.{Answer, IsSnapshot, ChosenReplica, HasMaker}
use Rattle.wiki_model.specs.Answers.Answer.{Page, NoPage, NoMemory}
use Rattle.wiki_model.specs.Caches.{IsTrueIn}
use Rattle.wiki_model.specs.Rounds.{IsBusy}
use Rattle.wiki_model.specs.CacheCalls.{ask_of, look_answer, answer_of_replica}
use Rattle.wiki_model.specs.Shares.{IsLoaded, IsMainTrue}

-- What a seat has seen for a key: floor and checks as it loaded them, and the values that it found in their places.
pub record Seen : Type 0 where
  pub floor : ℕ
  pub template : ℕ
  pub message : ℕ
  pub main : Option (Cached Bytes)
  pub interim : Option (Cached Bytes)

-- The floor and the checks are not above those of the cache that is given back.
pub record IsLow (new : CacheMap Bytes) (title : Title) (s : Seen) : Type 0 where
  pub floor : s.floor ≤ new.floor title
  pub template : s.template ≤ new.template_check
  pub message : s.message ≤ new.message_check

-- They are not below those at lending, and each value may stand in its place and was made before, or by the round.
pub record IsSeen (v with_all : World) (r : Region) (old new : CacheMap Bytes) (title : Title)
    (s : Seen) : Type 0 where
  pub loaded : IsLoaded v r old title s.floor s.template s.message
  pub low : IsLow new title s
  pub main : IfSome s.main (λ value. IsMainTrue v r title value × HasMaker with_all r title value)
  pub interim :
      IfSome s.interim (λ value. IsTrueIn v r title value × (value.lagged ≡ false) × HasMaker with_all r title value)

-- the note of a value under Whole or Lagged: it was placed, or the key was found held, or the put met another's claim
abbrev pub IsSharedNote : World → Region → (new : CacheMap Bytes) → Title → SetRule → PutNote
    → Type 0
IsSharedNote v r new title rule.Whole n =
    (n ≡ note.Whole)
    ⊎ ((n ≡ note.Interim) × (s : Seen) × IsLow new title s
    × (is_held s.floor (max s.template s.message) (moment r v) ≡ true))
    ⊎ IsBusy v.setting.workers n
IsSharedNote v r new title rule.Lagged n =
    (n ≡ note.Lagged)
    ⊎ ((n ≡ note.Held) × (s : Seen) × IsLow new title s
    × (is_held s.floor (max s.template s.message) (moment r v) ≡ true))
    ⊎ IsBusy v.setting.workers n
IsSharedNote v r new title rule.NoPending n = n ≡ note.NoPending
IsSharedNote v r new title rule.NoOld n = n ≡ note.NoOld
IsSharedNote v r new title rule.NoMedium n = n ≡ note.NoMedium

abbrev pub RendersShared : World → Region → (new : CacheMap Bytes) → Title → Snapshot → Answer
    → Option Bytes → Type 0
RendersShared v r new title s answer None = answer ≡ NoPage s.upto
RendersShared v r new title s answer (Some page) =
    (i : ℕ) × ChosenReplica s.choice i × (n : PutNote)
    × (answer ≡ Page (answer_of_replica title s i n page))
    × IsSharedNote v r new title (set_rule s.lag 0 s.pending v.setting.bounds.read_lag) n

-- what was found is answered, unless it was missed
abbrev pub AnswersSeen : Title → Answer → Found Bytes → Type 0
AnswersSeen title answer (Hit value) = answer ≡ look_answer title (Hit value)
AnswersSeen title answer (Interim value) = answer ≡ look_answer title (Interim value)
AnswersSeen title answer (Missed why) = ⊥

-- A view job of a seat: it was out of memory, or what it saw is answered, or what a snapshot has.
abbrev pub AnswersShared : (v with_all : World) → Region → (old new : CacheMap Bytes) → Title
    → (need word : ℕ) → Answer → Type 0
AnswersShared v with_all r old new title need word answer =
    (answer ≡ NoMemory)
    ⊎ ((s : Seen) × IsSeen v with_all r old new title s
    × AnswersSeen title answer
    (found old.hold_off s.floor (max s.template s.message) (moment r v) (ask_of v need) s.main s.interim))
    ⊎ ((s : Snapshot) × IsSnapshot v r title need word s
    × RendersShared v r new title s answer (html v.history s.upto title v.markup))

abbrev pub DoesShared : (v with_all : World) → Region → (old new : CacheMap Bytes) → List Job
    → List Answer → Type 0
DoesShared v with_all r old new [] [] = Unit {0}
DoesShared v with_all r old new [] (answer ∷ answers) = ⊥
DoesShared v with_all r old new (ReceiptJob purge ∷ jobs) answers =
    DoesShared v with_all r old new jobs answers
DoesShared v with_all r old new (ViewJob title need word ∷ jobs) [] = ⊥
DoesShared v with_all r old new (ViewJob title need word ∷ jobs) (answer ∷ answers) =
    AnswersShared v with_all r old new title need word answer
    × DoesShared v with_all r old new jobs answers
