-- What a round of one worker does with the cache that is lent to it, job by job.
-- The answers of such jobs are allowed by `MakesRound`, and the cache then stands for the world after it.
use Rattle.std.specs.Prelude.{ℕ, ◌≡◌, ◌≢◌, ◌⊎◌, true, false, List, [], ◌∷◌, Option, Some, None}
use Rattle.wiki_model.specs.declared.Region.{Region}
use Rattle.wiki_model.specs.declared.Put.{Put}
use Rattle.wiki_model.specs.declared.PutNote.{PutNote}
use Rattle.wiki_model.specs.declared.PutNote.TheVariants as note
use Rattle.wiki_model.specs.declared.SetRule.{SetRule}
use Rattle.wiki_model.specs.declared.SetRule.TheVariants as rule
use Rattle.wiki_model.specs.Bytes.{Bytes}
use Rattle.wiki_model.specs.Titles.{Title}
use Rattle.wiki_model.specs.Html.{html}
use Rattle.wiki_model.specs.Limits.{life_whole, life_lagged}
use Rattle.wiki_model.specs.Cache.{CacheMap, Cached, Found, Hit, Interim, Missed, IsCache, Puts, set_rule, look}
use Rattle.wiki_model.specs.World.{World, moment, Snapshot, Job}
use Rattle.wiki_model.specs.World.Job.{ViewJob, ReceiptJob}
use Rattle.wiki_model.specs.Answers.{Answer, IsSnapshot, ChosenReplica}
use Rattle.wiki_model.specs.Answers.Answer.{Page, NoPage, NoMemory}
use Rattle.wiki_model.specs.Consistent.{IsPurge}
use Rattle.wiki_model.specs.CacheCalls.{TakesPurge, IsNoteOf, ask_of, look_answer, answer_of_replica, value_of_snapshot}

-- A receipt job: the cache takes the purge.
abbrev pub TakesReceipt : World → Region → (purge : ℕ) → (old new : CacheMap Bytes) → Type 0
TakesReceipt v r purge old new =
    (title : Title) × IsPurge v purge title × TakesPurge old new title (moment r v)

-- the put of a value, and its note
abbrev pub PutsValue : Title → Cached Bytes → PutNote → (old new : CacheMap Bytes) → Type 0
PutsValue title value n old new =
    (answer : Put) × Puts old new title value answer × IsNoteOf answer value.lagged n
    × (n ≢ note.Memory)

-- a page from a snapshot is kept by the set rule
abbrev pub KeepsPage : SetRule → World → Region → Title → Snapshot → Bytes → PutNote
    → (old new : CacheMap Bytes) → Type 0
KeepsPage rule.Whole v r title s page n old new =
    PutsValue title (value_of_snapshot v.history page s.upto (moment r v) life_whole false v.markup) n old new
KeepsPage rule.Lagged v r title s page n old new =
    PutsValue title (value_of_snapshot v.history page s.upto (moment r v) life_lagged true v.markup) n old new
KeepsPage rule.NoPending v r title s page n old new = (n ≡ note.NoPending) × (new ≡ old)
KeepsPage rule.NoOld v r title s page n old new = (n ≡ note.NoOld) × (new ≡ old)
KeepsPage rule.NoMedium v r title s page n old new = (n ≡ note.NoMedium) × (new ≡ old)

-- what is rendered from a snapshot, if it has the page
abbrev pub Renders : World → Region → Title → Snapshot → Answer → (old new : CacheMap Bytes)
    → Option Bytes → Type 0
Renders v r title s answer old new None = (answer ≡ NoPage s.upto) × (new ≡ old)
Renders v r title s answer old new (Some page) =
    (i : ℕ) × ChosenReplica s.choice i × (n : PutNote)
    × (answer ≡ Page (answer_of_replica title s i n page))
    × KeepsPage (set_rule s.lag 0 s.pending v.setting.bounds.read_lag) v r title s page n old new

-- A view job: what the look finds is answered, and where it misses, what a snapshot has.
abbrev pub AnswersFound : World → Region → Title → (need word : ℕ) → Answer
    → (old new : CacheMap Bytes) → Found Bytes → Type 0
AnswersFound v r title need word answer old new (Hit value) =
    (answer ≡ look_answer title (Hit value)) × (new ≡ old)
AnswersFound v r title need word answer old new (Interim value) =
    (answer ≡ look_answer title (Interim value)) × (new ≡ old)
AnswersFound v r title need word answer old new (Missed why) =
    (s : Snapshot) × IsSnapshot v r title need word s
    × Renders v r title s answer old new (html v.history s.upto title v.markup)

-- any view may be out of memory
abbrev pub AnswersView : World → Region → Title → (need word : ℕ) → Answer
    → (old new : CacheMap Bytes) → Type 0
AnswersView v r title need word answer old new =
    ((answer ≡ NoMemory) × (new ≡ old))
    ⊎ AnswersFound v r title need word answer old new (look old title (moment r v) (ask_of v need))

-- The jobs in order, with their answers, lead the cache from old to new.
abbrev pub DoesJobs : World → Region → List Job → List Answer → (old new : CacheMap Bytes) → Type 0
DoesJobs v r [] [] old new = new ≡ old
DoesJobs v r [] (answer ∷ answers) old new = ⊥
DoesJobs v r (ReceiptJob purge ∷ jobs) answers old new =
    (mid : CacheMap Bytes) × IsCache mid × TakesReceipt v r purge old mid
    × DoesJobs v r jobs answers mid new
DoesJobs v r (ViewJob title need word ∷ jobs) [] old new = ⊥
DoesJobs v r (ViewJob title need word ∷ jobs) (answer ∷ answers) old new =
    (mid : CacheMap Bytes) × IsCache mid × AnswersView v r title need word answer old mid
    × DoesJobs v r jobs answers mid new
