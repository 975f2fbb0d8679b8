-- What is proved of these definitions: the laws that carry the promise. Each is a statement about every run and every
-- cache, and stands in the contract of a function of `src/laws.rt`, so that its proof is asked for.
use Rattle.std.specs.Prelude.{ℕ, ◌≡◌, ◌-◌, ◌<◌, ◌≤◌, max, Bool, true, false, List, [], ◌∷◌, ◌++◌, length, Option, Some, None, unwrap_or}
use Rattle.std.specs.List.{AllByRecursion}
use Rattle.wiki_model.specs.declared.Region.{Region}
use Rattle.wiki_model.specs.declared.Region.TheVariants.{Home}
use Rattle.wiki_model.specs.declared.Origin.TheVariants as via
use Rattle.wiki_model.specs.declared.Put.{Put}
use Rattle.wiki_model.specs.declared.PutNote.{PutNote}
use Rattle.wiki_model.specs.declared.SetRule.{SetRule}
use Rattle.wiki_model.specs.declared.SetRule.TheVariants as rule
use Rattle.wiki_model.specs.declared.Readings.{Readings}
use Rattle.wiki_model.specs.declared.Choice.{Choice}
use Rattle.wiki_model.specs.Bytes.{Bytes, IsIn}
use Rattle.wiki_model.specs.Titles.{Title, Client}
use Rattle.wiki_model.specs.History.{Entry, Commit, Edit, IsHistory, stamp_at, stamp_of, commit_of, commit_at, commits_on, current_revision, commit_for, page_text}
use Rattle.wiki_model.specs.Html.{html}
use Rattle.wiki_model.specs.Limits.{greatest_moment, hold_off, life_whole, life_lagged}
use Rattle.wiki_model.specs.Balance.{Row, IsChoice}
use Rattle.wiki_model.specs.Cache.{CacheMap, Cached, Found, Hit, Interim, IsCache, IsEmptyCache, Puts, set_rule, look, found, is_held}
use Rattle.wiki_model.specs.World.{World, Setting, OpenView, Floor, Snapshot, Stored, Job, site, moment, request_at, at_readings, without_request}
use Rattle.wiki_model.specs.World.Event.{Received, Kept}
use Rattle.wiki_model.specs.World.Request.{ViewWaited}
use Rattle.wiki_model.specs.Sessions.{unknown, known, lag_of, floor_of, greatest}
use Rattle.wiki_model.specs.HoldOff.{IsIssued, IsPurgeOf, HasPrompt, IsSettled, IsNotStale}
use Rattle.wiki_model.specs.Values.{IsTrueValue}
use Rattle.wiki_model.specs.Reuse.{IsQuiet, IsNote, main_life, interim_life}
use Rattle.wiki_model.specs.Answers.{Answer, PageAnswer, edit_answer, IsSnapshot, IsSoundFromCache, IsPutNote, HasMaker}
use Rattle.wiki_model.specs.Answers.Answer.{Page, NoPage}
use Rattle.wiki_model.specs.Steps.{Step, Looks, Stores, kept, appended_if, next_commit}
use Rattle.wiki_model.specs.Rounds.{MakesRound, IsProperJob, rounded, batch}
use Rattle.wiki_model.specs.Runs.{Turn, One, Many, Leads, IsRun, opening}
use Rattle.wiki_model.specs.Consistent.{IsConsistent, IsOpened, HearsYoung, IsParked}
use Rattle.wiki_model.specs.Caches.{CacheStands, IsTrueIn}
use Rattle.wiki_model.specs.Promised.{IsOpen, AnswersView, AnswersNoPage, AnswersJob, HasNoPageFor, WasGiven}
use Rattle.wiki_model.specs.Positions.{Finder, PositionsStand, TakesPosition, Rows, RowsStand, TellsRow, SweepsRows, row_for, told_all, no_rows, young_commits}
use Rattle.wiki_model.specs.Changes.{Goes, IsGrown, IsEvent, SameButEvents, IsAppended, HasMore, IsNext}
use Rattle.wiki_model.specs.CacheCalls.{TakesPurge, IsNoteOf, IsMarkedBy, value_of_snapshot, store_of, ask_of, answer_from, answer_of_replica, look_answer, looked}
use Rattle.wiki_model.specs.Lent.{IsGivenBack}
use Rattle.wiki_model.specs.OneWorker.{DoesJobs}
use Rattle.wiki_model.specs.Shares.{IsLoaded, IsMainTrue}
use Rattle.wiki_model.specs.SharedRounds.{DoesShared}

-- Of every run

-- each page that a step of a run answers is as promised to the view that the step names; so is the answer that there is
-- none
abbrev pub PagesArePromised : Type 0
PagesArePromised =
    (setting : Setting) (history : List Entry) (faults : ℕ) (at : Readings) (turns : List Turn)
    (turn : Turn) (w : World) (p : PageAnswer)
    → IsOpened setting history → (run : IsRun (opening setting history faults at) (turn ∷ turns) w)
    → turn.reply ≡ One (Some (Page p))
    → AnswersView (opening setting history faults at) turns run.0 run.1 turn p

abbrev pub MissingPagesArePromised : Type 0
MissingPagesArePromised =
    (setting : Setting) (history : List Entry) (faults : ℕ) (at : Readings) (turns : List Turn)
    (turn : Turn) (w : World) (source : ℕ)
    → (run : IsRun (opening setting history faults at) (turn ∷ turns) w)
    → turn.reply ≡ One (Some (NoPage source))
    → AnswersNoPage (opening setting history faults at) turns run.0 run.1 turn source

-- each page of a round of a run is as promised, in the world after the round's readings
abbrev pub RoundPagesArePromised : Type 0
RoundPagesArePromised =
    (start : World) (turns : List Turn) (turn : Turn) (w : World) (r : Region) (jobs : List Job)
    (answers : List Answer) (p : PageAnswer)
    → (run : IsRun start (turn ∷ turns) w) → turn.step ≡ Step.Round r jobs
    → turn.reply ≡ Many (Some answers) → IsIn (Page p) answers
    → AnswersJob (at_readings turn.at run.0) r jobs p

-- so is the answer of a round that there is no page
abbrev pub MissingRoundPagesArePromised : Type 0
MissingRoundPagesArePromised =
    (start : World) (turns : List Turn) (turn : Turn) (w : World) (r : Region) (jobs : List Job)
    (answers : List Answer)
    (source : ℕ) → (run : IsRun start (turn ∷ turns) w) → turn.step ≡ Step.Round r jobs
    → turn.reply ≡ Many (Some answers) → IsIn (NoPage source) answers
    → HasNoPageFor (at_readings turn.at run.0) jobs source

-- the floor of an open view is the one that its own step wait gave it
abbrev pub FloorsAreGiven : Type 0
FloorsAreGiven =
    (setting : Setting) (history : List Entry) (faults : ℕ) (at : Readings) (turns : List Turn)
    (w : World) (id : ℕ) (view : OpenView) (floor : Floor)
    → (run : IsRun (opening setting history faults at) turns w) → IsOpen w id view floor
    → WasGiven (opening setting history faults at) turns w run id view floor

-- what a view may not miss is reached by a replica of its region, from its step wait on
abbrev pub NeedsAreReached : Type 0
NeedsAreReached =
    (setting : Setting) (history : List Entry) (faults : ℕ) (at : Readings) (turns : List Turn)
    (w : World) (id : ℕ) (view : OpenView) (floor : Floor)
    → IsOpened setting history → IsRun (opening setting history faults at) turns w
    → IsOpen w id view floor → floor.need ≤ greatest (site view.region w).applied

-- the last world of each run from an opening is consistent
abbrev pub RunsStayConsistent : Type 0
RunsStayConsistent =
    (setting : Setting) (history : List Entry) (faults : ℕ) (at : Readings) (turns : List Turn)
    (w : World)
    → IsOpened setting history → IsRun (opening setting history faults at) turns w → IsConsistent w

-- along each run the history only grows, no moment falls, and the setting stays
abbrev pub RunsOnlyGrow : Type 0
RunsOnlyGrow = (start : World) (turns : List Turn) (w : World) → IsRun start turns w → Goes start w

-- an entry that is not before the last, and is the next commit if it is a commit, keeps the list a history
abbrev pub EntriesKeepHistories : Type 0
EntriesKeepHistories =
    (h : List Entry) (e : Entry) → IsHistory h → stamp_at h (length h) ≤ stamp_of e
    → stamp_of e ≤ greatest_moment
    → ((c : Commit) → commit_of e ≡ Some c → IsNext h c) → IsHistory (h ++ e ∷ [])

-- the current revision of a title is the number of its commits
abbrev pub RevisionsAreCounted : Type 0
RevisionsAreCounted =
    (h : List Entry) → IsHistory h → (t : Title) → current_revision h t ≡ length (commits_on h t)

-- the commit that an edit makes is the next, if the history does not decide the edit
abbrev pub UndecidedEditsAreNext : Type 0
UndecidedEditsAreNext =
    (h : List Entry) → IsHistory h → (edit : Edit) (stamp purge : ℕ) → edit_answer h edit ≡ None
    → IsNext h (commit_for h edit stamp purge)

-- the page of a prefix stays as the history grows
abbrev pub PagesOfPrefixesStay : Type 0
PagesOfPrefixesStay =
    (h more : List Entry) (k : ℕ) (title : Title) (markup : ℕ) → k ≤ length h
    → html (h ++ more) k title markup ≡ html h k title markup

-- a purge of an entry is of the entry's title
abbrev pub PurgesAreOfTheirTitle : Type 0
PurgesAreOfTheirTitle =
    (w : World) → IsConsistent w → (n : ℕ) (commit : Commit) (purge : ℕ) (title : Title)
    (issued : ℕ)
    → IsPurgeOf w n commit purge → IsIssued w purge title issued → title ≡ commit.edit.title

-- each commit of the run has a purge that it followed soon, the one that it names or a second one
abbrev pub CommitsArePurgedPromptly : Type 0
CommitsArePurgedPromptly =
    (setting : Setting) (history : List Entry) (faults : ℕ) (at : Readings) (turns : List Turn)
    (w : World) (n : ℕ) (c : Commit)
    → IsOpened setting history → IsRun (opening setting history faults at) turns w
    → length history < n → commit_at w.history n ≡ Some c → HasPrompt w n c

-- Of what a region's cache stands for

-- an empty cache stands for a region in which nothing has happened
abbrev pub EmptyCachesStand : Type 0
EmptyCachesStand =
    (w : World) (r : Region) (cache : CacheMap Bytes) → IsEmptyCache cache → IsCache cache
    → ((a b : Title) → cache.together a b ≡ w.setting.together r a b)
    → cache.hold_off ≡ hold_off w.setting.bounds → (site r w).events ≡ [] → CacheStands w r cache

-- it stands on while moments and history grow
abbrev pub GrowthKeepsCaches : Type 0
GrowthKeepsCaches =
    (v w : World) (r : Region) (cache : CacheMap Bytes) → IsGrown v w r → CacheStands v r cache
    → CacheStands w r cache

-- a purge that is taken with its receipt keeps it
abbrev pub PurgesKeepCaches : Type 0
PurgesKeepCaches =
    (v w : World) (r : Region) (old new : CacheMap Bytes) (number : ℕ) (title : Title)
    → CacheStands v r old → IsCache new
    → TakesPurge old new title (moment r v) → IsEvent v w r (Received number title (moment r v))
    → CacheStands w r new

-- a put of a true value at the region's moment, with its store, keeps it, whatever the put answers: also that it found
-- no memory
abbrev pub PutsKeepCaches : Type 0
PutsKeepCaches =
    (v w : World) (r : Region) (old new : CacheMap Bytes) (key : Title) (value : Cached Bytes)
    (answer : Put) (note : PutNote)
    → CacheStands v r old → IsCache new → Puts old new key value answer → value.set_at ≡ moment r v
    → IsTrueIn v r key value
    → IsNoteOf answer value.lagged note → IsEvent v w r (Kept (store_of key value note))
    → CacheStands w r new

-- so does a store that puts nothing
abbrev pub StoresKeepCaches : Type 0
StoresKeepCaches =
    (v w : World) (r : Region) (cache : CacheMap Bytes) (s : Stored) → CacheStands v r cache
    → main_life s.note ≡ 0 → interim_life s.note ≡ 0
    → IsEvent v w r (Kept s) → CacheStands w r cache

-- and a round whose cache is given back as agreed
abbrev pub RoundsKeepCaches : Type 0
RoundsKeepCaches =
    (v : World) (r : Region) (jobs : List Job) (lost : Bool) (answers : List Answer)
    (old new : CacheMap Bytes)
    → IsConsistent v → AllByRecursion (IsProperJob v r) jobs → CacheStands v r old
    → IsGivenBack v r jobs lost (batch v r jobs lost answers).rendered old new
    → CacheStands (rounded r jobs lost answers v) r new

-- a round of one worker that does its jobs in order is allowed, and the cache stands for the world after it
abbrev pub OneWorkerRoundsStand : Type 0
OneWorkerRoundsStand =
    (v : World) (r : Region) (jobs : List Job) (answers : List Answer) (old new : CacheMap Bytes)
    → IsConsistent v → AllByRecursion (IsProperJob v r) jobs → CacheStands v r old
    → DoesJobs v r jobs answers old new
    → MakesRound r jobs v (Some answers) (rounded r jobs false answers v)
    × CacheStands (rounded r jobs false answers v) r new

-- Of looks and stores

-- Whatever the cache holds, what a look finds is an answer that a look may give, with the world that it leaves.
abbrev pub LooksAreAllowed : Type 0
LooksAreAllowed =
    (id : ℕ) (view : OpenView) (floor : Floor) (w : World) (cache : CacheMap Bytes)
    (seen : Found Bytes)
    → IsConsistent w → CacheStands w view.region cache → floor.own ≤ floor.need
    → look cache view.view.title (moment view.region w) (ask_of w floor.need) ≡ seen
    → Looks id (view, floor) w (Some (look_answer view.view.title seen))
    (looked id view floor seen w)

-- A run goes on by a look of a waited view: what the look finds leads on from the last world of the run, and the cache
-- stands on.
abbrev pub LooksGoOn : Type 0
LooksGoOn =
    (setting : Setting) (history : List Entry) (faults : ℕ) (opened at : Readings)
    (turns : List Turn) (w : World) (id : ℕ) (view : OpenView) (floor : Floor)
    (cache : CacheMap Bytes)
    → IsOpened setting history → IsRun (opening setting history faults opened) turns w
    → request_at w id ≡ Some (ViewWaited view floor) → CacheStands w view.region cache
    → let v = at_readings at w in
    let seen = look cache view.view.title (moment view.region v) (ask_of v floor.need) in
    let turn : Turn = record { at = at; step = Step.Look id; reply = One (Some (look_answer view.view.title seen)) } in
    Leads w turn (looked id view floor seen v)
    × CacheStands (looked id view floor seen v) view.region cache

-- A hit is settled, and one that is not marked lagged lacks no commit whose purge was received within the bounds.
abbrev pub HitsAreNotStale : Type 0
HitsAreNotStale =
    (w : World) (r : Region) (cache : CacheMap Bytes) (title : Title) (need : ℕ)
    (value : Cached Bytes) → IsConsistent w → CacheStands w r cache
    → look cache title (moment r w) (ask_of w need) ≡ Hit value → IsSettled w r title
    × (value.lagged ≡ false → IsNotStale w r value.upto title)

-- A hit and an interim answer are sound, also beside what else happens in their round.
abbrev pub HitsAreSound : Type 0
HitsAreSound =
    (w with_all : World) (r : Region) (cache : CacheMap Bytes) (title : Title) (floor : Floor)
    (value : Cached Bytes) → IsConsistent w → CacheStands w r cache → HasMore w with_all r
    → floor.own ≤ floor.need → look cache title (moment r w) (ask_of w floor.need) ≡ Hit value
    → IsSoundFromCache w with_all r title floor (answer_from title via.Hit value)

abbrev pub InterimAnswersAreSound : Type 0
InterimAnswersAreSound =
    (w with_all : World) (r : Region) (cache : CacheMap Bytes) (title : Title) (floor : Floor)
    (value : Cached Bytes) → IsConsistent w → CacheStands w r cache → HasMore w with_all r
    → moment r with_all ≡ moment r w → floor.own ≤ floor.need
    → look cache title (moment r w) (ask_of w floor.need) ≡ Interim value
    → IsSoundFromCache w with_all r title floor (answer_from title via.Interim value)

-- a page that is made from a parked snapshot is an answer that a store may give; so is a page that is not there
abbrev pub StoredPagesAreSound : Type 0
StoredPagesAreSound =
    (id : ℕ) (view : OpenView) (floor : Floor) (s : Snapshot) (w : World) (note : PutNote)
    (page : Bytes) → (parked : IsParked w floor s)
    → html w.history s.upto view.view.title w.markup ≡ Some page
    → IsPutNote w view.region view.view.title s (moment view.region w) note
    → let answer = answer_of_replica view.view.title s parked.chosen.0 note page in
    Stores id (view, floor, s) w (Some (Page answer))
    (without_request id (kept w view.region answer note))

abbrev pub MissingPagesAreSound : Type 0
MissingPagesAreSound =
    (id : ℕ) (view : OpenView) (floor : Floor) (s : Snapshot) (w : World) → IsParked w floor s
    → page_text w.history s.upto view.view.title ≡ None
    → Stores id (view, floor, s) w (Some (NoPage s.upto)) (without_request id w)

-- a value that the set rule keeps whole is true, and so is one that it marks lagged
abbrev pub WholeValuesAreTrue : Type 0
WholeValuesAreTrue =
    (history : List Entry) (read_lag now since lag upto : ℕ) (pending : Bool) (title : Title)
    (page : Bytes) (markup : ℕ)
    → upto ≤ length history → lag ≡ since - stamp_at history upto
    → html history upto title markup ≡ Some page
    → set_rule lag (now - since) pending read_lag ≡ rule.Whole
    → IsTrueValue history read_lag now title (value_of_snapshot history page upto now life_whole false markup)

abbrev pub LaggedValuesAreTrue : Type 0
LaggedValuesAreTrue =
    (history : List Entry) (read_lag now upto : ℕ) (title : Title) (page : Bytes) (markup : ℕ)
    → upto ≤ length history → html history upto title markup ≡ Some page
    → IsTrueValue history read_lag now title (value_of_snapshot history page upto now life_lagged true markup)

-- the note of a put is one that the rule allows at this moment
abbrev pub NotesAreAllowed : Type 0
NotesAreAllowed =
    (v : World) (r : Region) (old new : CacheMap Bytes) (key : Title) (value : Cached Bytes)
    (answer : Put) (of : SetRule) (note : PutNote)
    → CacheStands v r old → Puts old new key value answer → value.set_at ≡ moment r v
    → IsMarkedBy of value.lagged → IsNoteOf answer value.lagged note
    → IsNote (IsQuiet v r key) of note

-- Of sessions and positions

-- if a view is not behind and its session's position is kept, its need reaches the client's last commit
abbrev pub NeedsReachOwnEdits : Type 0
NeedsReachOwnEdits =
    (w : World) (view : OpenView) → IsHistory w.history → HearsYoung w → lag_of w view ≡ None
    → (floor_of w view).own ≤ (floor_of w view).need

-- a snapshot for a need reaches it
abbrev pub SnapshotsReachTheirNeed : Type 0
SnapshotsReachTheirNeed =
    (w : World) (r : Region) (title : Title) (need word : ℕ) (s : Snapshot)
    → IsSnapshot w r title need word s → need ≤ s.upto

-- the choice of a replica is determined by its rows, need and word
abbrev pub ChoicesAreOne : Type 0
ChoicesAreOne =
    (rows : List Row) (need word : ℕ) (a b : Choice) → IsChoice rows need word a
    → IsChoice rows need word b → a ≡ b

-- what a store of positions finds stands on as moments grow, over an entry that the region has not heard,
-- and when the region hears a position, however late or often
abbrev pub EntriesKeepPositions : Type 0
EntriesKeepPositions =
    (v w : World) (r : Region) (entry : Entry) (find : Finder) → IsConsistent v
    → w.history ≡ v.history ++ entry ∷ [] → (site r w).heard ≡ (site r v).heard
    → moment r v ≤ moment r w → PositionsStand v r find → PositionsStand w r find

abbrev pub MomentsKeepPositions : Type 0
MomentsKeepPositions =
    (v w : World) (r : Region) (find : Finder) → w.history ≡ v.history
    → (site r w).heard ≡ (site r v).heard → moment r v ≤ moment r w
    → PositionsStand v r find → PositionsStand w r find

abbrev pub HearingKeepsPositions : Type 0
HearingKeepsPositions =
    (v w : World) (r : Region) (n : ℕ) (commit : Commit) (old new : Finder) → IsHistory v.history
    → commit_at v.history n ≡ Some commit → w.history ≡ v.history
    → (site r w).heard ≡ n ∷ (site r v).heard → moment r v ≤ moment r w
    → TakesPosition (moment r w) commit.edit.client (record { index = commit.index; position = n }) commit.stamp old new
    → PositionsStand v r old → PositionsStand w r new

-- the rows of a store stand after the opening told them its young commits, over an entry that the region has not heard,
-- when it hears a position, when expired rows are forgotten, and while only moments grow
abbrev pub OpeningsHaveRows : Type 0
OpeningsHaveRows =
    (setting : Setting) (history : List Entry) (faults : ℕ) (at : Readings) (r : Region)
    → IsHistory history
    → RowsStand (opening setting history faults at) r
    (told_all (young_commits (moment Home (opening setting history faults at)) history) no_rows)

abbrev pub EntriesKeepRows : Type 0
EntriesKeepRows =
    (v w : World) (r : Region) (entry : Entry) (rows : Rows) → IsConsistent v
    → w.history ≡ v.history ++ entry ∷ [] → (site r w).heard ≡ (site r v).heard
    → moment r v ≤ moment r w → RowsStand v r rows → RowsStand w r rows

abbrev pub HearingKeepsRows : Type 0
HearingKeepsRows =
    (v w : World) (r : Region) (n : ℕ) (commit : Commit) (old new : Rows) → IsHistory v.history
    → commit_at v.history n ≡ Some commit → w.history ≡ v.history
    → (site r w).heard ≡ n ∷ (site r v).heard → moment r v ≤ moment r w
    → TellsRow commit.edit.client (row_for n commit) old new → RowsStand v r old → RowsStand w r new

abbrev pub SweepingKeepsRows : Type 0
SweepingKeepsRows =
    (v w : World) (r : Region) (now : ℕ) (old new : Rows) → w.history ≡ v.history
    → (site r w).heard ≡ (site r v).heard → moment r v ≤ moment r w
    → now ≤ moment r w → SweepsRows now old new → RowsStand v r old → RowsStand w r new

abbrev pub MomentsKeepRows : Type 0
MomentsKeepRows =
    (v w : World) (r : Region) (rows : Rows) → w.history ≡ v.history
    → (site r w).heard ≡ (site r v).heard
    → moment r v ≤ moment r w → RowsStand v r rows → RowsStand w r rows

-- what a store of positions finds at the region's moment is what the region knows, with 0 and 0 for nothing
abbrev pub KnownPositionsAreFound : Type 0
KnownPositionsAreFound =
    (w : World) (r : Region) (find : Finder) (client : Client) → PositionsStand w r find
    → unwrap_or (find client (moment r w)) unknown ≡ known w r client

-- Of what a step leaves as it was

-- a round changes what happened to its region's cache, and nothing else
abbrev pub RoundsChangeEvents : Type 0
RoundsChangeEvents =
    (v : World) (r : Region) (jobs : List Job) (lost : Bool) (answers : List Answer)
    → SameButEvents v (rounded r jobs lost answers v) r

-- a commit, late or not, is one more entry that home has heard
abbrev pub CommitsAppend : Type 0
CommitsAppend =
    (v : World) (late : Bool) (edit : Edit) (purge : ℕ)
    → IsAppended v (appended_if late edit purge v) (next_commit v edit purge)

-- Of a cache that several workers share

-- a hit is sound if the seat has loaded what stood at lending and the value may stand as a main one
abbrev pub SharedHitsAreSound : Type 0
SharedHitsAreSound =
    (v with_all : World) (r : Region) (old : CacheMap Bytes) (title : Title) (own : Floor)
    (floor template message : ℕ) (value shown : Cached Bytes) (interim : Option (Cached Bytes))
    → IsConsistent v → CacheStands v r old → IsLoaded v r old title floor template message
    → IsMainTrue v r title value → HasMaker with_all r title value → own.own ≤ own.need
    → found old.hold_off floor (max template message) (moment r v) (ask_of v own.need)
    (Some value) interim ≡ Hit shown
    → IsSoundFromCache v with_all r title own (answer_from title via.Hit shown)

-- an interim answer is sound, and a note interim or held is allowed, if the cache that is given back has at least what
-- the seat loaded
abbrev pub SharedInterimAnswersAreSound : Type 0
SharedInterimAnswersAreSound =
    (v with_all : World) (r : Region) (new : CacheMap Bytes) (title : Title) (own : Floor)
    (period floor template message : ℕ) (value shown : Cached Bytes) (main : Option (Cached Bytes))
    → IsConsistent v → CacheStands with_all r new → moment r with_all ≡ moment r v
    → floor ≤ new.floor title → template ≤ new.template_check → message ≤ new.message_check
    → IsTrueIn v r title value → value.lagged ≡ false → HasMaker with_all r title value
    → own.own ≤ own.need
    → found period floor (max template message) (moment r v)
    (ask_of v own.need) main (Some value) ≡ Interim shown
    → IsSoundFromCache v with_all r title own (answer_from title via.Interim shown)

abbrev pub SharedNotesAreAllowed : Type 0
SharedNotesAreAllowed =
    (with_all : World) (r : Region) (new : CacheMap Bytes) (title : Title)
    (floor template message : ℕ) → CacheStands with_all r new
    → floor ≤ new.floor title → template ≤ new.template_check → message ≤ new.message_check
    → is_held floor (max template message) (moment r with_all) ≡ true
    → IsQuiet with_all r title → ⊥

-- a round of several workers whose jobs answer what their seats may is allowed, and the cache that is given back as
-- agreed stands for the world after it
abbrev pub SharedRoundsStand : Type 0
SharedRoundsStand =
    (v : World) (r : Region) (jobs : List Job) (answers : List Answer) (old new : CacheMap Bytes)
    → IsConsistent v → AllByRecursion (IsProperJob v r) jobs → CacheStands v r old
    → 1 < v.setting.workers
    → DoesShared v (rounded r jobs false answers v) r old new jobs answers
    → IsGivenBack v r jobs false (batch v r jobs false answers).rendered old new
    → MakesRound r jobs v (Some answers) (rounded r jobs false answers v)
    × CacheStands (rounded r jobs false answers v) r new
