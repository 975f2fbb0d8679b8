-- A view job at a desk: what it answers, by what it looked at, took and put.
use Rattle.std.specs.Prelude.{ℕ, ◌≡◌, ◌⊎◌, true, false, Bool, Some, None}
use Rattle.wiki_model.specs.declared.SetRule.{SetRule}
use Rattle.wiki_model.specs.declared.SetRule.TheVariants as rule
use Rattle.wiki_model.specs.declared.Put.{Put}
use Rattle.wiki_model.specs.declared.PutNote.{PutNote}
use Rattle.wiki_model.specs.declared.PutNote.TheVariants as note
use Rattle.wiki_model.specs.declared.Origin.TheVariants as via
use Rattle.wiki_model.specs.Bytes.{Bytes}
use Rattle.wiki_model.specs.Titles.{Title}
use Rattle.wiki_model.specs.Limits.{life_whole, life_lagged}
use Rattle.wiki_model.specs.Cache.{Ask}
use Rattle.wiki_model.specs.CacheCalls.{answer_from}
use Rattle.wiki_model.specs.Answers as model
use Rattle.wan_value.specs.declared.Value.{Value}
use Rattle.wan_value.specs.AsModel.{value_of}
use Rattle.wan_cache.specs.declared.region_store.Look.{Look}
use Rattle.wan_cache.specs.declared.region_store.Look.TheVariants as look
use Rattle.replica_apply.specs.declared.snapshot.Snapshot.{Snapshot}
use Rattle.region_state.specs.declared.snap_view.Snapped.{Snapped}
use Rattle.region_state.specs.RegionState.{RegionParts}
use Rattle.region_state.specs.SnapView.{SnapsIn}
use Rattle.region_state.specs.StoreView.{NotesPut, replica_answer, rendered, rule_at, value_from}
use Rattle.region_round.specs.declared.prepare_view.ViewTerms.{ViewTerms}
use Rattle.region_round.specs.declared.job.ViewJob.{ViewJob}

-- what a view asks of a cached page
abbrev pub ask_by : ViewTerms → (need : ℕ) → Ask
ask_by terms need = record { epoch = terms.epoch; version = terms.rules.markup; need = need }

-- the value of a page that is put by this rule; by the others none is
abbrev pub IsPutBy : SetRule → Snapshot → (page : Bytes) → (now markup : ℕ) → Value Bytes → Type 0
IsPutBy rule.Whole s page now markup value = value_of value ≡ value_from s page now life_whole false markup
IsPutBy rule.Lagged s page now markup value = value_of value ≡ value_from s page now life_lagged true markup
IsPutBy _ s page now markup value = ⊥

-- A value that such a view may put: it is made of a snapshot that the region takes for it.
abbrev pub MayPut : {S : Type 0} → RegionParts S → ViewJob → ViewTerms → Value Bytes → Type 0
MayPut parts view terms value =
    (s : Snapped) × SnapsIn parts view.title view.need view.word terms.pending terms.at s
    × (text : Bytes) × (s.snapshot.page ≡ Some text)
    × IsPutBy (rule_at s terms.at terms.rules.read_lag) s.snapshot
    (rendered terms.rules.markup view.title text s.snapshot) terms.at terms.rules.markup value

-- a cached page is answered, or its title could not be copied
abbrev pub Shows : model.PageAnswer → model.Answer → Type 0
Shows page answer = (answer ≡ model.NoMemory) ⊎ (answer ≡ model.Page page)

module _ {P : Type 0} where
  -- a value was put, with this mark, and its note
  abbrev pub PutsValue : (puts : P → P → Title → Value Bytes → Put → Type 0) → (old new : P) → Title → SetRule
      → Snapshot → (page : Bytes) → (now markup : ℕ) → (lagged : Bool) → PutNote → Type 0
  PutsValue puts old new title of s page now markup lagged n =
      (value : Value Bytes) × (answer : Put) × IsPutBy of s page now markup value × puts old new title value answer
      × NotesPut answer lagged n

  abbrev pub PutsBy : (puts : P → P → Title → Value Bytes → Put → Type 0) → SetRule → (old new : P) → Title
      → Snapshot → (page : Bytes) → (now markup : ℕ) → PutNote → Type 0
  PutsBy puts rule.Whole old new title s page now markup n =
      PutsValue puts old new title rule.Whole s page now markup false n
  PutsBy puts rule.Lagged old new title s page now markup n =
      PutsValue puts old new title rule.Lagged s page now markup true n
  PutsBy puts rule.NoPending old new title s page now markup n = (n ≡ note.NoPending) × (new ≡ old)
  PutsBy puts rule.NoOld old new title s page now markup n = (n ≡ note.NoOld) × (new ≡ old)
  PutsBy puts rule.NoMedium old new title s page now markup n = (n ≡ note.NoMedium) × (new ≡ old)

  -- what is answered of a snapshot
  abbrev pub Renders : (puts : P → P → Title → Value Bytes → Put → Type 0) → (old new : P) → Title → Snapped
      → ViewTerms → model.Answer → Type 0
  Renders puts old new title s terms (model.Page p) =
      (text : Bytes) × (s.snapshot.page ≡ Some text) × (n : PutNote)
      × (p ≡ replica_answer title s n (rendered terms.rules.markup title text s.snapshot))
      × PutsBy puts (rule_at s terms.at terms.rules.read_lag) old new title s.snapshot
      (rendered terms.rules.markup title text s.snapshot) terms.at terms.rules.markup n
  Renders puts old new title s terms (model.NoPage source) =
      (s.snapshot.page ≡ None) × (source ≡ s.snapshot.upto) × (new ≡ old)
  Renders puts old new title s terms model.NoMemory = new ≡ old
  Renders puts old new title s terms _ = ⊥

  -- what is answered after a miss
  abbrev pub Makes : {S : Type 0} → (puts : P → P → Title → Value Bytes → Put → Type 0) → RegionParts S → (old new : P)
      → ViewJob → ViewTerms → model.Answer → Type 0
  Makes puts parts old new view terms answer =
      ((answer ≡ model.NoMemory) × (new ≡ old))
      ⊎ ((s : Snapped) × SnapsIn parts view.title view.need view.word terms.pending terms.at s
      × Renders puts old new view.title s terms answer)

  -- by what the look found
  abbrev pub AnswersLook : {S : Type 0} → (puts : P → P → Title → Value Bytes → Put → Type 0) → RegionParts S
      → (mid new : P) → ViewJob → ViewTerms → model.Answer → Look Bytes → Type 0
  AnswersLook puts parts mid new view terms answer (look.Hit value) =
      (new ≡ mid) × Shows (answer_from view.title via.Hit (value_of value)) answer
  AnswersLook puts parts mid new view terms answer (look.Interim value) =
      (new ≡ mid) × Shows (answer_from view.title via.Interim (value_of value)) answer
  AnswersLook puts parts mid new view terms answer (look.Miss why) = Makes puts parts mid new view terms answer
  AnswersLook puts parts mid new view terms answer look.Memory = (new ≡ mid) × (answer ≡ model.NoMemory)

  -- A view: it looks, and answers by what it found.
  pub record DoesView {S : Type 0} (looks : P → P → Title → ℕ → Ask → Look Bytes → Type 0)
      (puts : P → P → Title → Value Bytes → Put → Type 0) (parts : RegionParts S) (view : ViewJob) (terms : ViewTerms)
      (old new : P) (answer : model.Answer) : Type 0 where
    pub mid : P
    pub found : Look Bytes
    pub looked : looks old mid view.title terms.at (ask_by terms view.need) found
    pub answers : AnswersLook puts parts mid new view terms answer found
