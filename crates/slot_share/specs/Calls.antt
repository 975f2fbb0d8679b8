-- What a call with a seat tells: how the seat's view changes, and what is answered.
use Rattle.std.specs.Prelude.{ℕ, ◌≡◌, ◌≢◌, ◌+◌, ◌<◌, ◌≤◌, max, ◌∷◌, Contains}
use Rattle.wiki_model.specs.declared.Class.{Class}
use Rattle.wiki_model.specs.declared.Class.TheVariants.{Plain, Template, Message}
use Rattle.wiki_model.specs.declared.Put.{Put}
use Rattle.wiki_model.specs.declared.Put.TheVariants as put
use Rattle.wiki_model.specs.declared.Cause.TheVariants as cause
use Rattle.wiki_model.specs.Titles.{Title}
use Rattle.wiki_model.specs.Cache.{Cached, Ask, Found}
use Rattle.wan_value.specs.declared.Value.{Value}
use Rattle.wan_value.specs.AsModel.{value_of}
use Rattle.wan_cache.specs.declared.find_value.LookTimes.{LookTimes}
use Rattle.wan_cache.specs.declared.region_store.Look.{Look}
use Rattle.wan_cache.specs.declared.region_store.Look.TheVariants as look
use Rattle.wan_cache.specs.Rules.{IsFound, found_by, shown, placed}
use Rattle.slot_cache.specs.Slots.{slot_of}
use Rattle.slot_cache.specs.SlotRow.{main_of, interim_of}
use Rattle.slot_share.specs.declared.seat_steps.LoadedMarks.{LoadedMarks}
use Rattle.slot_share.specs.declared.part.Part.{Part}
use Rattle.slot_share.specs.declared.part.Part.TheVariants as part
use Rattle.slot_share.specs.declared.view.Handed.{Handed}
use Rattle.slot_share.specs.declared.view.Met.{Met}
use Rattle.slot_share.specs.declared.view.View.{View}
use Rattle.slot_share.specs.Marks.{template_word, message_word, floor_word, seen_at, made_at, loaded}
use Rattle.slot_share.specs.Values.{Truth, Row, IsIn}
use Rattle.slot_share.specs.Steps.{tried, met_row, TrueBy}

-- the word of a class's check
abbrev pub word_of_class : Class → ℕ
word_of_class Template = template_word
word_of_class Plain = message_word
word_of_class Message = message_word

abbrev pub check_of : LoadedMarks → ℕ
check_of m = max m.template m.message

abbrev pub times_of : LoadedMarks → (hold_off now : ℕ) → LookTimes
times_of m hold_off now = record { floor = m.floor; check = check_of m; hold_off = hold_off; at = now }

module _ {P : Type 0} where
  -- what the seat has seen never falls
  abbrev pub Grows : (old new : View P) → Type 0
  Grows old new = (word : ℕ) → seen_at word old.marks ≤ seen_at word new.marks

  -- A purge or a touch: the mark was raised, and nothing else changes.
  pub record IsRaised (old new : View P) (word to : ℕ) : Type 0 where
    -- the seat's record has it
    pub recorded : to ≤ seen_at word new.marks
    pub grows : Grows old new
    -- of what the seat made only this changes
    pub made : made_at word new.marks ≡ max (made_at word old.marks) to
    pub others : (i : ℕ) → i ≢ word → made_at i new.marks ≡ made_at i old.marks
    pub same : new ≡ record old { marks = new.marks }

  -- the floor and the checks were loaded
  abbrev pub with_loaded : View P → (slot : ℕ) → LoadedMarks → View P
  with_loaded v slot m = record v {
    marks = loaded (loaded (loaded v.marks (floor_word slot) m.floor) template_word m.template) message_word m.message;
  }

  -- what was handed to a put is noted with them
  abbrev pub with_noted : View P → (slot : ℕ) → LoadedMarks → Handed P → View P
  with_noted v slot m what = record (with_loaded v slot m) { handed = what ∷ v.handed }

  -- what was loaded is not below what the seat knew
  pub record AreAtLeast (old : View P) (slot : ℕ) (m : LoadedMarks) : Type 0 where
    pub floor : seen_at (floor_word slot) old.marks ≤ m.floor
    pub template : seen_at template_word old.marks ≤ m.template
    pub message : seen_at message_word old.marks ≤ m.message

  -- what a look finds in a row
  abbrev pub found_in_row : LookTimes → Ask → Row P → Title → Found P
  found_in_row times ask row key =
      found_by times ask (shown (main_of row.value key)) (shown (interim_of row.value key))

  -- What the one claim of a look makes of it. It found this word.
  pub record AnswersLook (is_true : Truth P) (old new : View P) (slot found : ℕ) (times : LookTimes) (ask : Ask)
      (key : Title) (answer : Look P) : Type 0 where
    -- another seat's number: the look is busy
    pub busy : found ≢ 0 → (new ≡ tried old slot found) × (answer ≡ look.Miss (cause.Busy found))
        × (found ≢ old.rank.number) × (found ≤ old.rank.seats)
    -- 0: it met the row, and answers by it
    pub free : found ≡ 0 → (row : Row P) × (new ≡ met_row old slot row) × TrueBy is_true old.marks slot row
        × IsFound answer (found_in_row times ask row key)

  -- a hit was set at the floor or later, and after each check that is not 0
  abbrev pub IsTimely : LoadedMarks → Look P → Type 0
  IsTimely m (look.Hit value) = (m.floor ≤ value.set_at) × (m.template ≢ 0 → m.template < value.set_at)
      × (m.message ≢ 0 → m.message < value.set_at)
  IsTimely m (look.Interim value) = Unit {0}
  IsTimely m (look.Miss why) = Unit {0}
  IsTimely m look.Memory = Unit {0}

  -- A look: it loads, tries one claim, and answers by what it loaded and found.
  pub record Looks (is_true : Truth P) (old new : View P) (slot hold_off now : ℕ) (ask : Ask) (key : Title)
      (answer : Look P) : Type 0 where
    pub marks : LoadedMarks
    pub least : AreAtLeast old slot marks
    pub found : ℕ
    pub answers : AnswersLook is_true (with_loaded old slot marks) new slot found (times_of marks hold_off now) ask key
        answer
    pub timely : IsTimely marks answer

  -- what is answered is true in its place
  abbrev pub IsTrueAnswer : Truth P → Title → Look P → Type 0
  IsTrueAnswer is_true key (look.Hit value) = is_true part.Main key (value_of value)
  IsTrueAnswer is_true key (look.Interim value) = is_true part.Interim key (value_of value)
  IsTrueAnswer is_true key (look.Miss why) = Unit {0}
  IsTrueAnswer is_true key look.Memory = Unit {0}

  -- a seat met this value in the key's slot
  pub record HasMet (view : View P) (slots : ℕ) (p : Part) (key : Title) (cached : Cached P) : Type 0 where
    pub met : Met P
    pub one : Contains view.met met
    pub slot_is : slot_of key slots ≡ met.slot
    pub value : Value P
    pub is_in : IsIn p met.row (record { key = key; value = value })
    pub shows : value_of value ≡ cached

  -- A call met another seat's claim: its one claim, of this slot, found that seat's number.
  pub record IsBusy (old new : View P) (slot holder : ℕ) : Type 0 where
    pub claims : new.claims ≡ old.claims + 1
    pub last_slot : new.last_slot ≡ slot
    pub last_found : new.last_found ≡ holder
    pub some : holder ≢ 0
    pub other : holder ≢ old.rank.number
    pub within : holder ≤ old.rank.seats

  -- the seat met what is answered
  abbrev pub IsMetAnswer : View P → (slots : ℕ) → Title → Look P → Type 0
  IsMetAnswer view slots key (look.Hit value) = HasMet view slots part.Main key (value_of value)
  IsMetAnswer view slots key (look.Interim value) = HasMet view slots part.Interim key (value_of value)
  IsMetAnswer view slots key (look.Miss why) = Unit {0}
  IsMetAnswer view slots key look.Memory = Unit {0}

  -- What the one claim of a put makes of it, by the floor and the check. If it was held it tried none.
  abbrev pub AnswersPut : (old new : View P) → (slot : ℕ) → LoadedMarks → Value P → Put → Type 0
  AnswersPut old new slot m value (put.Busy holder) =
      (new ≡ tried old slot holder) × (holder ≢ 0) × (holder ≢ old.rank.number) × (holder ≤ old.rank.seats)
  AnswersPut old new slot m value put.Main =
      ((row : Row P) × (new ≡ met_row old slot row))
      × (put.Main ≡ placed m.floor (check_of m) value.set_at value.lagged)
  AnswersPut old new slot m value put.Interim =
      ((row : Row P) × (new ≡ met_row old slot row))
      × (put.Interim ≡ placed m.floor (check_of m) value.set_at value.lagged)
  AnswersPut old new slot m value (put.Held until) =
      (new ≡ old) × (put.Held until ≡ placed m.floor (check_of m) value.set_at value.lagged)
  AnswersPut old new slot m value put.Memory = ⊥

  -- A put: it loads, notes what it was handed, tries at most one claim, and answers by what it loaded.
  pub record TellsPut (old new : View P) (slot : ℕ) (key : Title) (value : Value P) (answer : Put) : Type 0 where
    pub marks : LoadedMarks
    pub least : AreAtLeast old slot marks
    pub answers : AnswersPut (with_noted old slot marks (record { key = key; value = value })) new slot marks value
        answer
