-- What a step does with a region's cache: how a purge is taken, which value and note a store has, and what is answered
-- of a look.
use Rattle.std.specs.Prelude.{ℕ, ◌≡◌, Bool, true, false, List, Option, Some, None}
use Rattle.wiki_model.specs.declared.Origin.{Origin}
use Rattle.wiki_model.specs.declared.Origin.TheVariants as via
use Rattle.wiki_model.specs.declared.Put.{Put}
use Rattle.wiki_model.specs.declared.Put.TheVariants as put
use Rattle.wiki_model.specs.declared.PutNote.{PutNote}
use Rattle.wiki_model.specs.declared.PutNote.TheVariants as note
use Rattle.wiki_model.specs.declared.SetRule.{SetRule}
use Rattle.wiki_model.specs.declared.SetRule.TheVariants as rule
use Rattle.wiki_model.specs.Bytes.{Bytes}
use Rattle.wiki_model.specs.Titles.{Title, class_of}
use Rattle.wiki_model.specs.History.{Entry, stamp_at, is_shared_title}
use Rattle.wiki_model.specs.Cache.{CacheMap, Cached, Ask, Found, Hit, Interim, Missed, Purges, Touches}
use Rattle.wiki_model.specs.World.{World, OpenView, Floor, Snapshot, Stored, with_request, without_request}
use Rattle.wiki_model.specs.World.Request.{ViewLooked}
use Rattle.wiki_model.specs.Answers.{Answer, PageAnswer, is_lagged_choice}
use Rattle.wiki_model.specs.Answers.Answer.{Page, Miss}

-- A region takes a purge: it purges the title, and where the title is shared it touches the class.
pub record TakesPurge (old new : CacheMap Bytes) (title : Title) (now : ℕ) : Type 0 where
  pub mid : CacheMap Bytes
  pub purges : Purges old mid title now
  pub touches : is_shared_title title ≡ true → Touches mid new (class_of title) now
  pub stays : is_shared_title title ≡ false → new ≡ mid

-- the value that a snapshot makes
abbrev pub value_of_snapshot : List Entry → (page : Bytes) → (upto now life : ℕ) → (lagged : Bool)
    → (markup : ℕ) → Cached Bytes
value_of_snapshot history page upto now life lagged markup =
    record {
      page = page;
      upto = upto;
      stamp = stamp_at history upto;
      set_at = now;
      life = life;
      lagged = lagged;
      version = markup;
    }

-- the mark of a value by its rule; under the other rules nothing is put
abbrev pub IsMarkedBy : SetRule → (lagged : Bool) → Type 0
IsMarkedBy rule.Whole lagged = lagged ≡ false
IsMarkedBy rule.Lagged lagged = lagged ≡ true
IsMarkedBy _ lagged = ⊥

-- the note of a store, by what its put answered
abbrev pub IsNoteOf : Put → (lagged : Bool) → PutNote → Type 0
IsNoteOf put.Main false note.Whole = Unit {0}
IsNoteOf put.Main true note.Lagged = Unit {0}
IsNoteOf put.Interim lagged note.Interim = Unit {0}
IsNoteOf (put.Held until) lagged note.Held = Unit {0}
IsNoteOf put.Memory lagged note.Memory = Unit {0}
IsNoteOf _ _ _ = ⊥

-- what is told of the put of a value: its store, with this note
abbrev pub store_of : Title → Cached Bytes → PutNote → Stored
store_of key value note =
    record { title = key; at = value.set_at; source = value.upto; note = note; markup = value.version }

-- what a view that needs this number asks of a value
abbrev pub ask_of : World → (need : ℕ) → Ask
ask_of w need = record { epoch = w.setting.epoch; version = w.markup; need = need }

-- the answer from a cached value, and from a snapshot
abbrev pub answer_from : Title → Origin → Cached Bytes → PageAnswer
answer_from title origin v = record {
  title = title;
  source = v.upto;
  origin = origin;
  put = None;
  lagged = v.lagged;
  page = v.page;
}

abbrev pub answer_of_replica : Title → Snapshot → (replica : ℕ) → PutNote → Bytes → PageAnswer
answer_of_replica title s i note page = record {
  title = title;
  source = s.upto;
  origin = via.Replica i;
  put = Some note;
  lagged = is_lagged_choice s.choice;
  page = page;
}

-- what is answered of what a look finds, its origin and source, and the world afterwards
abbrev pub look_answer : Title → Found Bytes → Answer
look_answer title (Hit v) = Page (answer_from title via.Hit v)
look_answer title (Interim v) = Page (answer_from title via.Interim v)
look_answer title (Missed why) = Miss why

abbrev pub origin_of : Found Bytes → Option (Origin × ℕ)
origin_of (Hit v) = Some (via.Hit, v.upto)
origin_of (Interim v) = Some (via.Interim, v.upto)
origin_of (Missed why) = None

abbrev pub looked : ℕ → OpenView → Floor → Found Bytes → World → World
looked id view floor (Hit v) w = without_request id w
looked id view floor (Interim v) w = without_request id w
looked id view floor (Missed why) w = with_request id (ViewLooked view floor) w
