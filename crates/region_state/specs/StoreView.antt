-- What a store of a rendered page answers, and what it does to the cache.
use Rattle.std.specs.Prelude.{ℕ, ◌≡◌, ◌-◌, true, false, Bool, List, Option, Some, None}
use Rattle.wiki_model.specs.declared.SetRule.{SetRule}
use Rattle.wiki_model.specs.declared.SetRule.TheVariants as rule
use Rattle.wiki_model.specs.declared.Put.{Put}
use Rattle.wiki_model.specs.declared.Put.TheVariants as put
use Rattle.wiki_model.specs.declared.PutNote.{PutNote}
use Rattle.wiki_model.specs.declared.PutNote.TheVariants as note
use Rattle.wiki_model.specs.declared.Origin.TheVariants as via
use Rattle.wiki_model.specs.Bytes.{Bytes}
use Rattle.wiki_model.specs.Titles.{Title}
use Rattle.wiki_model.specs.Html.{page_html}
use Rattle.wiki_model.specs.Limits.{life_whole, life_lagged}
use Rattle.wiki_model.specs.Cache.{CacheMap, Cached, Puts, IsCache, set_rule}
use Rattle.wiki_model.specs.CacheCalls.{IsNoteOf}
use Rattle.wiki_model.specs.Answers as model
use Rattle.page_render.specs.AsModel.{template_text}
use Rattle.replica_apply.specs.declared.snapshot.Snapshot.{Snapshot}
use Rattle.region_state.specs.declared.snap_view.Snapped.{Snapped}
use Rattle.region_state.specs.RegionState.{RegionParts, with_cache}

-- the page that is rendered from a snapshot; a goal shows it by this name
unfoldable pub rendered : (markup : ℕ) → (title text : List ℕ) → Snapshot → List ℕ
rendered markup title text s = page_html markup title text (template_text s.templates) s.notice

-- the value that is stored of a snapshot
abbrev pub value_from : Snapshot → (page : Bytes) → (now life : ℕ) → (lagged : Bool) → (markup : ℕ) → Cached Bytes
value_from s page now life lagged markup =
    record { page = page; upto = s.upto; stamp = s.stamp; set_at = now; life = life; lagged = lagged; version = markup }

-- the note of a put
abbrev pub NotesPut : Put → (lagged : Bool) → PutNote → Type 0
NotesPut (put.Busy holder) lagged n = n ≡ note.Busy holder
NotesPut p lagged n = IsNoteOf p lagged n

-- what is put by each rule, and its note
abbrev pub StoresBy : SetRule → (old new : CacheMap Bytes) → Title → Snapshot → (page : Bytes) → (now markup : ℕ)
    → PutNote → Type 0
StoresBy rule.Whole old new title s page now markup n =
    (answer : Put) × Puts old new title (value_from s page now life_whole false markup) answer × IsNoteOf answer false n
StoresBy rule.Lagged old new title s page now markup n =
    (answer : Put) × Puts old new title (value_from s page now life_lagged true markup) answer × IsNoteOf answer true n
StoresBy rule.NoPending old new title s page now markup n = (n ≡ note.NoPending) × (new ≡ old)
StoresBy rule.NoOld old new title s page now markup n = (n ≡ note.NoOld) × (new ≡ old)
StoresBy rule.NoMedium old new title s page now markup n = (n ≡ note.NoMedium) × (new ≡ old)

abbrev pub replica_answer : Title → Snapped → PutNote → (page : Bytes) → model.PageAnswer
replica_answer title s n page =
    record {
      title = title;
      source = s.snapshot.upto;
      origin = via.Replica s.replica;
      put = Some n;
      lagged = s.lagged;
      page = page;
    }

-- how a page of the snapshot may be stored now
abbrev pub rule_at : Snapped → (now read_lag : ℕ) → SetRule
rule_at s now read_lag = set_rule s.snapshot.lag (now - s.snapshot.since) s.pending read_lag

-- by the answer: the page was put by the rule; or there is no page, or out of memory, and the cache stays
abbrev pub StoresAt : {S : Type 0} → (S → CacheMap Bytes) → (before after : S) → Title → Snapped
    → (now read_lag markup : ℕ) → model.Answer → Type 0
StoresAt cache_of before after title s now read_lag markup (model.Page p) =
    (text : Bytes) × (s.snapshot.page ≡ Some text) × (n : PutNote)
    × (p ≡ replica_answer title s n (rendered markup title text s.snapshot)) × IsCache (cache_of after)
    × StoresBy (rule_at s now read_lag) (cache_of before) (cache_of after) title s.snapshot
    (rendered markup title text s.snapshot) now markup n
StoresAt cache_of before after title s now read_lag markup (model.NoPage source) =
    (s.snapshot.page ≡ None) × (source ≡ s.snapshot.upto) × (after ≡ before)
StoresAt cache_of before after title s now read_lag markup model.NoMemory = after ≡ before
StoresAt cache_of before after title s now read_lag markup _ = ⊥

abbrev pub StoresInto : {S : Type 0} → (S → CacheMap Bytes) → (old new : Option S) → Title → Snapped
    → (now read_lag markup : ℕ) → model.Answer → Type 0
StoresInto {S} cache_of old new title s now read_lag markup answer =
    (before : S) × (after : S) × (old ≡ Some before) × (new ≡ Some after)
    × StoresAt cache_of before after title s now read_lag markup answer

-- the cache of the region, and nothing else
abbrev pub StoresIn : {S : Type 0} → (S → CacheMap Bytes) → (old new : RegionParts S) → Title → Snapped → (now : ℕ)
    → model.Answer → Type 0
StoresIn {S} cache_of old new title s now answer =
    (before : S) × (after : S) × (old.cache ≡ Some before) × (new ≡ with_cache (Some after) old)
    × StoresAt cache_of before after title s now old.config.read_lag old.markup answer
