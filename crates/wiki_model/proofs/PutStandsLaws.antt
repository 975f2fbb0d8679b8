-- A put keeps what a cache stands for, whatever it answers: with a value placed, held off, or not kept for want of memory.
-- A put that found no memory leaves the map but for the greatest moment, and its store is one that puts nothing.
use Rattle.std.proofs.Common.{◌≡◌, ℕ, ◌+◌, ◌≤◌, ◌<◌, Bool, true, false, refl, sym, subst, arith}
use Rattle.wiki_model.specs.declared.Region.{Region}
use Rattle.wiki_model.specs.declared.Class.{Class}
use Rattle.wiki_model.specs.declared.Put.{Put}
use Rattle.wiki_model.specs.declared.Put.TheVariants as put
use Rattle.wiki_model.specs.declared.PutNote.{PutNote}
use Rattle.wiki_model.specs.declared.PutNote.TheVariants as note
use Rattle.wiki_model.specs.Bytes.{Bytes}
use Rattle.wiki_model.specs.Titles.{Title, class_of}
use Rattle.wiki_model.specs.History.{is_shared_title}
use Rattle.wiki_model.specs.Limits.{hold_off}
use Rattle.wiki_model.specs.Cache.{CacheMap, Cached, IsCache, Puts, SameKey, SameChecks, SameCache}
use Rattle.wiki_model.specs.World.{World, Stored, moment}
use Rattle.wiki_model.specs.World.Event.{Kept}
use Rattle.wiki_model.specs.HoldOff.{HasReceipt}
use Rattle.wiki_model.specs.Reuse.{main_life, interim_life}
use Rattle.wiki_model.specs.Answers.{HasMark, HasRaised}
use Rattle.wiki_model.specs.Caches.{CacheStands, IsTrueIn, class_check}
use Rattle.wiki_model.specs.Changes.{IsEvent}
use Rattle.wiki_model.specs.CacheCalls.{IsNoteOf, store_of}
use Rattle.wiki_model.proofs.StoreLaws.{put-stands, no_put-stands}

abbrev later : CacheMap Bytes → (now : ℕ) → CacheMap Bytes
later cache now = record cache { greatest = now }

-- the map that a call without memory leaves is the old one, but for the greatest moment
pub same-but : (old new : CacheMap Bytes) → ((key : Title) → SameKey old new key) → SameChecks old new → SameCache old new → later old new.greatest ≡ new
same-but old new all checks same i = record {
  floor = λ t. sym (all t).floor i;
  main = λ t. sym (all t).main i;
  interim = λ t. sym (all t).interim i;
  template_check = sym checks.template i;
  message_check = sym checks.message i;
  greatest = new.greatest;
  together = sym same.together i;
  shared = sym same.shared i;
  hold_off = sym same.hold_off i;
}

-- A cache stands on while only its greatest moment grows, up to the region's own.
pub later-stands : (v : World) (r : Region) (cache : CacheMap Bytes) (now : ℕ) → now ≤ moment r v → CacheStands v r cache
    → CacheStands v r (later cache now)
later-stands v r cache now le c = record {
  is_cache = record { main = c.is_cache.main; itself = c.is_cache.itself; third = c.is_cache.third };
  together = c.together;
  held_off = record {
    main = c.held_off.main;
    interim = c.held_off.interim;
    floors = c.held_off.floors;
    checks = checks;
    set_after = c.held_off.set_after;
    times = le;
    length = c.held_off.length;
  };
  causes = record { floor = c.causes.floor; check = causes; main = c.causes.main; interim = c.causes.interim };
  stored = record { main = c.stored.main; interim = c.stored.interim };
}
  where
    class_same : (class : Class) → class_check cache class ≡ class_check (later cache now) class
    class_same Class.Template = refl
    class_same Class.Message = refl
    class_same Class.Plain = refl

    checks : (purge : ℕ) (of : Title) (at : ℕ) → HasReceipt v r purge of at → is_shared_title of ≡ true
        → at + hold_off v.setting.bounds ≤ class_check (later cache now) (class_of of)
    checks purge of at has shared =
        subst (λ n. at + hold_off v.setting.bounds ≤ n) (class_same (class_of of)) (c.held_off.checks purge of at has shared)

    causes : (class : Class) → 0 < class_check (later cache now) class
        → HasRaised v r (λ of. is_shared_title of ≡ true) (class_check (later cache now) class)
    causes Class.Template some = c.causes.check Class.Template some
    causes Class.Message some = c.causes.check Class.Message some
    causes Class.Plain some = c.causes.check Class.Plain some

-- A put that found no memory, with the store that says so.
pub memory-stands : (v w : World) (r : Region) (old new : CacheMap Bytes) (s : Stored) → CacheStands v r old
    → ((key : Title) → SameKey old new key) → SameChecks old new → SameCache old new → new.greatest ≤ moment r v
    → main_life s.note ≡ 0 → interim_life s.note ≡ 0 → IsEvent v w r (Kept s) → CacheStands w r new
memory-stands v w r old new s stands all checks same le main interim event =
    let moved = later-stands v r old new.greatest le stands in
    no_put-stands v w r new s (subst (CacheStands v r) (same-but old new all checks same) moved) main interim event

-- The mark that a note tells

mark-main : (lagged : Bool) (n : PutNote) → IsNoteOf put.Main lagged n → HasMark n lagged
mark-main false note.Whole is = refl
mark-main true note.Lagged is = refl
mark-main _ _ is = absurd is

mark-interim : (lagged : Bool) (n : PutNote) → lagged ≡ false → IsNoteOf put.Interim lagged n → HasMark n lagged
mark-interim lagged note.Interim e is = e
mark-interim lagged _ e is = absurd is

mark-held : (lagged : Bool) (n : PutNote) (until : ℕ) → lagged ≡ true → IsNoteOf (put.Held until) lagged n → HasMark n lagged
mark-held lagged note.Held until e is = e
mark-held lagged _ until e is = absurd is

no-memory : (n : PutNote) (lagged : Bool) → IsNoteOf put.Memory lagged n → (main_life n ≡ 0) × (interim_life n ≡ 0)
no-memory note.Memory lagged is = (refl, refl)
no-memory _ lagged is = absurd is

with-mark : (v w : World) (r : Region) (old new : CacheMap Bytes) (key : Title) (value : Cached Bytes) (answer : Put) (n : PutNote)
    → HasMark n value.lagged → CacheStands v r old → IsCache new → Puts old new key value answer → value.set_at ≡ moment r v
    → IsTrueIn v r key value → IsNoteOf answer value.lagged n → IsEvent v w r (Kept (store_of key value n)) → CacheStands w r new
with-mark v w r old new key value answer n mark stands is_cache puts at is_true is event =
    put-stands v w r old new key value answer (store_of key value n) stands is_cache puts at is_true
    (record { title_is = refl; at = refl; source = refl; markup = refl; mark = mark }) is event

-- A put of a true value with its store, whatever it answers.
pub puts-stand : (v w : World) (r : Region) (old new : CacheMap Bytes) (key : Title) (value : Cached Bytes) (answer : Put) (n : PutNote)
    → CacheStands v r old → IsCache new → Puts old new key value answer → value.set_at ≡ moment r v → IsTrueIn v r key value
    → IsNoteOf answer value.lagged n → IsEvent v w r (Kept (store_of key value n)) → CacheStands w r new
puts-stand v w r old new key value put.Main n stands is_cache puts at is_true is event =
    with-mark v w r old new key value put.Main n (mark-main value.lagged n is) stands is_cache puts at is_true is event
puts-stand v w r old new key value put.Interim n stands is_cache puts at is_true is event =
    with-mark v w r old new key value put.Interim n (mark-interim value.lagged n puts.placed.1 is) stands is_cache puts at is_true is event
puts-stand v w r old new key value (put.Held until) n stands is_cache puts at is_true is event =
    with-mark v w r old new key value (put.Held until) n (mark-held value.lagged n until puts.placed.1 is) stands is_cache puts at is_true is event
puts-stand v w r old new key value (put.Busy holder) n stands is_cache puts at is_true is event = absurd puts.placed
puts-stand v w r old new key value put.Memory n stands is_cache puts at is_true is event =
    let lives = no-memory n value.lagged is in
    let now : new.greatest ≤ moment r v = let g = puts.greatest in omega (arith, g, at) in
    memory-stands v w r old new (store_of key value n) stands puts.placed puts.checks puts.same now lives.0 lives.1 event
