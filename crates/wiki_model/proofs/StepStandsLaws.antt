-- What the steps that do something to a cache or to positions make of them: begin, a commit that may be late, a purge that is carried, a position that is carried.
-- Each is a chain of the laws of single changes.
use Rattle.std.proofs.Common.{◌≡◌, ℕ, suc, ◌+◌, [], ◌∷◌, ◌++◌, Bool, true, false, cond, Some, None, length, refl, sym, ◌∙◌, ap, arith, subst, append-nil}
use Rattle.wiki_model.specs.declared.Region.{Region}
use Rattle.wiki_model.specs.declared.Region.TheVariants.{Home, West}
use Rattle.wiki_model.specs.Bytes.{Bytes}
use Rattle.wiki_model.specs.Titles.{Title}
use Rattle.wiki_model.specs.History.{Entry, Edit, Commit, Committed, IsHistory, commit_at, stamp_at, stamp_of}
use Rattle.wiki_model.specs.Cache.{CacheMap, IsCache}
use Rattle.wiki_model.specs.World.{World, site, moment, Body, with_message, with_entry, with_event, receives, hears}
use Rattle.wiki_model.specs.World.Body.{Purge, Position}
use Rattle.wiki_model.specs.World.Event.{Received}
use Rattle.wiki_model.specs.Answers.{edit_answer}
use Rattle.wiki_model.specs.Steps.{begun, appended, purged, purged_again, next_message, next_entry, next_commit, position_of, is_late, carried, added}
use Rattle.wiki_model.specs.Consistent.{IsConsistent}
use Rattle.wiki_model.specs.Caches.{CacheStands}
use Rattle.wiki_model.specs.Positions.{Rows, RowsStand, TellsRow, row_for}
use Rattle.wiki_model.specs.Changes.{IsGrown, IsEvent}
use Rattle.wiki_model.specs.CacheCalls.{TakesPurge}
use Rattle.wiki_model.proofs.HistoryLaws.{push-at}
use Rattle.wiki_model.proofs.HistoryGrowth.{history-push, commit-next}
use Rattle.wiki_model.proofs.FrameLaws.{stands-grown, event-is}
use Rattle.wiki_model.proofs.PurgeLaws.{purge-stands}
use Rattle.wiki_model.proofs.RowsLaws.{rows-entry, rows-hear}

unchanged : (v w : World) (r : Region) → w.history ≡ v.history → w.setting ≡ v.setting → (site r w).events ≡ (site r v).events → moment r w ≡ moment r v → IsGrown v w r
unchanged v w r h s e m = record { more = []; history = h ∙ sym (append-nil v.history); setting = s; events = e; moment = omega (arith, m) }

-- home takes a purge that was just issued
purged-stands : (title : Title) (v : World) (old new : CacheMap Bytes) → CacheStands v Home old → IsCache new → TakesPurge old new title (moment Home v) → CacheStands (purged title v) Home new
purged-stands title v old new stands is takes =
    purge-stands u (purged title v) Home old new (next_message v) title (stands-grown v u Home old (unchanged v u Home refl refl refl refl) stands) is takes (event-is Home (Received (next_message v) title (moment Home v)) u)
  where
    u : World
    u = with_message (Purge (next_message v) title (moment Home v)) v

pub begun-home : (id : ℕ) (edit : Edit) (v : World) (old new : CacheMap Bytes) → CacheStands v Home old → IsCache new → TakesPurge old new edit.title (moment Home v) → CacheStands (begun id edit v) Home new
begun-home id edit v old new stands is takes = stands-grown (purged edit.title v) (begun id edit v) Home new (unchanged (purged edit.title v) (begun id edit v) Home refl refl refl refl) (purged-stands edit.title v old new stands is takes)

pub begun-west : (id : ℕ) (edit : Edit) (v : World) (cache : CacheMap Bytes) → CacheStands v West cache → CacheStands (begun id edit v) West cache
begun-west id edit v cache stands = stands-grown v (begun id edit v) West cache (unchanged v (begun id edit v) West refl refl refl refl) stands

added-home : (edit : Edit) (purge : ℕ) (v : World) → IsGrown v (added edit purge v) Home
added-home edit purge v = record { more = Committed (next_commit v edit purge) ∷ []; history = refl; setting = refl; events = refl; moment = omega arith }

-- A commit that is late is purged again, one that is not leaves the cache.
pub appended-home : (edit : Edit) (purge : ℕ) (v : World) (old new : CacheMap Bytes) → CacheStands v Home old → IsCache new
    → (is_late v purge ≡ true → TakesPurge old new edit.title (moment Home v)) → (is_late v purge ≡ false → new ≡ old) → CacheStands (appended edit purge v) Home new
appended-home edit purge v old new stands is late early = by (is_late v purge) refl
  where
    x : World
    x = added edit purge v

    there : CacheStands (added edit purge v) Home old
    there = stands-grown v (added edit purge v) Home old (added-home edit purge v) stands

    by : (b : Bool) → is_late v purge ≡ b → CacheStands (with_message (position_of (next_entry v) (next_commit v edit purge)) (cond b (purged_again (next_entry v) edit.title (added edit purge v)) (added edit purge v))) Home new
    by true e =
        let w = with_message (position_of (next_entry v) (next_commit v edit purge)) (purged_again (next_entry v) edit.title (added edit purge v)) in
        stands-grown (purged edit.title (added edit purge v)) w Home new (unchanged (purged edit.title (added edit purge v)) w Home refl refl refl refl) (purged-stands edit.title (added edit purge v) old new there is (late e))
    by false e =
        let w = with_message (position_of (next_entry v) (next_commit v edit purge)) (added edit purge v) in
        subst (CacheStands w Home) (sym (early e)) (stands-grown (added edit purge v) w Home old (unchanged (added edit purge v) w Home refl refl refl refl) there)

pub appended-west : (edit : Edit) (purge : ℕ) (v : World) (cache : CacheMap Bytes) → CacheStands v West cache → CacheStands (appended edit purge v) West cache
appended-west edit purge v cache stands = by (is_late v purge)
  where
    by : (b : Bool) → CacheStands (with_message (position_of (next_entry v) (next_commit v edit purge)) (cond b (purged_again (next_entry v) edit.title (added edit purge v)) (added edit purge v))) West cache
    by true = stands-grown v _ West cache (record { more = Committed (next_commit v edit purge) ∷ []; history = refl; setting = refl; events = refl; moment = omega arith }) stands
    by false = stands-grown v _ West cache (record { more = Committed (next_commit v edit purge) ∷ []; history = refl; setting = refl; events = refl; moment = omega arith }) stands

-- A purge that is carried is taken by west.
pub carried-west : (purge : ℕ) (title : Title) (issued : ℕ) (v : World) (old new : CacheMap Bytes) → CacheStands v West old → IsCache new → TakesPurge old new title (moment West v) → CacheStands (carried (Purge purge title issued) v) West new
carried-west purge title issued v old new stands is takes = purge-stands v (carried (Purge purge title issued) v) West old new purge title stands is takes (event-is West (Received purge title (moment West v)) v)

pub carried-home : (body : Body) (v : World) (cache : CacheMap Bytes) → CacheStands v Home cache → CacheStands (carried body v) Home cache
carried-home (Purge purge title issued) v cache stands = stands-grown v (carried (Purge purge title issued) v) Home cache (unchanged v (carried (Purge purge title issued) v) Home refl refl refl refl) stands
carried-home (Position client index entry stamp) v cache stands = stands-grown v (carried (Position client index entry stamp) v) Home cache (unchanged v (carried (Position client index entry stamp) v) Home refl refl refl refl) stands

-- Positions

-- Home's rows after a commit: its position is told.
pub appended-rows : (edit : Edit) (purge : ℕ) (v : World) (old new : Rows) → IsConsistent v → edit_answer v.history edit ≡ None → TellsRow edit.client (row_for (next_entry v) (next_commit v edit purge)) old new
    → RowsStand v Home old → RowsStand (appended edit purge v) Home new
appended-rows edit purge v old new c free tells stands = after (is_late v purge) (rows-hear u (added edit purge v) Home (next_entry v) (next_commit v edit purge) old new is there refl refl (omega arith) tells (rows-entry v u Home entry old c refl refl (omega arith) stands))
  where
    entry : Entry
    entry = Committed (next_commit v edit purge)

    u : World
    u = with_entry (Committed (next_commit v edit purge)) v

    is : IsHistory (v.history ++ Committed (next_commit v edit purge) ∷ [])
    is = let last = c.last in let small = (c.sites Home).small in history-push v.history (Committed (next_commit v edit purge)) c.history last small
        (λ d e. let one : next_commit v edit purge ≡ d = cc in subst (Rattle.wiki_model.specs.Changes.IsNext v.history) one (commit-next v.history c.history edit (moment Home v) purge free))

    there : commit_at (v.history ++ Committed (next_commit v edit purge) ∷ []) (next_entry v) ≡ Some (next_commit v edit purge)
    there = let e : suc (length v.history) ≡ next_entry v = omega arith in subst (λ (n : ℕ). commit_at (v.history ++ Committed (next_commit v edit purge) ∷ []) n ≡ Some (next_commit v edit purge)) e (ap Rattle.wiki_model.specs.History.commit_in (push-at v.history (Committed (next_commit v edit purge))))

    after : (b : Bool) → RowsStand (added edit purge v) Home new → RowsStand (with_message (position_of (next_entry v) (next_commit v edit purge)) (cond b (purged_again (next_entry v) edit.title (added edit purge v)) (added edit purge v))) Home new
    after true r = record { found = r.found; held = r.held }
    after false r = record { found = r.found; held = r.held }

-- West's rows over a commit that it has not heard.
pub appended-rows_west : (edit : Edit) (purge : ℕ) (v : World) (rows : Rows) → IsConsistent v → RowsStand v West rows → RowsStand (appended edit purge v) West rows
appended-rows_west edit purge v rows c stands = by (is_late v purge)
  where
    by : (b : Bool) → RowsStand (with_message (position_of (next_entry v) (next_commit v edit purge)) (cond b (purged_again (next_entry v) edit.title (added edit purge v)) (added edit purge v))) West rows
    by true = rows-entry v _ West (Committed (next_commit v edit purge)) rows c refl refl (omega arith) stands
    by false = rows-entry v _ West (Committed (next_commit v edit purge)) rows c refl refl (omega arith) stands

-- A position that is carried is told to west's rows.
pub carried-rows : (number : ℕ) (m : Rattle.wiki_model.specs.World.Message) (v : World) (client : Bytes) (index entry stamp : ℕ) (old new : Rows) → IsConsistent v
    → Rattle.wiki_model.specs.World.message_at v number ≡ Some m → m.body ≡ Position client index entry stamp
    → TellsRow client (record { index = index; position = entry; expires = stamp + 60_000 }) old new → RowsStand v West old → RowsStand (carried (Position client index entry stamp) v) West new
carried-rows number m v client index entry stamp old new c at is tells stands =
    let of = subst (Rattle.wiki_model.specs.Consistent.IsOfCommit v.history) is (c.positions number m at) in
    let row : record { index = index; position = entry; expires = stamp + 60_000 } ≡ row_for entry of.0 =
    ap (λ (i : ℕ). let h : Rattle.wiki_model.specs.Positions.Held = record { index = i; position = entry; expires = stamp + 60_000 } in h) of.3
    ∙ ap (λ (s : ℕ). let h : Rattle.wiki_model.specs.Positions.Held = record { index = of.0.index; position = entry; expires = s + 60_000 } in h) of.4 in
    rows-hear v (carried (Position client index entry stamp) v) West entry of.0 old new c.history of.1 refl refl (omega arith)
    (subst (λ (h : Rattle.wiki_model.specs.Positions.Held). TellsRow of.0.edit.client h old new) row (subst (λ (x : Bytes). TellsRow x (record { index = index; position = entry; expires = stamp + 60_000 }) old new) of.2 tells)) stands
