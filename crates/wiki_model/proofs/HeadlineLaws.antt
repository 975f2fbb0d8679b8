-- The laws that join the others: a run goes on by a look, and a hit is neither unsettled nor stale.
-- They are what the contracts of a farm's steps cite.
use Rattle.std.proofs.Common.{◌≡◌, ℕ, ◌≤◌, List, [], Bool, false, Some, Option, refl, sym, ap, arith, subst, append-nil}
use Rattle.std.specs.List.{AllByRecursion}
use Rattle.wiki_model.specs.declared.Region.{Region}
use Rattle.wiki_model.specs.declared.Region.TheVariants.{Home, West}
use Rattle.wiki_model.specs.declared.Readings.{Readings}
use Rattle.wiki_model.specs.Bytes.{Bytes}
use Rattle.wiki_model.specs.Titles.{Title}
use Rattle.wiki_model.specs.History.{Entry, commits_by}
use Rattle.wiki_model.specs.Cache.{CacheMap, Cached, Found, Hit, Interim, Missed, look}
use Rattle.wiki_model.specs.World.{World, Setting, OpenView, Floor, Job, site, moment, request_at, at_readings}
use Rattle.wiki_model.specs.World.Request.{ViewWaited}
use Rattle.wiki_model.specs.HoldOff.{IsSettled, IsNotStale}
use Rattle.wiki_model.specs.Answers.{Answer}
use Rattle.wiki_model.specs.Steps.{Step, AtPoint, Looks, waited_view}
use Rattle.wiki_model.specs.Rounds.{IsProperJob, rounded, batch}
use Rattle.wiki_model.specs.Runs.{Turn, One, Takes, Leads, IsRun, opening, with_faults}
use Rattle.wiki_model.specs.Consistent.{IsConsistent, IsOpened}
use Rattle.wiki_model.specs.Caches.{CacheStands}
use Rattle.wiki_model.specs.Positions.{Finder, PositionsStand}
use Rattle.wiki_model.specs.Changes.{IsGrown}
use Rattle.wiki_model.specs.CacheCalls.{ask_of, look_answer, looked}
use Rattle.wiki_model.specs.Lent.{IsGivenBack}
use Rattle.wiki_model.proofs.HoldOffLaws.{hit-settled, hit-not_stale}
use Rattle.wiki_model.proofs.ConsistentLaws.{readings-keep}
use Rattle.wiki_model.proofs.StepLaws.{opened-run-keeps, proper-jobs}
use Rattle.wiki_model.proofs.RoundLaws.{round-stands}
use Rattle.wiki_model.proofs.FrameLaws.{stands-grown}
use Rattle.wiki_model.proofs.MissLaws.{look-allowed}
use Rattle.wiki_model.proofs.PositionLaws.{positions-grown}

pub round-stands_of_proper : (v : World) (r : Region) (jobs : List Job) (lost : Bool) (answers : List Answer) (old new : CacheMap Bytes) → IsConsistent v → AllByRecursion (IsProperJob v r) jobs → CacheStands v r old
    → IsGivenBack v r jobs lost (batch v r jobs lost answers).rendered old new → CacheStands (rounded r jobs lost answers v) r new
round-stands_of_proper v r jobs lost answers old new fits proper = round-stands v r jobs lost answers old new fits (proper-jobs v r fits jobs proper)

pub hit-settled_not_stale : (w : World) (r : Region) (cache : CacheMap Bytes) (title : Title) (need : ℕ) (value : Cached Bytes) → IsConsistent w → CacheStands w r cache
    → look cache title (moment r w) (ask_of w need) ≡ Hit value → IsSettled w r title × (value.lagged ≡ false → IsNotStale w r value.upto title)
hit-settled_not_stale w r cache title need value fits c hit =
    (hit-settled w r cache title (ask_of w need) value fits c.held_off hit, hit-not_stale w r cache title (ask_of w need) value fits c.held_off hit)

pub positions-moments : (v w : World) (r : Region) (find : Finder) → w.history ≡ v.history → (site r w).heard ≡ (site r v).heard → moment r v ≤ moment r w → PositionsStand v r find → PositionsStand w r find
positions-moments v w r find same heard up = positions-grown v w r find heard (λ x. ap (λ (h : List Entry). commits_by h x) same) up

-- after the readings
read-grown : (at : Readings) (w : World) (r : Region) → IsGrown w (at_readings at w) r
read-grown at w Home = record { more = []; history = sym (append-nil w.history); setting = refl; events = refl; moment = omega arith }
read-grown at w West = record { more = []; history = sym (append-nil w.history); setting = refl; events = refl; moment = omega arith }

-- after a look
looked-grown : (id : ℕ) (view : OpenView) (floor : Floor) (seen : Found Bytes) (v : World) (r : Region) → IsGrown v (looked id view floor seen v) r
looked-grown id view floor (Hit value) v Home = record { more = []; history = sym (append-nil v.history); setting = refl; events = refl; moment = omega arith }
looked-grown id view floor (Hit value) v West = record { more = []; history = sym (append-nil v.history); setting = refl; events = refl; moment = omega arith }
looked-grown id view floor (Interim value) v Home = record { more = []; history = sym (append-nil v.history); setting = refl; events = refl; moment = omega arith }
looked-grown id view floor (Interim value) v West = record { more = []; history = sym (append-nil v.history); setting = refl; events = refl; moment = omega arith }
looked-grown id view floor (Missed why) v Home = record { more = []; history = sym (append-nil v.history); setting = refl; events = refl; moment = omega arith }
looked-grown id view floor (Missed why) v West = record { more = []; history = sym (append-nil v.history); setting = refl; events = refl; moment = omega arith }

pub look-goes_on : (setting : Setting) (history : List Entry) (faults : ℕ) (opened at : Readings) (turns : List Turn) (w : World) (id : ℕ) (view : OpenView) (floor : Floor) (cache : CacheMap Bytes)
    → IsOpened setting history → IsRun (opening setting history faults opened) turns w → request_at w id ≡ Some (ViewWaited view floor) → CacheStands w view.region cache
    → let v = at_readings at w in
    let seen = look cache view.view.title (moment view.region v) (ask_of v floor.need) in
    let turn : Turn = record { at = at; step = Step.Look id; reply = One (Some (look_answer view.view.title seen)) } in
    Leads w turn (looked id view floor seen v) × CacheStands (looked id view floor seen v) view.region cache
look-goes_on setting history faults opened at turns w id view floor cache o run there stands =
    (record { takes = takes; faults = counts }, stands-grown v (looked id view floor seen v) view.region cache (looked-grown id view floor seen v view.region) stands-v)
  where
    v : World
    v = at_readings at w

    seen : Found Bytes
    seen = look cache view.view.title (moment view.region (at_readings at w)) (ask_of (at_readings at w) floor.need)

    fits : IsConsistent (at_readings at w)
    fits = readings-keep at w (opened-run-keeps setting history faults opened turns w o run)

    stands-v : CacheStands (at_readings at w) view.region cache
    stands-v = stands-grown w (at_readings at w) view.region cache (read-grown at w view.region) stands

    row : Looks id (view, floor) (at_readings at w) (Some (look_answer view.view.title seen)) (looked id view floor seen (at_readings at w))
    row = look-allowed id view floor (at_readings at w) cache seen fits stands-v ((readings-keep at w (opened-run-keeps setting history faults opened turns w o run)).requests id (ViewWaited view floor) there) refl

    answer : Option Answer
    answer = Some (look_answer view.view.title seen)

    takes : Takes (Step.Look id) (at_readings at w) (One (Some (look_answer view.view.title seen))) (with_faults w.faults (looked id view floor seen (at_readings at w)))
    takes = by seen row
      where
        by : (f : Found Bytes) → Looks id (view, floor) (at_readings at w) (Some (look_answer view.view.title f)) (looked id view floor f (at_readings at w))
            → Takes (Step.Look id) (at_readings at w) (One (Some (look_answer view.view.title f))) (with_faults w.faults (looked id view floor f (at_readings at w)))
        by (Hit value) r = subst (λ q. AtPoint (waited_view q) id (at_readings at w) (Some (look_answer view.view.title (Hit value))) (looked id view floor (Hit value) (at_readings at w)) (λ p. Looks id p (at_readings at w) (Some (look_answer view.view.title (Hit value))) (looked id view floor (Hit value) (at_readings at w)))) (sym there) r
        by (Interim value) r = subst (λ q. AtPoint (waited_view q) id (at_readings at w) (Some (look_answer view.view.title (Interim value))) (looked id view floor (Interim value) (at_readings at w)) (λ p. Looks id p (at_readings at w) (Some (look_answer view.view.title (Interim value))) (looked id view floor (Interim value) (at_readings at w)))) (sym there) r
        by (Missed why) r = subst (λ q. AtPoint (waited_view q) id (at_readings at w) (Some (look_answer view.view.title (Missed why))) (looked id view floor (Missed why) (at_readings at w)) (λ p. Looks id p (at_readings at w) (Some (look_answer view.view.title (Missed why))) (looked id view floor (Missed why) (at_readings at w)))) (sym there) r

    counts : Rattle.wiki_model.specs.Runs.CountsFaults w.faults (looked id view floor seen (at_readings at w)).faults (One (Some (look_answer view.view.title seen)))
    counts = by seen
      where
        by : (f : Found Bytes) → Rattle.wiki_model.specs.Runs.CountsFaults w.faults (looked id view floor f (at_readings at w)).faults (One (Some (look_answer view.view.title f)))
        by (Hit value) = omega arith
        by (Interim value) = omega arith
        by (Missed why) = omega arith
