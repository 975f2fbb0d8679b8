-- What a look answers is true in its place, was met there, and is late enough.
use Rattle.std.proofs.Common.{◌≡◌, ◌≢◌, ℕ, ◌==◌, ◌&&◌, ◌+◌, ◌<◌, ◌≤◌, not, List, length, set, Bool, true, false, cond, Option, Some, None, refl, sym, ap, ◌∙◌, subst, nat_lt, nat_le, bytes_eq, arith}
use Rattle.std.specs.Prelude.{slice_index}
use mathlib.Core.Logic.{dite}
use native.Mathlib.Decide.{ℕ_discrete}
use Rattle.std.proofs.lemmas.Bool.Decides.{nat_tests}
use Rattle.std.proofs.lemmas.List.{get_or-set_same, get_or-set_other, length-set}
use Rattle.wiki_model.specs.declared.Cause.{Cause}
use Rattle.wiki_model.specs.declared.Cause.TheVariants as cause
use Rattle.wiki_model.specs.declared.Stale.{Stale}
use Rattle.wiki_model.specs.declared.Stale.TheVariants as stale
use Rattle.wiki_model.specs.Titles.{Title}
use Rattle.wiki_model.specs.Cache as model
use Rattle.wiki_model.specs.Cache.{Cached, Ask, Found, found, found_held, found_free, hit_unless, not_below, is_held, passes, staleness, held_cause, cause_of}
use Rattle.wiki_model.specs.declared.Put.{Put}
use Rattle.wiki_model.specs.declared.Put.TheVariants as put
use Rattle.wan_value.specs.declared.Value.{Value}
use Rattle.wan_value.specs.AsModel.{value_of}
use Rattle.wan_cache.specs.declared.find_value.LookTimes.{LookTimes}
use Rattle.wan_cache.specs.declared.region_store.Look.{Look}
use Rattle.wan_cache.specs.declared.region_store.Look.TheVariants as look
use Rattle.wan_cache.specs.Rules.{IsFound, shown}
use Rattle.slot_cache.specs.Slots.{slot_of}
use Rattle.slot_cache.specs.SlotRow.{if_same, main_of, interim_of}
use Rattle.slot_share.specs.declared.part.Part.{Part}
use Rattle.slot_share.specs.declared.part.Part.TheVariants as part
use Rattle.slot_share.specs.declared.view.View.{View}
use Rattle.slot_share.specs.declared.seat_steps.LoadedMarks.{LoadedMarks}
use Rattle.slot_share.specs.Marks.{floor_word, seen_at}
use Rattle.slot_share.specs.Values.{Truth, Row, IsIn, Counts}
use Rattle.slot_share.specs.Steps.{slots_by, met_row}
use Rattle.slot_share.specs.Calls.{AnswersLook, AnswersPut, TellsPut, with_noted, IsTrueAnswer, IsBusy, IsMetAnswer, IsTimely, Looks, AreAtLeast, found_in_row, with_loaded, times_of, check_of}
use Rattle.slot_share.proofs.Storing.{shows}
use Rattle.slot_share.proofs.Lists.{first_in}

-- the marks that were loaded, in the seat's list
floor_loaded : (seen : List ℕ) (slot floor template message : ℕ) → slot + 3 < length seen → slice_index (set (set (set seen (slot + 3) floor) 1 template) 2 message) (slot + 3) ≡ floor
floor_loaded seen slot floor template message l =
    get_or-set_other (set (set seen (slot + 3) floor) 1 template) 2 (slot + 3) message 0 (λ e. omega (arith, e))
    ∙ (get_or-set_other (set seen (slot + 3) floor) 1 (slot + 3) template 0 (λ e. omega (arith, e)) ∙ get_or-set_same seen (slot + 3) floor 0 l)

free_cause : (o : Stale) (holder : ℕ) → cause_of o ≢ cause.Busy holder
free_cause (stale.Purged floor) holder e = (cc)
free_cause (stale.Checked check) holder e = (cc)
free_cause (stale.Expired at) holder e = (cc)
free_cause stale.Epoch holder e = (cc)
free_cause stale.Version holder e = (cc)
free_cause (stale.Position have) holder e = (cc)

free_held_cause : (floor check now holder : ℕ) → held_cause floor check now ≢ cause.Busy holder
free_held_cause floor check now holder = by (nat_lt now floor)
  where
    by : (b : Bool) → cond b (cause.Purged floor) (cause.Checked check) ≢ cause.Busy holder
    by true e = (cc)
    by false e = (cc)

module _ {P : Type 0} where
  -- what a found value says of where it stood
  abbrev Came : (main interim : Option (Cached P)) → Found P → Type 0
  Came main interim (model.Hit v) = main ≡ Some v
  Came main interim (model.Interim v) = interim ≡ Some v
  Came main interim (model.Missed why) = Unit {0}

  came_held : (hold_off floor check now : ℕ) (ask : Ask) (main interim : Option (Cached P)) → Came main interim (found_held hold_off floor check now ask interim)
  came_held hold_off floor check now ask main None = tt
  came_held hold_off floor check now ask main (Some v) = by (passes hold_off floor check now ask v)
    where
      by : (b : Bool) → Came main (Some v) (cond b (model.Interim v) (model.Missed (held_cause floor check now)))
      by true = refl
      by false = tt

  came_free : (floor check now : ℕ) (ask : Ask) (main interim : Option (Cached P)) → Came main interim (found_free floor check now ask main)
  came_free floor check now ask None interim = tt
  came_free floor check now ask (Some v) interim = by (staleness v now floor check ask)
    where
      by : (o : Option Stale) → Came (Some v) interim (hit_unless v o)
      by None = refl
      by (Some why) = tt

  came : (hold_off floor check now : ℕ) (ask : Ask) (main interim : Option (Cached P)) → Came main interim (found hold_off floor check now ask main interim)
  came hold_off floor check now ask main interim = by (is_held floor check now)
    where
      by : (b : Bool) → Came main interim (cond b (found_held hold_off floor check now ask interim) (found_free floor check now ask main))
      by true = came_held hold_off floor check now ask main interim
      by false = came_free floor check now ask main interim

  -- how late a hit was set
  abbrev Late : (floor check : ℕ) → Found P → Type 0
  Late floor check (model.Hit v) = (floor ≤ v.set_at) × (check ≢ 0 → check < v.set_at)
  Late floor check (model.Interim v) = Unit {0}
  Late floor check (model.Missed why) = Unit {0}

  late_held : (hold_off floor check now : ℕ) (ask : Ask) (interim : Option (Cached P)) → Late floor check (found_held hold_off floor check now ask interim)
  late_held hold_off floor check now ask None = tt
  late_held hold_off floor check now ask (Some v) = by (passes hold_off floor check now ask v)
    where
      by : (b : Bool) → Late floor check (cond b (model.Interim v) (model.Missed (held_cause floor check now)))
      by true = tt
      by false = tt

  late_free : (floor check now : ℕ) (ask : Ask) (main : Option (Cached P)) → Late floor check (found_free floor check now ask main)
  late_free floor check now ask None = tt
  late_free floor check now ask (Some v) = by (nat_lt v.set_at floor) (not (check == 0) && nat_le v.set_at check) _ refl refl
    where
      by : (b c : Bool) (rest : Option Stale) → nat_lt v.set_at floor ≡ b → (not (check == 0) && nat_le v.set_at check) ≡ c
          → Late floor check (hit_unless v (cond b (Some (stale.Purged floor)) (cond c (Some (stale.Checked check)) rest)))
      by true c rest h k = tt
      by false true rest h k = tt
      by false false (Some why) h k = tt
      by false false None h k = (grind (arith, nat_tests, h), λ n. grind (arith, nat_tests, k, n))

  late : (hold_off floor check now : ℕ) (ask : Ask) (main interim : Option (Cached P)) → Late floor check (found hold_off floor check now ask main interim)
  late hold_off floor check now ask main interim = by (is_held floor check now)
    where
      by : (b : Bool) → Late floor check (cond b (found_held hold_off floor check now ask interim) (found_free floor check now ask main))
      by true = late_held hold_off floor check now ask interim
      by false = late_free floor check now ask main

  -- what a row shows is never that it is busy
  abbrev Free : Found P → Type 0
  Free (model.Hit v) = Unit {0}
  Free (model.Interim v) = Unit {0}
  Free (model.Missed why) = (holder : ℕ) → why ≢ cause.Busy holder

  free_held : (hold_off floor check now : ℕ) (ask : Ask) (interim : Option (Cached P)) → Free (found_held hold_off floor check now ask interim)
  free_held hold_off floor check now ask None = free_held_cause floor check now
  free_held hold_off floor check now ask (Some v) = by (passes hold_off floor check now ask v)
    where
      by : (b : Bool) → Free (cond b (model.Interim v) (model.Missed (held_cause floor check now)))
      by true = tt
      by false = free_held_cause floor check now

  free_free : (floor check now : ℕ) (ask : Ask) (main : Option (Cached P)) → Free (found_free floor check now ask main)
  free_free floor check now ask None = λ holder e. (cc)
  free_free floor check now ask (Some v) = by (staleness v now floor check ask)
    where
      by : (o : Option Stale) → Free (hit_unless v o)
      by None = tt
      by (Some why) = free_cause why

  free : (hold_off floor check now : ℕ) (ask : Ask) (main interim : Option (Cached P)) → Free (found hold_off floor check now ask main interim)
  free hold_off floor check now ask main interim = by (is_held floor check now)
    where
      by : (b : Bool) → Free (cond b (found_held hold_off floor check now ask interim) (found_free floor check now ask main))
      by true = free_held hold_off floor check now ask interim
      by false = free_free floor check now ask main

  same_busy : (a b : ℕ) (answer : Look P) → answer ≡ look.Miss (cause.Busy a) → answer ≡ look.Miss (cause.Busy b) → a ≡ b
  same_busy a b answer e f = (cc)

  -- what a busy look tells
  pub busy_tells : (is_true : Truth P) (old old_in v new : View P) (slots slots_in slot hold_in now : ℕ) (m : LoadedMarks) (times : LookTimes) (ask : Ask) (key : Title) (answer : Look P)
      → old_in ≡ old → slots_in ≡ slots → slot ≡ slot_of key slots_in → v ≡ with_loaded old_in slot m → ((found : ℕ) × AnswersLook is_true v new slot found times ask key answer)
      → (holder : ℕ) → answer ≡ look.Miss (cause.Busy holder) → IsBusy old new (slot_of key slots) holder
  busy_tells is_true old old_in v new slots slots_in slot hold_in now m times ask key answer old_is slots_are at v_is a holder is =
      subst (λ (x : View P × ℕ). IsBusy x.0 new x.1 holder) (λ i. (old_is i, (at ∙ ap (slot_of key) slots_are) i)) (dite (ℕ_discrete a.0 0)
      (λ (z : a.0 ≡ 0).
      let f = a.1.free z in
      let row = f.0 in
      absurd (subst (λ (x : Look P). IsFound x (found_in_row times ask row key) → ⊥) (sym is)
      (λ e. subst Free e (free times.hold_off times.floor times.check times.at ask (not_below times.floor (shown (main_of row.value key))) (shown (interim_of row.value key))) holder refl) f.3))
      (λ (n : a.0 ≢ 0).
      let b = a.1.busy n in
      let same : a.0 ≡ holder = same_busy a.0 holder answer b.1 is in
      let rank : v.rank ≡ old_in.rank = ap (λ (w : View P). w.rank) v_is in
      record {
        claims = ap (λ (w : View P). w.claims) b.0 ∙ ap (λ (w : View P). w.claims + 1) v_is;
        last_slot = ap (λ (w : View P). w.last_slot) b.0;
        last_found = ap (λ (w : View P). w.last_found) b.0 ∙ same;
        some = λ e. n (same ∙ e);
        other = λ e. b.2 (same ∙ (e ∙ ap (λ r. r.number) (sym rank)));
        within = subst (λ (x : ℕ × ℕ). x.0 ≤ x.1) (λ i. (same i, (rank i).seats)) b.3;
      }))

  -- what a busy put tells
  pub put_busy : (old new : View P) (slot : ℕ) (key : Title) (value : Value P) (answer : Put) → TellsPut old new slot key value answer → (holder : ℕ) → answer ≡ put.Busy holder → IsBusy old new slot holder
  put_busy old new slot key value answer h holder is =
      let a : AnswersPut (with_noted old slot h.marks (record { key = key; value = value })) new slot h.marks value (put.Busy holder)
      = subst (AnswersPut (with_noted old slot h.marks (record { key = key; value = value })) new slot h.marks value) is h.answers in
      record {
        claims = ap (λ (w : View P). w.claims) a.0;
        last_slot = ap (λ (w : View P). w.last_slot) a.0;
        last_found = ap (λ (w : View P). w.last_found) a.0;
        some = a.1;
        other = a.2;
        within = a.3;
      }

  -- a seat alone is never busy
  pub never_busy : (old new : View P) (slot holder : ℕ) → old.rank.seats ≡ 1 → 0 < old.rank.number → old.rank.number ≤ old.rank.seats → IsBusy old new slot holder → ⊥
  never_busy old new slot holder one some within h = let a = h.some in let b = h.other in let c = h.within in omega (arith, one, some, within, a, b, c)

  above : (floor : ℕ) (o : Option (Cached P)) (v : Cached P) → not_below floor o ≡ Some v → o ≡ Some v
  above floor None v e = absurd (cc)
  above floor (Some u) v e = by (nat_lt u.set_at floor) e
    where
      by : (b : Bool) → cond b None (Some u) ≡ Some v → Some u ≡ Some v
      by true e = absurd (cc)
      by false e = e

  -- What a place shows to a key is in it, and the row is the key's.
  pub record Shows (kept key : Title) (place : Option (Value P)) (cached : Cached P) : Type 0 where
    pub value : Value P
    pub key_is : kept ≡ key
    pub there : place ≡ Some value
    pub value_is : value_of value ≡ cached

  pub shows_cached : (kept key : Title) (place : Option (Value P)) (cached : Cached P) → shown (if_same (bytes_eq kept key) place) ≡ Some cached → Shows kept key place cached
  shows_cached kept key place cached e = by (if_same (bytes_eq kept key) place) refl e
    where
      by : (o : Option (Value P)) → if_same (bytes_eq kept key) place ≡ o → shown o ≡ Some cached → Shows kept key place cached
      by None h e = absurd (cc)
      by (Some w) h e = let s = shows kept key place w h in record { value = w; key_is = s.0; there = s.1; value_is = (cc) }

  -- What is answered stands in the row, and by the times.
  abbrev Stands : Row P → (floor : ℕ) → Title → Look P → Type 0
  Stands row floor key (look.Hit v) = Shows row.value.key key row.value.main (value_of v) × (floor ≤ v.set_at)
  Stands row floor key (look.Interim v) = Shows row.value.key key row.value.interim (value_of v)
  Stands row floor key (look.Miss why) = Unit {0}
  Stands row floor key look.Memory = Unit {0}

  stands : (times : LookTimes) (ask : Ask) (row : Row P) (key : Title) (answer : Look P) → IsFound answer (found_in_row times ask row key) → Stands row times.floor key answer
  stands times ask row key (look.Hit v) f =
      let main : Option (Cached P) = shown (main_of row.value key) in
      let interim : Option (Cached P) = shown (interim_of row.value key) in (
        shows_cached row.value.key key row.value.main (value_of v)
            (above times.floor main (value_of v) (subst (Came (not_below times.floor main) interim) f (came times.hold_off times.floor times.check times.at ask (not_below times.floor main) interim))),
        (subst (Late times.floor times.check) f (late times.hold_off times.floor times.check times.at ask (not_below times.floor main) interim)).0,
      )
  stands times ask row key (look.Interim v) f =
      let main : Option (Cached P) = shown (main_of row.value key) in
      let interim : Option (Cached P) = shown (interim_of row.value key) in
      shows_cached row.value.key key row.value.interim (value_of v)
      (subst (Came (not_below times.floor main) interim) f (came times.hold_off times.floor times.check times.at ask (not_below times.floor main) interim))
  stands times ask row key (look.Miss why) f = tt
  stands times ask row key look.Memory f = tt

  true_stands : (is_true : Truth P) (slots floor slot : ℕ) (row : Row P) (key : Title) (answer : Look P) → ((p : Part) (kept : _) → IsIn p row kept → Counts slots floor slot p kept → is_true p kept.key (value_of kept.value))
      → slot_of key slots ≡ slot → Stands row floor key answer → IsTrueAnswer is_true key answer
  true_stands is_true slots floor slot row key (look.Hit v) all at s =
      let h = s.0 in
      let late : floor ≤ h.value.set_at = subst (λ (n : ℕ). floor ≤ n) (sym (ap (λ (u : Cached P). u.set_at) h.value_is)) s.1 in
      subst (λ (u : Cached P). is_true part.Main key u) h.value_is (all part.Main (record { key = key; value = h.value }) (h.key_is, h.there) (at, late))
  true_stands is_true slots floor slot row key (look.Interim v) all at h =
      subst (λ (u : Cached P). is_true part.Interim key u) h.value_is (all part.Interim (record { key = key; value = h.value }) (h.key_is, h.there) at)
  true_stands is_true slots floor slot row key (look.Miss why) all at s = tt
  true_stands is_true slots floor slot row key look.Memory all at s = tt

  met_stands : (v : View P) (slots floor slot : ℕ) (row : Row P) (key : Title) (answer : Look P) → slot_of key slots ≡ slot → Stands row floor key answer → IsMetAnswer (met_row v slot row) slots key answer
  met_stands v slots floor slot row key (look.Hit w) at s =
      let h = s.0 in record { met = record { slot = slot; row = row }; one = first_in v.met (record { slot = slot; row = row }); slot_is = at; value = h.value; is_in = (h.key_is, h.there); shows = h.value_is }
  met_stands v slots floor slot row key (look.Interim w) at h =
      record { met = record { slot = slot; row = row }; one = first_in v.met (record { slot = slot; row = row }); slot_is = at; value = h.value; is_in = (h.key_is, h.there); shows = h.value_is }
  met_stands v slots floor slot row key (look.Miss why) at s = tt
  met_stands v slots floor slot row key look.Memory at s = tt

  timely_found : (m : LoadedMarks) (answer : Look P) (f : Found P) → IsFound answer f → Late m.floor (check_of m) f → IsTimely m answer
  timely_found m (look.Hit v) f is h =
      let l = subst (Late m.floor (check_of m)) is h in
      let l0 = l.0 in let a : ℕ = v.set_at in let t : ℕ = m.template in let s : ℕ = m.message in
      (l0, λ n. (let k : check_of m < a = l.1 (λ z. n (omega (arith, z))) in omega (arith, k)), λ n. (let k : check_of m < a = l.1 (λ z. n (omega (arith, z))) in omega (arith, k)))
  timely_found m (look.Interim v) f is h = tt
  timely_found m (look.Miss why) f is h = tt
  timely_found m look.Memory f is h = tt

  -- What a look tells by its one claim.
  pub record Tells (is_true : Truth P) (new : View P) (slots : ℕ) (m : LoadedMarks) (key : Title) (answer : Look P) : Type 0 where
    pub truth : IsTrueAnswer is_true key answer
    pub met : IsMetAnswer new slots key answer
    pub timely : IsTimely m answer

  missed : (is_true : Truth P) (new : View P) (slots : ℕ) (m : LoadedMarks) (key : Title) (why : Cause) → Tells is_true new slots m key (look.Miss why)
  missed is_true new slots m key why = record { truth = tt; met = tt; timely = tt }

  pub tells : (is_true : Truth P) (old new : View P) (slots slot hold_off now : ℕ) (m : LoadedMarks) (found_word : ℕ) (ask : Ask) (key : Title) (answer : Look P) → length old.marks.seen ≡ slots + 3 → slot < slots
      → slot_of key slots ≡ slot → AnswersLook is_true (with_loaded old slot m) new slot found_word (times_of m hold_off now) ask key answer → Tells is_true new slots m key answer
  tells is_true old new slots slot hold_off now m found_word ask key answer long below at h = dite (ℕ_discrete found_word 0)
      (λ (z : found_word ≡ 0).
      let f = h.free z in
      let v : View P = with_loaded old slot m in
      let s = stands (times_of m hold_off now) ask f.0 key answer f.3 in
      let same_length : length v.marks.seen ≡ length old.marks.seen
      = length-set (set (set old.marks.seen (slot + 3) m.floor) 1 m.template) 2 m.message ∙ (length-set (set old.marks.seen (slot + 3) m.floor) 1 m.template ∙ length-set old.marks.seen (slot + 3) m.floor) in
      let slots_are : slots_by v.marks ≡ slots = omega (arith, same_length, long) in
      let floor_is : seen_at (floor_word slot) v.marks ≡ m.floor = floor_loaded old.marks.seen slot m.floor m.template m.message (omega (arith, long, below)) in
      record {
        truth = true_stands is_true slots m.floor slot f.0 key answer
            (λ p kept is counts. f.2 p kept is (subst (λ (x : ℕ × ℕ). Counts x.0 x.1 slot p kept) (λ i. (sym slots_are i, sym floor_is i)) counts)) at s;
        met = subst (λ (w : View P). IsMetAnswer w slots key answer) (sym f.1) (met_stands v slots m.floor slot f.0 key answer at s);
        timely = timely_found m answer (found_in_row (times_of m hold_off now) ask f.0 key) f.3
            (late hold_off m.floor (check_of m) now ask (not_below m.floor (shown (main_of f.0.value key))) (shown (interim_of f.0.value key)));
      })
      (λ (n : found_word ≢ 0). subst (λ (a : Look P). Tells is_true new slots m key a) (sym (h.busy n).1) (missed is_true new slots m key _))

  pub look_tells : (is_true : Truth P) (old old_in v new : View P) (slots slots_in slot hold_off hold_in now : ℕ) (m : LoadedMarks) (times : LookTimes) (ask : Ask) (key : Title) (answer : Look P)
      → old_in ≡ old → slots_in ≡ slots → hold_in ≡ hold_off → slot ≡ slot_of key slots_in → slot < slots_in → length old_in.marks.seen ≡ slots_in + 3
      → v ≡ with_loaded old_in slot m → times ≡ times_of m hold_in now → AreAtLeast old_in slot m → ((found : ℕ) × AnswersLook is_true v new slot found times ask key answer)
      → Looks is_true old new (slot_of key slots) hold_off now ask key answer × IsTrueAnswer is_true key answer × IsMetAnswer new slots key answer
  look_tells is_true old old_in v new slots slots_in slot hold_off hold_in now m times ask key answer old_is slots_are hold_is at below long v_is times_are least a =
      let answers : AnswersLook is_true (with_loaded old_in slot m) new slot a.0 (times_of m hold_in now) ask key answer
      = subst (λ (x : View P × LookTimes). AnswersLook is_true x.0 new slot a.0 x.1 ask key answer) (λ i. (v_is i, times_are i)) a.1 in
      let t : Tells is_true new slots_in m key answer = tells is_true old_in new slots_in slot hold_in now m a.0 ask key answer long below (sym at) answers in
      let looks : Looks is_true old_in new slot hold_in now ask key answer = record { marks = m; least = least; found = a.0; answers = answers; timely = t.timely } in
      let slot_is : slot ≡ slot_of key slots = at ∙ ap (slot_of key) slots_are in (
        subst (λ (x : View P × (ℕ × ℕ)). Looks is_true x.0 new x.1.0 x.1.1 now ask key answer) (λ i. (old_is i, (slot_is i, hold_is i))) looks,
        t.truth,
        subst (λ (n : ℕ). IsMetAnswer new n key answer) slots_are t.met,
      )
