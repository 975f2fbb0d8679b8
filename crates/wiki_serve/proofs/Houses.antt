-- The housekeeping of a request: its parts follow each other, and together they are what the definitions ask for.
use Rattle.std.proofs.Common.{◌≡◌, ℕ, zero, suc, ◌+◌, ◌-◌, ◌≤◌, ◌<◌, Bool, true, false, List, [], ◌∷◌, ◌++◌, length, Option, Some, None, refl, sym, ap, subst, ◌∙◌, arith, append_assoc, append-nil, reverse, drop, max}
use Rattle.std.specs.Prelude.{option_map}
use Rattle.std.proofs.lemmas.List.{length-map, reverse-append}
use Rattle.wiki_model.specs.declared.Region.{Region}
use Rattle.wiki_model.specs.declared.Region.TheVariants.{Home, West}
use Rattle.wiki_model.specs.declared.Readings.{Readings}
use Rattle.wiki_model.specs.Bytes.{Bytes, last_of}
use Rattle.wiki_model.specs.History.{Entry, Beat, Committed}
use Rattle.wiki_model.specs.Cache.{CacheMap}
use Rattle.wiki_model.specs.World.{World, cut}
use Rattle.wiki_model.specs.Steps.{Step}
use Rattle.wiki_model.specs.Runs.{Turn}
use Rattle.wiki_model.specs.Serving.{AllMade, Taken, is_due, is_past, beats, beat_if, applies, applies_from}
use Rattle.farm_base.specs.Causes.{counted}
use Rattle.purge_relay.specs.Carried.{Carried, with_sent}
use Rattle.purge_relay.specs.AsModel.{body_of, message_of, maybe_taken}
use Rattle.purge_relay.specs.declared.message.Message.{Message}
use Rattle.purge_relay.specs.declared.ledger_row.LedgerRow.{LedgerRow}
use Rattle.farm_steps.specs.ViewSteps.{region_at}
use Rattle.replica_apply.specs.Replica.{ReplicaState}
use Rattle.farm_core.specs.FarmParts.{FarmParts, SameShape}
use Rattle.farm_core.specs.Agreement.{Agrees, last_beat_in}
use Rattle.farm_core.specs.Runs.{Stands}
use Rattle.wiki_serve.specs.Exchanges.{with_messages}
use Rattle.wiki_serve.specs.Services.{numbers_from}
use Rattle.wiki_serve.specs.Turns.{MakesTurns, MakesStep}
use Rattle.wiki_serve.specs.HoldingBack.{taken_of}
use Rattle.wiki_serve.specs.Housework.{WireSeen, counted_if, IsRow, AreRows, IsSending, SendsAll, TakesAll, BeatsIfDue, applies_to, AppliesTo, KeepsHouse, DoesHousework}
use Rattle.wiki_serve.proofs.OneMore.{carried_more, numbers_more}
use Rattle.wiki_serve.proofs.Steps.{turn, all_none, all_one, all_joined, none_made, made_joined, shapes}

-- Sending

rows_more : (rows : List LedgerRow) (numbers : List ℕ) (sent : List Taken) (n : ℕ) (t : Taken) → AreRows rows numbers sent → IsRow rows n t → AreRows rows (numbers ++ n ∷ []) (sent ++ t ∷ [])
rows_more rows [] [] n t all one = (one, tt)
rows_more rows [] (x ∷ sent) n t all one = absurd all
rows_more rows (m ∷ numbers) [] n t all one = absurd all
rows_more rows (m ∷ numbers) (x ∷ sent) n t (first, all) one = (first, rows_more rows numbers sent n t all one)

pub same_wire : (wire : Option Carried) → wire ≡ option_map (with_messages [] []) wire
same_wire None = refl
same_wire (Some c) = ap (λ l. Some (let d : Carried = record { sent = l; taken = c.taken } in d)) (sym (append-nil c.sent)) ∙ ap (λ l. Some (let d : Carried = record { sent = c.sent ++ []; taken = l } in d)) (sym (append-nil c.taken))

-- the message of a row that is found
pub row_of : (o : Option LedgerRow) (m : Message) → Some m ≡ option_map (λ (row : LedgerRow). row.message) o → option_map (λ (row : LedgerRow). body_of row.message.body) o ≡ Some (body_of m.body)
row_of None m is = let no : ⊥ = cc in absurd no
row_of (Some row) m is = let same : row.message ≡ m = cc in ap (λ (x : Message). Some (body_of x.body)) same

pub sends_none : (rows : List LedgerRow) (sent : ℕ) (wire : WireSeen) → IsSending rows sent sent wire wire
sends_none rows sent wire = record {
  sent = [];
  sends = record {
    later = omega arith;
    within = λ w. w;
    are = let none : sent - sent ≡ 0 = omega arith in subst (λ n. AreRows rows (numbers_from (sent + 1) n) []) (sym none) tt;
    carried = same_wire wire.carried;
    refused = refl;
    empty = refl;
  };
}

-- what a wire carries after one message was sent, after one was taken, and after none was
pub sent_one : (o : Option Carried) (m : Message) → option_map (with_sent (message_of m)) o ≡ option_map (with_messages (taken_of m ∷ []) []) o
sent_one None m = refl
sent_one (Some c) m = ap (λ l. Some (let d : Carried = record { sent = c.sent ++ message_of m ∷ []; taken = l } in d)) (sym (append-nil c.taken))

pub taken_one : (o : Option Carried) (m : Message) → option_map (maybe_taken (Some m)) o ≡ option_map (with_messages [] (taken_of m ∷ [])) o
taken_one None m = refl
taken_one (Some c) m = ap (λ l. Some (let d : Carried = record { sent = l; taken = c.taken ++ message_of m ∷ [] } in d)) (sym (append-nil c.sent))

pub taken_none : (o : Option Carried) → option_map (maybe_taken None) o ≡ o
taken_none None = refl
taken_none (Some c) = refl

-- one more was sent
pub sends_more : (rows : List LedgerRow) (before now : ℕ) (old mid new : WireSeen) (t : Taken) → IsSending rows before now old mid → IsRow rows (now + 1) t → now < length rows
    → new.carried ≡ option_map (with_messages (t ∷ []) []) mid.carried → new.refused ≡ mid.refused → new.empty ≡ mid.empty
    → IsSending rows before (now + 1) old new
sends_more rows before now old mid new t is row less carried refused empty =
    let s = is.sends in
    let later = s.later in
    let count : now + 1 - before ≡ (now - before) + 1 = omega (arith, later) in
    let next : before + 1 + (now - before) ≡ now + 1 = omega (arith, later) in
    record {
      sent = is.sent ++ t ∷ [];
      sends = record {
        later = omega (arith, later);
        within = λ w. omega (arith, less);
        are = subst (λ ns. AreRows rows ns (is.sent ++ t ∷ []))
            (sym (ap (numbers_from (before + 1)) count ∙ numbers_more (before + 1) (now - before) 1 ∙ ap (λ k. numbers_from (before + 1) (now - before) ++ k ∷ []) next))
            (rows_more rows (numbers_from (before + 1) (now - before)) is.sent (now + 1) t s.are row);
        carried = carried ∙ ap (option_map (with_messages (t ∷ []) [])) s.carried ∙ carried_more is.sent (t ∷ []) [] [] old.carried;
        refused = refused ∙ s.refused;
        empty = empty ∙ s.empty;
      };
    }

-- a send was refused
pub sends_halted : (rows : List LedgerRow) (before now : ℕ) (old mid new : WireSeen) → IsSending rows before now old mid → now < length rows
    → new.carried ≡ mid.carried → new.refused ≡ counted mid.refused → new.empty ≡ mid.empty → SendsAll rows before now old new
sends_halted rows before now old mid new is less carried refused empty = record {
  sent = is.sent;
  halted = true;
  sends = record {
    later = is.sends.later;
    within = is.sends.within;
    are = is.sends.are;
    carried = carried ∙ is.sends.carried;
    refused = refused ∙ ap counted is.sends.refused;
    empty = empty ∙ is.sends.empty;
  };
  all = λ e. let no : ⊥ = cc in absurd no;
  left = λ e. less;
}

pub sends_over : (rows : List LedgerRow) (before now : ℕ) (old new : WireSeen) → IsSending rows before now old new → length rows ≤ now → SendsAll rows before now old new
sends_over rows before now old new is over = record {
  sent = is.sent;
  halted = false;
  sends = is.sends;
  all = λ e. over;
  left = λ e. let no : ⊥ = cc in absurd no;
}

-- Applying

pub applies_more : (r : Region) (pace i count : ℕ) → applies_to r pace i (count + 1) ≡ applies_to r pace i count ++ Step.Apply r (i + count) pace ∷ []
applies_more r pace i zero =
    let one : 0 + 1 ≡ 1 = omega arith in
    let at : i ≡ i + 0 = omega arith in
    ap (applies_to r pace i) one ∙ ap (λ k. Step.Apply r k pace ∷ []) at
applies_more r pace i (suc count) =
    let one : suc count + 1 ≡ suc (count + 1) = omega arith in
    let at : i + 1 + count ≡ i + suc count = omega arith in
    ap (applies_to r pace i) one ∙ ap (λ l. Step.Apply r i pace ∷ l) (applies_more r pace (i + 1) count ∙ ap (λ k. applies_to r pace (i + 1) count ++ Step.Apply r k pace ∷ []) at)

applies_is : (r : Region) (pace i : ℕ) (numbers : List ℕ) → applies_from r pace i numbers ≡ applies_to r pace i (length numbers)
applies_is r pace i [] = refl
applies_is r pace i (n ∷ numbers) = ap (λ l. Step.Apply r i pace ∷ l) (applies_is r pace (i + 1) numbers)

-- Beats

-- the first, or else the second
abbrev or_else : Option ℕ → Option ℕ → Option ℕ
or_else None last = last
or_else (Some stamp) last = Some stamp

last_some : (x : ℕ) (xs : List ℕ) → (z : ℕ) × (last_of (x ∷ xs) ≡ Some z)
last_some x [] = (x, refl)
last_some x (y ∷ ys) = last_some y ys

last_is : (x : ℕ) (xs : List ℕ) → last_of (x ∷ xs) ≡ or_else (last_of xs) (Some x)
last_is x [] = refl
last_is x (y ∷ ys) = let (z, e) = last_some y ys in e ∙ sym (ap (λ (o : Option ℕ). or_else o (Some x)) e)

else_again : (o last : Option ℕ) (x : ℕ) → or_else o (Some x) ≡ or_else (or_else o (Some x)) last
else_again None last x = refl
else_again (Some y) last x = refl

beat_found : (entries : List Entry) (last : Option ℕ) → last_beat_in entries last ≡ or_else (last_of (beats entries)) last
beat_found [] last = refl
beat_found (Beat stamp ∷ entries) last =
    beat_found entries (Some stamp) ∙ else_again (last_of (beats entries)) last stamp ∙ ap (λ (o : Option ℕ). or_else o last) (sym (last_is stamp (beats entries)))
beat_found (Committed commit ∷ entries) last = beat_found entries last

or_nothing : (o : Option ℕ) → or_else o None ≡ o
or_nothing None = refl
or_nothing (Some x) = refl

module _ {K S : Type 0} (content : K → Option (List Entry)) (faults : K → ℕ) (cache_of : S → CacheMap Bytes) where
  due_is : (farm : FarmParts K S) (w : World) (at : Readings) → Agrees content faults cache_of farm w → is_due w at ≡ is_past (max farm.moments.home (cut at.home)) farm.last_beat
  due_is farm w at a =
      ap (λ m. is_past (max m (cut at.home)) (last_of (beats (drop w.setting.opened w.history)))) (sym a.home_moment)
      ∙ ap (is_past (max farm.moments.home (cut at.home))) (sym (a.beat ∙ beat_found (drop w.setting.opened w.history) None ∙ or_nothing (last_of (beats (drop w.setting.opened w.history)))))

  pub beat_made : (old new : FarmParts K S) (at : Readings) (due : Bool) → due ≡ is_past (max old.moments.home (cut at.home)) old.last_beat → due ≡ true → MakesStep content faults cache_of old new at Step.MakeBeat
      → BeatsIfDue content faults cache_of old new at
  beat_made old new at due is due_now step = record {
    turns = turn at Step.MakeBeat step.said ∷ [];
    made = step.made;
    due = true;
    are = all_one at Step.MakeBeat step.said;
    is = λ w a. due_is old w at a ∙ sym is ∙ due_now;
  }

  pub beat_left : (farm : FarmParts K S) (at : Readings) (due : Bool) → due ≡ is_past (max farm.moments.home (cut at.home)) farm.last_beat → due ≡ false → BeatsIfDue content faults cache_of farm farm at
  beat_left farm at due is not_due = record {
    turns = [];
    made = none_made content faults cache_of farm;
    due = false;
    are = all_none at;
    is = λ w a. due_is farm w at a ∙ sym is ∙ not_due;
  }

  -- Applying

  pub applies_none : (farm : FarmParts K S) (at : Readings) (r : Region) (pace : ℕ) → AppliesTo content faults cache_of farm farm at r pace 0
  applies_none farm at r pace = record { turns = []; made = none_made content faults cache_of farm; are = all_none at }

  pub applies_next : (first old new : FarmParts K S) (at : Readings) (r : Region) (pace count : ℕ) → AppliesTo content faults cache_of first old at r pace count → MakesStep content faults cache_of old new at (Step.Apply r count pace)
      → AppliesTo content faults cache_of first new at r pace (count + 1)
  applies_next first old new at r pace count done step =
      let same : 0 + count ≡ count = omega arith in
      record {
        turns = done.turns ++ turn at (Step.Apply r count pace) step.said ∷ [];
        made = made_joined content faults cache_of first old new done.turns (turn at (Step.Apply r count pace) step.said ∷ []) done.made step.made;
        are = subst (λ ss. AllMade at ss (done.turns ++ turn at (Step.Apply r count pace) step.said ∷ []))
            (sym (applies_more r pace 0 count ∙ ap (λ k. applies_to r pace 0 count ++ Step.Apply r k pace ∷ []) same))
            (all_joined at (applies_to r pace 0 count) (Step.Apply r count pace ∷ []) done.turns (turn at (Step.Apply r count pace) step.said ∷ []) done.are (all_one at (Step.Apply r count pace) step.said));
      }

  -- the region has as many replicas as before
  pub replicas_stay : (old new : FarmParts K S) (r : Region) → SameShape old new → length (region_at r new.home new.west).replicas ≡ length (region_at r old.home old.west).replicas
  replicas_stay old new Home s = s.home
  replicas_stay old new West s = s.west

  -- All together

  applied_long : (farm : FarmParts K S) (w : World) (pace : ℕ) → Agrees content faults cache_of farm w
      → applies w pace ≡ applies_to Home pace 0 (length farm.home.replicas) ++ applies_to West pace 0 (length farm.west.replicas)
  applied_long farm w pace a =
      let home : length w.home.applied ≡ length farm.home.replicas = ap (λ (l : List ℕ). length l) (sym a.home.applied) ∙ length-map farm.home.replicas (λ (k : ReplicaState). k.applied) in
      let west : length w.west.applied ≡ length farm.west.replicas = ap (λ (l : List ℕ). length l) (sym a.west.applied) ∙ length-map farm.west.replicas (λ (k : ReplicaState). k.applied) in
      ap (λ l. l ++ applies_from West pace 0 w.west.applied) (applies_is Home pace 0 w.home.applied ∙ ap (applies_to Home pace 0) home)
      ∙ ap (λ l. applies_to Home pace 0 (length farm.home.replicas) ++ l) (applies_is West pace 0 w.west.applied ∙ ap (applies_to West pace 0) west)

  pub house_kept : (f0 f1 f2 f3 f4 : FarmParts K S) (at : Readings) (sent_old sent_new : ℕ) (before mid now : WireSeen) (room : ℕ) (held : List Taken)
      → SendsAll f0.ledger.rows sent_old sent_new before mid → TakesAll content faults cache_of f0 f1 at mid now room held → BeatsIfDue content faults cache_of f1 f2 at
      → AppliesTo content faults cache_of f2 f3 at Home f2.plan.pace (length f2.home.replicas) → AppliesTo content faults cache_of f3 f4 at West f2.plan.pace (length f3.west.replicas)
      → DoesHousework content faults cache_of f0 f4 sent_old sent_new at before now room held
  house_kept f0 f1 f2 f3 f4 at sent_old sent_new before mid now room held sends takes beat home west = record {
    sent = sends.sent;
    halted = sends.halted;
    taken = takes.taken;
    emptied = takes.emptied;
    at_once = takes.takes.at_once;
    splits = takes.takes.splits;
    turns = carrying ++ keeping;
    keeps = keeps;
    later = sends.sends.later;
    within = sends.sends.within;
    are = sends.sends.are;
    all = sends.all;
    left = sends.left;
    few = takes.few;
    full = takes.full;
    carried = takes.takes.carried ∙ ap (option_map (with_messages [] takes.taken)) sends.sends.carried ∙ (carried_more sends.sent [] [] takes.taken before.carried ∙ ap (λ l. option_map (with_messages l takes.taken) before.carried) (append-nil sends.sent));
    refused = takes.takes.refused ∙ sends.sends.refused;
    empty = takes.takes.empty ∙ ap (counted_if takes.emptied) sends.sends.empty;
    closed = λ none. all.closed (takes.takes.made.closed none);
    shape = shapes f0 f1 f4 takes.takes.made.shape all.shape;
    counts = let x = takes.takes.made.counts in let y = all.counts in omega (arith, x, y);
  }
    where
      carrying : List Turn
      carrying = takes.takes.turns

      keeping : List Turn
      keeping = beat.turns ++ (home.turns ++ west.turns)

      all : MakesTurns content faults cache_of f1 f4 keeping
      all = made_joined content faults cache_of f1 f2 f4 beat.turns (home.turns ++ west.turns) beat.made
          (made_joined content faults cache_of f2 f3 f4 home.turns west.turns home.made west.made)

      pace_is : f2.plan.pace ≡ f0.plan.pace
      pace_is = ap (λ plan. plan.pace) (beat.made.shape.plan ∙ takes.takes.made.shape.plan)

      -- each replica of the farm applied
      applied : (w : World) → Agrees content faults cache_of f1 w → AllMade at (beat_if (is_due w at) ++ applies w f0.plan.pace) keeping
      applied w a =
          let homes : length f2.home.replicas ≡ length f1.home.replicas = beat.made.shape.home in
          let wests : length f3.west.replicas ≡ length f1.west.replicas = home.made.shape.west ∙ beat.made.shape.west in
          let steps : applies_to Home f2.plan.pace 0 (length f2.home.replicas) ++ applies_to West f2.plan.pace 0 (length f3.west.replicas) ≡ applies w f0.plan.pace =
          ap (λ n. applies_to Home f2.plan.pace 0 n ++ applies_to West f2.plan.pace 0 (length f3.west.replicas)) homes
          ∙ ap (λ n. applies_to Home f2.plan.pace 0 (length f1.home.replicas) ++ applies_to West f2.plan.pace 0 n) wests
          ∙ ap (λ p. applies_to Home p 0 (length f1.home.replicas) ++ applies_to West p 0 (length f1.west.replicas)) pace_is
          ∙ sym (applied_long f1 w f0.plan.pace a) in
          all_joined at (beat_if (is_due w at)) (applies w f0.plan.pace) beat.turns (home.turns ++ west.turns)
          (subst (λ b. AllMade at (beat_if b) beat.turns) (sym (beat.is w a)) beat.are)
          (subst (λ ss. AllMade at ss (home.turns ++ west.turns)) steps
          (all_joined at (applies_to Home f2.plan.pace 0 (length f2.home.replicas)) (applies_to West f2.plan.pace 0 (length f3.west.replicas)) home.turns west.turns home.are west.are))

      keeps : KeepsHouse content faults cache_of f0 f4 at f0.plan.pace takes.takes.at_once (carrying ++ keeping)
      keeps start earlier v stood =
          let (m, stands, went) = takes.takes.made.runs start earlier v stood in
          let (w, later, goes) = all.runs start (reverse carrying ++ earlier) m stands in
          let order : reverse keeping ++ (reverse carrying ++ earlier) ≡ reverse (carrying ++ keeping) ++ earlier = sym (ap (λ l. l ++ earlier) (reverse-append carrying keeping) ∙ append_assoc (reverse keeping) (reverse carrying) earlier) in (
            w,
            subst (λ (l : List Turn). Stands content faults cache_of f4 start l w) order later,
            record {
              carrying = carrying;
              keeping = keeping;
              middle = m;
              carried = takes.takes.are;
              goes = went;
              kept = applied m stands.agrees;
              goes_on = goes;
              all = refl;
            },
          )
