-- A put into one slot is a put into the map. By the slot's floor and the checks, which it does not change, the value
-- goes to one of the two places, and the row is then the key's: the other place has what it had for the key, and what
-- another key of the slot had is gone. A key with another number has another row.
use Rattle.std.proofs.Common.{ℕ, ◌≡◌, ◌≢◌, max, List, slice_index, Bool, true, false, cond, Option, Some, refl, sym, ap, ◌∙◌, inl, inr, nat_lt, subst, le_refl}
use Rattle.std.proofs.Math.ListN.{get_or}
use Rattle.std.specs.Global.{Box}
use Rattle.wiki_model.specs.declared.Put.{Put}
use Rattle.wiki_model.specs.declared.Put.TheVariants.{Main, Interim, Held, Busy, Memory}
use Rattle.wiki_model.specs.Titles.{Title}
use Rattle.wiki_model.specs.Cache.{not_below, is_held, MayGo, Puts, Places, SameKey}
use Rattle.wan_value.specs.declared.Value.{Value}
use Rattle.wan_value.specs.AsModel.{value_of}
use Rattle.wan_cache.specs.Rules.{shown, placed}
use Rattle.slot_cache.specs.declared.slot_row.SlotRow.{SlotRow}
use Rattle.slot_cache.specs.SlotRow.{main_of, interim_of, main_for, interim_for, Stores}
use Rattle.slot_cache.specs.SlotCache.{SlotState, row_in, slot_at, floor_at, StoresIn}
use Rattle.slot_cache.specs.AsModel.{map_of}
use Rattle.slot_cache.proofs.Rows.{same_number, other_number, own_value, no_value, not_below_same, free_stays}

-- what the answer says of the key: free, held off, or held off with a lagged value

main_if_free : (held lagged : Bool) (until : ℕ) → Main ≡ cond held (cond lagged (Held until) Interim) Main → held ≡ false
main_if_free false lagged until e = refl
main_if_free true true until e = absurd (cc)
main_if_free true false until e = absurd (cc)

interim_if_held : (held lagged : Bool) (until : ℕ) → Interim ≡ cond held (cond lagged (Held until) Interim) Main → (held ≡ true) × (lagged ≡ false)
interim_if_held true false until e = (refl, refl)
interim_if_held true true until e = absurd (cc)
interim_if_held false lagged until e = absurd (cc)

held_if_lagged : (held lagged : Bool) (until u : ℕ) → Held u ≡ cond held (cond lagged (Held until) Interim) Main → (held ≡ true) × (lagged ≡ true) × (u ≡ until)
held_if_lagged true true until u e = (refl, refl, (cc))
held_if_lagged true false until u e = absurd (cc)
held_if_lagged false lagged until u e = absurd (cc)

module _ {P : Type 0} where
  abbrev after_put : SlotState P → (rows : List (Box (SlotRow P))) → (now : ℕ) → SlotState P
  after_put old rows now = record { slots = old.slots; floors = old.floors; rows = rows; template_check = old.template_check; message_check = old.message_check; greatest = now; hold_off = old.hold_off }

  puts : (old : SlotState P) (key : Title) (value : Value P) (answer : Put) (rows : List (Box (SlotRow P)))
      → answer ≡ placed (floor_at old key) (max old.template_check old.message_check) value.set_at value.lagged
      → StoresIn old.rows rows (slot_at old key) key value answer
      → Puts (map_of old) (map_of (after_put old rows value.set_at)) key (value_of value) answer
  puts old key value answer rows is stores = record {
    placed = in_place answer is stores.stores;
    floors = λ other t. (inl (le_refl (floor_at old other)), (other, t, le_refl (floor_at old other)));
    neighbors = λ other n t. gone other n (same_number slot (slot_at old other) t);
    others = λ other f. apart other (other_number slot (slot_at old other) f);
    checks = record { template = refl; message = refl };
    greatest = refl;
    same = record { together = refl; shared = refl; hold_off = refl };
  }
    where
      slot : ℕ
      slot = slot_at old key

      new : SlotState P
      new = after_put old rows value.set_at

      floor : ℕ
      floor = floor_at old key

      check : ℕ
      check = max old.template_check old.message_check

      main_is : (q : Title) → main_for (row_in rows slot) q ≡ main_of stores.after q
      main_is q = ap (λ (o : Option (SlotRow P)). main_for o q) stores.now_there

      main_was : (q : Title) → main_for (row_in old.rows slot) q ≡ main_of stores.before q
      main_was q = ap (λ (o : Option (SlotRow P)). main_for o q) stores.there

      interim_is : (q : Title) → interim_for (row_in rows slot) q ≡ interim_of stores.after q
      interim_is q = ap (λ (o : Option (SlotRow P)). interim_for o q) stores.now_there

      interim_was : (q : Title) → interim_for (row_in old.rows slot) q ≡ interim_of stores.before q
      interim_was q = ap (λ (o : Option (SlotRow P)). interim_for o q) stores.there

      -- the place that is not filled has what it had for the key

      kept_interim : stores.after.key ≡ key → stores.after.interim ≡ interim_of stores.before key → shown (interim_for (row_in rows slot) key) ≡ shown (interim_for (row_in old.rows slot) key)
      kept_interim k e = ap shown (interim_is key ∙ (own_value stores.after.key key stores.after.interim k ∙ (e ∙ sym (interim_was key))))

      kept_main : stores.after.key ≡ key → stores.after.main ≡ main_of stores.before key
          → not_below floor (shown (main_for (row_in rows slot) key)) ≡ not_below floor (not_below floor (shown (main_for (row_in old.rows slot) key)))
      kept_main k e = ap (λ (o : Option (Value P)). not_below floor (shown o)) (main_is key ∙ (own_value stores.after.key key stores.after.main k ∙ (e ∙ sym (main_was key))))
          ∙ sym (not_below_same floor (shown (main_for (row_in old.rows slot) key)))

      -- if nothing is stored, the row stays
      same_row : stores.after ≡ stores.before → row_in rows slot ≡ row_in old.rows slot
      same_row e = stores.now_there ∙ (ap Some e ∙ sym stores.there)

      in_place : (a : Put) → a ≡ placed floor check value.set_at value.lagged → Stores stores.before stores.after key value a → Places (map_of old) (map_of new) key (value_of value) a
      in_place Main e s =
          let free = main_if_free (is_held floor check value.set_at) value.lagged (cond (nat_lt value.set_at floor) floor check) e in
          (free, ap (λ (o : Option (Value P)). not_below floor (shown o)) (main_is key ∙ (own_value stores.after.key key stores.after.main s.0 ∙ s.1)) ∙ free_stays floor check (value_of value) free, kept_interim s.0 s.2)
      in_place Interim e s =
          let held = interim_if_held (is_held floor check value.set_at) value.lagged (cond (nat_lt value.set_at floor) floor check) e in
          (held.0, held.1, ap shown (interim_is key ∙ (own_value stores.after.key key stores.after.interim s.0 ∙ s.1)), kept_main s.0 s.2)
      in_place (Held until) e s =
          let held = held_if_lagged (is_held floor check value.set_at) value.lagged (cond (nat_lt value.set_at floor) floor check) until e in
          (held.0, held.1, held.2, ap (λ (o : Option (SlotRow P)). shown (interim_for o key)) (same_row s), ap (λ (o : Option (SlotRow P)). not_below floor (shown (main_for o key))) (same_row s) ∙ sym (not_below_same floor (shown (main_for (row_in old.rows slot) key))))
      in_place (Busy holder) e s = absurd s
      in_place Memory e s = absurd s

      -- once the row is the key's, another key has nothing there
      no_others : (other : Title) → other ≢ key → stores.after.key ≡ key
          → MayGo (not_below floor (shown (main_for (row_in old.rows slot) other))) (not_below floor (shown (main_for (row_in rows slot) other)))
          × MayGo (shown (interim_for (row_in old.rows slot) other)) (shown (interim_for (row_in rows slot) other))
      no_others other n k = (inr (ap (λ (o : Option (Value P)). not_below floor (shown o)) (main_is other ∙ no_value stores.after.key key other stores.after.main k n)), inr (ap shown (interim_is other ∙ no_value stores.after.key key other stores.after.interim k n)))

      left : (other : Title) → other ≢ key → (a : Put) → Stores stores.before stores.after key value a
          → MayGo (not_below floor (shown (main_for (row_in old.rows slot) other))) (not_below floor (shown (main_for (row_in rows slot) other)))
          × MayGo (shown (interim_for (row_in old.rows slot) other)) (shown (interim_for (row_in rows slot) other))
      left other n Main s = no_others other n s.0
      left other n Interim s = no_others other n s.0
      left other n (Held until) s = (inl (ap (λ (o : Option (SlotRow P)). not_below floor (shown (main_for o other))) (same_row s)), inl (ap (λ (o : Option (SlotRow P)). shown (interim_for o other)) (same_row s)))
      left other n (Busy holder) s = absurd s
      left other n Memory s = absurd s

      gone : (other : Title) → other ≢ key → slot ≡ slot_at old other
          → MayGo (not_below (floor_at old other) (shown (main_for (row_in old.rows (slot_at old other)) other))) (not_below (floor_at old other) (shown (main_for (row_in rows (slot_at old other)) other)))
          × MayGo (shown (interim_for (row_in old.rows (slot_at old other)) other)) (shown (interim_for (row_in rows (slot_at old other)) other))
      gone other n e = subst (λ (i : ℕ). MayGo (not_below (get_or old.floors i 0) (shown (main_for (row_in old.rows i) other))) (not_below (get_or old.floors i 0) (shown (main_for (row_in rows i) other)))
          × MayGo (shown (interim_for (row_in old.rows i) other)) (shown (interim_for (row_in rows i) other))) e
          (left other n answer stores.stores)

      apart : (other : Title) → slot_at old other ≢ slot → SameKey (map_of old) (map_of new) other
      apart other n =
          let r : row_in rows (slot_at old other) ≡ row_in old.rows (slot_at old other) = stores.others (slot_at old other) n in
          record {
            floor = refl;
            main = λ i. not_below (floor_at old other) (shown (main_for (r i) other));
            interim = λ i. shown (interim_for (r i) other);
          }

  -- the same, by what the calls of `put` ensure
  pub put_as : (old : SlotState P) (key : Title) (value : Value P) (answer : Put) (slot floor check : ℕ) (floors : List ℕ) (rows : List (Box (SlotRow P)))
      → slot ≡ slot_at old key → floors ≡ old.floors → floor ≡ slice_index floors slot → check ≡ max old.template_check old.message_check
      → answer ≡ placed floor check value.set_at value.lagged → StoresIn old.rows rows slot key value answer
      → Puts (map_of old) (map_of (after_put old rows value.set_at)) key (value_of value) answer
  put_as old key value answer slot floor check floors rows slot_is floors_are floor_is check_is answer_is stores =
      puts old key value answer rows
      (answer_is ∙ (λ i. placed ((floor_is ∙ (λ j. get_or (floors_are j) (slot_is j) 0)) i) (check_is i) value.set_at value.lagged))
      (subst (λ (i : ℕ). StoresIn old.rows rows i key value answer) slot_is stores)
