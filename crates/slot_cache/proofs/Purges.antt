-- A purge of one slot is a purge of the map: the slot's floor is raised by the hold-off and its main value is gone, so
-- that every key of the slot has the new floor and no main value. The interim place is not written, and a key with
-- another number has another floor and another row.
use Rattle.std.proofs.Common.{ℕ, ◌≡◌, ◌≢◌, ◌+◌, ◌<◌, ◌≤◌, max, List, length, set, slice_index, Option, refl, sym, ap, ◌∙◌, arith, inl, inr, subst, le_refl}
use Rattle.std.proofs.Math.ListN.{get_or}
use Rattle.std.proofs.lemmas.List.{get_or-set_same, get_or-set_other}
use Rattle.std.specs.Global.{Box}
use Rattle.wiki_model.specs.Titles.{Title}
use Rattle.wiki_model.specs.Cache.{not_below, MayGo, Forgets, Purges, SameKey}
use Rattle.wan_cache.specs.Rules.{shown}
use Rattle.slot_cache.specs.declared.slot_row.SlotRow.{SlotRow}
use Rattle.slot_cache.specs.SlotRow.{main_for, interim_for}
use Rattle.slot_cache.specs.SlotCache.{SlotState, row_in, slot_at, floor_at, DropsIn}
use Rattle.slot_cache.specs.AsModel.{map_of}
use Rattle.slot_cache.proofs.Rows.{same_number, other_number}

module _ {P : Type 0} where
  abbrev after_purge : SlotState P → (floors : List ℕ) → (rows : List (Box (SlotRow P))) → (now : ℕ) → SlotState P
  after_purge old floors rows now = record { slots = old.slots; floors = floors; rows = rows; template_check = old.template_check; message_check = old.message_check; greatest = now; hold_off = old.hold_off }

  abbrev raised_floors : SlotState P → Title → (now : ℕ) → List ℕ
  raised_floors old key now = set old.floors (slot_at old key) (max (floor_at old key) (now + old.hold_off))

  purges : (old : SlotState P) (key : Title) (now : ℕ) (rows : List (Box (SlotRow P))) → slot_at old key < length old.floors
      → DropsIn old.rows rows (slot_at old key) → Purges (map_of old) (map_of (after_purge old (raised_floors old key now) rows now)) key now
  purges old key now rows within drops = record {
    floor = here;
    main = ap (λ (o : Option (SlotRow P)). not_below (get_or floors slot 0) (shown (main_for o key))) drops.now_there;
    interim = same_interim key;
    neighbor_floors = λ other t. together other (same_number slot (slot_at old other) t);
    neighbors = λ other n t. gone other (same_number slot (slot_at old other) t);
    others = λ other f. apart other (other_number slot (slot_at old other) f);
    checks = record { template = refl; message = refl };
    greatest = refl;
    same = record { together = refl; shared = refl; hold_off = refl };
  }
    where
      slot : ℕ
      slot = slot_at old key

      until : ℕ
      until = max (floor_at old key) (now + old.hold_off)

      floors : List ℕ
      floors = set old.floors slot until

      here : get_or floors slot 0 ≡ until
      here = get_or-set_same old.floors slot until 0 within

      same_interim : (q : Title) → shown (interim_for (row_in rows slot) q) ≡ shown (interim_for (row_in old.rows slot) q)
      same_interim q = ap (λ (o : Option (SlotRow P)). shown (interim_for o q)) drops.now_there ∙ sym (ap (λ (o : Option (SlotRow P)). shown (interim_for o q)) drops.there)

      together : (other : Title) → slot ≡ slot_at old other
          → Forgets now (floor_at old other) (get_or floors (slot_at old other) 0) × (get_or floors (slot_at old other) 0 ≤ max (floor_at old other) (now + old.hold_off))
      together other e = subst (λ (i : ℕ). Forgets now (get_or old.floors i 0) (get_or floors i 0) × (get_or floors i 0 ≤ max (get_or old.floors i 0) (now + old.hold_off))) e
          (subst (λ (f : ℕ). Forgets now (floor_at old key) f × (f ≤ until)) (sym here) (inl (omega arith), le_refl until))

      gone : (other : Title) → slot ≡ slot_at old other
          → MayGo (not_below (floor_at old other) (shown (main_for (row_in old.rows (slot_at old other)) other))) (not_below (get_or floors (slot_at old other) 0) (shown (main_for (row_in rows (slot_at old other)) other)))
          × MayGo (shown (interim_for (row_in old.rows (slot_at old other)) other)) (shown (interim_for (row_in rows (slot_at old other)) other))
      gone other e = subst (λ (i : ℕ). MayGo (not_below (get_or old.floors i 0) (shown (main_for (row_in old.rows i) other))) (not_below (get_or floors i 0) (shown (main_for (row_in rows i) other)))
          × MayGo (shown (interim_for (row_in old.rows i) other)) (shown (interim_for (row_in rows i) other))) e
          (inr (ap (λ (o : Option (SlotRow P)). not_below (get_or floors slot 0) (shown (main_for o other))) drops.now_there), inl (same_interim other))

      apart : (other : Title) → slot_at old other ≢ slot → SameKey (map_of old) (map_of (after_purge old floors rows now)) other
      apart other n =
          let f : get_or floors (slot_at old other) 0 ≡ floor_at old other = get_or-set_other old.floors slot (slot_at old other) until 0 n in
          let r : row_in rows (slot_at old other) ≡ row_in old.rows (slot_at old other) = drops.others (slot_at old other) n in
          record {
            floor = f;
            main = λ i. not_below (f i) (shown (main_for (r i) other));
            interim = λ i. shown (interim_for (r i) other);
          }

  -- the same, by what the calls of `purge` ensure
  pub purged : (old : SlotState P) (key : Title) (now slot : ℕ) (floors : List ℕ) (rows : List (Box (SlotRow P)))
      → slot ≡ slot_at old key → slot < old.slots → length old.floors ≡ old.slots
      → floors ≡ set old.floors slot (max (slice_index old.floors slot) (now + old.hold_off)) → DropsIn old.rows rows slot
      → Purges (map_of old) (map_of (after_purge old floors rows now)) key now
  purged old key now slot floors rows slot_is below long floors_are drops =
      let drop : DropsIn old.rows rows (slot_at old key) = subst (λ (i : ℕ). DropsIn old.rows rows i) slot_is drops in
      let within : slot_at old key < length old.floors = subst (λ (i : ℕ). i < length old.floors) slot_is (omega (arith, below, long)) in
      let all : floors ≡ raised_floors old key now = floors_are ∙ (λ i. set old.floors (slot_is i) (max (get_or old.floors (slot_is i) 0) (now + old.hold_off))) in
      subst (λ (fs : List ℕ). Purges (map_of old) (map_of (after_purge old fs rows now)) key now) (sym all) (purges old key now rows within drop)
