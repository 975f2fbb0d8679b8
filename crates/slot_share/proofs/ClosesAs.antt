-- A cache that comes back has what the seats did, and nothing else.
use Rattle.std.proofs.Common.{◌≡◌, ℕ, zero, suc, ◌+◌, ◌<◌, ◌≤◌, max, List, [], ◌∷◌, map, length, slice_get, Bool, true, false, cond, Option, Some, None, option_map, box_value, nat_lt, bytes_eq, refl, sym, ap, ◌∙◌, subst, ⊎_elim, inl, inr, arith, le_trans, Contains}
use Rattle.std.specs.Prelude.{slice_index}
use mathlib.Core.Option.{some, some-ne-none, some-injective}
use lib.ListN.{get_elem?}
use Rattle.std.proofs.lemmas.Bool.Decides.{nat_tests}
use Rattle.std.proofs.lemmas.Slice.Eq.{bytes_eq-Decides}
use Rattle.atomic_table.specs.Table.{Final, Seen}
use Rattle.atomic_table.specs.Seated.{TableId}
use Rattle.wiki_model.specs.Titles.{Title}
use Rattle.wiki_model.specs.Cache.{Cached, not_below}
use Rattle.wan_value.specs.declared.Value.{Value}
use Rattle.wan_value.specs.AsModel.{value_of}
use Rattle.wan_cache.specs.Rules.{shown}
use Rattle.slot_cache.specs.declared.slot_parts.SlotParts.{SlotParts}
use Rattle.slot_cache.specs.declared.slot_row.SlotRow.{SlotRow}
use Rattle.slot_cache.specs.Slots.{slot_of}
use Rattle.slot_cache.specs.SlotRow.{if_same, not_before, main_for, interim_for}
use Rattle.slot_cache.specs.SlotCache.{state_of, row_in}
use Rattle.slot_cache.specs.AsModel.{map_of}
use Rattle.slot_share.specs.declared.part.Part.{Part}
use Rattle.slot_share.specs.declared.part.Part.TheVariants as part
use Rattle.slot_share.specs.declared.view.Handed.{Handed}
use Rattle.slot_share.specs.declared.view.View.{View}
use Rattle.slot_share.specs.declared.view.Start.{Start}
use Rattle.slot_share.specs.Marks.{template_word, message_word, floor_word, greatest, seen_at}
use Rattle.slot_share.specs.Values.{Truth, Row, IsIn, Counts, StoodIn, slots_of, start_floor}
use Rattle.slot_share.specs.Rule.{marks_at, size_of, Keeps}
use Rattle.slot_share.specs.Shares.{ShareState, SeatState, IsLeft}
use Rattle.slot_share.specs.Calls.{HasMet}
use Rattle.slot_share.specs.Closing.{lent_state, place_of, made_by, IsHandedBy, IsKnown, IsAbove, Closes, Gathers, IsLowered, IsTakenBack}
use Rattle.slot_share.proofs.Opening.{Ends, ends}
use Rattle.slot_share.proofs.Steps.{floor_mark}
use Rattle.slot_share.proofs.Truths.{shows_cached}

at_index : (xs : List ℕ) (k x : ℕ) → get_elem? xs k ≡ some x → slice_index xs k ≡ x
at_index [] k x e = absurd (some-ne-none x (sym e))
at_index (y ∷ ys) zero x e = some-injective y x e
at_index (y ∷ ys) (suc k) x e = at_index ys k x e

greatest_from : (first : ℕ) (xs : List ℕ) → greatest first xs ≡ max first (greatest 0 xs)
greatest_from first [] = omega arith
greatest_from first (x ∷ xs) = let a : ℕ = greatest first xs in let b : ℕ = greatest 0 xs in let h : a ≡ max first b = greatest_from first xs in omega (arith, h)

got_below : {A : Type 0} (xs : List A) (k : ℕ) (x : A) → slice_get xs k ≡ Some x → k < length xs
got_below [] k x e = absurd (cc)
got_below (y ∷ ys) zero x e = omega arith
got_below (y ∷ ys) (suc k) x e = let l = got_below ys k x e in omega (arith, l)

module _ {P : Type 0} where
  -- a main value that is shown was not set before the floor
  not_below_late : (floor : ℕ) (o : Option (Cached P)) (v : Cached P) → not_below floor o ≡ Some v → (o ≡ Some v) × (floor ≤ v.set_at)
  not_below_late floor None v e = absurd (cc)
  not_below_late floor (Some u) v e = by (nat_lt u.set_at floor) refl e
    where
      by : (b : Bool) → nat_lt u.set_at floor ≡ b → cond b None (Some u) ≡ Some v → (Some u ≡ Some v) × (floor ≤ v.set_at)
      by true h e = absurd (cc)
      by false h e = (e, subst (λ (w : Cached P). floor ≤ w.set_at) (some_cached u v e) (grind (arith, nat_tests, h)))
        where
          some_cached : (u v : Cached P) → Some u ≡ Some v → u ≡ v
          some_cached u v e = (cc)

  late_not_below : (floor : ℕ) (v : Cached P) → floor ≤ v.set_at → not_below floor (Some v) ≡ Some v
  late_not_below floor v l = by (nat_lt v.set_at floor) refl
    where
      by : (b : Bool) → nat_lt v.set_at floor ≡ b → cond b None (Some v) ≡ Some v
      by true h = absurd (grind (arith, nat_tests, h, l))
      by false h = refl

  -- a row shows its key what it has
  own_shown : (kept key : Title) (place : Option (Value P)) (value : Value P) → kept ≡ key → place ≡ Some value → shown (if_same (bytes_eq kept key) place) ≡ Some (value_of value)
  own_shown kept key place value same is = ap (λ (o : Option (Value P)). shown (if_same (bytes_eq kept key) o)) is ∙ by (bytes_eq kept key) refl
    where
      by : (b : Bool) → bytes_eq kept key ≡ b → shown (cond b (Some value) None) ≡ Some (value_of value)
      by true h = refl
      by false h = absurd (grind (arith, bytes_eq-Decides, same, h))

  abbrev opened : Option (Row P) → Option (SlotRow P)
  opened o = option_map box_value o

  -- A value that a row of a cache shows: it is in the row, and counts.
  pub record Stands (rows : List (Row P)) (slot floor : ℕ) (p : Part) (key : Title) (cached : Cached P) : Type 0 where
    pub row : Row P
    pub there : slice_get rows slot ≡ Some row
    pub value : Value P
    pub is_in : IsIn p row (record { key = key; value = value })
    pub shows : value_of value ≡ cached
    pub above : IsAbove floor p cached

  stands_main : (rows : List (Row P)) (slot floor : ℕ) (key : Title) (cached : Cached P) → not_below floor (shown (main_for (row_in rows slot) key)) ≡ Some cached → Stands rows slot floor part.Main key cached
  stands_main rows slot floor key cached e = by (slice_get rows slot) refl
    where
      late : (shown (main_for (row_in rows slot) key) ≡ Some cached) × (floor ≤ cached.set_at)
      late = not_below_late floor (shown (main_for (row_in rows slot) key)) cached e

      by : (o : Option (Row P)) → slice_get rows slot ≡ o → Stands rows slot floor part.Main key cached
      by None h = absurd (let z : shown (main_for (opened None) key) ≡ Some cached = ap (λ (o : Option (Row P)). shown (main_for (opened o) key)) (sym h) ∙ late.0 in (cc))
      by (Some r) h =
          let s = shows_cached r.value.key key r.value.main cached (ap (λ (o : Option (Row P)). shown (main_for (opened o) key)) (sym h) ∙ late.0) in
          record { row = r; there = h; value = s.value; is_in = (s.key_is, s.there); shows = s.value_is; above = late.1 }

  stands_interim : (rows : List (Row P)) (slot floor : ℕ) (key : Title) (cached : Cached P) → shown (interim_for (row_in rows slot) key) ≡ Some cached → Stands rows slot floor part.Interim key cached
  stands_interim rows slot floor key cached e = by (slice_get rows slot) refl
    where
      by : (o : Option (Row P)) → slice_get rows slot ≡ o → Stands rows slot floor part.Interim key cached
      by None h = absurd (let z : shown (interim_for (opened None) key) ≡ Some cached = ap (λ (o : Option (Row P)). shown (interim_for (opened o) key)) (sym h) ∙ e in (cc))
      by (Some r) h =
          let s = shows_cached r.value.key key r.value.interim cached (ap (λ (o : Option (Row P)). shown (interim_for (opened o) key)) (sym h) ∙ e) in
          record { row = r; there = h; value = s.value; is_in = (s.key_is, s.there); shows = s.value_is; above = tt }

  -- a row that was lowered has no value that it had not
  unlowered : (floor : ℕ) (was row : Row P) (p : Part) (kept : Handed P) → IsLowered floor was row → IsIn p row kept → IsIn p was kept
  unlowered floor was row part.Main kept (inl e) is = (ap (λ (r : SlotRow P). r.key) (sym e) ∙ is.0, ap (λ (r : SlotRow P). r.main) (sym e) ∙ is.1)
  unlowered floor was row part.Interim kept (inl e) is = (ap (λ (r : SlotRow P). r.key) (sym e) ∙ is.0, ap (λ (r : SlotRow P). r.interim) (sym e) ∙ is.1)
  unlowered floor was row part.Interim kept (inr e) is = (ap (λ (r : SlotRow P). r.key) (sym e) ∙ is.0, ap (λ (r : SlotRow P). r.interim) (sym e) ∙ is.1)
  unlowered floor was row part.Main kept (inr e) is = (ap (λ (r : SlotRow P). r.key) (sym e) ∙ is.0, by was.value.main refl (ap (λ (r : SlotRow P). r.main) (sym e) ∙ is.1))
    where
      by : (o : Option (Value P)) → was.value.main ≡ o → not_before floor was.value.main ≡ Some kept.value → was.value.main ≡ Some kept.value
      by None h n = absurd (let z : not_before floor None ≡ Some kept.value = ap (not_before floor) (sym h) ∙ n in (cc))
      by (Some w) h n = h ∙ under (nat_lt w.set_at floor) (ap (not_before floor) (sym h) ∙ n)
        where
          under : (b : Bool) → cond b None (Some w) ≡ Some kept.value → Some w ≡ Some kept.value
          under true z = absurd (cc)
          under false z = z

module _ {P : Type 0} (is_true : Truth P) (start : Start P) (table : TableId) (slots hold_off moment : ℕ) (seats : List (SeatState P)) (view : View P) where
  abbrev share : ShareState P
  share = record { table = table; start = start; slots = slots; hold_off = hold_off; greatest = moment }

  handed_by : (kept : Handed P) (cached : Cached P) → Gathers seats view → value_of kept.value ≡ cached → Contains view.handed kept → IsHandedBy seats kept.key cached
  handed_by kept cached gathers shows c = let k = gathers.handed kept c in record { seat = k.0; one = k.1; value = kept.value; handed = k.2; shows = shows }

  -- a value that stood in its place at sharing was shown there
  stood_shown : (slot : ℕ) (p : Part) (kept : Handed P) (cached : Cached P) → slot ≡ slot_of kept.key slots → value_of kept.value ≡ cached → IsAbove (start_floor start slot) p cached → StoodIn start slot p kept
      → place_of p (map_of (lent_state share)) kept.key cached
  stood_shown slot part.Main kept cached at shows above s =
      let shown_there : shown (main_for (row_in start.rows.value.items slot) kept.key) ≡ Some cached
      = ap (λ (o : Option (Row P)). shown (main_for (option_map box_value o) kept.key)) s.there ∙ (own_shown s.row.value.key kept.key s.row.value.main kept.value s.is_in.0 s.is_in.1 ∙ ap Some shows) in
      subst (λ (n : ℕ). not_below (start_floor start n) (shown (main_for (row_in start.rows.value.items n) kept.key)) ≡ Some cached) at
      (ap (not_below (start_floor start slot)) shown_there ∙ late_not_below (start_floor start slot) cached above)
  stood_shown slot part.Interim kept cached at shows above s =
      subst (λ (n : ℕ). shown (interim_for (row_in start.rows.value.items n) kept.key) ≡ Some cached) at
      (ap (λ (o : Option (Row P)). shown (interim_for (option_map box_value o) kept.key)) s.there ∙ (own_shown s.row.value.key kept.key s.row.value.interim kept.value s.is_in.0 s.is_in.1 ∙ ap Some shows))

  counts_there : (slot : ℕ) (p : Part) (kept : Handed P) (cached : Cached P) → slots ≡ slots_of start → slot ≡ slot_of kept.key slots → value_of kept.value ≡ cached → IsAbove (start_floor start slot) p cached
      → Counts (slots_of start) (start_floor start slot) slot p kept
  counts_there slot part.Main kept cached slots_are at shows above = (ap (slot_of kept.key) (sym slots_are) ∙ sym at, subst (λ (u : Cached P). start_floor start slot ≤ u.set_at) (sym shows) above)
  counts_there slot part.Interim kept cached slots_are at shows above = ap (slot_of kept.key) (sym slots_are) ∙ sym at

  -- what is left in a row is known
  left_known : (slot : ℕ) (row : Row P) (p : Part) (kept : Handed P) (cached : Cached P) → slots ≡ slots_of start → Gathers seats view → IsLeft is_true start view.handed slot row → IsIn p row kept → slot ≡ slot_of kept.key slots
      → value_of kept.value ≡ cached → IsAbove (start_floor start slot) p cached → is_true p kept.key cached × IsKnown share seats p kept.key cached
  left_known slot row p kept cached slots_are gathers left is at shows above =
      let k = left p kept is (counts_there slot p kept cached slots_are at shows above) in (
        subst (λ (u : Cached P). is_true p kept.key u) shows k.0,
        ⊎_elim (λ s. inl (stood_shown slot p kept cached at shows above s)) (λ c. inr (handed_by kept cached gathers shows c)) k.1,
      )

  lower : (low high : ℕ) (p : Part) (cached : Cached P) → low ≤ high → IsAbove high p cached → IsAbove low p cached
  lower low high part.Main cached l above = le_trans l above
  lower low high part.Interim cached l above = tt

  pub closes : (id now template message : ℕ) (words : List ℕ) (lent : List (Row P)) (before after : SlotParts P) → Final (Seen (Keeps is_true start) id view) words lent
      → view.rank.parts ≡ start.seats → view.holds ≡ None → Gathers seats view → slots ≡ slots_of start → size_of start ≡ slots + 3
      → get_elem? words template_word ≡ some template → get_elem? words message_word ≡ some message → IsTakenBack slots words lent before after
      → before.slots ≡ slots → before.template_check ≡ template → before.message_check ≡ message → before.greatest ≡ now → before.hold_off ≡ hold_off
      → Closes is_true share seats now (state_of after)
  closes id now template message words lent before after final all free gathers slots_are size_is at_template at_message taken slots_before template_before message_before greatest_before hold_before = record {
    floors = λ slot l. floor_is slot l ∙ sym (greatest_from (start_floor start slot) (map (made_by (floor_word slot)) seats));
    template = taken.same.template ∙ (template_before ∙ (word_is template_word template (omega (arith, size_is)) at_template ∙ sym (greatest_from start.template_check (map (made_by template_word) seats))));
    message = taken.same.message ∙ (message_before ∙ (word_is message_word message (omega (arith, size_is)) at_message ∙ sym (greatest_from start.message_check (map (made_by message_word) seats))));
    seen_floors = λ seat slot c l. seen_is seat (floor_word slot) (slice_index after.floors.items slot) c (omega (arith, l, size_is)) (taken.floors slot l);
    seen_template = λ seat c. subst (λ (n : ℕ). seen_at template_word seat.view.marks ≤ n) (sym (taken.same.template ∙ template_before)) (seen_is seat template_word template c (omega (arith, size_is)) at_template);
    seen_message = λ seat c. subst (λ (n : ℕ). seen_at message_word seat.view.marks ≤ n) (sym (taken.same.message ∙ message_before)) (seen_is seat message_word message c (omega (arith, size_is)) at_message);
    values = values;
    met = met;
    greatest_is = taken.same.greatest ∙ greatest_before;
    slots_are = taken.same.slots ∙ slots_before;
    hold_off_is = taken.same.hold_off ∙ hold_before;
  }
    where
      ended : Ends is_true start final.0 view
      ended = ends is_true start final.0 id view final.1.0 final.1.1 all free

      found : (word x : ℕ) → get_elem? words word ≡ some x → slice_index final.0.words word ≡ x
      found word x e = ap (λ (ws : List ℕ). slice_index ws word) final.2 ∙ at_index words word x e

      word_is : (word x : ℕ) → word < size_of start → get_elem? words word ≡ some x → x ≡ max (slice_index (marks_at start) word) (greatest 0 (map (made_by word) seats))
      word_is word x l e = sym (found word x e) ∙ (ended.marks_are word l ∙ ap (max (slice_index (marks_at start) word)) (gathers.made word))

      floor_is : (slot : ℕ) → slot < slots → slice_index after.floors.items slot ≡ max (start_floor start slot) (greatest 0 (map (made_by (floor_word slot)) seats))
      floor_is slot l = word_is (floor_word slot) (slice_index after.floors.items slot) (omega (arith, l, size_is)) (taken.floors slot l)
          ∙ ap (λ (n : ℕ). max n (greatest 0 (map (made_by (floor_word slot)) seats))) (floor_mark start.template_check start.message_check start.floors.value.items slot)

      seen_is : (seat : SeatState P) (word x : ℕ) → Contains seats seat → word < size_of start → get_elem? words word ≡ some x → seen_at word seat.view.marks ≤ x
      seen_is seat word x c l e = subst (λ (n : ℕ). seen_at word seat.view.marks ≤ n) (found word x e) (le_trans (gathers.seen seat word c) (ended.seen_low word l))

      after_slots : after.slots ≡ slots
      after_slots = taken.same.slots ∙ slots_before

      -- what stands in a row that came back
      stood : (slot : ℕ) (p : Part) (key : Title) (cached : Cached P) → slot ≡ slot_of key slots → Stands after.rows.items slot (slice_index after.floors.items slot) p key cached → is_true p key cached × IsKnown share seats p key cached
      stood slot p key cached at s =
          let long = taken.rows_long in
          let got = got_below after.rows.items slot s.row s.there in
          let below : slot < slots = omega (arith, got, long) in
          let kept : Handed P = record { key = key; value = s.value } in
          let was = taken.rows slot s.row s.there in
          let row = ended.rows_are slot (subst (λ (n : ℕ). slot < n) slots_are below) in
          let same : row.0 ≡ was.0 = some-injective row.0 was.0 (sym (final.4 slot row.0 row.1) ∙ was.1) in
          let is : IsIn p row.0 kept = subst (λ (r : Row P). IsIn p r kept) (sym same) (unlowered (slice_index after.floors.items slot) was.0 s.row p kept was.2 s.is_in) in
          let rose : start_floor start slot ≤ slice_index after.floors.items slot
          = (let a : ℕ = slice_index after.floors.items slot in let b : ℕ = start_floor start slot in let d : ℕ = greatest 0 (map (made_by (floor_word slot)) seats) in let e : a ≡ max b d = floor_is slot below in omega (arith, e)) in
          left_known slot row.0 p kept cached slots_are gathers row.2 is at s.shows (lower (start_floor start slot) (slice_index after.floors.items slot) p cached rose s.above)

      values : (p : Part) (key : Title) (cached : Cached P) → place_of p (map_of (state_of after)) key cached → is_true p key cached × IsKnown share seats p key cached
      values part.Main key cached e = stood (slot_of key after.slots) part.Main key cached (ap (slot_of key) after_slots) (stands_main after.rows.items (slot_of key after.slots) (slice_index after.floors.items (slot_of key after.slots)) key cached e)
      values part.Interim key cached e = stood (slot_of key after.slots) part.Interim key cached (ap (slot_of key) after_slots) (stands_interim after.rows.items (slot_of key after.slots) (slice_index after.floors.items (slot_of key after.slots)) key cached e)

      met : (seat : SeatState P) (p : Part) (key : Title) (cached : Cached P) → Contains seats seat → HasMet seat.view slots p key cached → IsAbove (slice_index start.floors.value.items (slot_of key slots)) p cached → is_true p key cached × IsKnown share seats p key cached
      met seat p key cached c m above =
          left_known m.met.slot m.met.row p (record { key = key; value = m.value }) cached slots_are gathers (ended.met_are m.met (gathers.met seat m.met c m.one)) m.is_in (sym m.slot_is) m.shows
          (subst (λ (n : ℕ). IsAbove (start_floor start n) p cached) m.slot_is above)
