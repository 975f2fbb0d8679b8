-- A new cache is empty: each floor is 0, and no row has a value, so that no key is shown one.
use Rattle.std.proofs.Common.{ℕ, zero, suc, ◌≡◌, List, replicate, Option, Some, None, refl, ap, ◌∙◌, bytes_eq}
use Rattle.std.proofs.Math.ListN.{get_or}
use Rattle.std.specs.Global.{Box}
use Rattle.wiki_model.specs.Titles.{Title}
use Rattle.wiki_model.specs.Cache.{not_below, IsEmptyCache}
use Rattle.wan_value.specs.declared.Value.{Value}
use Rattle.wan_cache.specs.Rules.{shown}
use Rattle.slot_cache.specs.declared.slot_row.SlotRow.{SlotRow}
use Rattle.slot_cache.specs.Slots.{slot_of}
use Rattle.slot_cache.specs.SlotRow.{if_same, main_for, interim_for}
use Rattle.slot_cache.specs.SlotCache.{row_in, AreEmpty}
use Rattle.slot_cache.specs.AsModel.{map_of}

no_floor : (slots i : ℕ) → get_or (replicate slots zero) i zero ≡ zero
no_floor zero i = refl
no_floor (suc slots) zero = refl
no_floor (suc slots) (suc i) = no_floor slots i

module _ {P : Type 0} where
  pub begins_empty : (slots hold_off : ℕ) (floors : List ℕ) (rows : List (Box (SlotRow P))) → floors ≡ replicate slots 0 → AreEmpty rows
      → IsEmptyCache (map_of (record { slots = slots; floors = floors; rows = rows; template_check = 0; message_check = 0; greatest = 0; hold_off = hold_off }))
  begins_empty slots hold_off floors rows floors_are empty = record {
    keys = λ key. (floor_is key, main_is key (row_in rows (slot_of key slots)) refl, interim_is key (row_in rows (slot_of key slots)) refl);
    checks = refl;
    greatest = refl;
    shared = refl;
  }
    where
      floor_is : (key : Title) → get_or floors (slot_of key slots) 0 ≡ 0
      floor_is key = ap (λ (fs : List ℕ). get_or fs (slot_of key slots) 0) floors_are ∙ no_floor slots (slot_of key slots)

      main_is : (key : Title) (o : Option (SlotRow P)) → row_in rows (slot_of key slots) ≡ o → not_below (get_or floors (slot_of key slots) 0) (shown (main_for (row_in rows (slot_of key slots)) key)) ≡ None
      main_is key None e = ap (λ (o : Option (SlotRow P)). not_below (get_or floors (slot_of key slots) 0) (shown (main_for o key))) e
      main_is key (Some row) e = ap (λ (o : Option (SlotRow P)). not_below (get_or floors (slot_of key slots) 0) (shown (main_for o key))) e
          ∙ ap (λ (place : Option (Value P)). not_below (get_or floors (slot_of key slots) 0) (shown (if_same (bytes_eq row.key key) place))) (empty (slot_of key slots) row e).0

      interim_is : (key : Title) (o : Option (SlotRow P)) → row_in rows (slot_of key slots) ≡ o → shown (interim_for (row_in rows (slot_of key slots)) key) ≡ None
      interim_is key None e = ap (λ (o : Option (SlotRow P)). shown (interim_for o key)) e
      interim_is key (Some row) e = ap (λ (o : Option (SlotRow P)). shown (interim_for o key)) e
          ∙ ap (λ (place : Option (Value P)). shown (if_same (bytes_eq row.key key) place)) (empty (slot_of key slots) row e).1
