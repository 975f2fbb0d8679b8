-- The rows after a use of a key, and after the key went whose use was oldest. The oldest is the key of the least number,
-- and there is one such key only, since uses and keys are one relation.
use Rattle.std.proofs.Common.{ℕ, ◌≡◌, ◌≢◌, ◌⊎◌, ◌<◌, ◌≤◌, cond, List, [], ◌∷◌, length, Option, Some, None, IsSome, refl, sym, ap, ◌∙◌, arith, inl, inr, subst}
use Rattle.std.specs.BTreeMap.{BTreeMap, btree_map_len, is_at}
use Rattle.std.specs.Map.{lookup}
use Rattle.std.proofs.lemmas.Bool.{cases_eq, false≢true}
use Rattle.wiki_titles.specs.Order.{bytes_cmp}
use Rattle.wan_cache.specs.declared.cache_row.CacheRow.{CacheRow}
use Rattle.wan_cache.specs.CacheRow.{floor_in, last_use, IsRenewed, is_key, floor_under}
use Rattle.wan_cache.specs.RecentUses.{key_in, IsInOrder}
use Rattle.wan_cache.specs.MapCache.{row_at, used_at, used_in, IsTable, Claims, StaysOrGoes, IsOldest, MakesRoom}
use Rattle.wan_cache.proofs.Keys.{found_itself, found_other, either_key}
use Rattle.wan_cache.proofs.Orders.{newest, without, unchanged}

-- what there is
pub some_is : {A : Type 0} (o : Option A) → IsSome o → (x : A) × (o ≡ Some x)
some_is None h = absurd (false≢true h)
some_is (Some x) h = (x, refl)

-- a change of the rows that leaves all uses leaves the room that was made
pub room_after : (uses middle last : List ℕ → Option ℕ) (key : List ℕ) (count capacity : ℕ) → MakesRoom uses middle key count capacity
    → ((q : List ℕ) → last q ≡ middle q) → MakesRoom uses last key count capacity
room_after uses middle last key count capacity room same = record {
  goes = λ q apart differ. let r = room.goes q apart (λ e. differ (e ∙ sym (same q))) in (r.0, r.1, r.2, same q ∙ r.3);
  leaves = λ q absent full old. same q ∙ room.leaves q absent full old;
}

module _ {P : Type 0} where
  pub renewed_use : (old new : Option (CacheRow P)) (next : ℕ) → IsRenewed old new next → last_use new ≡ Some next
  renewed_use old None next h = absurd h
  renewed_use None (Some new) next h = ap Some h.3
  renewed_use (Some old) (Some new) next h = ap Some h.1

  -- The rows and the uses before a use of the key and after it; all other keys stay.
  module _ (rows new_rows : List ℕ → Option (CacheRow P)) (keys new_keys : ℕ → Option (List ℕ)) (next : ℕ) (key : List ℕ)
      (known : IsInOrder (λ q. last_use (rows q)) keys) (free : keys next ≡ None)
      (itself : IsRenewed (rows key) (new_rows key) next)
      (others : (q : List ℕ) → q ≢ key → new_rows q ≡ rows q) where
    pub known_old : (before : ℕ) → last_use (rows key) ≡ Some before → (before ≢ next → new_keys next ≡ Some key)
        → ((p : ℕ) → p ≢ next → p ≢ before → new_keys p ≡ keys p) → new_keys before ≡ None
        → IsInOrder (λ q. last_use (new_rows q)) new_keys
    known_old before there place places left =
        let apart : before ≢ next = λ e. let k : keys before ≡ Some key = known.there key before there in let g : keys before ≡ keys next = ap keys e in let f = free in cc in
        newest (λ q. last_use (rows q)) (λ q. last_use (new_rows q)) keys new_keys next key (Some before) known (record {
          was = there;
          used = renewed_use (rows key) (new_rows key) next itself;
          others = λ q apart. ap last_use (others q apart);
          place = place apart;
          free = free;
          places = λ p apart other. places p apart (λ e. other (ap Some e));
          left = λ p same apart. let e : p ≡ before = cc in ap new_keys e ∙ left;
        })

    pub known_new : last_use (rows key) ≡ None → new_keys next ≡ Some key → ((p : ℕ) → p ≢ next → new_keys p ≡ keys p)
        → IsInOrder (λ q. last_use (new_rows q)) new_keys
    known_new absent place places = newest (λ q. last_use (rows q)) (λ q. last_use (new_rows q)) keys new_keys next key None known (record {
      was = absent;
      used = renewed_use (rows key) (new_rows key) next itself;
      others = λ q apart. ap last_use (others q apart);
      place = place;
      free = free;
      places = λ p apart other. places p apart;
      left = λ p same apart. absurd cc;
    })

    pub claims_same : Claims rows new_rows key next 0
    claims_same = record { itself = itself; others = λ q apart. inl (others q apart); source = (key, omega arith); whose = inl refl }

    -- no other key goes
    pub room_same : (count capacity : ℕ) → ((q : List ℕ) → last_use (rows key) ≡ None → capacity ≤ count → IsOldest (λ q. last_use (rows q)) q → last_use (new_rows q) ≡ None)
        → MakesRoom (λ q. last_use (rows q)) (λ q. last_use (new_rows q)) key count capacity
    room_same count capacity leaves = record { goes = λ q apart differ. absurd (differ (ap last_use (sym (others q apart)))); leaves = leaves }

    -- Then the key that has this use goes.
    module _ (last_rows : List ℕ → Option (CacheRow P)) (last_keys : ℕ → Option (List ℕ)) (place : ℕ) (oldest : List ℕ)
        (absent : last_use (rows key) ≡ None)
        (placed : new_keys next ≡ Some key) (places : (p : ℕ) → p ≢ next → new_keys p ≡ keys p)
        (there : keys place ≡ Some oldest)
        (went : (q : List ℕ) → last_rows q ≡ cond (is_key (new_keys place) q) None (new_rows q))
        (left : last_keys place ≡ None) (last_places : (p : ℕ) → p ≢ place → last_keys p ≡ new_keys p) where
      pub still_there : new_keys place ≡ Some oldest
      still_there = places place (λ e. let g : keys place ≡ keys next = ap keys e in let f = free in let h = there in cc) ∙ there

      was_used : last_use (rows oldest) ≡ Some place
      was_used = known.back place oldest there

      not_itself : oldest ≢ key
      not_itself e = let a : last_use (rows oldest) ≡ last_use (rows key) = ap (λ q. last_use (rows q)) e in let b = was_used in let c = absent in cc

      itself_apart : key ≢ oldest
      itself_apart e = not_itself (sym e)

      went_there : last_rows oldest ≡ None
      went_there = went oldest ∙ rw (still_there, found_itself oldest) refl

      stays : (q : List ℕ) → q ≢ oldest → last_rows q ≡ new_rows q
      stays q apart = went q ∙ rw (still_there, found_other oldest q apart) refl

      pub known_last : IsInOrder (λ q. last_use (last_rows q)) last_keys
      known_last = without (λ q. last_use (new_rows q)) (λ q. last_use (last_rows q)) new_keys last_keys next oldest place (known_new absent placed places) (record {
        was = still_there;
        used = ap last_use went_there;
        others = λ q apart. ap last_use (stays q apart);
        empty = left;
        places = last_places;
      })

      old_floor : floor_in (rows oldest) ≡ floor_under new_rows (new_keys place)
      old_floor = let e : floor_under new_rows (new_keys place) ≡ floor_in (new_rows oldest) = ap (floor_under new_rows) still_there in let f : floor_in (new_rows oldest) ≡ floor_in (rows oldest) = ap floor_in (others oldest not_itself) in sym (e ∙ f)

      pub claims_last : (gone : ℕ) → gone ≡ floor_under new_rows (new_keys place) → Claims rows last_rows key next gone
      claims_last gone told = record {
        itself = subst (λ r. IsRenewed (rows key) r next) (sym (stays key itself_apart)) itself;
        others = λ q apart. other q apart (either_key oldest q);
        source = (oldest, let f = old_floor in omega (arith, told, f));
        whose = inr (record { from = oldest; other = not_itself; went = went_there; floor = told ∙ sym old_floor });
      }
        where
          other : (q : List ℕ) → q ≢ key → (q ≡ oldest) ⊎ (q ≢ oldest) → StaysOrGoes (rows q) (last_rows q) gone
          other q apart (inl same) = inr (ap last_rows same ∙ went_there, ap (λ q. floor_in (rows q)) same ∙ old_floor ∙ sym told)
          other q apart (inr differ) = inl (stays q differ ∙ others q apart)

      is_oldest : ((p : ℕ) (q : List ℕ) → keys p ≡ Some q → place ≤ p) → IsOldest (λ q. last_use (rows q)) oldest
      is_oldest first = record { number = place; there = was_used; least = λ q p e. first p q (known.there q p e) }

      only_one : ((p : ℕ) (q : List ℕ) → keys p ≡ Some q → place ≤ p) → (q : List ℕ) → IsOldest (λ q. last_use (rows q)) q → q ≡ oldest
      only_one first q old =
          let a : place ≤ old.number = first old.number q (known.there q old.number old.there) in
          let b : old.number ≤ place = old.least oldest place was_used in
          let e : old.number ≡ place = omega (arith, a, b) in
          let k : keys old.number ≡ Some q = known.there q old.number old.there in
          let k2 : keys old.number ≡ keys place = ap keys e in
          let k3 = there in cc

      pub room_last : (count capacity : ℕ) → capacity ≤ count → ((p : ℕ) (q : List ℕ) → keys p ≡ Some q → place ≤ p)
          → MakesRoom (λ q. last_use (rows q)) (λ q. last_use (last_rows q)) key count capacity
      room_last count capacity full first = record {
        goes = λ q apart differ. goes q apart differ (either_key oldest q);
        leaves = λ q a f old. let e = only_one first q old in ap (λ q. last_use (last_rows q)) e ∙ ap last_use went_there;
      }
        where
          goes : (q : List ℕ) → q ≢ key → last_use (rows q) ≢ last_use (last_rows q) → (q ≡ oldest) ⊎ (q ≢ oldest)
              → (last_use (rows key) ≡ None) × (capacity ≤ count) × IsOldest (λ q. last_use (rows q)) q × (last_use (last_rows q) ≡ None)
          goes q apart differ (inl same) = (absent, full, subst (IsOldest (λ q. last_use (rows q))) (sym same) (is_oldest first), ap (λ q. last_use (last_rows q)) same ∙ ap last_use went_there)
          goes q apart differ (inr other) = absurd (differ (ap last_use (sym (others q apart) ∙ sym (stays q other))))

  -- a map with an entry has a key
  pub some_key : (rows : BTreeMap (List ℕ) (CacheRow P)) → 0 < btree_map_len rows → (key : List ℕ) × IsSome (row_at rows key)
  some_key rows l = first rows.entries l
    where
      first : (es : List (List ℕ × CacheRow P)) → 0 < length es → (key : List ℕ) × IsSome (lookup (is_at (bytes_cmp key)) es)
      first [] l = absurd (omega (arith, l))
      first (e ∷ es) l = (e.0, rw (found_itself e.0) refl)

  some_use : (row : Option (CacheRow P)) → IsSome row → (place : ℕ) × (last_use row ≡ Some place)
  some_use None h = absurd (false≢true h)
  some_use (Some row) h = (row.used, refl)

  -- where there is no use there is no row
  pub no_use : (rows : BTreeMap (List ℕ) (CacheRow P)) (keys : ℕ → Option (List ℕ)) → IsInOrder (used_at rows) keys → ((p : ℕ) → keys p ≡ None) → btree_map_len rows ≡ 0
  no_use rows keys known none = by (cases_eq (btree_map_len rows) 0)
    where
      by : (btree_map_len rows ≡ 0) ⊎ (btree_map_len rows ≢ 0) → btree_map_len rows ≡ 0
      by (inl e) = e
      by (inr n) =
          let l : 0 < btree_map_len rows = omega (arith, n) in
          let k = some_key rows l in
          let u = some_use (row_at rows k.0) k.1 in
          let h : keys u.0 ≡ Some k.0 = known.there k.0 u.0 u.1 in
          let h2 = none u.0 in absurd cc

  pub renewed_some : (old new : Option (CacheRow P)) (next : ℕ) → IsRenewed old new next → IsSome new
  renewed_some old None next h = absurd h
  renewed_some None (Some new) next h = refl
  renewed_some (Some old) (Some new) next h = refl

  -- the rows have changed, but no use and no number of keys
  pub same_table : (rows new_rows : List (List ℕ × CacheRow P)) (keys : List (ℕ × List ℕ)) (capacity : ℕ) → IsTable rows keys capacity
      → ((q : List ℕ) → used_in new_rows q ≡ used_in rows q) → length new_rows ≡ length rows → IsTable new_rows keys capacity
  same_table rows new_rows keys capacity known same len = record {
    in_order = unchanged (used_in rows) (used_in new_rows) (key_in keys) (key_in keys) 0 [] known.in_order same (λ p. refl);
    fits = let f = known.fits in omega (arith, f, len);
    room = known.room;
  }
