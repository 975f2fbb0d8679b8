-- Puts and purges of the rows are puts and purges of the map that they stand for: a floor falls only at the eviction of its key,
-- and then the floor under all keys takes its place if it is still to come.
use Rattle.std.proofs.Common.{ℕ, ◌≡◌, ◌≢◌, ◌⊎◌, ◌+◌, ◌<◌, ◌≤◌, max, Bool, true, false, cond, Option, Some, None, refl, sym, ap, ◌∙◌, arith, inl, inr, nat_lt, subst, IfSome}
use Rattle.std.proofs.lemmas.Bool.Decides.{nat_tests}
use Rattle.wiki_model.specs.declared.Put.{Put}
use Rattle.wiki_model.specs.Titles.{Title}
use Rattle.wiki_model.specs.Cache.{Cached, not_below, is_held, MayGo, Forgets, Puts, Purges, Places, SameKey, check, IsCache}
use Rattle.wan_cache.specs.declared.cache_row.CacheRow.{CacheRow}
use Rattle.wan_cache.specs.CacheRow.{floor_in, main_in, interim_in, last_use, IsRenewed, StoresAt, RaisesAt, DropsMain}
use Rattle.wan_cache.specs.MapCache.{MapState, row_in, raised, StaysOrGoes, Uses, Stored, Purged, PurgedAll, SameRows, PutDoes, PurgeDoes}
use Rattle.wan_cache.specs.AsModel.{floor_at, map_of}
use Rattle.wan_cache.proofs.Keys.{either_key}

raised_up : (base now gone : ℕ) → base ≤ raised base now gone
raised_up base now gone = grind (arith, nat_tests)

module _ {P : Type 0} where
  not_below_twice : (low high : ℕ) (o : Option (Cached P)) → low ≤ high → not_below high (not_below low o) ≡ not_below high o
  not_below_twice low high None l = refl
  not_below_twice low high (Some v) l = by (nat_lt v.set_at low) refl
    where
      by : (b : Bool) → nat_lt v.set_at low ≡ b → not_below high (cond b None (Some v)) ≡ not_below high (Some v)
      by true h = let up : nat_lt v.set_at high ≡ true = grind (arith, nat_tests, h, l) in rw up refl
      by false h = refl

  not_below_goes : (low high : ℕ) (o : Option (Cached P)) → low ≤ high → MayGo (not_below low o) (not_below high o)
  not_below_goes low high None l = inl refl
  not_below_goes low high (Some v) l = by (nat_lt v.set_at low) (nat_lt v.set_at high) refl refl
    where
      by : (a b : Bool) → nat_lt v.set_at low ≡ a → nat_lt v.set_at high ≡ b → MayGo (cond a None (Some v)) (cond b None (Some v))
      by a true h k = inr refl
      by false false h k = inl refl
      by true false h k = absurd (grind (arith, nat_tests, h, k, l))

  not_below_free : (floor check at : ℕ) (v : Cached P) → is_held floor check at ≡ false → v.set_at ≡ at → not_below floor (Some v) ≡ Some v
  not_below_free floor check at v free same = by (nat_lt v.set_at floor) refl
    where
      by : (b : Bool) → nat_lt v.set_at floor ≡ b → cond b None (Some v) ≡ Some v
      by true h = absurd (grind (arith, nat_tests, h, free, same))
      by false h = refl

  -- what a renewed row keeps
  pub renewed_floor : (old new : Option (CacheRow P)) (next : ℕ) → IsRenewed old new next → floor_in new ≡ floor_in old
  renewed_floor old None next h = absurd h
  renewed_floor None (Some new) next h = h.0
  renewed_floor (Some old) (Some new) next h = h.0

  renewed_main : (old new : Option (CacheRow P)) (next : ℕ) → IsRenewed old new next → main_in new ≡ main_in old
  renewed_main old None next h = absurd h
  renewed_main None (Some new) next h = rw h.1 refl
  renewed_main (Some old) (Some new) next h = h.2

  renewed_interim : (old new : Option (CacheRow P)) (next : ℕ) → IsRenewed old new next → interim_in new ≡ interim_in old
  renewed_interim old None next h = absurd h
  renewed_interim None (Some new) next h = rw h.2 refl
  renewed_interim (Some old) (Some new) next h = h.3

  -- the floor of a key, before and after a use of some key
  module _ (old new : Title → Option (CacheRow P)) (base new_base : ℕ) (key : Title) (next now : ℕ) (used : Uses old new base new_base key next now) where
    pub base_up : base ≤ new_base
    base_up = let h = raised_up base now used.gone in omega (arith, h, used.raise)

    pub base_of : (new_base ≡ base) ⊎ (new_base ≤ max base (floor_in (old used.claims.source.0)))
    base_of = by (nat_lt now used.gone) refl
      where
        by : (b : Bool) → nat_lt now used.gone ≡ b → (new_base ≡ base) ⊎ (new_base ≤ max base (floor_in (old used.claims.source.0)))
        by true h = let e : new_base ≡ max base used.gone = used.raise ∙ rw h refl in let s = used.claims.source.1 in inr (omega (arith, e, s))
        by false h = inl (used.raise ∙ rw h refl)

    -- each floor after it is at most one before it
    pub below_one : (f : ℕ) (other : Title) → f ≤ max new_base (floor_in (old other)) → (from : Title) × (true ≡ true) × (f ≤ max base (floor_in (old from)))
    below_one f other l = by base_of
      where
        by_size : (b : Bool) → nat_lt (floor_in (old other)) f ≡ b → new_base ≤ max base (floor_in (old used.claims.source.0)) → (from : Title) × (true ≡ true) × (f ≤ max base (floor_in (old from)))
        by_size true h m = let h1 : floor_in (old other) < f = grind (arith, nat_tests, h) in (used.claims.source.0, refl, omega (arith, l, m, h1))
        by_size false h m = let h1 : f ≤ floor_in (old other) = grind (arith, nat_tests, h) in (other, refl, omega (arith, h1))

        by : (new_base ≡ base) ⊎ (new_base ≤ max base (floor_in (old used.claims.source.0))) → (from : Title) × (true ≡ true) × (f ≤ max base (floor_in (old from)))
        by (inl e) = (other, refl, omega (arith, e, l))
        by (inr m) = by_size (nat_lt (floor_in (old other)) f) refl m

    pub key_floor : floor_in (new key) ≡ floor_in (old key)
    key_floor = renewed_floor (old key) (new key) next used.claims.itself

    -- another key's floor is not above this
    pub other_below : (q : Title) → q ≢ key → floor_in (new q) ≤ floor_in (old q)
    other_below q apart = by (used.claims.others q apart)
      where
        by : StaysOrGoes (old q) (new q) used.gone → floor_in (new q) ≤ floor_in (old q)
        by (inl same) = let e = ap floor_in same in omega (arith, e)
        by (inr went) = let e = ap floor_in went.0 in omega (arith, e)

    -- a floor falls only where it is not to come
    pub other_forgets : (q : Title) → q ≢ key → Forgets now (max base (floor_in (old q))) (max new_base (floor_in (new q)))
    other_forgets q apart = by (used.claims.others q apart)
      where
        by_moment : (b : Bool) → nat_lt now used.gone ≡ b → floor_in (old q) ≡ used.gone → Forgets now (max base (floor_in (old q))) (max new_base (floor_in (new q)))
        by_moment true h f = let e : new_base ≡ max base used.gone = used.raise ∙ rw h refl in inl (omega (arith, e, f))
        by_moment false h f = by_base (nat_lt base used.gone) refl
          where
            by_base : (b : Bool) → nat_lt base used.gone ≡ b → Forgets now (max base (floor_in (old q))) (max new_base (floor_in (new q)))
            by_base true k = let n : used.gone ≤ now = grind (arith, nat_tests, h) in let m : base < used.gone = grind (arith, nat_tests, k) in inr (omega (arith, n, m, f))
            by_base false k = let m : used.gone ≤ base = grind (arith, nat_tests, k) in let u = base_up in inl (omega (arith, m, f, u))

        by : StaysOrGoes (old q) (new q) used.gone → Forgets now (max base (floor_in (old q))) (max new_base (floor_in (new q)))
        by (inl same) = let e = ap floor_in same in let u = base_up in inl (omega (arith, e, u))
        by (inr went) = by_moment (nat_lt now used.gone) refl went.1

    pub other_values : (q : Title) → q ≢ key
        → MayGo (not_below (max base (floor_in (old q))) (main_in (old q))) (not_below (max new_base (floor_in (new q))) (main_in (new q)))
        × MayGo (interim_in (old q)) (interim_in (new q))
    other_values q apart = by (new q) (used.claims.others q apart)
      where
        by : (n : Option (CacheRow P)) → StaysOrGoes (old q) n used.gone
            → MayGo (not_below (max base (floor_in (old q))) (main_in (old q))) (not_below (max new_base (floor_in n)) (main_in n))
            × MayGo (interim_in (old q)) (interim_in n)
        by n (inl same) = subst (λ n. MayGo (not_below (max base (floor_in (old q))) (main_in (old q))) (not_below (max new_base (floor_in n)) (main_in n)) × MayGo (interim_in (old q)) (interim_in n)) (sym same)
            (let u = base_up in not_below_goes (max base (floor_in (old q))) (max new_base (floor_in (old q))) (main_in (old q)) (omega (arith, u)), inl refl)
        by n (inr went) = subst (λ n. MayGo (not_below (max base (floor_in (old q))) (main_in (old q))) (not_below (max new_base (floor_in n)) (main_in n)) × MayGo (interim_in (old q)) (interim_in n)) (sym went.0)
            (inr refl, inr refl)

  -- a put's row: its floor is that of the renewed row
  pub stored_floor : (middle new : Option (CacheRow P)) (base check : ℕ) (value : Cached P) (answer : Put) → StoresAt middle new base check value answer → floor_in new ≡ floor_in middle
  stored_floor None new base check value answer h = absurd h
  stored_floor (Some middle) None base check value answer h = absurd h
  stored_floor (Some middle) (Some new) base check value answer h = h.0.0

  -- what no call changes
  pub record SameRest (old new : MapState P) (now : ℕ) : Type 0 where
    pub template : new.template_check ≡ old.template_check
    pub message : new.message_check ≡ old.message_check
    pub greatest : new.greatest ≡ now
    pub hold_off : new.hold_off ≡ old.hold_off

  module _ (old new : MapState P) (key : Title) (value : Cached P) (next : ℕ) where
    -- what a put into a row is in the map
    placed_by : (answer : Put) (middle row : Option (CacheRow P)) → IsRenewed (row_in old.rows key) middle next → row_in new.rows key ≡ row → old.base ≤ new.base
        → StoresAt middle row new.base (check (map_of old)) value answer → Places (map_of old) (map_of new) key value answer
    placed_by answer None row renewed is up stored = absurd stored
    placed_by answer (Some middle) None renewed is up stored = absurd stored
    placed_by (Put.Busy holder) (Some middle) (Some row) renewed is up stored = absurd stored.1
    placed_by Put.Memory (Some middle) (Some row) renewed is up stored = absurd stored.1
    placed_by Put.Main (Some middle) (Some row) renewed is up stored =
        let f : floor_in (row_in new.rows key) ≡ middle.floor = ap floor_in is ∙ stored.0.0 in
        let at : floor_at new key ≡ max new.base middle.floor = ap (λ n. max new.base n) f in
        let free : is_held (floor_at new key) (check (map_of old)) value.set_at ≡ false = ap (λ n. is_held n (check (map_of old)) value.set_at) at ∙ stored.1.0 in
        let m : main_in (row_in new.rows key) ≡ Some value = ap main_in is ∙ stored.1.1 in
        let i : interim_in (row_in new.rows key) ≡ interim_in (row_in old.rows key) = ap interim_in is ∙ stored.1.2 ∙ renewed_interim (row_in old.rows key) (Some middle) next renewed in
        (free, ap (not_below (floor_at new key)) m ∙ not_below_free (floor_at new key) (check (map_of old)) value.set_at value free refl, i)
    placed_by Put.Interim (Some middle) (Some row) renewed is up stored =
        let f : floor_in (row_in new.rows key) ≡ middle.floor = ap floor_in is ∙ stored.0.0 in
        let at : floor_at new key ≡ max new.base middle.floor = ap (λ n. max new.base n) f in
        let g : middle.floor ≡ floor_in (row_in old.rows key) = renewed_floor (row_in old.rows key) (Some middle) next renewed in
        let l : floor_at old key ≤ floor_at new key = omega (arith, at, g, up) in
        let m : main_in (row_in new.rows key) ≡ main_in (row_in old.rows key) = ap main_in is ∙ stored.1.3 ∙ renewed_main (row_in old.rows key) (Some middle) next renewed in (
          ap (λ n. is_held n (check (map_of old)) value.set_at) at ∙ stored.1.0,
          stored.1.1,
          ap interim_in is ∙ stored.1.2,
          ap (not_below (floor_at new key)) m ∙ sym (not_below_twice (floor_at old key) (floor_at new key) (main_in (row_in old.rows key)) l),
        )
    placed_by (Put.Held until) (Some middle) (Some row) renewed is up stored =
        let f : floor_in (row_in new.rows key) ≡ middle.floor = ap floor_in is ∙ stored.0.0 in
        let at : floor_at new key ≡ max new.base middle.floor = ap (λ n. max new.base n) f in
        let g : middle.floor ≡ floor_in (row_in old.rows key) = renewed_floor (row_in old.rows key) (Some middle) next renewed in
        let l : floor_at old key ≤ floor_at new key = omega (arith, at, g, up) in
        let m : main_in (row_in new.rows key) ≡ main_in (row_in old.rows key) = ap main_in is ∙ stored.1.4 ∙ renewed_main (row_in old.rows key) (Some middle) next renewed in
        let i : interim_in (row_in new.rows key) ≡ interim_in (row_in old.rows key) = ap interim_in is ∙ stored.1.3 ∙ renewed_interim (row_in old.rows key) (Some middle) next renewed in (
          ap (λ n. is_held n (check (map_of old)) value.set_at) at ∙ stored.1.0,
          stored.1.1,
          stored.1.2 ∙ ap (λ n. cond (nat_lt value.set_at n) n (check (map_of old))) (sym at),
          i,
          ap (not_below (floor_at new key)) m ∙ sym (not_below_twice (floor_at old key) (floor_at new key) (main_in (row_in old.rows key)) l),
        )

    -- a put
    pub put_by : (answer : Put) → Stored (row_in old.rows) (row_in new.rows) old.base new.base key next (check (map_of old)) value answer → SameRest old new value.set_at → Puts (map_of old) (map_of new) key value answer
    put_by answer stored same = record {
      placed = placed_by answer (stored.middle key) (row_in new.rows key) stored.used.claims.itself refl up stored.itself;
      floors = λ other near. floors other (either_key key other);
      neighbors = λ other apart near. subst (λ r. MayGo (not_below (floor_at old other) (main_in (row_in old.rows other))) (not_below (max new.base (floor_in r)) (main_in r)) × MayGo (interim_in (row_in old.rows other)) (interim_in r)) (sym (stored.others other apart)) (other_values rows middle old.base new.base key next value.set_at stored.used other apart);
      others = λ other near. absurd cc;
      checks = record { template = same.template; message = same.message };
      greatest = same.greatest;
      same = record { together = refl; shared = refl; hold_off = same.hold_off };
    }
      where
        rows : Title → Option (CacheRow P)
        rows = row_in old.rows

        middle : Title → Option (CacheRow P)
        middle = stored.middle

        up : old.base ≤ new.base
        up = base_up rows middle old.base new.base key next value.set_at stored.used

        floors : (other : Title) → (other ≡ key) ⊎ (other ≢ key) → Forgets value.set_at (floor_at old other) (floor_at new other) × ((from : Title) × (true ≡ true) × (floor_at new other ≤ floor_at old from))
        floors other (inl is) =
            let f : floor_in (row_in new.rows key) ≡ floor_in (row_in old.rows key) = stored_floor (stored.middle key) (row_in new.rows key) new.base (check (map_of old)) value answer stored.itself ∙ renewed_floor (row_in old.rows key) (stored.middle key) next stored.used.claims.itself in
            let g : floor_in (row_in new.rows other) ≡ floor_in (row_in old.rows other) = ap (λ q. floor_in (row_in new.rows q)) is ∙ f ∙ ap (λ q. floor_in (row_in old.rows q)) (sym is) in
            let u = base_up rows stored.middle old.base new.base key next value.set_at stored.used in
            (inl (omega (arith, g, u)), below_one rows stored.middle old.base new.base key next value.set_at stored.used (floor_at new other) other (omega (arith, g)))
        floors other (inr apart) =
            let e : floor_in (row_in new.rows other) ≡ floor_in (stored.middle other) = ap floor_in (stored.others other apart) in
            let b = other_below rows stored.middle old.base new.base key next value.set_at stored.used other apart in (
              subst (λ n. Forgets value.set_at (floor_at old other) (max new.base n)) (sym e) (other_forgets rows stored.middle old.base new.base key next value.set_at stored.used other apart),
              below_one rows stored.middle old.base new.base key next value.set_at stored.used (floor_at new other) other (omega (arith, e, b)),
            )

    -- no floor is above the hold-off of the last moment
    pub put_bounded : (answer : Put) (most : ℕ) → Stored (row_in old.rows) (row_in new.rows) old.base new.base key next (check (map_of old)) value answer
        → ((q : Title) → floor_in (row_in old.rows q) ≤ most) → (q : Title) → floor_in (row_in new.rows q) ≤ most
    put_bounded answer most stored bounded q = by (either_key key q)
      where
        by : (q ≡ key) ⊎ (q ≢ key) → floor_in (row_in new.rows q) ≤ most
        by (inl is) =
            let f : floor_in (row_in new.rows key) ≡ floor_in (row_in old.rows key) = stored_floor (stored.middle key) (row_in new.rows key) new.base (check (map_of old)) value answer stored.itself ∙ renewed_floor (row_in old.rows key) (stored.middle key) next stored.used.claims.itself in
            let g : floor_in (row_in new.rows q) ≡ floor_in (row_in new.rows key) = ap (λ q. floor_in (row_in new.rows q)) is in
            let h = bounded key in omega (arith, f, g, h)
        by (inr apart) =
            let e : floor_in (row_in new.rows q) ≡ floor_in (stored.middle q) = ap floor_in (stored.others q apart) in
            let b = other_below (row_in old.rows) stored.middle old.base new.base key next value.set_at stored.used q apart in
            let h = bounded q in omega (arith, e, b, h)

  -- purges
  pub purged_floor : (middle new : Option (CacheRow P)) (until : ℕ) → RaisesAt middle new until → floor_in new ≡ max (floor_in middle) until
  purged_floor None new until h = absurd h
  purged_floor (Some middle) None until h = absurd h
  purged_floor (Some middle) (Some new) until h = h.0

  purged_main : (middle new : Option (CacheRow P)) (until : ℕ) → RaisesAt middle new until → main_in new ≡ None
  purged_main None new until h = absurd h
  purged_main (Some middle) None until h = absurd h
  purged_main (Some middle) (Some new) until h = rw h.1 refl

  purged_interim : (middle new : Option (CacheRow P)) (until : ℕ) → RaisesAt middle new until → interim_in new ≡ interim_in middle
  purged_interim None new until h = absurd h
  purged_interim (Some middle) None until h = absurd h
  purged_interim (Some middle) (Some new) until h = h.2

  pub dropped_floor : (old new : Option (CacheRow P)) → DropsMain old new → floor_in new ≡ floor_in old
  dropped_floor None None h = refl
  dropped_floor None (Some new) h = absurd h
  dropped_floor (Some old) None h = absurd h
  dropped_floor (Some old) (Some new) h = h.0

  dropped_main : (old new : Option (CacheRow P)) → DropsMain old new → main_in new ≡ None
  dropped_main None None h = refl
  dropped_main None (Some new) h = absurd h
  dropped_main (Some old) None h = absurd h
  dropped_main (Some old) (Some new) h = rw h.1 refl

  dropped_interim : (old new : Option (CacheRow P)) → DropsMain old new → interim_in new ≡ interim_in old
  dropped_interim None None h = refl
  dropped_interim None (Some new) h = absurd h
  dropped_interim (Some old) None h = absurd h
  dropped_interim (Some old) (Some new) h = h.2

  module _ (old new : MapState P) (key : Title) (next now : ℕ) where
    pub purge_by : Purged (row_in old.rows) (row_in new.rows) old.base new.base key next now (now + old.hold_off)
        → ((q : Title) → floor_in (row_in old.rows q) ≤ now + old.hold_off)
        → new.template_check ≡ old.template_check → new.message_check ≡ old.message_check → new.greatest ≡ now → new.hold_off ≡ old.hold_off
        → Purges (map_of old) (map_of new) key now
    purge_by purged bounded template message greatest hold = record {
      floor = let f = at_key in let b = base_below in let u = up in omega (arith, f, b, u);
      main = ap (not_below (floor_at new key)) (purged_main (purged.middle key) (row_in new.rows key) (now + old.hold_off) purged.itself);
      interim = purged_interim (purged.middle key) (row_in new.rows key) (now + old.hold_off) purged.itself ∙ renewed_interim (row_in old.rows key) (purged.middle key) next purged.used.claims.itself;
      neighbor_floors = λ other near. floors other (either_key key other);
      neighbors = λ other apart near. subst (λ r. MayGo (not_below (floor_at old other) (main_in (row_in old.rows other))) (not_below (max new.base (floor_in r)) (main_in r)) × MayGo (interim_in (row_in old.rows other)) (interim_in r)) (sym (purged.others other apart)) (other_values (row_in old.rows) purged.middle old.base new.base key next now purged.used other apart);
      others = λ other near. absurd cc;
      checks = record { template = template; message = message };
      greatest = greatest;
      same = record { together = refl; shared = refl; hold_off = hold };
    }
      where
        up : old.base ≤ new.base
        up = base_up (row_in old.rows) purged.middle old.base new.base key next now purged.used

        at_key : floor_in (row_in new.rows key) ≡ max (floor_in (row_in old.rows key)) (now + old.hold_off)
        at_key = purged_floor (purged.middle key) (row_in new.rows key) (now + old.hold_off) purged.itself
            ∙ ap (λ n. max n (now + old.hold_off)) (renewed_floor (row_in old.rows key) (purged.middle key) next purged.used.claims.itself)

        base_below : new.base ≤ max old.base (now + old.hold_off)
        base_below = by (base_of (row_in old.rows) purged.middle old.base new.base key next now purged.used)
          where
            by : (new.base ≡ old.base) ⊎ (new.base ≤ max old.base (floor_in (row_in old.rows purged.used.claims.source.0))) → new.base ≤ max old.base (now + old.hold_off)
            by (inl e) = omega (arith, e)
            by (inr l) = let b = bounded purged.used.claims.source.0 in omega (arith, l, b)

        floors : (other : Title) → (other ≡ key) ⊎ (other ≢ key) → Forgets now (floor_at old other) (floor_at new other) × (floor_at new other ≤ max (floor_at old other) (now + old.hold_off))
        floors other (inl is) =
            let f = at_key in let b = base_below in let u = up in
            let g : floor_in (row_in new.rows other) ≡ floor_in (row_in new.rows key) = ap (λ q. floor_in (row_in new.rows q)) is in
            let h : floor_in (row_in old.rows other) ≡ floor_in (row_in old.rows key) = ap (λ q. floor_in (row_in old.rows q)) is in
            (inl (omega (arith, f, g, h, u)), omega (arith, f, g, h, b))
        floors other (inr apart) =
            let e : floor_in (row_in new.rows other) ≡ floor_in (purged.middle other) = ap floor_in (purged.others other apart) in
            let b = base_below in
            let l = other_below (row_in old.rows) purged.middle old.base new.base key next now purged.used other apart in (
              subst (λ n. Forgets now (floor_at old other) (max new.base n)) (sym e) (other_forgets (row_in old.rows) purged.middle old.base new.base key next now purged.used other apart),
              omega (arith, e, b, l),
            )

    pub purge_bounded : (most : ℕ) → Purged (row_in old.rows) (row_in new.rows) old.base new.base key next now (now + old.hold_off)
        → ((q : Title) → floor_in (row_in old.rows q) ≤ most) → now + old.hold_off ≤ most → (q : Title) → floor_in (row_in new.rows q) ≤ most
    purge_bounded most purged bounded fits q = by (either_key key q)
      where
        by : (q ≡ key) ⊎ (q ≢ key) → floor_in (row_in new.rows q) ≤ most
        by (inl is) =
            let f = purged_floor (purged.middle key) (row_in new.rows key) (now + old.hold_off) purged.itself in
            let r = renewed_floor (row_in old.rows key) (purged.middle key) next purged.used.claims.itself in
            let g : floor_in (row_in new.rows q) ≡ floor_in (row_in new.rows key) = ap (λ q. floor_in (row_in new.rows q)) is in
            let h = bounded key in omega (arith, f, g, h, r, fits)
        by (inr apart) =
            let e : floor_in (row_in new.rows q) ≡ floor_in (purged.middle q) = ap floor_in (purged.others q apart) in
            let b = other_below (row_in old.rows) purged.middle old.base new.base key next now purged.used q apart in
            let h = bounded q in omega (arith, e, b, h)

    pub purge_all_by : PurgedAll (row_in old.rows) (row_in new.rows) old.base new.base key (now + old.hold_off)
        → new.template_check ≡ old.template_check → new.message_check ≡ old.message_check → new.greatest ≡ now → new.hold_off ≡ old.hold_off
        → Purges (map_of old) (map_of new) key now
    purge_all_by purged template message greatest hold = record {
      floor = let f = dropped_floor (row_in old.rows key) (row_in new.rows key) purged.itself in let b = purged.raise in omega (arith, f, b);
      main = ap (not_below (floor_at new key)) (dropped_main (row_in old.rows key) (row_in new.rows key) purged.itself);
      interim = dropped_interim (row_in old.rows key) (row_in new.rows key) purged.itself;
      neighbor_floors = λ other near. let f = floors other (either_key key other) in let b = purged.raise in (inl (omega (arith, f, b)), omega (arith, f, b));
      neighbors = λ other apart near. subst (λ r. MayGo (not_below (floor_at old other) (main_in (row_in old.rows other))) (not_below (max new.base (floor_in r)) (main_in r)) × MayGo (interim_in (row_in old.rows other)) (interim_in r)) (sym (purged.others other apart)) (let b = purged.raise in not_below_goes (floor_at old other) (max new.base (floor_in (row_in old.rows other))) (main_in (row_in old.rows other)) (omega (arith, b)), inl refl);
      others = λ other near. absurd cc;
      checks = record { template = template; message = message };
      greatest = greatest;
      same = record { together = refl; shared = refl; hold_off = hold };
    }
      where
        floors : (other : Title) → (other ≡ key) ⊎ (other ≢ key) → floor_in (row_in new.rows other) ≡ floor_in (row_in old.rows other)
        floors other (inl is) = ap (λ q. floor_in (row_in new.rows q)) is ∙ dropped_floor (row_in old.rows key) (row_in new.rows key) purged.itself ∙ ap (λ q. floor_in (row_in old.rows q)) (sym is)
        floors other (inr apart) = ap floor_in (purged.others other apart)

    pub purge_all_bounded : (most : ℕ) → PurgedAll (row_in old.rows) (row_in new.rows) old.base new.base key (now + old.hold_off)
        → ((q : Title) → floor_in (row_in old.rows q) ≤ most) → (q : Title) → floor_in (row_in new.rows q) ≤ most
    purge_all_bounded most purged bounded q = by (either_key key q)
      where
        by : (q ≡ key) ⊎ (q ≢ key) → floor_in (row_in new.rows q) ≤ most
        by (inl is) = let e = ap (λ q. floor_in (row_in new.rows q)) is in let f = dropped_floor (row_in old.rows key) (row_in new.rows key) purged.itself in let h = bounded key in omega (arith, e, f, h)
        by (inr apart) = let e = ap floor_in (purged.others q apart) in let h = bounded q in omega (arith, e, h)

  -- as a put and a purge answer
  pub put_does : (old new : Title → Option (CacheRow P)) (base new_base : ℕ) (key : Title) (next check : ℕ) (value : Cached P) (answer : Put)
      → Stored old new base new_base key next check value answer → PutDoes old new base new_base key next check value answer
  put_does old new base new_base key next check value Put.Main stored = stored
  put_does old new base new_base key next check value Put.Interim stored = stored
  put_does old new base new_base key next check value (Put.Held until) stored = stored
  put_does old new base new_base key next check value (Put.Busy holder) stored = absurd (nothing (stored.middle key) (new key) stored.itself)
    where
      nothing : (middle row : Option (CacheRow P)) → StoresAt middle row new_base check value (Put.Busy holder) → ⊥
      nothing None row h = h
      nothing (Some middle) None h = h
      nothing (Some middle) (Some row) h = h.1
  put_does old new base new_base key next check value Put.Memory stored = absurd (nothing (stored.middle key) (new key) stored.itself)
    where
      nothing : (middle row : Option (CacheRow P)) → StoresAt middle row new_base check value Put.Memory → ⊥
      nothing None row h = h
      nothing (Some middle) None h = h
      nothing (Some middle) (Some row) h = h.1

  pub stored_use : (old new : Option (CacheRow P)) (base check : ℕ) (value : Cached P) (answer : Put) → StoresAt old new base check value answer → last_use new ≡ last_use old
  stored_use None new base check value answer h = absurd h
  stored_use (Some old) None base check value answer h = absurd h
  stored_use (Some old) (Some new) base check value answer h = ap Some h.0.1

  pub stored_uses : (old new : Title → Option (CacheRow P)) (key : Title) (base check : ℕ) (value : Cached P) (answer : Put) → StoresAt (old key) (new key) base check value answer
      → ((q : Title) → q ≢ key → new q ≡ old q) → (q : Title) → last_use (new q) ≡ last_use (old q)
  stored_uses old new key base check value answer h others q = by (either_key key q)
    where
      by : (q ≡ key) ⊎ (q ≢ key) → last_use (new q) ≡ last_use (old q)
      by (inl is) = ap (λ q. last_use (new q)) is ∙ stored_use (old key) (new key) base check value answer h ∙ ap (λ q. last_use (old q)) (sym is)
      by (inr apart) = ap last_use (others q apart)

  pub raised_use : (old new : Option (CacheRow P)) (until : ℕ) → RaisesAt old new until → last_use new ≡ last_use old
  raised_use None new until h = absurd h
  raised_use (Some old) None until h = absurd h
  raised_use (Some old) (Some new) until h = ap Some h.3

  pub raised_uses : (old new : Title → Option (CacheRow P)) (key : Title) (until : ℕ) → RaisesAt (old key) (new key) until
      → ((q : Title) → q ≢ key → new q ≡ old q) → (q : Title) → last_use (new q) ≡ last_use (old q)
  raised_uses old new key until h others q = by (either_key key q)
    where
      by : (q ≡ key) ⊎ (q ≢ key) → last_use (new q) ≡ last_use (old q)
      by (inl is) = ap (λ q. last_use (new q)) is ∙ raised_use (old key) (new key) until h ∙ ap (λ q. last_use (old q)) (sym is)
      by (inr apart) = ap last_use (others q apart)

  dropped_use : (old new : Option (CacheRow P)) → DropsMain old new → last_use new ≡ last_use old
  dropped_use None None h = refl
  dropped_use None (Some new) h = absurd h
  dropped_use (Some old) None h = absurd h
  dropped_use (Some old) (Some new) h = ap Some h.3

  pub dropped_uses : (old new : Title → Option (CacheRow P)) (key : Title) → DropsMain (old key) (new key)
      → ((q : Title) → q ≢ key → new q ≡ old q) → (q : Title) → last_use (new q) ≡ last_use (old q)
  dropped_uses old new key h others q = by (either_key key q)
    where
      by : (q ≡ key) ⊎ (q ≢ key) → last_use (new q) ≡ last_use (old q)
      by (inl is) = ap (λ q. last_use (new q)) is ∙ dropped_use (old key) (new key) h ∙ ap (λ q. last_use (old q)) (sym is)
      by (inr apart) = ap last_use (others q apart)

  same_puts : (old new : MapState P) (key : Title) (value : Cached P) → SameRows (row_in old.rows) (row_in new.rows) old.base new.base → SameRest old new value.set_at
      → Puts (map_of old) (map_of new) key value Put.Memory
  same_puts old new key value same rest = record {
    placed = at;
    floors = λ other near. let f = (at other).floor in (inl (omega (arith, f)), (other, refl, omega (arith, f)));
    neighbors = λ other apart near. (inl (at other).main, inl (at other).interim);
    others = λ other near. at other;
    checks = record { template = rest.template; message = rest.message };
    greatest = rest.greatest;
    same = record { together = refl; shared = refl; hold_off = rest.hold_off };
  }
    where
      at : (other : Title) → SameKey (map_of old) (map_of new) other
      at other = let f : floor_at new other ≡ floor_at old other = let e = ap floor_in (same.0 other) in let b = same.1 in omega (arith, e, b) in record {
        floor = f;
        main = ap (λ n. not_below n (main_in (row_in new.rows other))) f ∙ ap (λ r. not_below (floor_at old other) (main_in r)) (same.0 other);
        interim = ap interim_in (same.0 other);
      }

  -- a put, whatever it answers
  pub puts : (old new : MapState P) (key : Title) (value : Cached P) (next : ℕ) (answer : Put)
      → PutDoes (row_in old.rows) (row_in new.rows) old.base new.base key next (check (map_of old)) value answer → SameRest old new value.set_at
      → Puts (map_of old) (map_of new) key value answer
  puts old new key value next Put.Main does rest = put_by old new key value next Put.Main does rest
  puts old new key value next Put.Interim does rest = put_by old new key value next Put.Interim does rest
  puts old new key value next (Put.Held until) does rest = put_by old new key value next (Put.Held until) does rest
  puts old new key value next (Put.Busy holder) does rest = absurd does
  puts old new key value next Put.Memory does rest = same_puts old new key value does rest

  pub puts_bounded : (old new : MapState P) (key : Title) (value : Cached P) (next most : ℕ) (answer : Put)
      → PutDoes (row_in old.rows) (row_in new.rows) old.base new.base key next (check (map_of old)) value answer
      → ((q : Title) → floor_in (row_in old.rows q) ≤ most) → (q : Title) → floor_in (row_in new.rows q) ≤ most
  puts_bounded old new key value next most Put.Main does bounded = put_bounded old new key value next Put.Main most does bounded
  puts_bounded old new key value next most Put.Interim does bounded = put_bounded old new key value next Put.Interim most does bounded
  puts_bounded old new key value next most (Put.Held until) does bounded = put_bounded old new key value next (Put.Held until) most does bounded
  puts_bounded old new key value next most (Put.Busy holder) does bounded = absurd does
  puts_bounded old new key value next most Put.Memory does bounded = λ q. let e = ap floor_in (does.0 q) in let b = bounded q in omega (arith, e, b)

  pub purges : (old new : MapState P) (key : Title) (next now count capacity : ℕ) → PurgeDoes (row_in old.rows) (row_in new.rows) old.base new.base key next now (now + old.hold_off) count capacity
      → ((q : Title) → floor_in (row_in old.rows q) ≤ now + old.hold_off)
      → new.template_check ≡ old.template_check → new.message_check ≡ old.message_check → new.greatest ≡ now → new.hold_off ≡ old.hold_off
      → Purges (map_of old) (map_of new) key now
  purges old new key next now count capacity (inl (purged, room)) bounded template message greatest hold = purge_by old new key next now purged bounded template message greatest hold
  purges old new key next now count capacity (inr purged) bounded template message greatest hold = purge_all_by old new key next now purged template message greatest hold

  pub purges_bounded : (old new : MapState P) (key : Title) (next now count capacity : ℕ) → PurgeDoes (row_in old.rows) (row_in new.rows) old.base new.base key next now (now + old.hold_off) count capacity
      → ((q : Title) → floor_in (row_in old.rows q) ≤ now + old.hold_off) → (q : Title) → floor_in (row_in new.rows q) ≤ now + old.hold_off
  purges_bounded old new key next now count capacity (inl (purged, room)) bounded = purge_bounded old new key next now (now + old.hold_off) purged bounded (omega arith)
  purges_bounded old new key next now count capacity (inr purged) bounded = purge_all_bounded old new key next now (now + old.hold_off) purged bounded

  -- what the rows stand for is a cache
  pub is_cache : (state : MapState P) → IsCache (map_of state)
  is_cache state = record { main = λ key. above (floor_at state key) (main_in (row_in state.rows key)); itself = λ key. refl; third = λ a b d h k. refl }
    where
      above : (floor : ℕ) (o : Option (Cached P)) → IfSome (not_below floor o) (λ value. floor ≤ value.set_at)
      above floor None = tt
      above floor (Some v) = by (nat_lt v.set_at floor) refl
        where
          by : (b : Bool) → nat_lt v.set_at floor ≡ b → IfSome (cond b None (Some v)) (λ value. floor ≤ value.set_at)
          by true h = tt
          by false h = grind (arith, nat_tests, h)
