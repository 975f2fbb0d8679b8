-- What a put or a purge leaves of other keys. A row that is not the same after a use of the key has gone; it was used, and now
-- it is not, so it is the one key that goes to make room.
use Rattle.std.proofs.Common.{ℕ, ◌≡◌, ◌≢◌, ◌⊎◌, ◌<◌, max, Bool, true, false, Option, Some, None, length, refl, sym, ap, ◌∙◌, arith, inl, inr, nat_lt}
use Rattle.std.proofs.lemmas.Bool.Decides.{nat_tests}
use Rattle.wiki_model.specs.declared.Put.{Put}
use Rattle.wiki_model.specs.Titles.{Title}
use Rattle.wiki_model.specs.Cache.{Cached}
use Rattle.wan_cache.specs.declared.cache_row.CacheRow.{CacheRow}
use Rattle.wan_cache.specs.CacheRow.{floor_in, last_use}
use Rattle.wan_cache.specs.MapCache.{MapState, row_in, used_in, MakesRoom, Evicts, LeavesFloor, KeepsOthers, Renews, HoldsKeyOrAll, IsFloorOfGone, StaysOrGoes, Uses, Stored, PutDoes, PurgeDoes}
use Rattle.wan_cache.proofs.Claimed.{renewed_use}
use Rattle.wan_cache.proofs.Puts.{renewed_floor, stored_floor, stored_use, purged_floor, raised_use, dropped_floor}

module _ {P : Type 0} where
  -- a floor that is above a moment is that of a row
  has_row : (now : ℕ) (o : Option (CacheRow P)) → now < floor_in o → last_use o ≢ None
  has_row now None l = absurd (omega (arith, l))
  has_row now (Some row) l = λ e. cc

  module _ (old new : MapState P) (key : Title) (next now : ℕ) (capacity : new.capacity ≡ old.capacity) where
    others_by : (middle : Title → Option (CacheRow P)) → Uses (row_in old.rows) middle old.base new.base key next now
        → ((q : Title) → q ≢ key → row_in new.rows q ≡ middle q)
        → MakesRoom (used_in old.rows) (used_in new.rows) key (length old.rows) old.capacity → KeepsOthers old new key now
    others_by middle used same room = record {
      rows = λ q apart. either q apart (used.claims.others q apart);
      base = by_base used.claims.whose;
      capacity = capacity;
    }
      where
        evicts : (q : Title) → q ≢ key → middle q ≡ None → used_in old.rows q ≢ None → Evicts old new key q
        evicts q apart went had =
            let row : row_in new.rows q ≡ None = same q apart ∙ went in
            let none : used_in new.rows q ≡ None = ap last_use row in
            let goes = room.goes q apart (λ e. had (e ∙ none)) in
            record { other = apart; absent = goes.0; full = goes.1; oldest = goes.2; went = row }

        either : (q : Title) → q ≢ key → StaysOrGoes (row_in old.rows q) (middle q) used.gone → (row_in new.rows q ≡ row_in old.rows q) ⊎ Evicts old new key q
        either q apart (inl stays) = inl (same q apart ∙ stays)
        either q apart (inr went) = by (row_in old.rows q) refl
          where
            by : (o : Option (CacheRow P)) → row_in old.rows q ≡ o → (row_in new.rows q ≡ row_in old.rows q) ⊎ Evicts old new key q
            by None e = inl (same q apart ∙ went.0 ∙ sym e)
            by (Some row) e = inr (evicts q apart went.0 (λ n. let u : used_in old.rows q ≡ Some row.used = ap last_use e in cc))

        by_base : (used.gone ≡ 0) ⊎ IsFloorOfGone (row_in old.rows) middle key used.gone → (new.base ≡ old.base) ⊎ ((gone : Title) × LeavesFloor old new key gone now)
        by_base (inl zero) = by (nat_lt now used.gone) refl
          where
            by : (b : Bool) → nat_lt now used.gone ≡ b → (new.base ≡ old.base) ⊎ ((gone : Title) × LeavesFloor old new key gone now)
            by true h = absurd (grind (arith, nat_tests, h, zero))
            by false h = inl (used.raise ∙ rw h refl)
        by_base (inr gone) = by (nat_lt now used.gone) refl
          where
            by : (b : Bool) → nat_lt now used.gone ≡ b → (new.base ≡ old.base) ⊎ ((gone : Title) × LeavesFloor old new key gone now)
            by false h = inl (used.raise ∙ rw h refl)
            by true h =
                let floor = gone.floor in
                let later : now < used.gone = grind (arith, nat_tests, h) in
                let to_come : now < floor_in (row_in old.rows gone.from) = omega (arith, later, floor) in
                let raise : new.base ≡ max old.base used.gone = used.raise ∙ rw h refl in
                inr (
                  gone.from,
                  record {
                    evicts = evicts gone.from gone.other gone.went (has_row now (row_in old.rows gone.from) to_come);
                    to_come = to_come;
                    raise = raise ∙ ap (λ n. max old.base n) floor;
                  },
                )

    renews_by : (middle : Title → Option (CacheRow P)) → Uses (row_in old.rows) middle old.base new.base key old.uses.next now
        → last_use (row_in new.rows key) ≡ last_use (middle key)
        → MakesRoom (used_in old.rows) (used_in new.rows) key (length old.rows) old.capacity → Renews old new key
    renews_by middle used same room = record { newest = same ∙ renewed_use (row_in old.rows key) (middle key) old.uses.next used.claims.itself; room = room }

  module _ (old new : MapState P) (key : Title) (check : ℕ) (value : Cached P) (capacity : new.capacity ≡ old.capacity) where
    stored_others : (answer : Put) → Stored (row_in old.rows) (row_in new.rows) old.base new.base key old.uses.next check value answer
        → MakesRoom (used_in old.rows) (used_in new.rows) key (length old.rows) old.capacity → KeepsOthers old new key value.set_at
    stored_others answer stored room = others_by old new key old.uses.next value.set_at capacity stored.middle stored.used stored.others room

    -- other keys stay after a put, but for eviction
    pub put_keeps : (answer : Put) → PutDoes (row_in old.rows) (row_in new.rows) old.base new.base key old.uses.next check value answer
        → (answer ≢ Put.Memory → MakesRoom (used_in old.rows) (used_in new.rows) key (length old.rows) old.capacity) → KeepsOthers old new key value.set_at
    put_keeps Put.Main does room = stored_others Put.Main does (room (λ e. cc))
    put_keeps Put.Interim does room = stored_others Put.Interim does (room (λ e. cc))
    put_keeps (Put.Held until) does room = stored_others (Put.Held until) does (room (λ e. cc))
    put_keeps (Put.Busy holder) does room = absurd does
    put_keeps Put.Memory does room = record { rows = λ q apart. inl (does.0 q); base = inl does.1; capacity = capacity }

    stored_floor_same : (answer : Put) → Stored (row_in old.rows) (row_in new.rows) old.base new.base key old.uses.next check value answer
        → floor_in (row_in new.rows key) ≡ floor_in (row_in old.rows key)
    stored_floor_same answer stored =
        stored_floor (stored.middle key) (row_in new.rows key) new.base check value answer stored.itself
        ∙ renewed_floor (row_in old.rows key) (stored.middle key) old.uses.next stored.used.claims.itself

    -- the key's own floor stays
    pub put_floor : (answer : Put) → PutDoes (row_in old.rows) (row_in new.rows) old.base new.base key old.uses.next check value answer
        → floor_in (row_in new.rows key) ≡ floor_in (row_in old.rows key)
    put_floor Put.Main does = stored_floor_same Put.Main does
    put_floor Put.Interim does = stored_floor_same Put.Interim does
    put_floor (Put.Held until) does = stored_floor_same (Put.Held until) does
    put_floor (Put.Busy holder) does = absurd does
    put_floor Put.Memory does = ap floor_in (does.0 key)

    stored_renews : (answer : Put) → Stored (row_in old.rows) (row_in new.rows) old.base new.base key old.uses.next check value answer
        → MakesRoom (used_in old.rows) (used_in new.rows) key (length old.rows) old.capacity → Renews old new key
    stored_renews answer stored room = renews_by old new key old.uses.next value.set_at capacity stored.middle stored.used
        (stored_use (stored.middle key) (row_in new.rows key) new.base check value answer stored.itself) room

    -- the key's use is the newest, unless memory was refused
    pub put_renews : (answer : Put) → PutDoes (row_in old.rows) (row_in new.rows) old.base new.base key old.uses.next check value answer
        → (answer ≢ Put.Memory → MakesRoom (used_in old.rows) (used_in new.rows) key (length old.rows) old.capacity) → answer ≢ Put.Memory → Renews old new key
    put_renews Put.Main does room some_put = stored_renews Put.Main does (room some_put)
    put_renews Put.Interim does room some_put = stored_renews Put.Interim does (room some_put)
    put_renews (Put.Held until) does room some_put = stored_renews (Put.Held until) does (room some_put)
    put_renews (Put.Busy holder) does room some_put = absurd does
    put_renews Put.Memory does room some_put = absurd (some_put refl)

  -- a purge holds off its key and keeps the others, or holds off all
  pub purge_holds : (old new : MapState P) (key : Title) (now until : ℕ) → new.capacity ≡ old.capacity
      → PurgeDoes (row_in old.rows) (row_in new.rows) old.base new.base key old.uses.next now until (length old.rows) old.capacity → HoldsKeyOrAll old new key now until
  purge_holds old new key now until capacity (inl (purged, room)) = inl (record {
    floor = purged_floor (purged.middle key) (row_in new.rows key) until purged.itself
        ∙ ap (λ n. max n until) (renewed_floor (row_in old.rows key) (purged.middle key) old.uses.next purged.used.claims.itself);
    others = others_by old new key old.uses.next now capacity purged.middle purged.used purged.others room;
    renews = renews_by old new key old.uses.next now capacity purged.middle purged.used (raised_use (purged.middle key) (row_in new.rows key) until purged.itself) room;
  })
  purge_holds old new key now until capacity (inr all) = inr (record {
    base = all.raise;
    rows = all.others;
    floor = dropped_floor (row_in old.rows key) (row_in new.rows key) all.itself;
    capacity = capacity;
  })
