-- A store as the model's rows: a position that is told to a store is told to them, a reserved row changes nothing that is found,
-- and a sweep forgets only what has expired. So what the laws say of rows holds of a store, and no caller needs its rows.
use Rattle.std.proofs.Common.{◌≡◌, ℕ, ◌≤◌, ◌⊎◌, Bool, true, false, cond, Option, Some, None, option_map, IfSome, refl, sym, ◌∙◌, ap, arith, subst, inl, inr, nat_lt, bytes_eq}
use Rattle.std.specs.Prelude.{option_and_then}
use Rattle.std.proofs.lemmas.Bool.Decides.{nat_tests}
use Rattle.std.proofs.lemmas.Slice.Eq.{bytes_eq-Decides}
use Rattle.wiki_model.specs.Titles.{Client}
use Rattle.wiki_model.specs.Positions as model
use Rattle.wiki_model.specs.Positions.{TellsRow, SweepsRows, later_row, finds}
use Rattle.chronology_store.specs.declared.position_row.HeldPosition.{HeldPosition}
use Rattle.chronology_store.specs.declared.position_row.PositionRow.{PositionRow}
use Rattle.chronology_store.specs.PositionRow.{with_told, with_reserved, later, unless_past}
use Rattle.chronology_store.specs.ChronologyStore.{Positions, row_of, find_in, Changes, Sweeps}
use Rattle.chronology_store.specs.AsModel.{held_of, rows_in}

-- what the store finds is what the rows find
pub finds_in : (positions : Positions) (client : Client) (now : ℕ) → finds (rows_in positions) client now ≡ find_in positions client now
finds_in positions client now = by (row_of positions client).held
  where
    by_test : (held : HeldPosition) (b : Bool) → cond b (Some (let k : Rattle.wiki_model.specs.Sessions.Known = record { index = held.index; position = held.position } in k)) None ≡ option_map Rattle.chronology_store.specs.PositionRow.known_by (cond b (Some held) None)
    by_test held true = refl
    by_test held false = refl

    by : (o : Option HeldPosition) → option_and_then (model.unexpired now) (option_map held_of o) ≡ option_map Rattle.chronology_store.specs.PositionRow.known_by (option_and_then (unless_past now) o)
    by None = refl
    by (Some held) = by_test held (nat_lt now held.expires)

-- the later of two is the later of their rows
pub later_is : (o : Option HeldPosition) (told : HeldPosition) → held_of (later o told) ≡ later_row (option_map held_of o) (held_of told)
later_is None told = refl
later_is (Some held) told = by (nat_lt held.index told.index)
  where
    by : (b : Bool) → held_of (cond b told held) ≡ cond b (held_of told) (held_of held)
    by true = refl
    by false = refl

-- a note, or a message that is taken
pub tells_row : (client : Client) (told : HeldPosition) (old new : Positions) → Changes client (with_told told) old new → TellsRow client (held_of told) (rows_in old) (rows_in new)
tells_row client told old new changes = record {
  own = ap (λ (r : PositionRow). option_map held_of r.held) changes.here ∙ ap Some (later_is (row_of old client).held told);
  others = λ other apart. ap (λ (r : PositionRow). option_map held_of r.held) (changes.others other apart);
}

-- a row that is reserved holds what it held
pub reserved_rows : (client : Client) (old new : Positions) → Changes client with_reserved old new → rows_in new ≡ rows_in old
reserved_rows client old new changes = λ i other. by other i
  where
    by : (other : Client) → rows_in new other ≡ rows_in old other
    by other = go (bytes_eq client other) refl
      where
        go : (b : Bool) → bytes_eq client other ≡ b → rows_in new other ≡ rows_in old other
        go true e = let same : client ≡ other = (bytes_eq-Decides client other).0 e in subst (λ y. rows_in new y ≡ rows_in old y) same (ap (λ (r : PositionRow). option_map held_of r.held) changes.here)
        go false e = ap (λ (r : PositionRow). option_map held_of r.held) (changes.others other e)

-- a sweep
pub sweeps_rows : (now : ℕ) (old new : Positions) → Sweeps now old new → SweepsRows now (rows_in old) (rows_in new)
sweeps_rows now old new sweeps client = subst (λ (r : PositionRow). (option_map held_of r.held ≡ rows_in old client) ⊎ ((option_map held_of r.held ≡ None) × IfSome (rows_in old client) (λ held. held.expires ≤ now))) (sym (sweeps.each client)) (by (row_of old client).held)
  where
    go : (held : HeldPosition) (b : Bool) → nat_lt now held.expires ≡ b → (option_map held_of (cond b (Some held) None) ≡ Some (held_of held)) ⊎ ((option_map held_of (cond b (Some held) None) ≡ None) × (held.expires ≤ now))
    go held true e = inl refl
    go held false e = inr (refl, grind (arith, nat_tests, e))

    by : (o : Option HeldPosition) → (option_map held_of (option_and_then (unless_past now) o) ≡ option_map held_of o) ⊎ ((option_map held_of (option_and_then (unless_past now) o) ≡ None) × IfSome (option_map held_of o) (λ held. held.expires ≤ now))
    by None = inl refl
    by (Some held) = go held (nat_lt now held.expires) refl

-- a row that is reserved stays so when a position is told
pub still_reserved : (client other : Client) (told : HeldPosition) (old new : Positions) → Changes client (with_told told) old new → (row_of old other).reserved ≡ true → (row_of new other).reserved ≡ true
still_reserved client other told old new changes is = by (bytes_eq client other) refl
  where
    by : (b : Bool) → bytes_eq client other ≡ b → (row_of new other).reserved ≡ true
    by true e = let same : client ≡ other = (bytes_eq-Decides client other).0 e in
        subst (λ y. (row_of new y).reserved ≡ true) same (ap (λ (r : PositionRow). r.reserved) changes.here ∙ ap (λ y. (row_of old y).reserved) same ∙ is)
    by false e = ap (λ (r : PositionRow). r.reserved) (changes.others other e) ∙ is

-- and when another is reserved
pub more_reserved : (client other : Client) (old new : Positions) → Changes client with_reserved old new → (row_of old other).reserved ≡ true → (row_of new other).reserved ≡ true
more_reserved client other old new changes is = by (bytes_eq client other) refl
  where
    by : (b : Bool) → bytes_eq client other ≡ b → (row_of new other).reserved ≡ true
    by true e = let same : client ≡ other = (bytes_eq-Decides client other).0 e in
        subst (λ y. (row_of new y).reserved ≡ true) same (ap (λ (r : PositionRow). r.reserved) changes.here)
    by false e = ap (λ (r : PositionRow). r.reserved) (changes.others other e) ∙ is
