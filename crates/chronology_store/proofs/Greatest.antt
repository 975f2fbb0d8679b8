-- What a store finds is the position with the greatest index.
use Rattle.std.proofs.Common.{◌≡◌, ℕ, ◌<◌, ◌≤◌, Bool, true, false, cond, List, [], ◌∷◌, Some, None, Option, option_map, ◌⊎◌, inl, inr, refl, sym, ◌∙◌, ap, arith, subst, bytes_eq, nat_lt}
use Rattle.std.specs.Prelude.{option_and_then}
use Rattle.std.proofs.lemmas.Bool.Decides.{nat_tests}
use Rattle.std.proofs.lemmas.Slice.Eq.{bytes_eq-Decides}
use Rattle.wiki_model.specs.Titles.{Client}
use Rattle.chronology_store.specs.declared.position_row.HeldPosition.{HeldPosition}
use Rattle.chronology_store.specs.declared.ClientCommit.{ClientCommit}
use Rattle.chronology_store.specs.declared.position_row.PositionRow.{PositionRow}
use Rattle.chronology_store.specs.PositionRow.{later, with_told, with_reserved, held_by, told_one, told_by, unless_past, known_by}
use Rattle.chronology_store.specs.ChronologyStore.{Positions, row_of, Changes}
use Rattle.chronology_store.proofs.Lookups.{same_client}
use Rattle.chronology_store.specs.Calls.{Call, Told, Swept, Rebuilt, Reserved, IsAfter, IsTold, IsConsistent, AreSweptBy, IsGreatest, FindsGreatest}

-- the held index is at least this one
abbrev Covers : Option HeldPosition → HeldPosition → Type 0
Covers None told = ⊥
Covers (Some held) told = told.index ≤ held.index

-- what is held was told, and whatever was told is covered or has expired
record IsHeld (client : Client) (now : ℕ) (calls : List Call) (held : Option HeldPosition) : Type 0 where
  told : (some : HeldPosition) → held ≡ Some some → IsTold client some calls
  covered : (some : HeldPosition) → IsTold client some calls → Covers held some ⊎ (some.expires ≤ now)

covers_later : (held : Option HeldPosition) (told some : HeldPosition) → Covers held some → Covers (Some (later held told)) some
covers_later None told some covers = absurd covers
covers_later (Some held) told some covers = by (nat_lt held.index told.index) refl
  where
    by : (b : Bool) → nat_lt held.index told.index ≡ b → Covers (Some (cond b told held)) some
    by true e = grind (arith, nat_tests, e, covers)
    by false e = covers

covers_told : (held : Option HeldPosition) (told : HeldPosition) → Covers (Some (later held told)) told
covers_told None told = omega arith
covers_told (Some held) told = by (nat_lt held.index told.index) refl
  where
    by : (b : Bool) → nat_lt held.index told.index ≡ b → Covers (Some (cond b told held)) told
    by true e = omega arith
    by false e = grind (arith, nat_tests, e)

later_told : (held : Option HeldPosition) (told some : HeldPosition) → Some (later held told) ≡ Some some → (told ≡ some) ⊎ (held ≡ Some some)
later_told None told some e = inl cc
later_told (Some held) told some e = by (nat_lt held.index told.index) e
  where
    by : (b : Bool) → Some (cond b told held) ≡ Some some → (told ≡ some) ⊎ (Some held ≡ Some some)
    by true e = inl cc
    by false e = inr e

other_client : (other client : Client) → bytes_eq other client ≡ false → other ≡ client → ⊥
other_client other client apart same =
    let here : bytes_eq client client ≡ false = subst (λ (o : Client). bytes_eq o client ≡ false) same apart in
    let there : bytes_eq client client ≡ true = same_client client in
    cc

-- the client's own position is told
told_own : (client : Client) (now : ℕ) (calls : List Call) (other : Client) (told : HeldPosition) (held : Option HeldPosition) → other ≡ client
    → IsHeld client now calls held → IsHeld client now (Told other told ∷ calls) (Some (later held told))
told_own client now calls other told held same is = record {
  told = λ some e. elim (later_told held told some e) [ inl mine ↦ inl (same, mine) | inr older ↦ inr (is.told some older) ];
  covered = λ some was. elim was [
    | inl mine ↦ inl (subst (Covers (Some (later held told))) mine.1 (covers_told held told))
    | inr earlier ↦ elim (is.covered some earlier) [ inl covers ↦ inl (covers_later held told some covers) | inr past ↦ inr past ]
  ];
}

-- another client's position is told
told_other : (client : Client) (now : ℕ) (calls : List Call) (other : Client) (told : HeldPosition) (held : Option HeldPosition) → bytes_eq other client ≡ false
    → IsHeld client now calls held → IsHeld client now (Told other told ∷ calls) held
told_other client now calls other told held apart is = record {
  told = λ some e. inr (is.told some e);
  covered = λ some was. elim was [ inl mine ↦ absurd (other_client other client apart mine.0) | inr earlier ↦ is.covered some earlier ];
}

-- of two that were told, the one with the lower index expires no later
expires_by : (client : Client) (calls : List Call) (a b : HeldPosition) → IsConsistent client calls → IsTold client a calls → IsTold client b calls → a.index ≤ b.index → a.expires ≤ b.expires
expires_by client calls a b consistent told_a told_b le = by (nat_lt a.index b.index) refl
  where
    by : (t : Bool) → nat_lt a.index b.index ≡ t → a.expires ≤ b.expires
    by true e = let less : a.index < b.index = grind (arith, nat_tests, e) in (consistent a b told_a told_b).1 less
    by false e =
        let same : a.index ≡ b.index = grind (arith, nat_tests, e, le) in
        let equal : a ≡ b = (consistent a b told_a told_b).0 same in
        let along : a.expires ≡ b.expires = ap (λ (h : HeldPosition). h.expires) equal in
        omega (arith, along)

swept_held : (client : Client) (now at : ℕ) (calls : List Call) (held : Option HeldPosition) → at ≤ now → IsConsistent client calls
    → IsHeld client now calls held → IsHeld client now (Swept at ∷ calls) (option_and_then (unless_past at) held)
swept_held client now at calls None le consistent is = record { told = is.told; covered = is.covered }
swept_held client now at calls (Some held) le consistent is = by (nat_lt at held.expires) refl
  where
    by : (b : Bool) → nat_lt at held.expires ≡ b → IsHeld client now (Swept at ∷ calls) (cond b (Some held) None)
    by true e = record { told = is.told; covered = is.covered }
    by false e = record {
      told = λ some no. let never : ⊥ = cc in absurd never;
      covered = λ some was. inr (elim (is.covered some was) [
        | inl covers ↦ (let past : held.expires ≤ at = grind (arith, nat_tests, e) in let sooner = expires_by client calls some held consistent was (is.told held refl) covers in omega (arith, past, sooner, le))
        | inr past ↦ past
      ]);
    }

told_either : (client : Client) (now : ℕ) (calls : List Call) (other : Client) (told : HeldPosition) (before positions : Positions) → Changes other (with_told told) before positions
    → IsHeld client now calls (row_of before client).held → IsHeld client now (Told other told ∷ calls) (row_of positions client).held
told_either client now calls other told before positions changes earlier = by (bytes_eq other client) refl
  where
    by : (b : Bool) → bytes_eq other client ≡ b → IsHeld client now (Told other told ∷ calls) (row_of positions client).held
    by true e =
        let same : other ≡ client = (bytes_eq-Decides other client).0 e in
        let is : (row_of positions client).held ≡ Some (later (row_of before client).held told) =
        subst (λ (c : Client). (row_of positions c).held ≡ Some (later (row_of before c).held told)) same (ap (λ (r : PositionRow). r.held) changes.here) in
        subst (IsHeld client now (Told other told ∷ calls)) (sym is) (told_own client now calls other told (row_of before client).held same earlier)
    by false e =
        subst (IsHeld client now (Told other told ∷ calls)) (sym (ap (λ (r : PositionRow). r.held) (changes.others client e))) (told_other client now calls other told (row_of before client).held e earlier)

-- one commit of a rebuild is told
one_written : (client : Client) (now : ℕ) (calls : List Call) (written : ClientCommit) (row : PositionRow) → IsHeld client now calls row.held
    → IsHeld client now (Told written.client (held_by written) ∷ calls) (told_one client written row).held
one_written client now calls written row is = by (bytes_eq written.client client) refl
  where
    by : (b : Bool) → bytes_eq written.client client ≡ b → IsHeld client now (Told written.client (held_by written) ∷ calls) (cond b (with_told (held_by written) row) row).held
    by true e = told_own client now calls written.client (held_by written) row.held ((bytes_eq-Decides written.client client).0 e) is
    by false e = told_other client now calls written.client (held_by written) row.held e is

rebuilt_none : (client : Client) (now : ℕ) (calls : List Call) (held : Option HeldPosition) → IsHeld client now calls held → IsHeld client now (Rebuilt [] ∷ calls) held
rebuilt_none client now calls held is = record {
  told = λ some e. inr (is.told some e);
  covered = λ some was. elim was [ inl never ↦ absurd never | inr earlier ↦ is.covered some earlier ];
}

rebuilt_more : (client : Client) (now : ℕ) (calls : List Call) (written : ClientCommit) (rows : List ClientCommit) (held : Option HeldPosition)
    → IsHeld client now (Rebuilt rows ∷ Told written.client (held_by written) ∷ calls) held → IsHeld client now (Rebuilt (written ∷ rows) ∷ calls) held
rebuilt_more client now calls written rows held is = record {
  told = λ some e. elim (is.told some e) [ inl later ↦ inl (inr later) | inr before ↦ elim before [ inl here ↦ inl (inl here) | inr earlier ↦ inr earlier ] ];
  covered = λ some was. elim was [
    | inl new ↦ elim new [ inl here ↦ is.covered some (inr (inl here)) | inr later ↦ is.covered some (inl later) ]
    | inr earlier ↦ is.covered some (inr (inr earlier))
  ];
}

rebuilt_held : (client : Client) (now : ℕ) (rows : List ClientCommit) (calls : List Call) (row : PositionRow) → IsHeld client now calls row.held
    → IsHeld client now (Rebuilt rows ∷ calls) (told_by rows client row).held
rebuilt_held client now [] calls row is = rebuilt_none client now calls row.held is
rebuilt_held client now (written ∷ rows) calls row is =
    rebuilt_more client now calls written rows (told_by rows client (told_one client written row)).held
    (rebuilt_held client now rows (Told written.client (held_by written) ∷ calls) (told_one client written row) (one_written client now calls written row is))

-- a reserved row holds what it held
reserved_held : (other client : Client) (before positions : Positions) → Changes other with_reserved before positions → (row_of positions client).held ≡ (row_of before client).held
reserved_held other client before positions changes = by (bytes_eq other client) refl
  where
    by : (b : Bool) → bytes_eq other client ≡ b → (row_of positions client).held ≡ (row_of before client).held
    by true e =
        subst (λ (c : Client). (row_of positions c).held ≡ (row_of before c).held) ((bytes_eq-Decides other client).0 e) (ap (λ (r : PositionRow). r.held) changes.here)
    by false e = ap (λ (r : PositionRow). r.held) (changes.others client e)

is_held : (calls : List Call) (positions : Positions) (client : Client) (now : ℕ) → IsAfter calls positions → IsConsistent client calls → AreSweptBy now calls
    → IsHeld client now calls (row_of positions client).held
is_held [] positions client now after consistent swept_by = record {
  told = λ some e. let none = after client in let never : ⊥ = cc in absurd never;
  covered = λ some never. absurd never;
}
is_held (Told other told ∷ calls) positions client now (before, after, changes) consistent swept_by =
    told_either client now calls other told before positions changes
    (is_held calls before client now after (λ a b told_a told_b. consistent a b (inr told_a) (inr told_b)) swept_by)
is_held (Swept at ∷ calls) positions client now (before, after, sweeps) consistent (le, swept_by) =
    subst (IsHeld client now (Swept at ∷ calls)) (sym (ap (λ (r : PositionRow). r.held) (sweeps.each client)))
    (swept_held client now at calls (row_of before client).held le consistent (is_held calls before client now after consistent swept_by))
is_held (Rebuilt rows ∷ calls) positions client now (before, after, tells) consistent swept_by =
    subst (IsHeld client now (Rebuilt rows ∷ calls)) (sym (ap (λ (r : PositionRow). r.held) (tells.each client)))
    (rebuilt_held client now rows calls (row_of before client) (is_held calls before client now after (λ a b told_a told_b. consistent a b (inr told_a) (inr told_b)) swept_by))
is_held (Reserved other ∷ calls) positions client now (before, after, changes) consistent swept_by =
    let is = is_held calls before client now after consistent swept_by in
    subst (IsHeld client now (Reserved other ∷ calls)) (sym (reserved_held other client before positions changes)) (record { told = is.told; covered = is.covered })

past : (now : ℕ) (held : HeldPosition) → held.expires ≤ now → unless_past now held ≡ None
past now held h = let e : nat_lt now held.expires ≡ false = grind (arith, nat_tests, h) in rw e refl

greatest_found : (client : Client) (now : ℕ) (calls : List Call) (held : Option HeldPosition) (best : HeldPosition) → IsConsistent client calls → IsHeld client now calls held → IsGreatest client best calls
    → option_map known_by (option_and_then (unless_past now) held) ≡ option_map known_by (unless_past now best)
greatest_found client now calls None best consistent is greatest =
    elim (is.covered best greatest.told) [ inl never ↦ absurd never | inr over ↦ ap (option_map known_by) (sym (past now best over)) ]
greatest_found client now calls (Some held) best consistent is greatest = by (nat_lt held.index best.index) refl
  where
    told : IsTold client held calls
    told = is.told held refl

    by : (b : Bool) → nat_lt held.index best.index ≡ b → option_map known_by (unless_past now held) ≡ option_map known_by (unless_past now best)
    by false e =
        let le = greatest.greatest held told in
        let same : held.index ≡ best.index = grind (arith, nat_tests, e, le) in
        let equal : held ≡ best = (consistent held best told greatest.told).0 same in
        ap (λ (h : HeldPosition). option_map known_by (unless_past now h)) equal
    by true e =
        let less : held.index < best.index = grind (arith, nat_tests, e) in
        let over : best.expires ≤ now = elim (is.covered best greatest.told) [ inl covers ↦ absurd (omega (arith, less, covers)) | inr over ↦ over ] in
        let sooner : held.expires ≤ best.expires = (consistent held best told greatest.told).1 less in
        let both : held.expires ≤ now = omega (arith, over, sooner) in
        ap (option_map known_by) (past now held both ∙ sym (past now best over))

none_found : (client : Client) (now : ℕ) (calls : List Call) (held : Option HeldPosition) → IsHeld client now calls held → ((some : HeldPosition) → ¬ IsTold client some calls)
    → option_map known_by (option_and_then (unless_past now) held) ≡ None
none_found client now calls None is none = refl
none_found client now calls (Some held) is none = absurd (none held (is.told held refl))

pub finds : FindsGreatest
finds calls positions client now after consistent swept_by =
    let is = is_held calls positions client now after consistent swept_by in (
      λ held greatest. greatest_found client now calls (row_of positions client).held held consistent is greatest,
      λ none. none_found client now calls (row_of positions client).held is none,
    )
