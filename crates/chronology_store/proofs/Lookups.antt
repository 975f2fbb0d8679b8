-- What the map of rows says of each client.
use Rattle.std.proofs.Common.{◌≡◌, ℕ, Bool, true, false, cond, List, [], ◌∷◌, map, filter, Some, None, Option, option_map, unwrap_or, IfSome, refl, sym, ◌∙◌, ap, subst, bytes_eq}
use Rattle.std.specs.Map.{lookup, keys_of}
use Rattle.std.specs.Map.Calls.{RetainsPairs}
use Rattle.std.specs.BTreeMap.{is_at}
use Rattle.std.specs.declared.cmp.Ordering.{Ordering}
use Rattle.std.specs.Ordering.{nat_cmp, eq_by_cmp}
use Rattle.std.specs.Cmp.Lexicographic.{slice_cmp}
use Rattle.std.specs.List.{IsDistinct}
use Rattle.std.specs.List.Sorted.{IsStrictlySortedBy}
use Rattle.std.proofs.lemmas.Cmp.{nat_list_eq_equiv, nat_list_cmp_total, eq_by_cmp_equiv}
use Rattle.std.proofs.lemmas.Map.Text.{is_eq-slice_cmp}
use Rattle.std.proofs.lemmas.Map.Entries.{option_filter, lookup-filter-values}
use Rattle.std.proofs.lemmas.Map.Made.{lookup-map_values, keys_of-map_values}
use Rattle.std.proofs.lemmas.Map.Keys.{IsDistinct-from_sorted}
use Rattle.chronology_store.specs.declared.position_row.PositionRow.{PositionRow}
use Rattle.chronology_store.specs.declared.position_row.HeldPosition.{HeldPosition}
use Rattle.chronology_store.specs.PositionRow.{nothing, swept, is_needed, IsNeeded}
use Rattle.chronology_store.specs.ChronologyStore.{Positions, IsSetTo, Sweeps, AreNeeded}

abbrev pub order : List ℕ → List ℕ → Ordering
order = slice_cmp nat_cmp

-- the order finds what equal bytes find
pub found_same : (client : List ℕ) (rows : Positions) → lookup (is_at (order client)) rows ≡ lookup (bytes_eq client) rows
found_same client [] = refl
found_same client (row ∷ rows) = rw (is_eq-slice_cmp client row.0, found_same client rows) refl

pub same_client : (client : List ℕ) → bytes_eq client client ≡ true
same_client client = nat_list_eq_equiv.refl client

-- what is found in a map with one row set
set_at : (client : List ℕ) (row : PositionRow) (old new : Positions)
    → ((other : List ℕ) → lookup (is_at (order other)) new ≡ cond (is_at (order client) other) (Some row) (lookup (is_at (order other)) old))
    → (other : List ℕ) → lookup (bytes_eq other) new ≡ cond (bytes_eq client other) (Some row) (lookup (bytes_eq other) old)
set_at client row old new each other = sym (found_same other new) ∙ each other ∙ rw (is_eq-slice_cmp client other, found_same other old) refl

pub set_row : (client : List ℕ) (row : PositionRow) (old new : Positions)
    → ((other : List ℕ) → lookup (is_at (order other)) new ≡ cond (is_at (order client) other) (Some row) (lookup (is_at (order other)) old))
    → IsSetTo client row old new
set_row client row old new each = record {
  here = ap (λ o. unwrap_or o nothing) (set_at client row old new each client) ∙ ap (λ b. unwrap_or (cond b (Some row) (lookup (bytes_eq client) old)) nothing) (same_client client);
  others = λ other apart. ap (λ o. unwrap_or o nothing) (set_at client row old new each other) ∙ ap (λ b. unwrap_or (cond b (Some row) (lookup (bytes_eq other) old)) nothing) apart;
}

pub set_needed : (client : List ℕ) (row : PositionRow) (old new : Positions)
    → ((other : List ℕ) → lookup (is_at (order other)) new ≡ cond (is_at (order client) other) (Some row) (lookup (is_at (order other)) old))
    → IsNeeded row → AreNeeded old → AreNeeded new
set_needed client row old new each one all other = subst (λ o. IfSome o IsNeeded) (sym (set_at client row old new each other)) (by (bytes_eq client other))
  where
    by : (b : Bool) → IfSome (cond b (Some row) (lookup (bytes_eq other) old)) IsNeeded
    by true = one
    by false = all other

-- a row that is reserved, and one that holds a position, is needed
pub needed_reserved : (held : Option HeldPosition) → let row : PositionRow = record { reserved = true; held = held } in IsNeeded row
needed_reserved held = refl

pub needed_held : (reserved : Bool) (held : HeldPosition) → let row : PositionRow = record { reserved = reserved; held = Some held } in IsNeeded row
needed_held true held = refl
needed_held false held = refl

-- a closure that writes g of each value and keeps the rows that pass
pub retained : {F K X : Type 0} (T : F → K → X → Bool → X → F → Type 0) (g : X → X) (keeps : X → Bool) (f : F)
    → ((k : K) (v : X) (b : Bool) (w : X) (f' : F) → T f k v b w f' → (b ≡ keeps (g v)) × (w ≡ g v) × (f' ≡ f))
    → (es kept : List (K × X)) → RetainsPairs T f es kept → kept ≡ filter (λ e. keeps e.1) (map (λ e. (e.0, g e.1)) es)
retained T g keeps f says [] kept is = is
retained {F} {K} {X} T g keeps f says (e ∷ es) kept (b, w, f', rest, called, more, is) =
    let s = says e.0 e.1 b w f' called in
    let step = λ (h : F). RetainsPairs T h es rest in
    let ih : rest ≡ filter (λ e. keeps e.1) (map (λ e. (e.0, g e.1)) es) = retained T g keeps f says es rest (subst step s.2 more) in
    is ∙ rw (s.0, s.1, ih) refl

dropped : (reserved : Bool) (held : Option HeldPosition) → let row : PositionRow = record { reserved = reserved; held = held } in unwrap_or (cond (is_needed row) (Some row) None) nothing ≡ row
dropped true held = refl
dropped false (Some held) = refl
dropped false None = refl

row_swept : (now : ℕ) (o : Option PositionRow) → unwrap_or (option_filter is_needed (option_map (swept now) o)) nothing ≡ swept now (unwrap_or o nothing)
row_swept now None = refl
row_swept now (Some row) = dropped (swept now row).reserved (swept now row).held

-- The rows that are kept after a sweep
module _ (now : ℕ) (old new : Positions) (sorted : IsStrictlySortedBy order (keys_of old)) (is : new ≡ filter (λ e. is_needed e.1) (map (λ e. (e.0, swept now e.1)) old)) where
  distinct : IsDistinct (eq_by_cmp order) (keys_of (map (λ e. (e.0, swept now e.1)) old))
  distinct = subst (IsDistinct (eq_by_cmp order)) (sym (keys_of-map_values (swept now) old)) (IsDistinct-from_sorted order (keys_of old) sorted)

  look : (client : List ℕ) → lookup (bytes_eq client) new ≡ option_filter is_needed (option_map (swept now) (lookup (bytes_eq client) old))
  look client =
      sym (found_same client new) ∙ ap (lookup (is_at (order client))) is
      ∙ lookup-filter-values (eq_by_cmp_equiv nat_list_cmp_total) is_needed client (map (λ e. (e.0, swept now e.1)) old) distinct
      ∙ ap (option_filter is_needed) (lookup-map_values (swept now) (is_at (order client)) old ∙ ap (option_map (swept now)) (found_same client old))

  pub swept_rows : Sweeps now old new
  swept_rows = record { each = λ client. ap (λ o. unwrap_or o nothing) (look client) ∙ row_swept now (lookup (bytes_eq client) old) }

  pub swept_needed : AreNeeded new
  swept_needed client = subst (λ o. IfSome o IsNeeded) (sym (look client)) (by (option_map (swept now) (lookup (bytes_eq client) old)))
    where
      by_test : (row : PositionRow) (b : Bool) → is_needed row ≡ b → IfSome (cond b (Some row) None) IsNeeded
      by_test row true e = e
      by_test row false e = tt

      by : (o : Option PositionRow) → IfSome (option_filter is_needed o) IsNeeded
      by None = tt
      by (Some row) = by_test row (is_needed row) refl
