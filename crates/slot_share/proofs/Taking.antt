-- Rows and floors that are taken back one after another.
use Rattle.std.proofs.Common.{◌≡◌, ◌≢◌, ◌⊎◌, ℕ, zero, suc, ◌+◌, ◌<◌, List, [], ◌∷◌, ◌++◌, length, slice_get, Some, refl, sym, ap, ◌∙◌, subst, ⊎_elim, inl, inr, arith, length-append}
use Rattle.std.specs.Prelude.{slice_index}
use mathlib.Core.Option as home
use mathlib.Core.Logic.{dite}
use native.Mathlib.Decide.{ℕ_discrete}
use lib.ListN.{get_elem?}
use Rattle.std.proofs.lemmas.List.{get_or-set_same, get_or-set_other, length-set}
use Rattle.slot_cache.specs.declared.slot_parts.SlotParts.{SlotParts}
use Rattle.slot_share.specs.Values.{Row}
use Rattle.slot_share.specs.Closing.{IsLowered, IsTakenBack, TakesRow}

got_snoc : {A : Type 0} (xs : List A) (x : A) (k : ℕ) (y : A) → slice_get (xs ++ x ∷ []) k ≡ Some y → ((k < length xs) × (slice_get xs k ≡ Some y)) ⊎ ((k ≡ length xs) × (x ≡ y))
got_snoc [] x zero y e = inr (refl, (cc))
got_snoc [] x (suc k) y e = absurd (cc)
got_snoc (z ∷ zs) x zero y e = inl (omega arith, e)
got_snoc (z ∷ zs) x (suc k) y e = ⊎_elim (λ t. let l = t.0 in inl (omega (arith, l), t.1)) (λ t. inr (ap suc t.0, t.1)) (got_snoc zs x k y e)

module _ {P : Type 0} where
  pub takes_none : (words : List ℕ) (lent : List (Row P)) (old : SlotParts P) → old.rows.items ≡ [] → IsTakenBack 0 words lent old old
  takes_none words lent old empty = record {
    same = record { slots = refl; template = refl; message = refl; greatest = refl; hold_off = refl };
    floors_long = refl;
    rows_long = ap length empty;
    floors = λ slot l. absurd (omega (arith, l));
    rows = λ slot row e. absurd (none_there slot row (ap (λ (xs : List (Row P)). slice_get xs slot) (sym empty) ∙ e));
  }
    where
      none_there : (slot : ℕ) (row : Row P) → slice_get [] slot ≡ Some row → ⊥
      none_there slot row e = (cc)

  pub takes_more : (count : ℕ) (words : List ℕ) (lent : List (Row P)) (old mid new : SlotParts P) → IsTakenBack count words lent old mid → TakesRow words lent count mid new → count < length old.floors.items
      → IsTakenBack (count + 1) words lent old new
  takes_more count words lent old mid new h t below =
      let long = h.floors_long in
      let in_mid : count < length mid.floors.items = omega (arith, long, below) in
      let here : slice_index new.floors.items count ≡ t.floor = ap (λ (fs : List ℕ). slice_index fs count) t.floors ∙ get_or-set_same mid.floors.items count t.floor 0 in_mid in
      let there : (slot : ℕ) → slot ≢ count → slice_index new.floors.items slot ≡ slice_index mid.floors.items slot
      = λ slot n. ap (λ (fs : List ℕ). slice_index fs slot) t.floors ∙ get_or-set_other mid.floors.items count slot t.floor 0 n in
      let rows_long = h.rows_long in
      record {
        same = record {
          slots = t.same.slots ∙ h.same.slots;
          template = t.same.template ∙ h.same.template;
          message = t.same.message ∙ h.same.message;
          greatest = t.same.greatest ∙ h.same.greatest;
          hold_off = t.same.hold_off ∙ h.same.hold_off;
        };
        floors_long = ap length t.floors ∙ (length-set mid.floors.items count t.floor ∙ h.floors_long);
        rows_long = ap length t.rows ∙ (length-append mid.rows.items (t.row ∷ []) ∙ ap (λ (n : ℕ). n + 1) h.rows_long);
        floors = λ slot l. dite (ℕ_discrete slot count)
            (λ (e : slot ≡ count). ap (λ (n : ℕ). get_elem? words (n + 3)) e ∙ (t.word ∙ ap home.some (sym here ∙ ap (slice_index new.floors.items) (sym e))))
            (λ (n : slot ≢ count). h.floors slot (omega (arith, l, n)) ∙ ap home.some (sym (there slot n)));
        rows = λ slot row e. ⊎_elim
            (λ (s : (slot < length mid.rows.items) × (slice_get mid.rows.items slot ≡ Some row)).
            let l = s.0 in
            let k = h.rows slot row s.1 in
            (k.0, k.1, subst (λ (f : ℕ). IsLowered f k.0 row) (sym (there slot (λ z. omega (arith, z, l, rows_long)))) k.2))
            (λ (s : (slot ≡ length mid.rows.items) × (t.row ≡ row)).
            let at : slot ≡ count = s.0 ∙ h.rows_long in
            (t.was, ap (get_elem? lent) at ∙ t.there, subst (λ (x : ℕ × Row P). IsLowered x.0 t.was x.1) (λ i. ((sym here ∙ ap (slice_index new.floors.items) (sym at)) i, s.1 i)) t.lowered))
            (got_snoc mid.rows.items t.row slot row (ap (λ (xs : List (Row P)). slice_get xs slot) (sym t.rows) ∙ e));
      }
