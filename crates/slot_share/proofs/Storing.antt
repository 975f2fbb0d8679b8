-- What a put stores was there, or is what it was handed.
use Rattle.std.proofs.Common.{◌≡◌, ◌≢◌, ℕ, List, [], ◌∷◌, Bool, true, false, cond, Option, Some, None, refl, sym, ap, ◌∙◌, subst, inl, inr, arith, bytes_eq, nat_lt, if◌then◌else◌, Contains}
use Rattle.std.proofs.lemmas.Slice.Eq.{bytes_eq-Decides}
use Rattle.atomic_table.specs.Table.{Me, rest}
use Rattle.wiki_model.specs.declared.Put.{Put}
use Rattle.wiki_model.specs.declared.Put.TheVariants as put
use Rattle.wiki_model.specs.Titles.{Title}
use Rattle.wiki_model.specs.Cache.{is_held}
use Rattle.wan_value.specs.declared.Value.{Value}
use Rattle.wan_value.specs.AsModel.{value_of}
use Rattle.wan_cache.specs.Rules.{placed}
use Rattle.slot_cache.specs.SlotRow.{if_same, Stores}
use Rattle.slot_share.specs.declared.part.Part.{Part}
use Rattle.slot_share.specs.declared.part.Part.TheVariants as part
use Rattle.slot_share.specs.declared.view.Handed.{Handed}
use Rattle.slot_share.specs.declared.view.View.{View}
use Rattle.slot_share.specs.Values.{Truth, Row, holds_true, Renews}
use Rattle.slot_share.specs.Steps.{took, Owes}

-- what is placed as an interim value is not lagged
not_lagged : (floor check set_at : ℕ) (lagged : Bool) → put.Interim ≡ placed floor check set_at lagged → lagged ≡ false
not_lagged floor check set_at false e = refl
not_lagged floor check set_at true e = absurd (by (is_held floor check set_at) (if nat_lt set_at floor then floor else check) e)
  where
    by : (b : Bool) (until : ℕ) → put.Interim ≡ cond b (put.Held until) put.Main → ⊥
    by true until e = (cc)
    by false until e = (cc)

module _ {P : Type 0} where
  some_value : (x y : Value P) → Some x ≡ Some y → x ≡ y
  some_value x y e = (cc)

  no_value : (x : Value P) → None ≡ Some x → ⊥
  no_value x e = (cc)

  -- what a row shows to a key is in it, and the row is the key's
  pub shows : (kept key : Title) (place : Option (Value P)) (value : Value P) → if_same (bytes_eq kept key) place ≡ Some value → (kept ≡ key) × (place ≡ Some value)
  shows kept key None value e = absurd (no_value value e)
  shows kept key (Some v) value e = by (bytes_eq kept key) refl e
    where
      by : (b : Bool) → bytes_eq kept key ≡ b → cond b (Some v) None ≡ Some value → (kept ≡ key) × (Some v ≡ Some value)
      by true h e = (grind (arith, bytes_eq-Decides, h), e)
      by false h e = absurd (no_value value e)

  -- the value that was put
  own : (is_true : Truth P) (p : Part) (handed : List (Handed P)) (key : Title) (value : Value P) (kept : Handed P) → key ≡ kept.key → value ≡ kept.value
      → is_true p key (value_of value) → Contains handed (record { key = key; value = value }) → holds_true is_true p kept × Contains handed kept
  own is_true p handed key value kept same_key same_value fact there =
      subst (λ (x : Title × Value P). is_true p x.0 (value_of x.1) × Contains handed (record { key = x.0; value = x.1 })) (λ i. (same_key i, same_value i)) (fact, there)

  pub renews : (is_true : Truth P) (handed : List (Handed P)) (old new : Row P) (key : Title) (value : Value P) (floor check : ℕ) (answer : Put)
      → Stores old.value new.value key value answer → answer ≡ placed floor check value.set_at value.lagged
      → is_true part.Main key (value_of value) → (value.lagged ≡ false → is_true part.Interim key (value_of value))
      → Contains handed (record { key = key; value = value }) → ((until : ℕ) → placed floor check value.set_at value.lagged ≢ put.Held until) → Renews is_true handed old new
  renews is_true handed old new key value floor check put.Main s a main interim there free part.Main kept is =
      inr (own is_true part.Main handed key value kept (sym s.0 ∙ is.0) (some_value value kept.value (sym s.1 ∙ is.1)) main there)
  renews is_true handed old new key value floor check put.Main s a main interim there free part.Interim kept is =
      let shown = shows old.value.key key old.value.interim kept.value (sym s.2 ∙ is.1) in
      inl (shown.0 ∙ (sym s.0 ∙ is.0), shown.1)
  renews is_true handed old new key value floor check put.Interim s a main interim there free part.Interim kept is =
      inr (own is_true part.Interim handed key value kept (sym s.0 ∙ is.0) (some_value value kept.value (sym s.1 ∙ is.1)) (interim (not_lagged floor check value.set_at value.lagged a)) there)
  renews is_true handed old new key value floor check put.Interim s a main interim there free part.Main kept is =
      let shown = shows old.value.key key old.value.main kept.value (sym s.2 ∙ is.1) in
      inl (shown.0 ∙ (sym s.0 ∙ is.0), shown.1)
  renews is_true handed old new key value floor check (put.Held until) s a main interim there free p kept is = absurd (free until (sym a))
  renews is_true handed old new key value floor check (put.Busy holder) s a main interim there free p kept is = absurd s
  renews is_true handed old new key value floor check put.Memory s a main interim there free p kept is = absurd s

  -- What a seat owes when it gives its slot back: after a look

  pub owes_same : (is_true : Truth P) (v : View P) (slot : ℕ) (row : Row P) (me : Me (Row P) (View P)) → me ≡ (took v slot row, (slot, row) ∷ []) → Owes is_true me slot
  owes_same is_true v slot row me is = subst (λ (m : Me (Row P) (View P)). Owes is_true m slot) (sym is)
      (record { old = row; new = row; holding = record { holds = refl; before = v.met; met = refl; carries = refl }; renews = λ p kept there. inl there })

  -- and after a put

  pub owes_put : (is_true : Truth P) (v : View P) (slot : ℕ) (old new : Row P) (me : Me (Row P) (View P)) → me ≡ (took v slot old, (slot, new) ∷ []) → Renews is_true v.handed old new → Owes is_true me slot
  owes_put is_true v slot old new me is renewed = subst (λ (m : Me (Row P) (View P)). Owes is_true m slot) (sym is)
      (record { old = old; new = new; holding = record { holds = refl; before = v.met; met = refl; carries = refl }; renews = renewed })

  first_row : List (ℕ × Row P) → Row P → Row P
  first_row [] row = row
  first_row (x ∷ xs) row = x.1

  -- the same, by what the steps of a put tell
  pub owes_stored : (is_true : Truth P) (v : View P) (slot : ℕ) (row old new : Row P) (carried : List (ℕ × Row P)) (start me : Me (Row P) (View P)) → carried ≡ [] → start ≡ (took v slot row, (slot, row) ∷ carried)
      → start.1 ≡ (slot, old) ∷ rest start.1 → me ≡ (start.0, (slot, new) ∷ rest start.1) → Renews is_true v.handed old new → Owes is_true me slot
  unfolding first_row
  owes_stored is_true v slot row old new carried start me none start_taken =
      let start_is : start ≡ (took v slot row, (slot, row) ∷ []) = start_taken ∙ ap (λ (l : List (ℕ × Row P)). (took v slot row, (slot, row) ∷ l)) none in
      subst (λ (s : Me (Row P) (View P)). s.1 ≡ (slot, old) ∷ rest s.1 → me ≡ (s.0, (slot, new) ∷ rest s.1) → Renews is_true v.handed old new → Owes is_true me slot) (sym start_is)
      (λ same is renewed.
      let is_old : row ≡ old = ap (λ (l : List (ℕ × Row P)). first_row l row) same in
      owes_put is_true v slot old new me (is ∙ ap (λ (r : Row P). (took v slot r, (slot, new) ∷ [])) is_old) renewed)

  -- the same, by what the steps of a look tell
  pub owes_looked : (is_true : Truth P) (v : View P) (slot : ℕ) (row : Row P) (carried : List (ℕ × Row P)) (start me : Me (Row P) (View P)) → carried ≡ [] → start ≡ (took v slot row, (slot, row) ∷ carried) → me ≡ start → Owes is_true me slot
  owes_looked is_true v slot row carried start me none start_is same =
      owes_same is_true v slot row me (same ∙ (start_is ∙ ap (λ (l : List (ℕ × Row P)). (took v slot row, (slot, row) ∷ l)) none))
