-- Whether an edit of a title is begun, by a walk over the requests.
-- A view that is taken from its place begins none and ends none, so what is begun stays.
use Rattle.std.proofs.Common.{◌≡◌, ℕ, suc, Bool, true, false, cond, ◌||◌, [], ◌∷◌, Option, Some, None, IsTrue, refl, sym, ap, ◌∙◌, arith, nat_eq}
use Rattle.std.specs.Prelude.{option_and_then, ◌↔◌, All}
use Rattle.std.proofs.lemmas.Slice.Eq.{bytes_eq-Decides}
use Rattle.std.specs.Map.{lookup}
use Rattle.wiki_model.specs.Titles.{Title}
use Rattle.edit_core.specs.declared.begun_edit.BegunEdit.{BegunEdit}
use Rattle.farm_steps.specs.declared.open_request.OpenRequest.{OpenRequest}
use Rattle.farm_steps.specs.declared.open_request.OpenRequest.TheVariants as point
use Rattle.farm_steps.specs.RequestMap.{Entries, kept_at, open_at, unless_taken, looked_view, Places}
use Rattle.wiki_model.specs.declared.Region.{Region}
use Rattle.wiki_model.specs.declared.Region.TheVariants.{Home, West}
use Rattle.region_state.specs.declared.open_view.OpenView.{OpenView}
use Rattle.std.proofs.lemmas.Bool.Decides.{nat_tests}
use Rattle.farm_steps.specs.ViewSteps.{HasBegun, IsPendingIn, begun_on, any_begun, AreFound}

shown_is : (o : Option OpenRequest) (begun : BegunEdit) → option_and_then unless_taken o ≡ Some (point.EditBegun begun) → o ≡ Some (point.EditBegun begun)
shown_is None begun e = let no : ⊥ = cc in absurd no
shown_is (Some (point.EditBegun b)) begun e = e
shown_is (Some (point.EditArrived ask)) begun e = let no : ⊥ = cc in absurd no
shown_is (Some (point.ViewArrived view)) begun e = let no : ⊥ = cc in absurd no
shown_is (Some (point.ViewWaited view need)) begun e = let no : ⊥ = cc in absurd no
shown_is (Some (point.ViewLooked view need)) begun e = let no : ⊥ = cc in absurd no
shown_is (Some (point.ViewSnapped view snapped)) begun e = let no : ⊥ = cc in absurd no
shown_is (Some point.Taken) begun e = let no : ⊥ = cc in absurd no

looked_up : (test : ℕ → Bool) (es : Entries) (o : OpenRequest) (title : Title) → lookup test es ≡ Some o → begun_on title o ≡ true → any_begun title es ≡ true
looked_up test [] o title e on = let no : ⊥ = cc in absurd no
looked_up test (x ∷ es) o title e on = by (test x.0) e (begun_on title x.1) refl (λ is. looked_up test es o title is on)
  where
    or-true : (b : Bool) → (b || true) ≡ true
    or-true true = refl
    or-true false = refl

    by : (t : Bool) → cond t (Some x.1) (lookup test es) ≡ Some o → (b : Bool) → begun_on title x.1 ≡ b → (lookup test es ≡ Some o → any_begun title es ≡ true) → (b || any_begun title es) ≡ true
    by true is b on_x rest = let same : x.1 ≡ o = cc in let one : b ≡ true = sym on_x ∙ ap (begun_on title) same ∙ on in ap (λ c. c || any_begun title es) one
    by false is b on_x rest = ap (λ c. b || c) (rest is) ∙ or-true b

on_it : (title : Title) (o : OpenRequest) → begun_on title o ≡ true → (begun : BegunEdit) × (o ≡ point.EditBegun begun) × (begun.ask.title ≡ title)
on_it title (point.EditBegun begun) on = (begun, refl, (bytes_eq-Decides begun.ask.title title).0 on)
on_it title (point.EditArrived ask) on = let no : ⊥ = cc in absurd no
on_it title (point.ViewArrived view) on = let no : ⊥ = cc in absurd no
on_it title (point.ViewWaited view need) on = let no : ⊥ = cc in absurd no
on_it title (point.ViewLooked view need) on = let no : ⊥ = cc in absurd no
on_it title (point.ViewSnapped view snapped) on = let no : ⊥ = cc in absurd no
on_it title point.Taken on = let no : ⊥ = cc in absurd no

there : (title : Title) (whole es : Entries) → All (λ e. kept_at whole e.0 ≡ Some e.1) es → any_begun title es ≡ true → HasBegun whole title
there title whole [] found any = let no : ⊥ = cc in absurd no
there title whole (x ∷ es) found any = by (begun_on title x.1) refl any (λ left. there title whole es (λ k d less. found (suc k) d (omega (arith, less))) left)
  where
    by : (b : Bool) → begun_on title x.1 ≡ b → (b || any_begun title es) ≡ true → (any_begun title es ≡ true → HasBegun whole title) → HasBegun whole title
    by true on any rest =
        let o = on_it title x.1 on in
        let kept : kept_at whole x.0 ≡ Some x.1 = found 0 x (omega arith) in
        (x.0, o.0, ap (option_and_then unless_taken) (kept ∙ ap Some o.1), o.2)
    by false on any rest = rest any

pub begun_is : (title : Title) (entries : Entries) (b : Bool) → AreFound entries → b ≡ any_begun title entries → IsTrue b ↔ HasBegun entries title
begun_is title entries b found is = (forth, back)
  where
    forth : IsTrue b → HasBegun entries title
    forth b_is = there title entries entries found (sym is ∙ b_is)

    back : HasBegun entries title → IsTrue b
    back (id, begun, at, named) =
        is ∙ looked_up (Rattle.std.specs.BTreeMap.is_at (Rattle.std.specs.Ordering.nat_cmp id)) entries (point.EditBegun begun) title (shown_is (kept_at entries id) begun at) ((bytes_eq-Decides begun.ask.title title).1 named)

-- what is begun is the same where a view was taken from its place
pub begun_taken : (old mid : Entries) (id : ℕ) (found : OpenView × ℕ) → Places old mid id (Some point.Taken) → looked_view (open_at old id) ≡ Some found → (title : Title) → (HasBegun mid title → HasBegun old title) × (HasBegun old title → HasBegun mid title)
begun_taken old mid id found places is title = (back, forth)
  where
    apart : (i : ℕ) (begun : BegunEdit) → open_at old i ≡ Some (point.EditBegun begun) → nat_eq i id ≡ true → ⊥
    apart i begun at e =
        let same : i ≡ id = grind (arith, nat_tests, e) in
        let there : open_at old id ≡ Some (point.EditBegun begun) = ap (open_at old) (sym same) ∙ at in
        let none : looked_view (Some (point.EditBegun begun)) ≡ Some found = ap looked_view (sym there) ∙ is in cc

    taken : (i : ℕ) (begun : BegunEdit) → open_at mid i ≡ Some (point.EditBegun begun) → nat_eq i id ≡ true → ⊥
    taken i begun at e =
        let same : i ≡ id = grind (arith, nat_tests, e) in
        let there : None ≡ Some (point.EditBegun begun) = sym (ap (option_and_then unless_taken) places.here) ∙ ap (open_at mid) (sym same) ∙ at in cc

    back : HasBegun mid title → HasBegun old title
    back (i, begun, at, named) = (i, begun, go (nat_eq i id) refl, named)
      where
        go : (b : Bool) → nat_eq i id ≡ b → open_at old i ≡ Some (point.EditBegun begun)
        go true e = absurd (taken i begun at e)
        go false e = ap (option_and_then unless_taken) (sym (places.others i e)) ∙ at

    forth : HasBegun old title → HasBegun mid title
    forth (i, begun, at, named) = (i, begun, go (nat_eq i id) refl, named)
      where
        go : (b : Bool) → nat_eq i id ≡ b → open_at mid i ≡ Some (point.EditBegun begun)
        go true e = absurd (apart i begun at e)
        go false e = ap (option_and_then unless_taken) (places.others i e) ∙ at

pub pending_taken : (old mid : Entries) (id : ℕ) (found : OpenView × ℕ) → Places old mid id (Some point.Taken) → looked_view (open_at old id) ≡ Some found → (r : Region) (title : Title) (pending : Bool) → IsPendingIn r mid title pending → IsPendingIn r old title pending
pending_taken old mid id found places is Home title pending p = let b = begun_taken old mid id found places is title in (λ yes. b.0 (p.0 yes), λ there. p.1 (b.1 there))
pending_taken old mid id found places is West title pending p = p
