-- Open requests by their ids, in the farm and in the world.
use Rattle.std.proofs.Common.{◌≡◌, ℕ, Bool, true, false, cond, Option, Some, None, refl, sym, ap, subst, ◌∙◌, arith, nat_eq}
use Rattle.std.specs.Prelude.{option_and_then}
use Rattle.std.specs.FinMap.{get, insert, remove, get-insert, get-remove}
use Rattle.std.specs.Ordering.{nat_cmp, eq_by_cmp}
use Rattle.std.proofs.lemmas.Cmp.{nat_cmp_total}
use Rattle.std.proofs.lemmas.Bool.Decides.{nat_tests}
use Rattle.wiki_model.specs.World as world
use Rattle.wiki_model.specs.World.{World, Request, Floor, request_at}
use Rattle.wiki_model.specs.History.{Edit}
use Rattle.wiki_model.specs.Steps as steps
use Rattle.edit_core.specs.declared.edit_ask.EditAsk.{EditAsk}
use Rattle.edit_core.specs.declared.begun_edit.BegunEdit.{BegunEdit}
use Rattle.region_state.specs.declared.open_view.OpenView.{OpenView as CodeView}
use Rattle.region_state.specs.declared.snap_view.Snapped.{Snapped}
use Rattle.farm_steps.specs.declared.open_request.OpenRequest.{OpenRequest}
use Rattle.farm_steps.specs.declared.open_request.OpenRequest.TheVariants as point
use Rattle.region_state.specs.AsModel.{open_view_of, snapshot_of}
use Rattle.edit_core.specs.AsModel.{edit_of}
use Rattle.farm_steps.specs.RequestMap.{Entries, kept_at, open_at, unless_taken, Places, IsRequest, AgreeAt, IsBegun, HasPage, arrived_edit, begun_edit, arrived_view, waited_view, looked_view, snapped_view}
use Rattle.farm_core.proofs.Following.{Follows, agree-later}

-- a request of the world is none that a step has in its hands
shown : (w : World) (o : OpenRequest) (request : Request) → IsRequest w o request → AgreeAt w (unless_taken o) (Some request)
shown w (point.EditArrived ask) request is = is
shown w (point.EditBegun begun) request is = is
shown w (point.ViewArrived view) request is = is
shown w (point.ViewWaited view need) request is = is
shown w (point.ViewLooked view need) request is = is
shown w (point.ViewSnapped view snapped) request is = is
shown w point.Taken request is = absurd is

eq_cases : (other id : ℕ) → (b : Bool) → eq_by_cmp nat_cmp other id ≡ b → nat_eq other id ≡ b
eq_cases other id b e = grind (arith, nat_tests, e)

-- all requests agree
abbrev pub AllAgree : World → Entries → Type 0
AllAgree w entries = (id : ℕ) → AgreeAt w (open_at entries id) (request_at w id)

other_same : (old new : Entries) (id : ℕ) (now : Option OpenRequest) → Places old new id now → (other : ℕ) → nat_eq other id ≡ false → open_at new other ≡ open_at old other
other_same old new id now p other e = ap (option_and_then unless_taken) (p.others other e)

-- one request is now this
pub placed : (v w : World) (old new : Entries) (id : ℕ) (o : OpenRequest) (request : Request) → Follows v w → w.requests ≡ insert v.requests id request → Places old new id (Some o) → IsRequest w o request
    → AllAgree v old → AllAgree w new
placed v w old new id o request follows requests p is all other = by (nat_eq other id) refl
  where
    at : request_at w other ≡ cond (eq_by_cmp nat_cmp other id) (Some request) (request_at v other)
    at = ap (λ (m : world.Requests). get m other) requests ∙ get-insert nat_cmp_total v.requests id request other

    by : (b : Bool) → nat_eq other id ≡ b → AgreeAt w (open_at new other) (request_at w other)
    by true e =
        let same : other ≡ id = grind (arith, nat_tests, e) in
        let itself : eq_by_cmp nat_cmp other id ≡ true = grind (arith, nat_tests, same) in
        let there : request_at w other ≡ Some request = at ∙ ap (λ b. cond b (Some request) (request_at v other)) itself in
        let here : open_at new other ≡ unless_taken o = ap (open_at new) same ∙ ap (option_and_then unless_taken) p.here in
        subst (λ q. AgreeAt w (open_at new other) q) (sym there) (subst (λ x. AgreeAt w x (Some request)) (sym here) (shown w o request is))
    by false e =
        let apart : eq_by_cmp nat_cmp other id ≡ false = grind (arith, nat_tests, e) in
        let there : request_at w other ≡ request_at v other = at ∙ ap (λ b. cond b (Some request) (request_at v other)) apart in
        subst (λ q. AgreeAt w (open_at new other) q) (sym there) (subst (λ x. AgreeAt w x (request_at v other)) (sym (other_same old new id (Some o) p other e)) (agree-later v w follows (open_at old other) (request_at v other) (all other)))

-- one request is closed
pub closed : (v w : World) (old new : Entries) (id : ℕ) → Follows v w → w.requests ≡ remove v.requests id → Places old new id None → AllAgree v old → AllAgree w new
closed v w old new id follows requests p all other = by (nat_eq other id) refl
  where
    at : request_at w other ≡ cond (eq_by_cmp nat_cmp other id) None (request_at v other)
    at = ap (λ (m : world.Requests). get m other) requests ∙ get-remove nat_cmp_total v.requests id other

    by : (b : Bool) → nat_eq other id ≡ b → AgreeAt w (open_at new other) (request_at w other)
    by true e =
        let same : other ≡ id = grind (arith, nat_tests, e) in
        let itself : eq_by_cmp nat_cmp other id ≡ true = grind (arith, nat_tests, same) in
        let there : request_at w other ≡ None = at ∙ ap (λ b. cond b None (request_at v other)) itself in
        let here : open_at new other ≡ None = ap (open_at new) same ∙ ap (option_and_then unless_taken) p.here in
        subst (λ q. AgreeAt w (open_at new other) q) (sym there) (subst (λ x. AgreeAt w x None) (sym here) tt)
    by false e =
        let apart : eq_by_cmp nat_cmp other id ≡ false = grind (arith, nat_tests, e) in
        let there : request_at w other ≡ request_at v other = at ∙ ap (λ b. cond b None (request_at v other)) apart in
        subst (λ q. AgreeAt w (open_at new other) q) (sym there) (subst (λ x. AgreeAt w x (request_at v other)) (sym (other_same old new id None p other e)) (agree-later v w follows (open_at old other) (request_at v other) (all other)))

-- no request changes
pub unmoved : (v w : World) (old new : Entries) → Follows v w → w.requests ≡ v.requests → ((id : ℕ) → kept_at new id ≡ kept_at old id) → AllAgree v old → AllAgree w new
unmoved v w old new follows requests same all id =
    subst (λ q. AgreeAt w (open_at new id) q) (sym (ap (λ (m : world.Requests). get m id) requests))
    (subst (λ x. AgreeAt w x (request_at v id)) (sym (ap (option_and_then unless_taken) (same id))) (agree-later v w follows (open_at old id) (request_at v id) (all id)))

-- A step on a request: the farm has it at its point exactly where the world has.

pub at_point : {A : Type 0} (found : Option A) (a : A) (id : ℕ) (v : World) (answer : Option Rattle.wiki_model.specs.Answers.Answer) (w : World) (P : A → Type 0) → found ≡ Some a → P a → steps.AtPoint found id v answer w P
at_point found a id v answer w P is p = subst (λ o. steps.AtPoint o id v answer w P) (sym is) p

pub no_point : {A : Type 0} (found : Option A) (id : ℕ) (v w : World) (P : A → Type 0) → found ≡ None → w ≡ v → steps.AtPoint found id v (Some (Rattle.wiki_model.specs.Answers.NotOpen id)) w P
no_point found id v w P is same = subst (λ o. steps.AtPoint o id v (Some (Rattle.wiki_model.specs.Answers.NotOpen id)) w P) (sym is) (refl, same)

-- the farm has no request at the point, and so has the world

pub no_waited : (v : World) (o : Option OpenRequest) (q : Option Request) → AgreeAt v o q → waited_view o ≡ None → steps.waited_view q ≡ None
no_waited v None None is none = refl
no_waited v None (Some q) is none = absurd is
no_waited v (Some o) None is none = absurd is
no_waited v (Some (point.EditArrived ask)) (Some q) is none = ap (λ x. steps.waited_view (Some x)) (is)
no_waited v (Some (point.EditBegun own)) (Some q) is none = ap (λ x. steps.waited_view (Some x)) (is.2)
no_waited v (Some (point.ViewArrived own)) (Some q) is none = ap (λ x. steps.waited_view (Some x)) (is)
no_waited v (Some (point.ViewWaited own least)) (Some q) is none = let no : ⊥ = cc in absurd no
no_waited v (Some (point.ViewLooked own least)) (Some q) is none = ap (λ x. steps.waited_view (Some x)) (is.1)
no_waited v (Some (point.ViewSnapped own got)) (Some q) is none = ap (λ x. steps.waited_view (Some x)) (is.1)
no_waited v (Some point.Taken) (Some q) is none = absurd is

pub no_arrived : (v : World) (o : Option OpenRequest) (q : Option Request) → AgreeAt v o q → arrived_view o ≡ None → steps.arrived_view q ≡ None
no_arrived v None None is none = refl
no_arrived v None (Some q) is none = absurd is
no_arrived v (Some o) None is none = absurd is
no_arrived v (Some (point.EditArrived ask)) (Some q) is none = ap (λ x. steps.arrived_view (Some x)) (is)
no_arrived v (Some (point.EditBegun own)) (Some q) is none = ap (λ x. steps.arrived_view (Some x)) (is.2)
no_arrived v (Some (point.ViewArrived own)) (Some q) is none = let no : ⊥ = cc in absurd no
no_arrived v (Some (point.ViewWaited own least)) (Some q) is none = ap (λ x. steps.arrived_view (Some x)) (is.1)
no_arrived v (Some (point.ViewLooked own least)) (Some q) is none = ap (λ x. steps.arrived_view (Some x)) (is.1)
no_arrived v (Some (point.ViewSnapped own got)) (Some q) is none = ap (λ x. steps.arrived_view (Some x)) (is.1)
no_arrived v (Some point.Taken) (Some q) is none = absurd is

pub no_looked : (v : World) (o : Option OpenRequest) (q : Option Request) → AgreeAt v o q → looked_view o ≡ None → steps.looked_view q ≡ None
no_looked v None None is none = refl
no_looked v None (Some q) is none = absurd is
no_looked v (Some o) None is none = absurd is
no_looked v (Some (point.EditArrived ask)) (Some q) is none = ap (λ x. steps.looked_view (Some x)) (is)
no_looked v (Some (point.EditBegun own)) (Some q) is none = ap (λ x. steps.looked_view (Some x)) (is.2)
no_looked v (Some (point.ViewArrived own)) (Some q) is none = ap (λ x. steps.looked_view (Some x)) (is)
no_looked v (Some (point.ViewWaited own least)) (Some q) is none = ap (λ x. steps.looked_view (Some x)) (is.1)
no_looked v (Some (point.ViewLooked own least)) (Some q) is none = let no : ⊥ = cc in absurd no
no_looked v (Some (point.ViewSnapped own got)) (Some q) is none = ap (λ x. steps.looked_view (Some x)) (is.1)
no_looked v (Some point.Taken) (Some q) is none = absurd is

pub no_snapped : (v : World) (o : Option OpenRequest) (q : Option Request) → AgreeAt v o q → snapped_view o ≡ None → steps.snapped_view q ≡ None
no_snapped v None None is none = refl
no_snapped v None (Some q) is none = absurd is
no_snapped v (Some o) None is none = absurd is
no_snapped v (Some (point.EditArrived ask)) (Some q) is none = ap (λ x. steps.snapped_view (Some x)) (is)
no_snapped v (Some (point.EditBegun own)) (Some q) is none = ap (λ x. steps.snapped_view (Some x)) (is.2)
no_snapped v (Some (point.ViewArrived own)) (Some q) is none = ap (λ x. steps.snapped_view (Some x)) (is)
no_snapped v (Some (point.ViewWaited own least)) (Some q) is none = ap (λ x. steps.snapped_view (Some x)) (is.1)
no_snapped v (Some (point.ViewLooked own least)) (Some q) is none = ap (λ x. steps.snapped_view (Some x)) (is.1)
no_snapped v (Some (point.ViewSnapped own got)) (Some q) is none = let no : ⊥ = cc in absurd no
no_snapped v (Some point.Taken) (Some q) is none = absurd is

pub no_arrived_edit : (v : World) (o : Option OpenRequest) (q : Option Request) → AgreeAt v o q → arrived_edit o ≡ None → steps.arrived_edit q ≡ None
no_arrived_edit v None None is none = refl
no_arrived_edit v None (Some q) is none = absurd is
no_arrived_edit v (Some o) None is none = absurd is
no_arrived_edit v (Some (point.EditArrived ask)) (Some q) is none = let no : ⊥ = cc in absurd no
no_arrived_edit v (Some (point.EditBegun own)) (Some q) is none = ap (λ x. steps.arrived_edit (Some x)) (is.2)
no_arrived_edit v (Some (point.ViewArrived own)) (Some q) is none = ap (λ x. steps.arrived_edit (Some x)) (is)
no_arrived_edit v (Some (point.ViewWaited own least)) (Some q) is none = ap (λ x. steps.arrived_edit (Some x)) (is.1)
no_arrived_edit v (Some (point.ViewLooked own least)) (Some q) is none = ap (λ x. steps.arrived_edit (Some x)) (is.1)
no_arrived_edit v (Some (point.ViewSnapped own got)) (Some q) is none = ap (λ x. steps.arrived_edit (Some x)) (is.1)
no_arrived_edit v (Some point.Taken) (Some q) is none = absurd is

pub no_begun : (v : World) (o : Option OpenRequest) (q : Option Request) → AgreeAt v o q → begun_edit o ≡ None → steps.begun_edit q ≡ None
no_begun v None None is none = refl
no_begun v None (Some q) is none = absurd is
no_begun v (Some o) None is none = absurd is
no_begun v (Some (point.EditArrived ask)) (Some q) is none = ap (λ x. steps.begun_edit (Some x)) (is)
no_begun v (Some (point.EditBegun own)) (Some q) is none = let no : ⊥ = cc in absurd no
no_begun v (Some (point.ViewArrived own)) (Some q) is none = ap (λ x. steps.begun_edit (Some x)) (is)
no_begun v (Some (point.ViewWaited own least)) (Some q) is none = ap (λ x. steps.begun_edit (Some x)) (is.1)
no_begun v (Some (point.ViewLooked own least)) (Some q) is none = ap (λ x. steps.begun_edit (Some x)) (is.1)
no_begun v (Some (point.ViewSnapped own got)) (Some q) is none = ap (λ x. steps.begun_edit (Some x)) (is.1)
no_begun v (Some point.Taken) (Some q) is none = absurd is

pub is_waited : (v : World) (o : Option OpenRequest) (q : Option Request) (view : CodeView) (need : ℕ) → AgreeAt v o q → waited_view o ≡ Some (view, need) → (floor : Floor) × (q ≡ Some (world.ViewWaited (open_view_of view) floor)) × (need ≡ floor.need)
is_waited v None q view need is some = let no : ⊥ = cc in absurd no
is_waited v (Some o) None view need is some = absurd is
is_waited v (Some (point.EditArrived ask)) (Some q) view need is some = let no : ⊥ = cc in absurd no
is_waited v (Some (point.EditBegun own)) (Some q) view need is some = let no : ⊥ = cc in absurd no
is_waited v (Some (point.ViewArrived own)) (Some q) view need is some = let no : ⊥ = cc in absurd no
is_waited v (Some (point.ViewWaited own least)) (Some q) view need is some = let same : (own, least) ≡ (view, need) = cc in subst (λ (p : CodeView × ℕ). (floor : Floor) × (Some q ≡ Some (world.ViewWaited (open_view_of p.0) floor)) × (p.1 ≡ floor.need)) same (is.0, ap Some is.1, is.2)
is_waited v (Some (point.ViewLooked own least)) (Some q) view need is some = let no : ⊥ = cc in absurd no
is_waited v (Some (point.ViewSnapped own got)) (Some q) view need is some = let no : ⊥ = cc in absurd no
is_waited v (Some point.Taken) (Some q) view need is some = absurd is

pub is_arrived : (v : World) (o : Option OpenRequest) (q : Option Request) (view : CodeView) → AgreeAt v o q → arrived_view o ≡ Some view → q ≡ Some (world.ViewArrived (open_view_of view))
is_arrived v None q view is some = let no : ⊥ = cc in absurd no
is_arrived v (Some o) None view is some = absurd is
is_arrived v (Some (point.EditArrived ask)) (Some q) view is some = let no : ⊥ = cc in absurd no
is_arrived v (Some (point.EditBegun own)) (Some q) view is some = let no : ⊥ = cc in absurd no
is_arrived v (Some (point.ViewArrived own)) (Some q) view is some = let same : own ≡ view = cc in subst (λ (p : CodeView). Some q ≡ Some (world.ViewArrived (open_view_of p))) same (ap Some is)
is_arrived v (Some (point.ViewWaited own least)) (Some q) view is some = let no : ⊥ = cc in absurd no
is_arrived v (Some (point.ViewLooked own least)) (Some q) view is some = let no : ⊥ = cc in absurd no
is_arrived v (Some (point.ViewSnapped own got)) (Some q) view is some = let no : ⊥ = cc in absurd no
is_arrived v (Some point.Taken) (Some q) view is some = absurd is

pub is_looked : (v : World) (o : Option OpenRequest) (q : Option Request) (view : CodeView) (need : ℕ) → AgreeAt v o q → looked_view o ≡ Some (view, need) → (floor : Floor) × (q ≡ Some (world.ViewLooked (open_view_of view) floor)) × (need ≡ floor.need)
is_looked v None q view need is some = let no : ⊥ = cc in absurd no
is_looked v (Some o) None view need is some = absurd is
is_looked v (Some (point.EditArrived ask)) (Some q) view need is some = let no : ⊥ = cc in absurd no
is_looked v (Some (point.EditBegun own)) (Some q) view need is some = let no : ⊥ = cc in absurd no
is_looked v (Some (point.ViewArrived own)) (Some q) view need is some = let no : ⊥ = cc in absurd no
is_looked v (Some (point.ViewWaited own least)) (Some q) view need is some = let no : ⊥ = cc in absurd no
is_looked v (Some (point.ViewLooked own least)) (Some q) view need is some = let same : (own, least) ≡ (view, need) = cc in subst (λ (p : CodeView × ℕ). (floor : Floor) × (Some q ≡ Some (world.ViewLooked (open_view_of p.0) floor)) × (p.1 ≡ floor.need)) same (is.0, ap Some is.1, is.2)
is_looked v (Some (point.ViewSnapped own got)) (Some q) view need is some = let no : ⊥ = cc in absurd no
is_looked v (Some point.Taken) (Some q) view need is some = absurd is

pub is_snapped : (v : World) (o : Option OpenRequest) (q : Option Request) (view : CodeView) (snapped : Snapped) → AgreeAt v o q → snapped_view o ≡ Some (view, snapped) → (floor : Floor) × (q ≡ Some (world.ViewSnapped (open_view_of view) floor (snapshot_of snapped))) × HasPage v view.ask.title snapped.snapshot
is_snapped v None q view snapped is some = let no : ⊥ = cc in absurd no
is_snapped v (Some o) None view snapped is some = absurd is
is_snapped v (Some (point.EditArrived ask)) (Some q) view snapped is some = let no : ⊥ = cc in absurd no
is_snapped v (Some (point.EditBegun own)) (Some q) view snapped is some = let no : ⊥ = cc in absurd no
is_snapped v (Some (point.ViewArrived own)) (Some q) view snapped is some = let no : ⊥ = cc in absurd no
is_snapped v (Some (point.ViewWaited own least)) (Some q) view snapped is some = let no : ⊥ = cc in absurd no
is_snapped v (Some (point.ViewLooked own least)) (Some q) view snapped is some = let no : ⊥ = cc in absurd no
is_snapped v (Some (point.ViewSnapped own got)) (Some q) view snapped is some = let same : (own, got) ≡ (view, snapped) = cc in subst (λ (p : CodeView × Snapped). (floor : Floor) × (Some q ≡ Some (world.ViewSnapped (open_view_of p.0) floor (snapshot_of p.1))) × HasPage v p.0.ask.title p.1.snapshot) same (is.0, ap Some is.1, is.2)
is_snapped v (Some point.Taken) (Some q) view snapped is some = absurd is

pub is_arrived_edit : (v : World) (o : Option OpenRequest) (q : Option Request) (edit : EditAsk) → AgreeAt v o q → arrived_edit o ≡ Some edit → q ≡ Some (world.EditArrived (edit_of edit))
is_arrived_edit v None q edit is some = let no : ⊥ = cc in absurd no
is_arrived_edit v (Some o) None edit is some = absurd is
is_arrived_edit v (Some (point.EditArrived ask)) (Some q) edit is some = let same : ask ≡ edit = cc in subst (λ (p : EditAsk). Some q ≡ Some (world.EditArrived (edit_of p))) same (ap Some is)
is_arrived_edit v (Some (point.EditBegun own)) (Some q) edit is some = let no : ⊥ = cc in absurd no
is_arrived_edit v (Some (point.ViewArrived own)) (Some q) edit is some = let no : ⊥ = cc in absurd no
is_arrived_edit v (Some (point.ViewWaited own least)) (Some q) edit is some = let no : ⊥ = cc in absurd no
is_arrived_edit v (Some (point.ViewLooked own least)) (Some q) edit is some = let no : ⊥ = cc in absurd no
is_arrived_edit v (Some (point.ViewSnapped own got)) (Some q) edit is some = let no : ⊥ = cc in absurd no
is_arrived_edit v (Some point.Taken) (Some q) edit is some = absurd is

pub is_begun : (v : World) (o : Option OpenRequest) (q : Option Request) (begun : BegunEdit) → AgreeAt v o q → begun_edit o ≡ Some begun → (edit : Edit) × (purge : ℕ) × (q ≡ Some (world.EditBegun edit purge)) × IsBegun v begun edit purge
is_begun v None q begun is some = let no : ⊥ = cc in absurd no
is_begun v (Some o) None begun is some = absurd is
is_begun v (Some (point.EditArrived ask)) (Some q) begun is some = let no : ⊥ = cc in absurd no
is_begun v (Some (point.EditBegun own)) (Some q) begun is some = let same : own ≡ begun = cc in subst (λ (p : BegunEdit). (edit : Edit) × (purge : ℕ) × (Some q ≡ Some (world.EditBegun edit purge)) × IsBegun v p edit purge) same (is.0, is.1, ap Some is.2, is.3)
is_begun v (Some (point.ViewArrived own)) (Some q) begun is some = let no : ⊥ = cc in absurd no
is_begun v (Some (point.ViewWaited own least)) (Some q) begun is some = let no : ⊥ = cc in absurd no
is_begun v (Some (point.ViewLooked own least)) (Some q) begun is some = let no : ⊥ = cc in absurd no
is_begun v (Some (point.ViewSnapped own got)) (Some q) begun is some = let no : ⊥ = cc in absurd no
is_begun v (Some point.Taken) (Some q) begun is some = absurd is

-- a request is put back as it was
pub put_again : (v w : World) (old new : Entries) (id : ℕ) (o : OpenRequest) (request : Request) → Follows v w → w.requests ≡ v.requests → Places old new id (Some o) → request_at v id ≡ Some request → IsRequest w o request
    → AllAgree v old → AllAgree w new
put_again v w old new id o request follows requests p there is all other = by (nat_eq other id) refl
  where
    by : (b : Bool) → nat_eq other id ≡ b → AgreeAt w (open_at new other) (request_at w other)
    by true e =
        let same : other ≡ id = grind (arith, nat_tests, e) in
        let at : request_at w other ≡ Some request = ap (λ (m : world.Requests). get m other) requests ∙ ap (request_at v) same ∙ there in
        let here : open_at new other ≡ unless_taken o = ap (open_at new) same ∙ ap (option_and_then unless_taken) p.here in
        subst (λ q. AgreeAt w (open_at new other) q) (sym at) (subst (λ x. AgreeAt w x (Some request)) (sym here) (shown w o request is))
    by false e =
        subst (λ q. AgreeAt w (open_at new other) q) (sym (ap (λ (m : world.Requests). get m other) requests))
        (subst (λ x. AgreeAt w x (request_at v other)) (sym (other_same old new id (Some o) p other e)) (agree-later v w follows (open_at old other) (request_at v other) (all other)))
