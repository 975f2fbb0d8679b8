-- The step look goes on with every run.
use Rattle.std.proofs.Common.{◌≡◌, ℕ, inl, inr, List, Option, Some, None, IfSome, refl, sym, ap, subst, ◌∙◌, arith}
use Rattle.std.specs.Prelude.{IsSome}
use Rattle.wiki_model.specs.declared.Region.{Region}
use Rattle.wiki_model.specs.Bytes.{Bytes}
use Rattle.wiki_model.specs.History.{Entry}
use Rattle.wiki_model.specs.Cache.{CacheMap, Ask, Found, Hit, Interim, Missed, look}
use Rattle.wiki_model.specs.CacheCalls.{ask_of, look_answer, looked}
use Rattle.wiki_model.specs.World as world
use Rattle.wiki_model.specs.World.{World, Floor, moment, request_at, with_request, without_request}
use Rattle.wiki_model.specs.Answers.{Answer, NotOpen, NoMemory}
use Rattle.wiki_model.specs.Steps.{Step, Looks as MayLook}
use Rattle.wiki_model.specs.Steps as steps
use Rattle.wiki_model.specs.Runs.{One, with_faults}
use Rattle.wiki_model.specs.Caches.{CacheStands}
use Rattle.wiki_model.proofs.MissLaws.{look-allowed}
use Rattle.region_state.specs.declared.open_view.OpenView.{OpenView}
use Rattle.farm_steps.specs.declared.open_request.OpenRequest.TheVariants as point
use Rattle.region_state.specs.AsModel.{open_view_of}
use Rattle.farm_steps.specs.RequestMap.{Entries, open_at, waited_view, Places}
use Rattle.farm_core.specs.FarmParts.{FarmParts}
use Rattle.region_state.specs.RegionState.{RegionParts, RegionConfig}
use Rattle.region_state.specs.SnapView.{ask_for}
use Rattle.farm_core.specs.Agreement.{RegionStands}
use Rattle.farm_core.specs.Runs.{GoesFrom, LeadsTo}
use Rattle.farm_steps.specs.ViewSteps.{Looks, LooksTo, region_at}
use Rattle.farm_core.proofs.Points.{placed, closed, at_point, no_point, no_waited, is_waited}
use Rattle.farm_core.proofs.Quiet.{IsQuiet, quiet-follows}
use Rattle.farm_core.proofs.Waiting.{site_of, moment_is, calm_agrees, none_goes}

ask_is : {S : Type 0} (cache_of : S → CacheMap Bytes) (parts : RegionParts S) (v : World) (r : Region) (need least : ℕ) → RegionStands cache_of parts v r → need ≡ least → ask_for parts need ≡ ask_of v least
ask_is cache_of parts v r need least s same =
    ap (λ (c : RegionConfig). let a : Ask = record { epoch = c.epoch; version = parts.markup; need = need } in a) s.config
    ∙ ap (λ m. let a : Ask = record { epoch = v.setting.epoch; version = m; need = need } in a) s.markup
    ∙ ap (λ n. let a : Ask = record { epoch = v.setting.epoch; version = v.markup; need = n } in a) same

pub look_goes : {K S : Type 0} (content : K → Option (List Entry)) (faults : K → ℕ) (cache_of : S → CacheMap Bytes) (old : FarmParts K S) (requests : Entries) (id : ℕ) (answer : Option Answer)
    → Looks cache_of old.home old.west old.moments id old.requests requests answer (waited_view (open_at old.requests id))
    → GoesFrom content faults cache_of old (record old { requests = requests }) (Step.Look id) (One answer)
look_goes content faults cache_of old requests id answer did v fits a = by (waited_view (open_at old.requests id)) refl did
  where
    ends : (said : Answer) (view : OpenView) (floor : Floor) → request_at v id ≡ Some (world.ViewWaited (open_view_of view) floor) → Places old.requests requests id None → Rattle.wiki_model.specs.Runs.CountsFaults v.faults (faults old.keeper) (One (Some said))
        → MayLook id (open_view_of view, floor) v (Some said) (without_request id v) → (w : World) × LeadsTo content faults cache_of old (record old { requests = requests }) (Step.Look id) (One (Some said)) v w
    ends said view floor there places counts row =
        let w : World = with_faults (faults old.keeper) (without_request id v) in
        let q : IsQuiet v w = record { history = refl; setting = refl; messages = refl; home = refl; west = refl; markup = refl } in (
          w,
          record {
            takes = at_point (steps.waited_view (request_at v id)) (open_view_of view, floor) id v (Some said) (without_request id v) (λ y. MayLook id y v (Some said) (without_request id v)) (ap steps.waited_view there) row;
            counts = counts;
            later = omega arith;
            agrees = calm_agrees content faults cache_of old requests v w (record { quiet = q; count = refl; all = closed v w old.requests requests id (quiet-follows v w q) refl places a.requests }) a;
          },
        )

    goes : (said : Answer) (view : OpenView) (need : ℕ) (floor : Floor) → need ≡ floor.need → request_at v id ≡ Some (world.ViewWaited (open_view_of view) floor) → Places old.requests requests id (Some (point.ViewLooked view need)) → Rattle.wiki_model.specs.Runs.CountsFaults v.faults (faults old.keeper) (One (Some said))
        → MayLook id (open_view_of view, floor) v (Some said) (with_request id (world.ViewLooked (open_view_of view) floor) v) → (w : World) × LeadsTo content faults cache_of old (record old { requests = requests }) (Step.Look id) (One (Some said)) v w
    goes said view need floor same there places counts row =
        let u : World = with_request id (world.ViewLooked (open_view_of view) floor) v in
        let w : World = with_faults (faults old.keeper) u in
        let q : IsQuiet v w = record { history = refl; setting = refl; messages = refl; home = refl; west = refl; markup = refl } in (
          w,
          record {
            takes = at_point (steps.waited_view (request_at v id)) (open_view_of view, floor) id v (Some said) u (λ y. MayLook id y v (Some said) u) (ap steps.waited_view there) row;
            counts = counts;
            later = omega arith;
            agrees = calm_agrees content faults cache_of old requests v w (record { quiet = q; count = refl; all = placed v w old.requests requests id (point.ViewLooked view need) (world.ViewLooked (open_view_of view) floor) (quiet-follows v w q) refl places (floor, refl, same) a.requests }) a;
          },
        )

    seen : (view : OpenView) (need : ℕ) (floor : Floor) → need ≡ floor.need → request_at v id ≡ Some (world.ViewWaited (open_view_of view) floor) → (found : Found Bytes)
        → MayLook id (open_view_of view, floor) v (Some (look_answer view.ask.title found)) (looked id (open_view_of view) floor found v) → LooksTo id view need old.requests requests answer found
        → (w : World) × LeadsTo content faults cache_of old (record old { requests = requests }) (Step.Look id) (One answer) v w
    seen view need floor same there found row (inl none) =
        subst (λ (x : Option Answer). (w : World) × LeadsTo content faults cache_of old (record old { requests = requests }) (Step.Look id) (One x) v w) (sym none.0) (ends NoMemory view floor there none.1 a.counted refl)
    seen view need floor same there (Hit value) row (inr at) =
        subst (λ (x : Option Answer). (w : World) × LeadsTo content faults cache_of old (record old { requests = requests }) (Step.Look id) (One x) v w) (sym at.0) (ends (look_answer view.ask.title (Hit value)) view floor there at.1 a.counted row)
    seen view need floor same there (Interim value) row (inr at) =
        subst (λ (x : Option Answer). (w : World) × LeadsTo content faults cache_of old (record old { requests = requests }) (Step.Look id) (One x) v w) (sym at.0) (ends (look_answer view.ask.title (Interim value)) view floor there at.1 a.counted row)
    seen view need floor same there (Missed why) row (inr at) =
        subst (λ (x : Option Answer). (w : World) × LeadsTo content faults cache_of old (record old { requests = requests }) (Step.Look id) (One x) v w) (sym at.0) (goes (look_answer view.ask.title (Missed why)) view need floor same there at.1 a.counted row)

    in_cache : (view : OpenView) (need : ℕ) (floor : Floor) → need ≡ floor.need → request_at v id ≡ Some (world.ViewWaited (open_view_of view) floor) → (cache : Option _) → IsSome cache
        → IfSome cache (λ c. CacheStands v view.region (cache_of c)) → IfSome cache (λ c. LooksTo id view need old.requests requests answer (look (cache_of c) view.ask.title (moment view.region v) (ask_of v floor.need)))
        → (w : World) × LeadsTo content faults cache_of old (record old { requests = requests }) (Step.Look id) (One answer) v w
    in_cache view need floor same there None some stands did = let no : ⊥ = cc in absurd no
    in_cache view need floor same there (Some c) some stands did =
        seen view need floor same there (look (cache_of c) view.ask.title (moment view.region v) (ask_of v floor.need))
        (look-allowed id (open_view_of view) floor v (cache_of c) (look (cache_of c) view.ask.title (moment view.region v) (ask_of v floor.need)) fits stands (fits.requests id (world.ViewWaited (open_view_of view) floor) there) refl) did

    by : (found : Option (OpenView × ℕ)) → waited_view (open_at old.requests id) ≡ found → Looks cache_of old.home old.west old.moments id old.requests requests answer found
        → (w : World) × LeadsTo content faults cache_of old (record old { requests = requests }) (Step.Look id) (One answer) v w
    by None is did =
        none_goes content faults cache_of old requests id answer v (Step.Look id) did a
        (no_point (steps.waited_view (request_at v id)) id v v (λ y. MayLook id y v (Some (NotOpen id)) v) (no_waited v (open_at old.requests id) (request_at v id) (a.requests id) is) refl)
    by (Some (view, need)) is did =
        let r = view.region in
        let parts = region_at r old.home old.west in
        let s = site_of content faults cache_of old v a r in
        let at = is_waited v (open_at old.requests id) (request_at v id) view need (a.requests id) is in
        let now = moment_is content faults cache_of old v a r in
        let at_moment = subst (λ n. IfSome parts.cache (λ c. LooksTo id view need old.requests requests answer (look (cache_of c) view.ask.title n (ask_for parts need)))) now did in
        let asked = subst (λ (k : Ask). IfSome parts.cache (λ c. LooksTo id view need old.requests requests answer (look (cache_of c) view.ask.title (moment r v) k))) (ask_is cache_of parts v r need at.0.need s at.2) at_moment in
        in_cache view need at.0 at.2 at.1 parts.cache s.there s.cache asked
