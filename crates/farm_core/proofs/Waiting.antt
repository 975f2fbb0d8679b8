-- The step wait goes on with every run.
use Rattle.std.proofs.Common.{◌≡◌, ℕ, ◌+◌, ◌||◌, Bool, true, false, List, map, Option, Some, None, cond, refl, sym, ap, subst, ◌∙◌, arith}
use Rattle.std.specs.Prelude.{nat_le}
use Rattle.wiki_model.specs.declared.Region.{Region}
use Rattle.wiki_model.specs.declared.Region.TheVariants.{Home, West}
use Rattle.wiki_model.specs.Bytes.{Bytes}
use Rattle.wiki_model.specs.History.{Entry}
use Rattle.wiki_model.specs.Cache.{CacheMap}
use Rattle.wiki_model.specs.World as world
use Rattle.wiki_model.specs.World.{World, moment, request_at, with_request, without_request}
use Rattle.wiki_model.specs.Sessions.{Known, Lag, known, lag_of, floor_of, lag_behind, live_index, greatest}
use Rattle.wiki_model.specs.Answers.{Answer, NotOpen, Lagging}
use Rattle.wiki_model.specs.Steps.{Step, gives_up, Waits as MayWait, waited}
use Rattle.wiki_model.specs.Runs.{One, with_faults}
use Rattle.region_state.specs.declared.open_view.OpenView.{OpenView}
use Rattle.farm_steps.specs.declared.open_request.OpenRequest.TheVariants as point
use Rattle.region_state.specs.AsModel.{open_view_of, view_of}
use Rattle.farm_steps.specs.RequestMap.{Entries, open_at, arrived_view}
use Rattle.farm_core.specs.FarmParts.{FarmParts}
use Rattle.farm_steps.specs.Moments.{moment_of}
use Rattle.region_state.specs.RegionState.{RegionParts}
use Rattle.region_state.specs.WaitView.{known_in, lag_in, waits}
use Rattle.farm_core.specs.Agreement.{Agrees, RegionStands}
use Rattle.farm_core.specs.Runs.{GoesFrom, LeadsTo}
use Rattle.farm_steps.specs.ViewSteps.{Waits, WaitsTo, NoneThere, region_at}
use Rattle.farm_core.proofs.Points.{AllAgree, placed, closed, put_again, at_point, no_point, no_arrived, is_arrived}
use Rattle.farm_core.proofs.Quiet.{IsQuiet, agrees-quiet, quiet-follows}
use Rattle.farm_core.proofs.Known.{known_is}

pub site_of : {K S : Type 0} (content : K → Option (List Entry)) (faults : K → ℕ) (cache_of : S → CacheMap Bytes) (farm : FarmParts K S) (v : World) → Agrees content faults cache_of farm v → (r : Region) → RegionStands cache_of (region_at r farm.home farm.west) v r
site_of content faults cache_of farm v a Home = a.home
site_of content faults cache_of farm v a West = a.west

pub moment_is : {K S : Type 0} (content : K → Option (List Entry)) (faults : K → ℕ) (cache_of : S → CacheMap Bytes) (farm : FarmParts K S) (v : World) → Agrees content faults cache_of farm v → (r : Region) → moment_of r farm.moments ≡ moment r v
moment_is content faults cache_of farm v a Home = a.home_moment
moment_is content faults cache_of farm v a West = a.west_moment

-- nothing changes but requests
pub record Calm {K S : Type 0} (content : K → Option (List Entry)) (faults : K → ℕ) (cache_of : S → CacheMap Bytes) (old : FarmParts K S) (requests : Entries) (v w : World) : Type 0 where
  pub quiet : IsQuiet v w
  pub count : w.faults ≡ faults old.keeper
  pub all : AllAgree w requests

pub calm_agrees : {K S : Type 0} (content : K → Option (List Entry)) (faults : K → ℕ) (cache_of : S → CacheMap Bytes) (old : FarmParts K S) (requests : Entries) (v w : World) → Calm content faults cache_of old requests v w
    → Agrees content faults cache_of old v → Agrees content faults cache_of (record old { requests = requests }) w
calm_agrees content faults cache_of old requests v w calm a = agrees-quiet content faults cache_of old old.keeper requests v w calm.quiet refl (let e = calm.count in omega (arith, e)) calm.all a

-- no request stood at the step's point
pub none_goes : {K S : Type 0} (content : K → Option (List Entry)) (faults : K → ℕ) (cache_of : S → CacheMap Bytes) (old : FarmParts K S) (requests : Entries) (id : ℕ) (answer : Option Answer) (v : World) (step : Step)
    → NoneThere id old.requests requests answer → Agrees content faults cache_of old v → Rattle.wiki_model.specs.Runs.Takes step v (One (Some (NotOpen id))) v
    → (w : World) × LeadsTo content faults cache_of old (record old { requests = requests }) step (One answer) v w
none_goes content faults cache_of old requests id answer v step did a takes =
    let w : World = with_faults (faults old.keeper) v in
    let q : IsQuiet v w = record { history = refl; setting = refl; messages = refl; home = refl; west = refl; markup = refl } in
    let fewer = a.counted in
    subst (λ (x : Option Answer). (u : World) × LeadsTo content faults cache_of old (record old { requests = requests }) step (One x) v u) (sym did.0)
    (subst (λ (es : Entries). (u : World) × LeadsTo content faults cache_of old (record old { requests = es }) step (One (Some (NotOpen id))) v u) (sym did.1) (
      w,
      record {
        takes = takes;
        counts = fewer;
        later = omega arith;
        agrees = calm_agrees content faults cache_of old old.requests v w (record { quiet = q; count = refl; all = λ i. Rattle.farm_core.proofs.Following.agree-later v w (quiet-follows v w q) (open_at old.requests i) (request_at v i) (a.requests i) }) a;
      },
    ))

-- the region says what the world says
lag_is : {S : Type 0} (cache_of : S → CacheMap Bytes) (parts : RegionParts S) (v : World) (view : OpenView) → RegionStands cache_of parts v view.region
    → lag_in parts view.ask (moment view.region v) ≡ lag_of v (open_view_of view)
lag_is cache_of parts v view s =
    ap (λ (k : Known). lag_behind (live_index (moment view.region v) (view_of view.ask)) k (greatest (map (λ k. k.applied) parts.replicas))) (known_is v view.region parts.positions view.ask.client s.positions)
    ∙ ap (λ applied. lag_behind (live_index (moment view.region v) (view_of view.ask)) (known v view.region view.ask.client) (greatest applied)) s.applied

pub wait_goes : {K S : Type 0} (content : K → Option (List Entry)) (faults : K → ℕ) (cache_of : S → CacheMap Bytes) (old : FarmParts K S) (requests : Entries) (id : ℕ) (last : Bool) (answer : Option Answer)
    → Waits old.home old.west old.moments id last old.requests requests answer (arrived_view (open_at old.requests id))
    → GoesFrom content faults cache_of old (record old { requests = requests }) (Step.Wait id last) (One answer)
wait_goes content faults cache_of old requests id last answer did v fits a = by (arrived_view (open_at old.requests id)) refl did
  where
    Leads : Option Answer → Type 0
    Leads x = (w : World) × LeadsTo content faults cache_of old (record old { requests = requests }) (Step.Wait id last) (One x) v w

    go : (view : OpenView) → request_at v id ≡ Some (world.ViewArrived (open_view_of view)) → (lag : Option Lag) → lag_of v (open_view_of view) ≡ lag → (b : Bool) → gives_up v (open_view_of view) last ≡ b
        → WaitsTo (waits b (floor_of v (open_view_of view)).need lag) id view old.requests requests answer → (w : World) × LeadsTo content faults cache_of old (record old { requests = requests }) (Step.Wait id last) (One answer) v w
    go view there None is b gives did =
        let ov = open_view_of view in
        let w : World = with_faults (faults old.keeper) (with_request id (world.ViewWaited ov (floor_of v ov)) v) in
        let q : IsQuiet v w = record { history = refl; setting = refl; messages = refl; home = refl; west = refl; markup = refl } in
        let fewer = a.counted in
        let row : MayWait id last ov v None (with_request id (world.ViewWaited ov (floor_of v ov)) v) = subst (λ x. (None ≡ (waited id ov last v x).0) × (with_request id (world.ViewWaited ov (floor_of v ov)) v ≡ (waited id ov last v x).1)) (sym is) (refl, refl) in
        subst (λ (x : Option Answer). (u : World) × LeadsTo content faults cache_of old (record old { requests = requests }) (Step.Wait id last) (One x) v u) (sym did.0) (
          w,
          record {
            takes = at_point (Rattle.wiki_model.specs.Steps.arrived_view (request_at v id)) ov id v None (with_request id (world.ViewWaited ov (floor_of v ov)) v) (λ y. MayWait id last y v None (with_request id (world.ViewWaited ov (floor_of v ov)) v)) (ap Rattle.wiki_model.specs.Steps.arrived_view there) row;
            counts = fewer;
            later = omega arith;
            agrees = calm_agrees content faults cache_of old requests v w (record { quiet = q; count = refl; all = placed v w old.requests requests id (point.ViewWaited view (floor_of v ov).need) (world.ViewWaited ov (floor_of v ov)) (quiet-follows v w q) refl did.1 (floor_of v ov, refl, refl) a.requests }) a;
          },
        )
    go view there (Some lag) is true gives did =
        let ov = open_view_of view in
        let w : World = with_faults (faults old.keeper) (without_request id v) in
        let q : IsQuiet v w = record { history = refl; setting = refl; messages = refl; home = refl; west = refl; markup = refl } in
        let fewer = a.counted in
        let said : Option Answer = Some (Lagging lag.by lag.needed lag.reached) in
        let row : MayWait id last ov v said (without_request id v) =
        subst (λ x. (said ≡ (waited id ov last v x).0) × (without_request id v ≡ (waited id ov last v x).1)) (sym is)
        (subst (λ c. (said ≡ (cond {A = Option Answer × World} c (said, without_request id v) (None, v)).0) × (without_request id v ≡ (cond {A = Option Answer × World} c (said, without_request id v) (None, v)).1)) (sym gives) (refl, refl)) in
        subst (λ (x : Option Answer). (u : World) × LeadsTo content faults cache_of old (record old { requests = requests }) (Step.Wait id last) (One x) v u) (sym did.0) (
          w,
          record {
            takes = at_point (Rattle.wiki_model.specs.Steps.arrived_view (request_at v id)) ov id v said (without_request id v) (λ y. MayWait id last y v said (without_request id v)) (ap Rattle.wiki_model.specs.Steps.arrived_view there) row;
            counts = fewer;
            later = omega arith;
            agrees = calm_agrees content faults cache_of old requests v w (record { quiet = q; count = refl; all = closed v w old.requests requests id (quiet-follows v w q) refl did.1 a.requests }) a;
          },
        )
    go view there (Some lag) is false gives did =
        let ov = open_view_of view in
        let w : World = with_faults (faults old.keeper) v in
        let q : IsQuiet v w = record { history = refl; setting = refl; messages = refl; home = refl; west = refl; markup = refl } in
        let fewer = a.counted in
        let said : Option Answer = Some (Lagging lag.by lag.needed lag.reached) in
        let row : MayWait id last ov v None v =
        subst (λ x. (None ≡ (waited id ov last v x).0) × (v ≡ (waited id ov last v x).1)) (sym is)
        (subst (λ c. (None ≡ (cond {A = Option Answer × World} c (said, without_request id v) (None, v)).0) × (v ≡ (cond {A = Option Answer × World} c (said, without_request id v) (None, v)).1)) (sym gives) (refl, refl)) in
        subst (λ (x : Option Answer). (u : World) × LeadsTo content faults cache_of old (record old { requests = requests }) (Step.Wait id last) (One x) v u) (sym did.0) (
          w,
          record {
            takes = at_point (Rattle.wiki_model.specs.Steps.arrived_view (request_at v id)) ov id v None v (λ y. MayWait id last y v None v) (ap Rattle.wiki_model.specs.Steps.arrived_view there) row;
            counts = fewer;
            later = omega arith;
            agrees = calm_agrees content faults cache_of old requests v w (record { quiet = q; count = refl; all = put_again v w old.requests requests id (point.ViewArrived view) (world.ViewArrived ov) (quiet-follows v w q) refl did.1 there refl a.requests }) a;
          },
        )

    by : (found : Option OpenView) → arrived_view (open_at old.requests id) ≡ found → Waits old.home old.west old.moments id last old.requests requests answer found
        → (w : World) × LeadsTo content faults cache_of old (record old { requests = requests }) (Step.Wait id last) (One answer) v w
    by None is did =
        none_goes content faults cache_of old requests id answer v (Step.Wait id last) did a
        (no_point (Rattle.wiki_model.specs.Steps.arrived_view (request_at v id)) id v v (λ y. MayWait id last y v (Some (NotOpen id)) v) (no_arrived v (open_at old.requests id) (request_at v id) (a.requests id) is) refl)
    by (Some view) is did =
        let r = view.region in
        let parts = region_at r old.home old.west in
        let s = site_of content faults cache_of old v a r in
        let now = moment_is content faults cache_of old v a r in
        let there = is_arrived v (open_at old.requests id) (request_at v id) view (a.requests id) is in
        let at_moment = subst (λ n. WaitsTo (waits (last || nat_le (view.arrived + 5_000) n) (known_in parts.positions view.ask.client n).position (lag_in parts view.ask n)) id view old.requests requests answer) now did in
        let known_so = subst (λ (k : Known). WaitsTo (waits (last || nat_le (view.arrived + 5_000) (moment r v)) k.position (lag_in parts view.ask (moment r v))) id view old.requests requests answer) (known_is v r parts.positions view.ask.client s.positions) at_moment in
        let lagging = subst (λ l. WaitsTo (waits (last || nat_le (view.arrived + 5_000) (moment r v)) (known v r view.ask.client).position l) id view old.requests requests answer) (lag_is cache_of parts v view s) known_so in
        go view there (lag_of v (open_view_of view)) refl (gives_up v (open_view_of view) last) refl lagging
