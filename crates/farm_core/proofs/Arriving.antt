-- An arrival goes on with every run.
use Rattle.std.proofs.Common.{ℕ, List, Option, Some, None, refl, sym, ap, subst, arith}
use Rattle.wiki_model.specs.declared.Readings.{Readings}
use Rattle.wiki_model.specs.Bytes.{Bytes}
use Rattle.wiki_model.specs.History.{Entry}
use Rattle.wiki_model.specs.Cache.{CacheMap}
use Rattle.wiki_model.specs.World as world
use Rattle.wiki_model.specs.World.{World, request_at, with_request}
use Rattle.wiki_model.specs.Answers.{Answer, NoMemory}
use Rattle.wiki_model.specs.Steps.{Step, request_of}
use Rattle.wiki_model.specs.Runs.{One, with_faults}
use Rattle.region_state.specs.declared.ask.Asked.{Asked}
use Rattle.region_state.specs.declared.ask.Asked.TheVariants as asked
use Rattle.region_state.specs.declared.open_view.OpenView.{OpenView}
use Rattle.region_state.specs.AsModel.{asked_of, open_view_of}
use Rattle.farm_steps.specs.RequestMap.{Entries, IsRequest, open_at}
use Rattle.farm_core.specs.FarmParts.{FarmParts, IsFarm}
use Rattle.farm_core.specs.Agreement.{Agrees}
use Rattle.farm_steps.specs.ArriveStep.{Arrives, open_of, region_for}
use Rattle.farm_core.specs.Runs.{GoesFrom}
use Rattle.farm_core.proofs.Following.{agree-later}
use Rattle.farm_core.proofs.Points.{placed}
use Rattle.farm_core.proofs.Quiet.{IsQuiet, quiet-follows}
use Rattle.farm_core.proofs.Waiting.{moment_is, calm_agrees}
use Rattle.farm_core.proofs.Keeping.{requests_kept, no_more, same_begun, NoMoreBegun}

arrived_is : {K S : Type 0} (content : K → Option (List Entry)) (faults : K → ℕ) (cache_of : S → CacheMap Bytes) (old : FarmParts K S) (v w : World) (what : Asked) → Agrees content faults cache_of old v → IsRequest w (open_of old.moments what) (request_of v (asked_of what))
arrived_is content faults cache_of old v w (asked.Edit ask) a = refl
arrived_is content faults cache_of old v w (asked.View view) a =
    ap (λ n. world.ViewArrived (open_view_of (let o : OpenView = record { ask = view; region = region_for view; arrived = n } in o))) (sym (moment_is content faults cache_of old v a (region_for view)))

pub arrive_goes : {K S : Type 0} (content : K → Option (List Entry)) (faults : K → ℕ) (cache_of : S → CacheMap Bytes) (old : FarmParts K S) (requests : Entries) (id : ℕ) (what : Asked) (answer : Option Answer)
    → Arrives old.moments id what old.requests requests answer → GoesFrom content faults cache_of old (record old { requests = requests }) (Step.Arrive id (asked_of what)) (One answer)
arrive_goes content faults cache_of old requests id what None did v fits a =
    let w : World = with_faults (faults old.keeper) (with_request id (request_of v (asked_of what)) v) in
    let q : IsQuiet v w = record { history = refl; setting = refl; messages = refl; home = refl; west = refl; markup = refl } in (
      w,
      record {
        takes = refl;
        counts = a.counted;
        later = omega arith;
        agrees = calm_agrees content faults cache_of old requests v w (record { quiet = q; count = refl; all = placed v w old.requests requests id (open_of old.moments what) (request_of v (asked_of what)) (quiet-follows v w q) refl did (arrived_is content faults cache_of old v w what a) a.requests }) a;
      },
    )
arrive_goes {K} {S} content faults cache_of old requests id what (Some NoMemory) did v fits a =
    let w : World = with_faults (faults old.keeper) v in
    let q : IsQuiet v w = record { history = refl; setting = refl; messages = refl; home = refl; west = refl; markup = refl } in (
      w,
      record {
        takes = refl;
        counts = a.counted;
        later = omega arith;
        agrees = subst (λ (es : Entries). Agrees content faults cache_of (record old { requests = es }) w) (sym did)
            (calm_agrees content faults cache_of old old.requests v w (record { quiet = q; count = refl; all = λ i. agree-later v w (quiet-follows v w q) (open_at old.requests i) (request_at v i) (a.requests i) }) a);
      },
    )
arrive_goes content faults cache_of old requests id what (Some _) did v fits a = absurd did

arrive_begun : (at : Readings) (id : ℕ) (what : Asked) (old new : Entries) (answer : Option Answer) → Arrives at id what old new answer → NoMoreBegun old new
arrive_begun at id (asked.Edit ask) old new None did = no_more old new id (Some (open_of at (asked.Edit ask))) did (λ begun is. cc)
arrive_begun at id (asked.View view) old new None did = no_more old new id (Some (open_of at (asked.View view))) did (λ begun is. cc)
arrive_begun at id what old new (Some NoMemory) did = same_begun old new did
arrive_begun at id what old new (Some _) did = absurd did

pub arrive_kept : {K S : Type 0} (content : K → Option (List Entry)) (cache_of : S → CacheMap Bytes) (old : FarmParts K S) (requests : Entries) (id : ℕ) (what : Asked) (answer : Option Answer)
    → Arrives old.moments id what old.requests requests answer → IsFarm content cache_of old → IsFarm content cache_of (record old { requests = requests })
arrive_kept content cache_of old requests id what answer did k = requests_kept content cache_of old requests k (arrive_begun old.moments id what old.requests requests answer did)
