-- A round goes on with every run for which the farm stood: its answers are allowed, and the cache stands for the world
-- after it. The farm says that this is enough when the cache is given back.
use Rattle.std.proofs.Common.{◌≡◌, ℕ, ◌≤◌, Bool, true, false, List, [], length, Option, Some, None, IfSome, Result, Ok, Err, IfOk, refl, sym, ap, subst, ◌∙◌, arith}
use Rattle.std.specs.Prelude.{IsSome, OnErr, is_err}
use Rattle.wiki_model.specs.declared.Region.{Region}
use Rattle.wiki_model.specs.declared.Region.TheVariants.{Home, West}
use Rattle.wiki_model.specs.declared.Readings.{Readings}
use Rattle.wiki_model.specs.Bytes.{Bytes}
use Rattle.wiki_model.specs.History.{Entry}
use Rattle.wiki_model.specs.Limits.{Bounds}
use Rattle.wiki_model.specs.World.{World, moment, at_readings}
use Rattle.wiki_model.specs.Answers.{Answer}
use Rattle.wiki_model.specs.Caches.{CacheStands}
use Rattle.wiki_model.specs.Consistent.{IsConsistent}
use Rattle.wiki_model.specs.Rounds.{MakesRound, rounded}
use Rattle.wiki_model.proofs.ConsistentLaws.{readings-keep}
use Rattle.wiki_model.proofs.OneWorkerLaws.{one_worker-round}
use Rattle.slot_cache.specs.AsModel.{map_of}
use Rattle.region_state.specs.RegionState.{RegionParts, with_cache}
use Rattle.region_state.specs.declared.store_view.PageRules.{PageRules}
use Rattle.farm_steps.specs.Moments.{moment_of}
use Rattle.farm_steps.specs.ViewSteps.{region_at}
use Rattle.farm_core.specs.FarmParts.{FarmParts, IsWhole, SameShape, pick_home, pick_west}
use Rattle.farm_core.specs.Agreement.{Agrees}
use Rattle.farm_core.specs.LendCache.{GivesBack, purges_of, round_turn, with_given, without_cache}
use Rattle.farm_core.specs.RequestLife.{LeavesRequests}
use Rattle.farm_core.specs.Runs.{GoesOnBy, Stands, Steps, advanced}
use Rattle.farm_core.proofs.Going.{agrees-read, stands-consistent}
use Rattle.farm_core.proofs.Waiting.{moment_is, site_of}
use Rattle.region_round.specs.declared.job.Job.{Job}
use Rattle.region_round.specs.declared.lent_cache.RoundTerms.{RoundTerms}
use Rattle.region_round.specs.AsModel.{jobs_of}
use Rattle.region_round.specs.Alone.{Kept}
use Rattle.region_round.specs.Jobs.{AreProper, DoesAll, ReceivesAll, Sight, sight_of, terms_at}
use Rattle.region_round.specs.Rounds.{RoundsOn}
use Rattle.region_round.proofs.Alone.{world_terms}
use Rattle.region_round.proofs.Sequence.{does_jobs, does_receipts, proper, proper_receipts, receipts_of, stands_lost}

module _ {K : Type 0} where
  given_twice : (r : Region) (cache : Kept) (now : ℕ) (purges : List ℕ) (farm : FarmParts K Kept) → with_given r cache now purges (without_cache r farm) ≡ with_given r cache now purges farm
  given_twice Home cache now purges farm = refl
  given_twice West cache now purges farm = refl

  lent_parts : (r : Region) (farm : FarmParts K Kept) → region_at r (without_cache r farm).home (without_cache r farm).west ≡ with_cache None (region_at r farm.home farm.west)
  lent_parts Home farm = refl
  lent_parts West farm = refl

  lent_markup : (r : Region) (farm : FarmParts K Kept) → (without_cache r farm).home.markup ≡ farm.home.markup
  lent_markup Home farm = refl
  lent_markup West farm = refl

  lent_sight : (r : Region) (farm : FarmParts K Kept) → sight_of r (without_cache r farm) ≡ (let s : Sight Kept = record { parts = with_cache None (region_at r farm.home farm.west); requests = farm.requests; rows = farm.ledger.rows } in s)
  lent_sight r farm = ap (λ (p : RegionParts Kept). let s : Sight Kept = record { parts = p; requests = farm.requests; rows = farm.ledger.rows } in s) (lent_parts r farm)

  given_shape : (r : Region) (cache : Kept) (now : ℕ) (purges : List ℕ) (at : Readings) (farm : FarmParts K Kept) → SameShape farm (with_given r cache now purges (advanced at farm))
  given_shape Home cache now purges at farm = record { plan = refl; whole = λ w. (refl, w.1); home = refl; west = refl }
  given_shape West cache now purges at farm = record { plan = refl; whole = λ w. (w.0, refl); home = refl; west = refl }

  -- the terms of a round are those of the world
  terms_are : (content : K → Option (List Entry)) (faults : K → ℕ) (r : Region) (farm : FarmParts K Kept) (v : World) → Agrees content faults map_of farm v → terms_at (moment_of r farm.moments) (without_cache r farm) ≡ world_terms v r
  terms_are content faults r farm v a i = record {
    at = moment_is content faults map_of farm v a r i;
    epoch = a.plan.epoch i;
    rules = record { read_lag = ap (λ (b : Bounds). b.read_lag) a.plan.bounds i; markup = (lent_markup r farm ∙ a.home.markup) i };
  }

  -- what is known of a round when its cache is given back
  pub record IsAllowed (content : K → Option (List Entry)) (faults : K → ℕ) (old : FarmParts K Kept) (at : Readings) (r : Region) (jobs : List Job) (answers : Option (List Answer)) (after : Kept) : Type 0 where
    pub makes : (start : World) (turns : List _) (v : World) → Stands content faults map_of old start turns v
        → MakesRound r (jobs_of jobs) (at_readings at v) answers (rounded r (jobs_of jobs) (Rattle.farm_core.specs.LendCache.was_lost answers) (Rattle.farm_core.specs.LendCache.answers_of answers) (at_readings at v))
        × CacheStands (rounded r (jobs_of jobs) (Rattle.farm_core.specs.LendCache.was_lost answers) (Rattle.farm_core.specs.LendCache.answers_of answers) (at_readings at v)) r (map_of after)

  pub round_on : (content : K → Option (List Entry)) (faults : K → ℕ) (old : FarmParts K Kept) (at : Readings) (r : Region) (jobs : List Job) (answers : Option (List Answer)) (after : Kept) (now : ℕ)
      → now ≡ moment_of r (advanced at old).moments
      → IsAllowed content faults old at r jobs answers after
      → GivesBack content faults map_of (without_cache r (advanced at old)) (with_given r after now (purges_of (jobs_of jobs)) (without_cache r (advanced at old))) r after (purges_of (jobs_of jobs)) (Rattle.farm_core.specs.LendCache.was_lost answers)
      → RoundsOn content faults old (with_given r after now (purges_of (jobs_of jobs)) (without_cache r (advanced at old))) at r jobs answers
  round_on content faults old at r jobs answers after now now_is allowed gives =
      subst (λ (f : FarmParts K Kept). RoundsOn content faults old f at r jobs answers) (sym (given_twice r after now (purges_of (jobs_of jobs)) (advanced at old)))
      (record {
        steps = record {
          goes_on = subst (λ (f : FarmParts K Kept). GoesOnBy content faults map_of old f (round_turn at r (jobs_of jobs) answers)) (given_twice r after now (purges_of (jobs_of jobs)) (advanced at old)) goes;
          requests = refl;
          shape = given_shape r after now (purges_of (jobs_of jobs)) at old;
          counts = omega arith;
        };
        after = after;
        rest = ap (λ n. with_given r after n (purges_of (jobs_of jobs)) (advanced at old)) now_is;
      })
    where
      goes : GoesOnBy content faults map_of old (with_given r after now (purges_of (jobs_of jobs)) (without_cache r (advanced at old))) (round_turn at r (jobs_of jobs) answers)
      goes start turns v stands =
          let both = allowed.makes start turns v stands in
          gives old at start turns v (jobs_of jobs) answers refl refl refl stands both.0 both.1

  stood : (content : K → Option (List Entry)) (faults : K → ℕ) (old : FarmParts K Kept) (at : Readings) (r : Region) (before : Kept) (v : World) → Agrees content faults map_of (advanced at old) v → (region_at r old.home old.west).cache ≡ Some before → CacheStands v r (map_of before)
  stood content faults old at r before v a there = subst (λ (o : Option Kept). IfSome o (λ c. CacheStands v r (map_of c))) there (site_of content faults map_of (advanced at old) v a r).cache

  -- the round was done
  pub done : (content : K → Option (List Entry)) (faults : K → ℕ) (old : FarmParts K Kept) (at : Readings) (r : Region) (jobs : List Job) (answers : List Answer) (before after : Kept)
      → (region_at r old.home old.west).cache ≡ Some before → AreProper r old.ledger.rows jobs
      → DoesAll r (sight_of r (without_cache r (advanced at old))) (terms_at (moment_of r (advanced at old).moments) (without_cache r (advanced at old))) jobs answers before after
      → IsAllowed content faults old at r jobs (Some answers) after
  done content faults old at r jobs answers before after there are does = record {
    makes = λ start turns v stands.
        let u : World = at_readings at v in
        let fits = readings-keep at v (stands-consistent content faults map_of old start turns v stands) in
        let a : Agrees content faults map_of (advanced at old) (at_readings at v) = agrees-read content faults map_of old at v stands.agrees in
        let s = site_of content faults map_of (advanced at old) (at_readings at v) a r in
        let seen = subst (λ (x : Sight Kept). DoesAll r x (terms_at (moment_of r (advanced at old).moments) (without_cache r (advanced at old))) jobs answers before after) (lent_sight r (advanced at old)) does in
        let by_world = subst (λ (t : RoundTerms). DoesAll r (record { parts = with_cache None (region_at r (advanced at old).home (advanced at old).west); requests = old.requests; rows = old.ledger.rows }) t jobs answers before after) (terms_are content faults r (advanced at old) (at_readings at v) a) seen in
        one_worker-round (at_readings at v) r (jobs_of jobs) answers (map_of before) (map_of after) fits (proper (at_readings at v) r old.ledger.rows jobs a.messages are) (stood content faults old at r before (at_readings at v) a there)
        (does_jobs map_of (region_at r (advanced at old).home (advanced at old).west) None (at_readings at v) r old.requests old.ledger.rows fits s a.requests a.messages jobs answers before after by_world);
  }

  -- only the receipts were given
  pub lost : (content : K → Option (List Entry)) (faults : K → ℕ) (old : FarmParts K Kept) (at : Readings) (r : Region) (jobs : List Job) (before after : Kept)
      → (region_at r old.home old.west).cache ≡ Some before → AreProper r old.ledger.rows jobs
      → ReceivesAll old.ledger.rows (moment_of r (advanced at old).moments) jobs before after
      → IsAllowed content faults old at r jobs None after
  lost content faults old at r jobs before after there are does = record {
    makes = λ start turns v stands.
        let u : World = at_readings at v in
        let fits = readings-keep at v (stands-consistent content faults map_of old start turns v stands) in
        let a : Agrees content faults map_of (advanced at old) (at_readings at v) = agrees-read content faults map_of old at v stands.agrees in
        let all = proper (at_readings at v) r old.ledger.rows jobs a.messages are in
        let by_world = subst (λ n. ReceivesAll old.ledger.rows n jobs before after) (moment_is content faults map_of (advanced at old) (at_readings at v) a r) does in
        let both = one_worker-round (at_readings at v) r (receipts_of (jobs_of jobs)) [] (map_of before) (map_of after) fits (proper_receipts (at_readings at v) r (jobs_of jobs) all) (stood content faults old at r before (at_readings at v) a there)
        (does_receipts (at_readings at v) r old.ledger.rows fits a.messages jobs before after by_world) in
        ((all, refl), stands_lost (at_readings at v) r (jobs_of jobs) (map_of after) both.1);
  }

  -- What a round does with the farm, by its calls

  given_back : (content : K → Option (List Entry)) (faults : K → ℕ) (old lent new : FarmParts K Kept) (r : Region) (at : Readings) (jobs : List Job) (after : Kept) (now : ℕ) (purges : List ℕ) (was : Bool)
      → lent ≡ without_cache r (advanced at old) → purges ≡ purges_of (jobs_of jobs) → new ≡ with_given r after now purges lent
      → GivesBack content faults map_of lent new r after purges was
      → (new ≡ with_given r after now (purges_of (jobs_of jobs)) (without_cache r (advanced at old)))
      × GivesBack content faults map_of (without_cache r (advanced at old)) (with_given r after now (purges_of (jobs_of jobs)) (without_cache r (advanced at old))) r after (purges_of (jobs_of jobs)) was
  given_back content faults old lent new r at jobs after now purges was lent_is purges_is new_is gives =
      let whole = new_is ∙ ap (λ ps. with_given r after now ps lent) purges_is ∙ ap (with_given r after now (purges_of (jobs_of jobs))) lent_is in
      let one = subst (λ (f : FarmParts K Kept). GivesBack content faults map_of f new r after purges was) lent_is gives in
      let two = subst (λ (f : FarmParts K Kept). GivesBack content faults map_of (without_cache r (advanced at old)) f r after purges was) whole one in
      (whole, subst (λ ps. GivesBack content faults map_of (without_cache r (advanced at old)) (with_given r after now (purges_of (jobs_of jobs)) (without_cache r (advanced at old))) r after ps was) purges_is two)

  pub ends_done : {V E : Type 0} (content : K → Option (List Entry)) (faults : K → ℕ) (old lent new : FarmParts K Kept) (r : Region) (at : Readings) (jobs : List Job) (result : Result V E) (items : V → List Answer) (before after : Kept) (now : ℕ) (purges : List ℕ) (was : Bool)
      → lent ≡ without_cache r (advanced at old) → (region_at r old.home old.west).cache ≡ Some before → now ≡ moment_of r (advanced at old).moments
      → AreProper r old.ledger.rows jobs → purges ≡ purges_of (jobs_of jobs) → was ≡ is_err result → new ≡ with_given r after now purges lent
      → GivesBack content faults map_of lent new r after purges was
      → (seen : List Job) (terms : RoundTerms) → seen ≡ jobs → terms ≡ terms_at now lent
      → IfOk result (λ v. DoesAll r (sight_of r lent) terms seen (items v) before after)
      → IfOk result (λ v. RoundsOn content faults old new at r jobs (Some (items v)))
  ends_done content faults old lent new r at jobs (Err e) items before after now purges was lent_is there now_is are purges_is was_is new_is gives seen terms seen_is terms_is does = tt
  ends_done content faults old lent new r at jobs (Ok v) items before after now purges was lent_is there now_is are purges_is was_is new_is gives seen terms seen_is terms_is does =
      let told = subst (λ (js : List Job). DoesAll r (sight_of r lent) (terms_at now lent) js (items v) before after) seen_is (subst (λ (t : RoundTerms). DoesAll r (sight_of r lent) t seen (items v) before after) terms_is does) in
      let back = given_back content faults old lent new r at jobs after now purges was lent_is purges_is new_is gives in
      let kept = subst (λ b. GivesBack content faults map_of (without_cache r (advanced at old)) (with_given r after now (purges_of (jobs_of jobs)) (without_cache r (advanced at old))) r after (purges_of (jobs_of jobs)) b) was_is back.1 in
      let here = subst (λ (f : FarmParts K Kept). DoesAll r (sight_of r f) (terms_at now f) jobs (items v) before after) lent_is told in
      let timed = subst (λ n. DoesAll r (sight_of r (without_cache r (advanced at old))) (terms_at n (without_cache r (advanced at old))) jobs (items v) before after) now_is here in
      subst (λ (f : FarmParts K Kept). RoundsOn content faults old f at r jobs (Some (items v))) (sym back.0)
      (round_on content faults old at r jobs (Some (items v)) after now now_is (done content faults old at r jobs (items v) before after there are timed) kept)

  pub ends_lost : {V E : Type 0} (content : K → Option (List Entry)) (faults : K → ℕ) (old lent new : FarmParts K Kept) (r : Region) (at : Readings) (jobs : List Job) (result : Result V E) (before after : Kept) (now : ℕ) (purges : List ℕ) (was : Bool)
      → lent ≡ without_cache r (advanced at old) → (region_at r old.home old.west).cache ≡ Some before → now ≡ moment_of r (advanced at old).moments
      → AreProper r old.ledger.rows jobs → purges ≡ purges_of (jobs_of jobs) → was ≡ is_err result → new ≡ with_given r after now purges lent
      → GivesBack content faults map_of lent new r after purges was
      → (seen : List Job) (terms : RoundTerms) → seen ≡ jobs → terms ≡ terms_at now lent
      → OnErr result (ReceivesAll lent.ledger.rows terms.at seen before after)
      → OnErr result (RoundsOn content faults old new at r jobs None)
  ends_lost content faults old lent new r at jobs (Ok v) before after now purges was lent_is there now_is are purges_is was_is new_is gives seen terms seen_is terms_is does = tt
  ends_lost content faults old lent new r at jobs (Err e) before after now purges was lent_is there now_is are purges_is was_is new_is gives seen terms seen_is terms_is does =
      let told = subst (λ (js : List Job). ReceivesAll lent.ledger.rows now js before after) seen_is (subst (λ (t : RoundTerms). ReceivesAll lent.ledger.rows t.at seen before after) terms_is does) in
      let back = given_back content faults old lent new r at jobs after now purges was lent_is purges_is new_is gives in
      let kept = subst (λ b. GivesBack content faults map_of (without_cache r (advanced at old)) (with_given r after now (purges_of (jobs_of jobs)) (without_cache r (advanced at old))) r after (purges_of (jobs_of jobs)) b) was_is back.1 in
      let here = subst (λ (f : FarmParts K Kept). ReceivesAll f.ledger.rows now jobs before after) lent_is told in
      let timed = subst (λ n. ReceivesAll old.ledger.rows n jobs before after) now_is here in
      subst (λ (f : FarmParts K Kept). RoundsOn content faults old f at r jobs None) (sym back.0)
      (round_on content faults old at r jobs None after now now_is (lost content faults old at r jobs before after there are timed) kept)

  -- the jobs are proper while the cache is lent
  pub proper_there : (old lent : FarmParts K Kept) (r : Region) (at : Readings) (jobs seen : List Job) → lent ≡ without_cache r (advanced at old) → seen ≡ jobs → AreProper r old.ledger.rows jobs → AreProper r lent.ledger.rows seen
  proper_there old lent r at jobs seen lent_is seen_is are = subst (λ (js : List Job). AreProper r lent.ledger.rows js) (sym seen_is) (subst (λ (f : FarmParts K Kept). AreProper r f.ledger.rows jobs) (sym lent_is) are)
