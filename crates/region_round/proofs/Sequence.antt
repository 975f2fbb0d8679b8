-- The jobs in their order: one more job at the end, and the whole as the model has it. If only the receipts were given,
-- the world after them differs from that of a round of receipts alone by what is written down of the round.
use Rattle.std.proofs.Common.{◌≡◌, ℕ, suc, inl, inr, ◌⊎◌, ◌+◌, ◌≤◌, ◌<◌, Bool, true, false, List, [], ◌∷◌, ◌++◌, map, Option, Some, None, IfSome, refl, sym, ap, subst, ◌∙◌, arith}
use Rattle.std.specs.Prelude.{option_map}
use Rattle.std.specs.List.{AllByRecursion}
use Rattle.wiki_model.specs.declared.Region.{Region}
use Rattle.wiki_model.specs.declared.Region.TheVariants.{Home, West}
use Rattle.wiki_model.specs.declared.Class.{Class}
use Rattle.wiki_model.specs.Bytes.{Bytes, IsIn}
use Rattle.wiki_model.specs.Titles.{Title}
use Rattle.wiki_model.specs.History.{is_shared_title}
use Rattle.wiki_model.specs.Limits.{hold_off}
use Rattle.wiki_model.specs.Cache.{CacheMap, Cached}
use Rattle.wiki_model.specs.World as world
use Rattle.wiki_model.specs.World.{World, Batch, Event, Job, Stored, moment, request_at, site, message_at, with_event}
use Rattle.wiki_model.specs.World.Job.{ViewJob, ReceiptJob}
use Rattle.wiki_model.specs.World.Event.{Received, Kept as KeptEvent, Rounded}
use Rattle.wiki_model.specs.Answers.{Answer, HasMaker, HasRaised, IsValueOf, WasMadeBy}
use Rattle.wiki_model.specs.HoldOff.{HasReceipt}
use Rattle.wiki_model.specs.Reuse.{LastStored, main_life, interim_life}
use Rattle.wiki_model.specs.Consistent.{IsConsistent, IsPurge}
use Rattle.wiki_model.specs.Caches.{CacheStands, IsRaisedBy, IsThere, IsAfter, IsTrueIn, class_check}
use Rattle.wiki_model.specs.Rounds.{IsProperJob, batch, received, received_message, rounded}
use Rattle.wiki_model.specs.OneWorker as one
use Rattle.purge_relay.specs.declared.ledger_row.LedgerRow.{LedgerRow}
use Rattle.purge_relay.specs.Ledger.{row_at}
use Rattle.purge_relay.specs.AsModel.{body_of, row_message}
use Rattle.slot_cache.specs.AsModel.{map_of}
use Rattle.region_state.specs.RegionState.{RegionParts, with_cache}
use Rattle.farm_steps.specs.RequestMap.{Entries, AgreeAt, open_at}
use Rattle.farm_core.specs.Agreement.{RegionStands}
use Rattle.farm_core.specs.LendCache.{purges_of}
use Rattle.farm_core.proofs.Ledgers.{message_is}
use Rattle.region_round.specs.declared.job.Job.{Job as CodeJob}
use Rattle.region_round.specs.declared.job.Job.TheVariants as job
use Rattle.region_round.specs.declared.job.ViewJob.{ViewJob as CodeView}
use Rattle.region_round.specs.declared.lent_cache.RoundTerms.{RoundTerms}
use Rattle.region_state.specs.declared.answer.Answer.{Answer as CodeAnswer}
use Rattle.region_state.specs.AsModel.{answer_of}
use Rattle.region_round.specs.AsModel.{answers_of, jobs_of}
use Rattle.region_round.specs.Alone.{Kept}
use Rattle.region_round.specs.Jobs.{AreProper, DoesAll, IsProper, IsPurgeAt, Receives, ReceivesAll, Sight, Views}
use Rattle.region_round.proofs.Alone.{viewed, world_terms}

-- one more job

pub then_view : {S : Type 0} (r : Region) (sight : Sight S) (terms : RoundTerms) (jobs : List CodeJob) (view : CodeView) (answers : List Answer) (answer : Answer) (old mid new : Kept)
    → DoesAll r sight terms jobs answers old mid → Views r sight terms view mid new answer → DoesAll r sight terms (jobs ++ job.View view ∷ []) (answers ++ answer ∷ []) old new
then_view r sight terms [] view [] answer old mid new same does = (new, subst (λ (k : Kept). Views r sight terms view k new answer) same does, refl)
then_view r sight terms [] view (a ∷ answers) answer old mid new wrong does = absurd wrong
then_view r sight terms (job.Receipt number ∷ jobs) view answers answer old mid new (k, receives, rest) does = (k, receives, then_view r sight terms jobs view answers answer k mid new rest does)
then_view r sight terms (job.View w ∷ jobs) view [] answer old mid new wrong does = absurd wrong
then_view r sight terms (job.View w ∷ jobs) view (a ∷ answers) answer old mid new (k, views, rest) does = (k, views, then_view r sight terms jobs view answers answer k mid new rest does)

pub then_receipt : {S : Type 0} (r : Region) (sight : Sight S) (terms : RoundTerms) (jobs : List CodeJob) (number : ℕ) (answers : List Answer) (old mid new : Kept)
    → DoesAll r sight terms jobs answers old mid → Receives sight.rows number terms.at mid new → DoesAll r sight terms (jobs ++ job.Receipt number ∷ []) answers old new
then_receipt r sight terms [] number [] old mid new same does = (new, subst (λ (k : Kept). Receives sight.rows number terms.at k new) same does, refl)
then_receipt r sight terms [] number (a ∷ answers) old mid new wrong does = absurd wrong
then_receipt r sight terms (job.Receipt n ∷ jobs) number answers old mid new (k, receives, rest) does = (k, receives, then_receipt r sight terms jobs number answers k mid new rest does)
then_receipt r sight terms (job.View w ∷ jobs) number [] old mid new wrong does = absurd wrong
then_receipt r sight terms (job.View w ∷ jobs) number (a ∷ answers) old mid new (k, views, rest) does = (k, views, then_receipt r sight terms jobs number answers k mid new rest does)

pub received_more : (rows : List LedgerRow) (now : ℕ) (jobs : List CodeJob) (number : ℕ) (old mid new : Kept)
    → ReceivesAll rows now jobs old mid → Receives rows number now mid new → ReceivesAll rows now (jobs ++ job.Receipt number ∷ []) old new
received_more rows now [] number old mid new same does = (new, subst (λ (k : Kept). Receives rows number now k new) same does, refl)
received_more rows now (job.View w ∷ jobs) number old mid new rest does = received_more rows now jobs number old mid new rest does
received_more rows now (job.Receipt n ∷ jobs) number old mid new (k, receives, rest) does = (k, receives, received_more rows now jobs number k mid new rest does)

pub not_received : (rows : List LedgerRow) (now : ℕ) (jobs : List CodeJob) (view : CodeView) (old new : Kept)
    → ReceivesAll rows now jobs old new → ReceivesAll rows now (jobs ++ job.View view ∷ []) old new
not_received rows now [] view old new same = same
not_received rows now (job.View w ∷ jobs) view old new rest = not_received rows now jobs view old new rest
not_received rows now (job.Receipt n ∷ jobs) view old new (k, receives, rest) = (k, receives, not_received rows now jobs view k new rest)

pub purge_more : (jobs : List CodeJob) (number : ℕ) (purges : List ℕ) → purges ≡ purges_of (jobs_of jobs) → purges ++ number ∷ [] ≡ purges_of (jobs_of (jobs ++ job.Receipt number ∷ []))
purge_more jobs number purges is = ap (λ ps. ps ++ number ∷ []) is ∙ go jobs
  where
    go : (xs : List CodeJob) → purges_of (jobs_of xs) ++ number ∷ [] ≡ purges_of (jobs_of (xs ++ job.Receipt number ∷ []))
    go [] = refl
    go (job.View view ∷ xs) = go xs
    go (job.Receipt n ∷ xs) = ap (λ ps. n ∷ ps) (go xs)

pub no_purge : (jobs : List CodeJob) (view : CodeView) (purges : List ℕ) → purges ≡ purges_of (jobs_of jobs) → purges ≡ purges_of (jobs_of (jobs ++ job.View view ∷ []))
no_purge jobs view purges is = is ∙ go jobs
  where
    go : (xs : List CodeJob) → purges_of (jobs_of xs) ≡ purges_of (jobs_of (xs ++ job.View view ∷ []))
    go [] = refl
    go (job.View v ∷ xs) = go xs
    go (job.Receipt n ∷ xs) = ap (λ ps. n ∷ ps) (go xs)

-- one more answer
pub said_more : (old new : List CodeAnswer) (answer : CodeAnswer) → new ≡ old ++ answer ∷ [] → answers_of new ≡ answers_of old ++ answer_of answer ∷ []
said_more old new answer is = ap answers_of is ∙ go old
  where
    go : (xs : List CodeAnswer) → answers_of (xs ++ answer ∷ []) ≡ answers_of xs ++ answer_of answer ∷ []
    go [] = refl
    go (x ∷ xs) = ap (λ ys. answer_of x ∷ ys) (go xs)

-- the jobs are proper, and each receipt is of the purge that its number names

rows_say : (v : World) (rows : List LedgerRow) (number : ℕ) (row : LedgerRow) → map row_message rows ≡ v.messages → row_at rows number ≡ Some row → message_at v number ≡ Some (row_message row)
rows_say v rows number row same there = message_is rows v.messages v number same refl ∙ ap (option_map row_message) there

issued : (v : World) (rows : List LedgerRow) (number : ℕ) (title : Title) → IsConsistent v → map row_message rows ≡ v.messages → IsPurgeAt rows number title → IsPurge v number title
issued v rows number title fits same is =
    let m = row_message is.row in
    let there = rows_say v rows number is.row same is.there in
    let body : m.body ≡ world.Purge is.purge title is.issued = ap body_of is.body in
    let own : is.purge ≡ number = subst (Rattle.wiki_model.specs.Consistent.HasNumber number) body (fits.messages number m there) in
    (is.issued, (m, there, body ∙ ap (λ n. world.Purge n title is.issued) own))

later_proper : (r : Region) (rows : List LedgerRow) (first : CodeJob) (jobs : List CodeJob) → AreProper r rows (first ∷ jobs) → AreProper r rows jobs
later_proper r rows first jobs all k d within = all (suc k) d (omega (arith, within))

pub proper : (v : World) (r : Region) (rows : List LedgerRow) (jobs : List CodeJob) → map row_message rows ≡ v.messages → AreProper r rows jobs → AllByRecursion (IsProperJob v r) (jobs_of jobs)
proper v r rows [] same all = tt
proper v r rows (job.View view ∷ jobs) same all = (tt, proper v r rows jobs same (later_proper r rows (job.View view) jobs all))
proper v r rows (job.Receipt number ∷ jobs) same all =
    let one = all 0 (job.Receipt number) (omega arith) in
    let is = one.2 in
    ((one.0, row_message is.row, rows_say v rows number is.row same is.there, is.undropped, subst Rattle.wiki_model.specs.Rounds.IsPurge (sym (ap body_of is.body)) tt), proper v r rows jobs same (later_proper r rows (job.Receipt number) jobs all))

-- all jobs as the model has them
pub does_jobs : {S : Type 0} (cache_of : S → CacheMap Bytes) (parts : RegionParts S) (away : Option S) (v : World) (r : Region) (requests : Entries) (rows : List LedgerRow)
    → IsConsistent v → RegionStands cache_of parts v r → ((id : ℕ) → AgreeAt v (open_at requests id) (request_at v id)) → map row_message rows ≡ v.messages
    → (jobs : List CodeJob) (answers : List Answer) (old new : Kept) → DoesAll r (record { parts = with_cache away parts; requests = requests; rows = rows }) (world_terms v r) jobs answers old new
    → one.DoesJobs v r (jobs_of jobs) answers (map_of old) (map_of new)
does_jobs cache_of parts away v r requests rows fits stands all same [] [] old new is = ap map_of is
does_jobs cache_of parts away v r requests rows fits stands all same [] (a ∷ answers) old new wrong = absurd wrong
does_jobs cache_of parts away v r requests rows fits stands all same (job.Receipt number ∷ jobs) answers old new (mid, (title, is, takes), rest) =
    (map_of mid, takes.is_cache, (title, issued v rows number title fits same is, takes.takes), does_jobs cache_of parts away v r requests rows fits stands all same jobs answers mid new rest)
does_jobs cache_of parts away v r requests rows fits stands all same (job.View view ∷ jobs) [] old new wrong = absurd wrong
does_jobs cache_of parts away v r requests rows fits stands all same (job.View view ∷ jobs) (a ∷ answers) old new (mid, (pending, is_pending, is_cache, does), rest) =
    (map_of mid, is_cache, viewed cache_of parts away v r requests view pending old mid a stands all is_pending does, does_jobs cache_of parts away v r requests rows fits stands all same jobs answers mid new rest)

-- Only the receipts

abbrev pub receipts_of : List Job → List Job
receipts_of [] = []
receipts_of (ViewJob title need word ∷ jobs) = receipts_of jobs
receipts_of (ReceiptJob purge ∷ jobs) = ReceiptJob purge ∷ receipts_of jobs

pub proper_receipts : (v : World) (r : Region) (jobs : List Job) → AllByRecursion (IsProperJob v r) jobs → AllByRecursion (IsProperJob v r) (receipts_of jobs)
proper_receipts v r [] all = tt
proper_receipts v r (ViewJob title need word ∷ jobs) (one, all) = proper_receipts v r jobs all
proper_receipts v r (ReceiptJob purge ∷ jobs) (one, all) = (one, proper_receipts v r jobs all)

pub does_receipts : (v : World) (r : Region) (rows : List LedgerRow) → IsConsistent v → map row_message rows ≡ v.messages → (jobs : List CodeJob) (old new : Kept) → ReceivesAll rows (moment r v) jobs old new
    → one.DoesJobs v r (receipts_of (jobs_of jobs)) [] (map_of old) (map_of new)
does_receipts v r rows fits same [] old new is = ap map_of is
does_receipts v r rows fits same (job.View view ∷ jobs) old new rest = does_receipts v r rows fits same jobs old new rest
does_receipts v r rows fits same (job.Receipt number ∷ jobs) old new (mid, (title, is, takes), rest) =
    (map_of mid, takes.is_cache, (title, issued v rows number title fits same is, takes.takes), does_receipts v r rows fits same jobs mid new rest)

received_same : (r : Region) (jobs : List Job) (v : World) → received r (receipts_of jobs) v ≡ received r jobs v
received_same r [] v = refl
received_same r (ViewJob title need word ∷ jobs) v = received_same r jobs v
received_same r (ReceiptJob purge ∷ jobs) v = received_same r jobs (received_message r (message_at v purge) v)

-- What happened to a region but for one event, which is no receipt and of which nothing was rendered, is what happened
-- but for another of the same moment that was lost.
pub record IsLostFor (r : Region) (u w : World) (kept lost : Batch) : Type 0 where
  pub history : w.history ≡ u.history
  pub setting : w.setting ≡ u.setting
  pub moments : moment r w ≡ moment r u
  pub earlier : List Event
  pub before : (site r u).events ≡ Rounded kept ∷ earlier
  pub now : (site r w).events ≡ Rounded lost ∷ earlier
  pub at : lost.at ≡ kept.at
  pub is_lost : lost.lost ≡ true
  pub rendered : kept.rendered ≡ []

module _ (r : Region) (u w : World) (kept lost : Batch) (is : IsLostFor r u w kept lost) where
  to_receipt : (p : ℕ) (of : Title) (at : ℕ) → HasReceipt u r p of at → HasReceipt w r p of at
  to_receipt p of at there = subst (IsIn (Received p of at)) (sym is.now) (by (subst (IsIn (Received p of at)) is.before there))
    where
      by : IsIn (Received p of at) (Rounded kept ∷ is.earlier) → IsIn (Received p of at) (Rounded lost ∷ is.earlier)
      by (inl same) = let no : ⊥ = cc in absurd no
      by (inr old) = inr old

  from_receipt : (p : ℕ) (of : Title) (at : ℕ) → HasReceipt w r p of at → HasReceipt u r p of at
  from_receipt p of at there = subst (IsIn (Received p of at)) (sym is.before) (by (subst (IsIn (Received p of at)) is.now there))
    where
      by : IsIn (Received p of at) (Rounded lost ∷ is.earlier) → IsIn (Received p of at) (Rounded kept ∷ is.earlier)
      by (inl same) = let no : ⊥ = cc in absurd no
      by (inr old) = inr old

  lost_there : IsIn (Rounded lost) (site r w).events
  lost_there = subst (IsIn (Rounded lost)) (sym is.now) (inl refl)

  -- a round that raised something is there as well, or it is the lost one
  to_round : (b : Batch) → IsIn (Rounded b) (site r u).events → (IsIn (Rounded b) (site r w).events) ⊎ (b.at ≡ lost.at)
  to_round b there = by (subst (IsIn (Rounded b)) is.before there)
    where
      by : IsIn (Rounded b) (Rounded kept ∷ is.earlier) → (IsIn (Rounded b) (site r w).events) ⊎ (b.at ≡ lost.at)
      by (inl same) = let e : b ≡ kept = cc in inr (ap (λ (x : Batch). x.at) e ∙ sym is.at)
      by (inr old) = inl (subst (IsIn (Rounded b)) (sym is.now) (inr old))

  to_maker : (t : Title) (value : Cached Bytes) → HasMaker u r t value → HasMaker w r t value
  to_maker t value (stored, of, made) = (stored, of, by made)
    where
      of_kept : IsIn (KeptEvent stored) (Rounded kept ∷ is.earlier) → IsIn (KeptEvent stored) (Rounded lost ∷ is.earlier)
      of_kept (inl same) = let no : ⊥ = cc in absurd no
      of_kept (inr old) = inr old

      of_round : (b : Batch) → IsIn stored b.rendered → IsIn (Rounded b) (Rounded kept ∷ is.earlier) → WasMadeBy w r stored
      of_round b there (inl same) = let e : b ≡ kept = cc in absurd (subst (IsIn stored) (ap (λ (x : Batch). x.rendered) e ∙ is.rendered) there)
      of_round b there (inr old) = inr (b, subst (IsIn (Rounded b)) (sym is.now) (inr old), there)

      by : WasMadeBy u r stored → WasMadeBy w r stored
      by (inl there) = inl (subst (IsIn (KeptEvent stored)) (sym is.now) (of_kept (subst (IsIn (KeptEvent stored)) is.before there)))
      by (inr (b, there, one_of)) = of_round b one_of (subst (IsIn (Rounded b)) is.before there)

  no_last : (t : Title) (stored : Stored) → LastStored w r t stored → ⊥
  no_last t stored l = by l.newer (sym is.now ∙ l.events) l.undisturbed
    where
      by : (newer : List Event) → Rounded lost ∷ is.earlier ≡ newer ++ KeptEvent stored ∷ l.older → AllByRecursion (Rattle.wiki_model.specs.Reuse.LeavesTitle w r t) newer → ⊥
      by [] same all = cc
      by (x ∷ newer) same all = let e : x ≡ Rounded lost = cc in subst (Rattle.wiki_model.specs.Reuse.LeavesTitle w r t) e all.0

  length : hold_off w.setting.bounds ≡ hold_off u.setting.bounds
  length = ap (λ (s : world.Setting). hold_off s.bounds) is.setting

  true_there : (t : Title) (value : Cached Bytes) → IsTrueIn u r t value → IsTrueIn w r t value
  true_there t value it =
      let a = subst (λ (s : world.Setting). Rattle.wiki_model.specs.Values.IsTrueValue u.history s.bounds.read_lag (moment r u) t value) (sym is.setting) it in
      let b = subst (λ (h : List Rattle.wiki_model.specs.History.Entry). Rattle.wiki_model.specs.Values.IsTrueValue h w.setting.bounds.read_lag (moment r u) t value) (sym is.history) a in
      subst (λ n. Rattle.wiki_model.specs.Values.IsTrueValue w.history w.setting.bounds.read_lag n t value) (sym is.moments) b

  if_true : (P Q : Cached Bytes → Type 0) → ((x : Cached Bytes) → P x → Q x) → (o : Option (Cached Bytes)) → IfSome o P → IfSome o Q
  if_true P Q f None p = tt
  if_true P Q f (Some x) p = f x p

  pub lost_stands : (cache : CacheMap Bytes) → CacheStands u r cache → CacheStands w r cache
  lost_stands cache c = record {
    is_cache = c.is_cache;
    together = λ a b. c.together a b ∙ ap (λ (s : world.Setting). s.together r a b) (sym is.setting);
    held_off = record {
      main = λ t. if_true (IsTrueIn u r t) (IsTrueIn w r t) (true_there t) (cache.main t) (c.held_off.main t);
      interim = λ t. if_true (λ x. IsTrueIn u r t x × (x.lagged ≡ false)) (λ x. IsTrueIn w r t x × (x.lagged ≡ false)) (λ x p. (true_there t x p.0, p.1)) (cache.interim t) (c.held_off.interim t);
      floors = λ p of at there. floors of at (c.held_off.floors p of at (from_receipt p of at there));
      checks = λ p of at there shared. let h = c.held_off.checks p of at (from_receipt p of at there) shared in let ho = length in omega (arith, h, ho);
      set_after = λ p of at there. if_true (λ x. at + hold_off u.setting.bounds ≤ x.set_at) (λ x. at + hold_off w.setting.bounds ≤ x.set_at) (λ x h. let ho = length in omega (arith, h, ho)) (cache.main of) (c.held_off.set_after p of at (from_receipt p of at there));
      times = (let h = c.held_off.times in let m = is.moments in omega (arith, h, m));
      length = c.held_off.length ∙ sym length;
    };
    causes = record {
      floor = λ t above. raised t (c.causes.floor t above);
      check = λ class above. checked class (c.causes.check class above);
      main = λ t. if_true (HasMaker u r t) (HasMaker w r t) (to_maker t) (cache.main t) (c.causes.main t);
      interim = λ t. if_true (HasMaker u r t) (HasMaker w r t) (to_maker t) (cache.interim t) (c.causes.interim t);
    };
    stored = record {
      main = λ t s l life. absurd (no_last t s l);
      interim = λ t s l life. absurd (no_last t s l);
    };
  }
    where
      floors : (of : Title) (at : ℕ) → (at + hold_off u.setting.bounds ≤ cache.floor of) ⊎ (at + hold_off u.setting.bounds ≤ moment r u) → (at + hold_off w.setting.bounds ≤ cache.floor of) ⊎ (at + hold_off w.setting.bounds ≤ moment r w)
      floors of at (inl owed) = let ho = length in inl (omega (arith, owed, ho))
      floors of at (inr over) = let ho = length in let m = is.moments in inr (omega (arith, over, ho, m))

      raised : (t : Title) → IsRaisedBy u r (λ of. cache.together of t ≡ true) (cache.floor t) → IsRaisedBy w r (λ of. cache.together of t ≡ true) (cache.floor t)
      raised t (inl (p, of, at, there, counts, le)) = let ho = length in inl (p, of, at, to_receipt p of at there, counts, omega (arith, le, ho))
      raised t (inr (b, there, may, le)) = by (to_round b there)
        where
          by : (IsIn (Rounded b) (site r w).events) ⊎ (b.at ≡ lost.at) → IsRaisedBy w r (λ of. cache.together of t ≡ true) (cache.floor t)
          by (inl same) = let ho = length in inr (b, same, may, omega (arith, le, ho))
          by (inr at) = let ho = length in inr (lost, lost_there, inl is.is_lost, omega (arith, le, ho, at))

      checked : (class : Class) → HasRaised u r (λ of. is_shared_title of ≡ true) (class_check cache class) → HasRaised w r (λ of. is_shared_title of ≡ true) (class_check cache class)
      checked class (inl (p, of, at, there, counts, le)) = let ho = length in inl (p, of, at, to_receipt p of at there, counts, omega (arith, le, ho))
      checked class (inr (b, there, was, le)) = by (to_round b there)
        where
          by : (IsIn (Rounded b) (site r w).events) ⊎ (b.at ≡ lost.at) → HasRaised w r (λ of. is_shared_title of ≡ true) (class_check cache class)
          by (inl same) = let ho = length in inr (b, same, was, omega (arith, le, ho))
          by (inr at) = let ho = length in inr (lost, lost_there, is.is_lost, omega (arith, le, ho, at))

abbrev lost_after : (r : Region) (jobs : List Job) (v x : World) → IsLostFor r (with_event r (Rounded (batch v r (receipts_of jobs) false [])) x) (with_event r (Rounded (batch v r jobs true [])) x) (batch v r (receipts_of jobs) false []) (batch v r jobs true [])
lost_after Home jobs v x = record { history = refl; setting = refl; moments = refl; earlier = x.home.events; before = refl; now = refl; at = refl; is_lost = refl; rendered = refl }
lost_after West jobs v x = record { history = refl; setting = refl; moments = refl; earlier = x.west.events; before = refl; now = refl; at = refl; is_lost = refl; rendered = refl }

-- a round that was lost leaves a world for which the cache stands if it does so for one of the receipts alone
pub stands_lost : (v : World) (r : Region) (jobs : List Job) (cache : CacheMap Bytes) → CacheStands (rounded r (receipts_of jobs) false [] v) r cache → CacheStands (rounded r jobs true [] v) r cache
stands_lost v r jobs cache c =
    lost_stands r (with_event r (Rounded (batch v r (receipts_of jobs) false [])) (received r jobs v)) (rounded r jobs true [] v) (batch v r (receipts_of jobs) false []) (batch v r jobs true []) (lost_after r jobs v (received r jobs v)) cache
    (subst (λ (x : World). CacheStands (with_event r (Rounded (batch v r (receipts_of jobs) false [])) x) r cache) (received_same r jobs v) c)
