-- A round whose cache was lent and is given back goes on with every run.
use Rattle.std.proofs.Common.{◌≡◌, ℕ, zero, suc, ◌≤◌, Bool, List, [], ◌∷◌, length, drop, Option, Some, None, IfSome, refl, sym, ap, subst, ◌∙◌, arith, append-nil}
use Rattle.std.specs.Prelude.{option_map, slice_get}
use Rattle.std.specs.List.{AllByRecursion}
use Rattle.wiki_model.specs.declared.Region.{Region}
use Rattle.wiki_model.specs.declared.Region.TheVariants.{Home, West}
use Rattle.wiki_model.specs.Bytes.{Bytes}
use Rattle.wiki_model.specs.Titles.{Title}
use Rattle.wiki_model.specs.History.{Entry}
use Rattle.wiki_model.specs.Cache.{CacheMap}
use Rattle.wiki_model.specs.World as world
use Rattle.wiki_model.specs.World.{World, Setting, Event, Job, site, moment, message_at, request_at, at_readings, receives, with_event}
use Rattle.wiki_model.specs.World.Job.{ViewJob, ReceiptJob}
use Rattle.wiki_model.specs.World.Event.{Received, Rounded}
use Rattle.wiki_model.specs.Answers.{Answer}
use Rattle.wiki_model.specs.HoldOff.{IsIssued}
use Rattle.wiki_model.specs.Rounds.{rounded, received, batch, MakesRound, IsProperJob}
use Rattle.wiki_model.specs.Consistent.{IsConsistent}
use Rattle.wiki_model.specs.Caches.{CacheStands}
use Rattle.wiki_model.specs.Runs.{with_faults, Leads}
use Rattle.wiki_model.proofs.StepLaws.{IsReceivable, receipt-is, receivable-later, proper-jobs}
use Rattle.wiki_model.proofs.FrameLaws.{stands-grown}
use Rattle.purge_relay.specs.declared.message.Body.{Body}
use Rattle.purge_relay.specs.declared.message.Body.TheVariants.{Purge, Position}
use Rattle.purge_relay.specs.declared.ledger_row.LedgerRow.{LedgerRow}
use Rattle.purge_relay.specs.LedgerRow.{with_receipt, receipt_at}
use Rattle.purge_relay.specs.Ledger.{LedgerState, row_at, changed_at}
use Rattle.purge_relay.specs.AsModel.{body_of}
use Rattle.chronology_store.specs.AsModel.{rows_in}
use Rattle.purge_relay.specs.AsModel.{row_message}
use Rattle.farm_steps.specs.RequestMap.{open_at}
use Rattle.farm_core.specs.FarmParts.{FarmParts}
use Rattle.farm_steps.specs.Moments.{moment_of}
use Rattle.region_state.specs.RegionState.{RegionParts}
use Rattle.farm_core.specs.Runs.{advanced}
use Rattle.wiki_model.proofs.ConsistentLaws.{readings-keep}
use Rattle.farm_core.proofs.Going.{agrees-read, stands-consistent}
use Rattle.farm_core.proofs.Waiting.{site_of, moment_is}
use Rattle.farm_core.specs.Agreement as agreed
use Rattle.farm_core.specs.Agreement.{Agrees, RegionStands}
use Rattle.farm_core.specs.LendCache.{with_given, without_cache, purges_of, was_lost, answers_of, round_turn, GivesBack}
use Rattle.farm_steps.specs.RelaySteps.{received_all}
use Rattle.region_state.specs.RegionState.{with_cache}
use Rattle.farm_core.proofs.Following.{Follows, agree-later}
use Rattle.farm_core.proofs.Standing.{stands-still, site_grown, rows_moments}
use Rattle.farm_core.proofs.Ledgers.{message_is, receipts_leave, receipts_more, events_after}
use Rattle.farm_core.proofs.Issuing.{LedgerAgrees}

-- what a round's receipts leave as it was
pub record IsAfter (v w : World) : Type 0 where
  pub history : w.history ≡ v.history
  pub setting : w.setting ≡ v.setting
  pub markup : w.markup ≡ v.markup
  pub requests : w.requests ≡ v.requests
  pub messages : w.messages ≡ v.messages
  pub counted : w.faults ≡ v.faults
  pub applied : (q : Region) → (site q w).applied ≡ (site q v).applied
  pub heard : (q : Region) → (site q w).heard ≡ (site q v).heard
  pub moments : (q : Region) → moment q w ≡ moment q v

one_after : (r : Region) (purge : ℕ) (title : Title) (v : World) → IsAfter v (receives r purge title v)
one_after Home purge title v = record { history = refl; setting = refl; markup = refl; requests = refl; messages = refl; counted = refl; applied = same; heard = heard; moments = moments }
  where
    same : (q : Region) → (site q (receives Home purge title v)).applied ≡ (site q v).applied
    same Home = refl
    same West = refl

    heard : (q : Region) → (site q (receives Home purge title v)).heard ≡ (site q v).heard
    heard Home = refl
    heard West = refl

    moments : (q : Region) → moment q (receives Home purge title v) ≡ moment q v
    moments Home = refl
    moments West = refl
one_after West purge title v = record { history = refl; setting = refl; markup = refl; requests = refl; messages = refl; counted = refl; applied = same; heard = heard; moments = moments }
  where
    same : (q : Region) → (site q (receives West purge title v)).applied ≡ (site q v).applied
    same Home = refl
    same West = refl

    heard : (q : Region) → (site q (receives West purge title v)).heard ≡ (site q v).heard
    heard Home = refl
    heard West = refl

    moments : (q : Region) → moment q (receives West purge title v) ≡ moment q v
    moments Home = refl
    moments West = refl

then : (u v w : World) → IsAfter u v → IsAfter v w → IsAfter u w
then u v w a b = record {
  history = b.history ∙ a.history;
  setting = b.setting ∙ a.setting;
  markup = b.markup ∙ a.markup;
  requests = b.requests ∙ a.requests;
  messages = b.messages ∙ a.messages;
  counted = b.counted ∙ a.counted;
  applied = λ q. b.applied q ∙ a.applied q;
  heard = λ q. b.heard q ∙ a.heard q;
  moments = λ q. b.moments q ∙ a.moments q;
}

pub all_after : (r : Region) (jobs : List Job) (v : World) → AllByRecursion (IsReceivable v) jobs → IsAfter v (received r jobs v)
all_after r [] v all = record { history = refl; setting = refl; markup = refl; requests = refl; messages = refl; counted = refl; applied = λ q. refl; heard = λ q. refl; moments = λ q. refl }
all_after r (ViewJob title need word ∷ jobs) v all = all_after r jobs v all.1
all_after r (ReceiptJob purge ∷ jobs) v all =
    let job = all.0 in
    subst (λ (x : World). IsAfter v (received r jobs x)) (sym (receipt-is r v purge job.0 job.1 job.2))
    (then v (receives r purge job.0 v) (received r jobs (receives r purge job.0 v)) (one_after r purge job.0 v) (all_after r jobs (receives r purge job.0 v) (receivable-later r purge job.0 v jobs all.1)))

-- the ledger

body_is : (b : Body) (p : ℕ) (t : Title) (q : ℕ) → body_of b ≡ world.Purge p t q → b ≡ Purge p t q
body_is (Purge n u i) p t q e = let a : n ≡ p = cc in let b : u ≡ t = cc in let c : i ≡ q = cc in ap (λ k. Purge k u i) a ∙ ap (λ k. Purge p k i) b ∙ ap (λ k. Purge p t k) c
body_is (Position c i n s) p t q e = let no : ⊥ = cc in absurd no

issued_row : (ledger_now : LedgerState) (v : World) (purge : ℕ) (title : Title) (at : ℕ) → LedgerAgrees ledger_now.rows v → IsIssued v purge title at → (row : LedgerRow) × (row_at ledger_now.rows purge ≡ Some row) × (row.message.body ≡ Purge purge title at)
issued_row ledger_now v purge title at a (m, there, body) = by (row_at ledger_now.rows purge) refl
  where
    shown : option_map row_message (row_at ledger_now.rows purge) ≡ Some m
    shown = sym (message_is ledger_now.rows v.messages v purge a.messages refl) ∙ there

    by : (o : Option LedgerRow) → row_at ledger_now.rows purge ≡ o → (row : LedgerRow) × (row_at ledger_now.rows purge ≡ Some row) × (row.message.body ≡ Purge purge title at)
    by None e = let no : None ≡ Some m = sym (ap (option_map row_message) e) ∙ shown in let no_such : ⊥ = cc in absurd no_such
    by (Some row) e =
        let both : Some (row_message row) ≡ Some m = sym (ap (option_map row_message) e) ∙ shown in
        let same : row_message row ≡ m = cc in
        (row, e, body_is row.message.body purge title at (ap (λ (x : world.Message). x.body) same ∙ body))

events_are : (r q : Region) (event : Event) (v : World) → events_after r q event (site q v).events ≡ (site q (with_event r event v)).events
events_are Home Home event v = refl
events_are West West event v = refl
events_are Home West event v = refl
events_are West Home event v = refl

pub ledger_after : (r : Region) (jobs : List Job) (v : World) (ledger_now : LedgerState) (now : ℕ) → now ≡ moment r v → AllByRecursion (IsReceivable v) jobs → LedgerAgrees ledger_now.rows v → LedgerAgrees (received_all r now (purges_of jobs) ledger_now).rows (received r jobs v)
ledger_after r [] v ledger_now now at all a = a
ledger_after r (ViewJob title need word ∷ jobs) v ledger_now now at all a = ledger_after r jobs v ledger_now now at all.1 a
ledger_after r (ReceiptJob purge ∷ jobs) v ledger_now now at all a =
    let job = all.0 in
    let row = issued_row ledger_now v purge job.0 job.1 a job.2 in
    let u : World = receives r purge job.0 v in
    let next : LedgerState = changed_at (with_receipt r now) purge ledger_now in
    let one : LedgerAgrees (changed_at (with_receipt r now) purge ledger_now).rows (receives r purge job.0 v) = record {
      messages = receipts_leave r now purge ledger_now ∙ a.messages ∙ sym (one_after r purge job.0 v).messages;
      receipts = λ q n. ap (λ k. receipt_at q (row_at (changed_at (with_receipt r k) purge ledger_now).rows n)) at
          ∙ receipts_more ledger_now r (moment r v) purge job.0 job.1 row.0 row.1 row.2 (λ p. (site p v).events) a.receipts q n ∙ ap (λ es. agreed.receipt_in es n) (events_are r q (Received purge job.0 (moment r v)) v);
    } in
    subst (λ (x : World). LedgerAgrees (received_all r now (purges_of jobs) (changed_at (with_receipt r now) purge ledger_now)).rows (received r jobs x)) (sym (receipt-is r v purge job.0 job.1 job.2))
    (ledger_after r jobs (receives r purge job.0 v) (changed_at (with_receipt r now) purge ledger_now) now (at ∙ sym ((one_after r purge job.0 v).moments r)) (receivable-later r purge job.0 v jobs all.1) one)

-- the farm agrees with the world after the round

round_events : (r q : Region) (b : world.Batch) (v : World) (n : ℕ) → agreed.receipt_in (site q (with_event r (Rounded b) v)).events n ≡ agreed.receipt_in (site q v).events n
round_events Home Home b v n = refl
round_events West West b v n = refl
round_events Home West b v n = refl
round_events West Home b v n = refl

round_after : (r : Region) (b : world.Batch) (v : World) → IsAfter v (with_event r (Rounded b) v)
round_after Home b v = record { history = refl; setting = refl; markup = refl; requests = refl; messages = refl; counted = refl; applied = applied; heard = heard; moments = moments }
  where
    applied : (q : Region) → (site q (with_event Home (Rounded b) v)).applied ≡ (site q v).applied
    applied Home = refl
    applied West = refl

    heard : (q : Region) → (site q (with_event Home (Rounded b) v)).heard ≡ (site q v).heard
    heard Home = refl
    heard West = refl

    moments : (q : Region) → moment q (with_event Home (Rounded b) v) ≡ moment q v
    moments Home = refl
    moments West = refl
round_after West b v = record { history = refl; setting = refl; markup = refl; requests = refl; messages = refl; counted = refl; applied = applied; heard = heard; moments = moments }
  where
    applied : (q : Region) → (site q (with_event West (Rounded b) v)).applied ≡ (site q v).applied
    applied Home = refl
    applied West = refl

    heard : (q : Region) → (site q (with_event West (Rounded b) v)).heard ≡ (site q v).heard
    heard Home = refl
    heard West = refl

    moments : (q : Region) → moment q (with_event West (Rounded b) v) ≡ moment q v
    moments Home = refl
    moments West = refl

-- the region that was not lent received nothing
else_events : (r q : Region) (jobs : List Job) (v : World) → AllByRecursion (IsReceivable v) jobs → ((event : Event) (u : World) → (site q (with_event r event u)).events ≡ (site q u).events) → (site q (received r jobs v)).events ≡ (site q v).events
else_events r q [] v all apart = refl
else_events r q (ViewJob title need word ∷ jobs) v all apart = else_events r q jobs v all.1 apart
else_events r q (ReceiptJob purge ∷ jobs) v all apart =
    let job = all.0 in
    ap (λ (x : World). (site q (received r jobs x)).events) (receipt-is r v purge job.0 job.1 job.2)
    ∙ else_events r q jobs (receives r purge job.0 v) (receivable-later r purge job.0 v jobs all.1) apart ∙ apart (Received purge job.0 (moment r v)) v

-- the same, whatever the keeper counted
record IsAlike (v w : World) : Type 0 where
  pub history : w.history ≡ v.history
  pub setting : w.setting ≡ v.setting
  pub markup : w.markup ≡ v.markup
  pub requests : w.requests ≡ v.requests
  pub messages : w.messages ≡ v.messages
  pub applied : (q : Region) → (site q w).applied ≡ (site q v).applied
  pub heard : (q : Region) → (site q w).heard ≡ (site q v).heard
  pub moments : (q : Region) → moment q w ≡ moment q v

else_site : {S : Type 0} (cache_of : S → CacheMap Bytes) (parts : RegionParts S) (v w : World) (q : Region) → IsAlike v w → (site q w).events ≡ (site q v).events → RegionStands cache_of parts v q → RegionStands cache_of parts w q
else_site cache_of parts v w q is events s = stands-still cache_of parts v w q (record { history = is.history; setting = is.setting; markup = is.markup; up = (let e = is.moments q in omega (arith, e)); applied = is.applied q; heard = is.heard q; events = events }) s

own_site : {S : Type 0} (cache_of : S → CacheMap Bytes) (parts : RegionParts S) (cache : S) (v w : World) (q : Region) → IsConsistent v → IsAlike v w → CacheStands w q (cache_of cache) → RegionStands cache_of parts v q → RegionStands cache_of (with_cache (Some cache) parts) w q
own_site cache_of parts cache v w q fits is stands s =
    site_grown cache_of parts parts.positions (Some cache) v w q [] fits (is.history ∙ sym (append-nil v.history)) is.setting is.markup (is.applied q) (rows_moments v w q (rows_in parts.positions) is.history (is.heard q) (let e = is.moments q in omega (arith, e)) s.positions) refl stands s

pub given_agrees : {K S : Type 0} (content : K → Option (List Entry)) (faults : K → ℕ) (cache_of : S → CacheMap Bytes) (farm : FarmParts K S) (r : Region) (after : S) (now : ℕ) (jobs : List Job) (lost : Bool) (answers : List Answer) (v : World)
    → IsConsistent v → Agrees content faults cache_of farm v → now ≡ moment r v → AllByRecursion (IsReceivable v) jobs → CacheStands (rounded r jobs lost answers v) r (cache_of after)
    → Agrees content faults cache_of (with_given r after now (purges_of jobs) farm) (with_faults (faults farm.keeper) (rounded r jobs lost answers v))
given_agrees {K} {S} content faults cache_of farm r after now jobs lost answers v fits a at all stands = record {
  plan = subst (λ (s : Setting). Rattle.region_state.specs.AsModel.IsPlanOf s farm.plan) (sym is.setting) a.plan;
  opened = (let o = a.opened in subst (λ (s : Setting). s.opened ≤ length u.history) (sym is.setting) (subst (λ (h : List Entry). v.setting.opened ≤ length h) (sym is.history) o));
  history = a.history ∙ ap Some (sym is.history);
  counted = omega arith;
  messages = ledger.messages;
  receipts = λ q n. ledger.receipts q n ∙ sym (round_events r q (batch v r jobs lost answers) (received r jobs v) n) ∙ same_faults q n;
  requests = λ id. subst (λ q. agreed_at id q) (sym (ap (λ (m : world.Requests). Rattle.std.specs.FinMap.get m id) is.requests)) (agree-later v w follows (open_at farm.requests id) (request_at v id) (a.requests id));
  home_moment = a.home_moment ∙ sym (is.moments Home);
  west_moment = a.west_moment ∙ sym (is.moments West);
  beat = a.beat ∙ sym (ap (λ (s : Setting). agreed.last_beat_in (drop s.opened u.history) None) is.setting ∙ ap (λ (h : List Entry). agreed.last_beat_in (drop v.setting.opened h) None) is.history);
  home = home r stands refl;
  west = west r stands refl;
}
  where
    u : World
    u = rounded r jobs lost answers v

    w : World
    w = with_faults (faults farm.keeper) (rounded r jobs lost answers v)

    is : IsAfter v (rounded r jobs lost answers v)
    is = then v (received r jobs v) (rounded r jobs lost answers v) (all_after r jobs v all) (round_after r (batch v r jobs lost answers) (received r jobs v))

    is_w : IsAlike v (with_faults (faults farm.keeper) (rounded r jobs lost answers v))
    is_w = record { history = is.history; setting = is.setting; markup = is.markup; requests = is.requests; messages = is.messages; applied = applied; heard = heard; moments = moments }
      where
        applied : (q : Region) → (site q (with_faults (faults farm.keeper) (rounded r jobs lost answers v))).applied ≡ (site q v).applied
        applied Home = is.applied Home
        applied West = is.applied West

        heard : (q : Region) → (site q (with_faults (faults farm.keeper) (rounded r jobs lost answers v))).heard ≡ (site q v).heard
        heard Home = is.heard Home
        heard West = is.heard West

        moments : (q : Region) → moment q (with_faults (faults farm.keeper) (rounded r jobs lost answers v)) ≡ moment q v
        moments Home = is.moments Home
        moments West = is.moments West

    agreed_at : (id : ℕ) → Option world.Request → Type 0
    agreed_at id q = Rattle.farm_steps.specs.RequestMap.AgreeAt (with_faults (faults farm.keeper) (rounded r jobs lost answers v)) (open_at farm.requests id) q

    ledger : LedgerAgrees (received_all r now (purges_of jobs) farm.ledger).rows (received r jobs v)
    ledger = ledger_after r jobs v farm.ledger now at all (record { messages = a.messages; receipts = a.receipts })

    follows : Follows v (with_faults (faults farm.keeper) (rounded r jobs lost answers v))
    follows = record { more = []; history = is.history ∙ sym (append-nil v.history); setting = is.setting; issued = λ purge t q i. (i.0, still purge i.0 i.1, i.2) }
      where
        still : (n : ℕ) (m : world.Message) → message_at v n ≡ Some m → message_at (with_faults (faults farm.keeper) (rounded r jobs lost answers v)) n ≡ Some m
        still zero m e = e
        still (suc n) m e = ap (λ (ms : List world.Message). slice_get ms n) is.messages ∙ e

    same_faults : (q : Region) (n : ℕ) → agreed.receipt_in (site q (rounded r jobs lost answers v)).events n ≡ agreed.receipt_in (site q (with_faults (faults farm.keeper) (rounded r jobs lost answers v))).events n
    same_faults Home n = refl
    same_faults West n = refl

    to_w : (q : Region) → CacheStands (rounded r jobs lost answers v) q (cache_of after) → CacheStands (with_faults (faults farm.keeper) (rounded r jobs lost answers v)) q (cache_of after)
    to_w Home s = stands-grown (rounded r jobs lost answers v) w Home (cache_of after) (record { more = []; history = sym (append-nil u.history); setting = refl; events = refl; moment = omega arith }) s
    to_w West s = stands-grown (rounded r jobs lost answers v) w West (cache_of after) (record { more = []; history = sym (append-nil u.history); setting = refl; events = refl; moment = omega arith }) s

    events_else : (p q : Region) → p ≡ r → ((event : Event) (x : World) → (site q (with_event p event x)).events ≡ (site q x).events) → (site q (rounded p jobs lost answers v)).events ≡ (site q v).events
    events_else p q e apart = apart (Rounded (batch v p jobs lost answers)) (received p jobs v) ∙ else_events p q jobs v all apart

    home : (p : Region) → CacheStands (rounded r jobs lost answers v) r (cache_of after) → r ≡ p → RegionStands cache_of (with_given p after now (purges_of jobs) farm).home (with_faults (faults farm.keeper) (rounded r jobs lost answers v)) Home
    home Home s e = own_site cache_of farm.home after v w Home fits is_w (to_w Home (subst (λ q. CacheStands (rounded r jobs lost answers v) q (cache_of after)) e s)) a.home
    home West s e = else_site cache_of farm.home v w Home is_w (subst (λ p. (site Home (with_faults (faults farm.keeper) (rounded p jobs lost answers v))).events ≡ v.home.events) (sym e) (events_else West Home (sym e) (λ event x. refl))) a.home

    west : (p : Region) → CacheStands (rounded r jobs lost answers v) r (cache_of after) → r ≡ p → RegionStands cache_of (with_given p after now (purges_of jobs) farm).west (with_faults (faults farm.keeper) (rounded r jobs lost answers v)) West
    west West s e = own_site cache_of farm.west after v w West fits is_w (to_w West (subst (λ q. CacheStands (rounded r jobs lost answers v) q (cache_of after)) e s)) a.west
    west Home s e = else_site cache_of farm.west v w West is_w (subst (λ p. (site West (with_faults (faults farm.keeper) (rounded p jobs lost answers v))).events ≡ v.west.events) (sym e) (events_else Home West (sym e) (λ event x. refl))) a.west

twice_given : {K S : Type 0} (r : Region) (cache : S) (now : ℕ) (purges : List ℕ) (farm : FarmParts K S) → with_given r cache now purges (without_cache r farm) ≡ with_given r cache now purges farm
twice_given Home cache now purges farm = refl
twice_given West cache now purges farm = refl

row_jobs : (r : Region) (jobs : List Job) (v : World) (answers : Option (List Answer)) (w : World) → MakesRound r jobs v answers w → AllByRecursion (IsProperJob v r) jobs
row_jobs r jobs v None w row = row.0
row_jobs r jobs v (Some answers) w row = row.0

rounded_counted : (r : Region) (jobs : List Job) (lost : Bool) (answers : List Answer) (v : World) → AllByRecursion (IsReceivable v) jobs → (rounded r jobs lost answers v).faults ≡ v.faults
rounded_counted r jobs lost answers v all = (round_after r (batch v r jobs lost answers) (received r jobs v)).counted ∙ (all_after r jobs v all).counted

pub give_back_goes : {K S : Type 0} (content : K → Option (List Entry)) (faults : K → ℕ) (cache_of : S → CacheMap Bytes) (old : FarmParts K S) (r : Region) (after : S) (now : ℕ) (purges : List ℕ) (lost : Bool) → now ≡ moment_of r old.moments
    → GivesBack content faults cache_of old (with_given r after now purges old) r after purges lost
give_back_goes {K} {S} content faults cache_of old r after now purges lost now_is lent at start turns v jobs answers lent_is named lost_is stands row given =
    let u : World = at_readings at v in
    let fits = readings-keep at v (stands-consistent content faults cache_of lent start turns v stands) in
    let farm : FarmParts K S = advanced at lent in
    let a : Agrees content faults cache_of (advanced at lent) (at_readings at v) = agrees-read content faults cache_of lent at v stands.agrees in
    let x : World = rounded r jobs (was_lost answers) (answers_of answers) (at_readings at v) in
    let w : World = with_faults (faults lent.keeper) (rounded r jobs (was_lost answers) (answers_of answers) (at_readings at v)) in
    let all = proper-jobs (at_readings at v) r fits jobs (row_jobs r jobs (at_readings at v) answers x row) in
    let at_now : now ≡ moment r (at_readings at v) = now_is ∙ ap (λ (f : FarmParts K S). moment_of r f.moments) lent_is ∙ moment_is content faults cache_of (advanced at lent) (at_readings at v) a r in
    let agrees = given_agrees content faults cache_of (advanced at lent) r after now jobs (was_lost answers) (answers_of answers) (at_readings at v) fits a at_now all given in
    let new_is : with_given r after now (purges_of jobs) (advanced at lent) ≡ with_given r after now purges old =
    ap (λ ps. with_given r after now ps (advanced at lent)) named ∙ sym (twice_given r after now purges (advanced at lent)) ∙ ap (with_given r after now purges) (sym lent_is) in
    let fewer = stands.agrees.counted in
    let e : v.faults ≤ w.faults = omega (arith, fewer) in
    let leads : Leads v (round_turn at r jobs answers) w = record {
      takes = subst (λ n. MakesRound r jobs (at_readings at v) answers (with_faults n (rounded r jobs (was_lost answers) (answers_of answers) (at_readings at v)))) (rounded_counted r jobs (was_lost answers) (answers_of answers) (at_readings at v) all) row;
      faults = e;
    } in (
      w,
      record {
        opened = stands.opened;
        run = (v, stands.run, leads);
        agrees = subst (λ (f : FarmParts K S). Agrees content faults cache_of f w) new_is agrees;
      },
      leads,
      omega arith,
    )
