-- The step store goes on with every run.
use Rattle.std.proofs.Common.{◌≡◌, ℕ, ◌-◌, ◌≤◌, Bool, true, false, List, [], Option, Some, None, IfSome, append-nil, refl, sym, ap, subst, ◌∙◌, arith}
use Rattle.std.specs.Prelude.{option_map}
use Rattle.wiki_model.specs.declared.Region.{Region}
use Rattle.wiki_model.specs.declared.Region.TheVariants.{Home, West}
use Rattle.wiki_model.specs.declared.PutNote.{PutNote}
use Rattle.wiki_model.specs.declared.PutNote.TheVariants as note
use Rattle.wiki_model.specs.declared.Put.{Put}
use Rattle.wiki_model.specs.declared.Put.TheVariants as put
use Rattle.wiki_model.specs.declared.SetRule.{SetRule}
use Rattle.wiki_model.specs.declared.SetRule.TheVariants as rule
use Rattle.wiki_model.specs.Bytes.{Bytes}
use Rattle.wiki_model.specs.History.{Entry, stamp_at}
use Rattle.wiki_model.specs.Html.{html}
use Rattle.wiki_model.specs.Changes.{IsEvent}
use Rattle.wiki_model.specs.Cache.{CacheMap, Cached, IsCache, Puts, SameKey, SameChecks, SameCache, set_rule}
use Rattle.wiki_model.specs.CacheCalls.{IsNoteOf, value_of_snapshot, answer_of_replica}
use Rattle.wiki_model.specs.World as world
use Rattle.wiki_model.specs.World.{World, Floor, Stored, site, moment, request_at, without_request}
use Rattle.wiki_model.specs.World.Event.{Kept}
use Rattle.wiki_model.specs.Reuse.{IsNote, IsQuiet, main_life, interim_life}
use Rattle.wiki_model.specs.Answers as model
use Rattle.wiki_model.specs.Answers.{Answer, PageAnswer, ChosenReplica, is_lagged_choice}
use Rattle.wiki_model.specs.Steps as steps
use Rattle.wiki_model.specs.Steps.{Step, Stores, kept, stored}
use Rattle.wiki_model.specs.Runs.{One, with_faults, CountsFaults}
use Rattle.wiki_model.specs.Consistent.{IsParked}
use Rattle.wiki_model.specs.Caches.{CacheStands, IsTrueIn}
use Rattle.wiki_model.proofs.PutStandsLaws.{later-stands, same-but}
use Rattle.wiki_model.proofs.StoreLaws.{put-stands, no_put-stands, put-note, whole-true, lagged-true}
use Rattle.wiki_model.proofs.StoringLaws.{store-allowed, no_page-allowed}
use Rattle.region_state.specs.declared.open_view.OpenView.{OpenView}
use Rattle.region_state.specs.declared.snap_view.Snapped.{Snapped}
use Rattle.region_state.specs.AsModel.{open_view_of, snapshot_of, choice_of}
use Rattle.region_state.specs.StoreView.{rendered}
use Rattle.farm_steps.specs.RequestMap.{Entries, open_at, snapped_view, Places, HasPage}
use Rattle.purge_relay.specs.LedgerRow.{receipt_at}
use Rattle.purge_relay.specs.Ledger.{row_at}
use Rattle.wiki_model.specs.declared.Origin.TheVariants as via
use Rattle.farm_core.specs.FarmParts.{FarmParts, with_region_cache}
use Rattle.region_state.specs.RegionState.{RegionParts, RegionConfig}
use Rattle.region_state.specs.StoreView.{StoresAt, StoresBy, value_from, replica_answer}
use Rattle.farm_core.specs.Agreement.{Agrees, receipt_in}
use Rattle.farm_core.specs.Runs.{GoesFrom, LeadsTo}
use Rattle.farm_steps.specs.ViewSteps.{StoresTo, region_at, other_region}
use Rattle.farm_core.proofs.Points.{closed, at_point, no_point, no_snapped, is_snapped}
use Rattle.farm_core.proofs.Following.{Follows}
use Rattle.farm_core.proofs.Quiet.{IsQuiet as IsQuietly, quiet-follows}
use Rattle.farm_core.proofs.Happening.{Happens, happens-event, agrees-happened}
use Rattle.farm_core.proofs.Waiting.{site_of, moment_is, calm_agrees, none_goes}

chosen : (replica : ℕ) (lagged : Bool) (i : ℕ) → ChosenReplica (choice_of replica lagged) i → i ≡ replica
chosen replica true i is = sym is
chosen replica false i is = sym is

lagged_is : (replica : ℕ) (lagged : Bool) → is_lagged_choice (choice_of replica lagged) ≡ lagged
lagged_is replica true = refl
lagged_is replica false = refl

-- a put that found no memory leaves the map, but for the greatest moment

memory_stands : (v w : World) (r : Region) (old new : CacheMap Bytes) (s : Stored) → CacheStands v r old → ((key : Bytes) → SameKey old new key) → SameChecks old new → SameCache old new → new.greatest ≤ moment r v
    → main_life s.note ≡ 0 → interim_life s.note ≡ 0 → IsEvent v w r (Kept s) → CacheStands w r new
memory_stands v w r old new s stands all checks same le main interim event =
    no_put-stands v w r new s (subst (CacheStands v r) (same-but old new all checks same) (later-stands v r old new.greatest le stands)) main interim event

-- the mark that a note tells

mark_main : (lagged : Bool) (n : PutNote) → IsNoteOf put.Main lagged n → model.HasMark n lagged
mark_main false note.Whole is = refl
mark_main true note.Lagged is = refl
mark_main _ _ is = absurd is

mark_interim : (lagged : Bool) (n : PutNote) → lagged ≡ false → IsNoteOf put.Interim lagged n → model.HasMark n lagged
mark_interim lagged note.Interim e is = e
mark_interim lagged _ e is = absurd is

mark_held : (lagged : Bool) (n : PutNote) (until : ℕ) → lagged ≡ true → IsNoteOf (put.Held until) lagged n → model.HasMark n lagged
mark_held lagged note.Held until e is = e
mark_held lagged _ until e is = absurd is

no_memory : (n : PutNote) (lagged : Bool) → IsNoteOf put.Memory lagged n → (main_life n ≡ 0) × (interim_life n ≡ 0)
no_memory note.Memory lagged is = (refl, refl)
no_memory _ lagged is = absurd is

abbrev store_of : Bytes → Cached Bytes → PutNote → Stored
store_of key value n = record { title = key; at = value.set_at; source = value.upto; note = n; markup = value.version }

with_mark : (v w : World) (r : Region) (old new : CacheMap Bytes) (key : Bytes) (value : Cached Bytes) (answer : Put) (n : PutNote) → model.HasMark n value.lagged → value.set_at ≡ moment r v → CacheStands v r old → IsCache new
    → Puts old new key value answer → IsTrueIn v r key value → IsNoteOf answer value.lagged n → IsEvent v w r (Kept (store_of key value n)) → CacheStands w r new
with_mark v w r old new key value answer n mark at stands is_cache puts true_one is event =
    put-stands v w r old new key value answer (store_of key value n) stands is_cache puts at true_one (record { title_is = refl; at = refl; source = refl; markup = refl; mark = mark }) is event

placed_stands : (v w : World) (r : Region) (old new : CacheMap Bytes) (key : Bytes) (value : Cached Bytes) (answer : Put) (n : PutNote) → value.set_at ≡ moment r v → CacheStands v r old → IsCache new
    → Puts old new key value answer → IsTrueIn v r key value → IsNoteOf answer value.lagged n → IsEvent v w r (Kept (store_of key value n)) → CacheStands w r new
placed_stands v w r old new key value put.Main n at stands is_cache puts true_one is event = with_mark v w r old new key value put.Main n (mark_main value.lagged n is) at stands is_cache puts true_one is event
placed_stands v w r old new key value put.Interim n at stands is_cache puts true_one is event = with_mark v w r old new key value put.Interim n (mark_interim value.lagged n puts.placed.1 is) at stands is_cache puts true_one is event
placed_stands v w r old new key value (put.Held until) n at stands is_cache puts true_one is event = with_mark v w r old new key value (put.Held until) n (mark_held value.lagged n until puts.placed.1 is) at stands is_cache puts true_one is event
placed_stands v w r old new key value (put.Busy holder) n at stands is_cache puts true_one is event = absurd puts.placed
placed_stands v w r old new key value put.Memory n at stands is_cache puts true_one is event =
    let lives = no_memory n value.lagged is in
    memory_stands v w r old new (store_of key value n) stands puts.placed puts.checks puts.same (let g = puts.greatest in omega (arith, g, at)) lives.0 lives.1 event

-- What is stored by the rule: its note is allowed, and the cache stands for the world with the store.
stored_by : (v w : World) (r : Region) (old new : CacheMap Bytes) (key : Bytes) (snapped : Snapped) (page : Bytes) (n : PutNote)
    → CacheStands v r old → IsCache new → HasPage v key snapped.snapshot → html v.history snapped.snapshot.upto key v.markup ≡ Some page
    → snapped.snapshot.lag ≡ snapped.snapshot.since - stamp_at v.history snapped.snapshot.upto
    → IsEvent v w r (Kept (let t : Stored = record { title = key; at = moment r v; source = snapped.snapshot.upto; note = n; markup = v.markup } in t))
    → (of : SetRule) → set_rule snapped.snapshot.lag (moment r v - snapped.snapshot.since) snapped.pending v.setting.bounds.read_lag ≡ of
    → StoresBy of old new key snapped.snapshot page (moment r v) v.markup n
    → IsNote (IsQuiet v r key) of n × CacheStands w r new
stored_by v w r old new key snapped page n stands is_cache has shown lag event rule.Whole of_is by =
    let s = snapped.snapshot in
    let value = value_from s page (moment r v) 86_400_000 false v.markup in
    let same : (let c : Cached Bytes = value_of_snapshot v.history page s.upto (moment r v) 86_400_000 false v.markup in c) ≡ value = ap (λ stamp. let c : Cached Bytes = record { page = page; upto = s.upto; stamp = stamp; set_at = moment r v; life = 86_400_000; lagged = false; version = v.markup } in c) (sym has.stamp) in
    let true_one : IsTrueIn v r key value = subst (λ (c : Cached Bytes). IsTrueIn v r key c) same (whole-true v.history v.setting.bounds.read_lag (moment r v) s.since s.lag s.upto snapped.pending key page v.markup has.within lag shown of_is) in
    (put-note v r old new key value by.0 rule.Whole n stands by.1 refl refl by.2, placed_stands v w r old new key value by.0 n refl stands is_cache by.1 true_one by.2 event)
stored_by v w r old new key snapped page n stands is_cache has shown lag event rule.Lagged of_is by =
    let s = snapped.snapshot in
    let value = value_from s page (moment r v) 30_000 true v.markup in
    let same : (let c : Cached Bytes = value_of_snapshot v.history page s.upto (moment r v) 30_000 true v.markup in c) ≡ value = ap (λ stamp. let c : Cached Bytes = record { page = page; upto = s.upto; stamp = stamp; set_at = moment r v; life = 30_000; lagged = true; version = v.markup } in c) (sym has.stamp) in
    let true_one : IsTrueIn v r key value = subst (λ (c : Cached Bytes). IsTrueIn v r key c) same (lagged-true v.history v.setting.bounds.read_lag (moment r v) s.upto key page v.markup has.within shown) in
    (put-note v r old new key value by.0 rule.Lagged n stands by.1 refl refl by.2, placed_stands v w r old new key value by.0 n refl stands is_cache by.1 true_one by.2 event)
stored_by v w r old new key snapped page n stands is_cache has shown lag event rule.NoPending of_is by =
    (subst (IsNote (IsQuiet v r key) rule.NoPending) (sym by.0) tt, subst (CacheStands w r) (sym by.1) (no_put-stands v w r old _ stands (ap main_life by.0) (ap interim_life by.0) event))
stored_by v w r old new key snapped page n stands is_cache has shown lag event rule.NoOld of_is by =
    (subst (IsNote (IsQuiet v r key) rule.NoOld) (sym by.0) tt, subst (CacheStands w r) (sym by.1) (no_put-stands v w r old _ stands (ap main_life by.0) (ap interim_life by.0) event))
stored_by v w r old new key snapped page n stands is_cache has shown lag event rule.NoMedium of_is by =
    (subst (IsNote (IsQuiet v r key) rule.NoMedium) (sym by.0) tt, subst (CacheStands w r) (sym by.1) (no_put-stands v w r old _ stands (ap main_life by.0) (ap interim_life by.0) event))

pub answer_same : (title page : Bytes) (snapped : Snapped) (n : PutNote) (i : ℕ) → ChosenReplica (choice_of snapped.replica snapped.lagged) i
    → answer_of_replica title (snapshot_of snapped) i n page ≡ replica_answer title snapped n page
answer_same title page snapped n i is =
    ap (λ k. let p : PageAnswer = record { title = title; source = snapped.snapshot.upto; origin = via.Replica k; put = Some n; lagged = is_lagged_choice (choice_of snapped.replica snapped.lagged); page = page } in p) (chosen snapped.replica snapped.lagged i is)
    ∙ ap (λ b. let p : PageAnswer = record { title = title; source = snapped.snapshot.upto; origin = via.Replica snapped.replica; put = Some n; lagged = b; page = page } in p) (lagged_is snapped.replica snapped.lagged)

pub store_goes : {K S : Type 0} (content : K → Option (List Entry)) (faults : K → ℕ) (cache_of : S → CacheMap Bytes) (old : FarmParts K S) (home west : RegionParts S) (requests : Entries) (id : ℕ) (answer : Answer)
    → StoresTo cache_of old.home old.west home west old.moments id old.requests requests answer (snapped_view (open_at old.requests id))
    → GoesFrom content faults cache_of old (record old { home = home; west = west; requests = requests }) (Step.Store id) (One (Some answer))
store_goes {K} {S} content faults cache_of old home west requests id answer did v fits a = by (snapped_view (open_at old.requests id)) refl did
  where
    kept_region : (r : Region) → region_at r home west ≡ region_at r old.home old.west → region_at (other_region r) home west ≡ region_at (other_region r) old.home old.west → (home ≡ old.home) × (west ≡ old.west)
    kept_region Home p q = (p, q)
    kept_region West p q = (q, p)

    same_farm : home ≡ old.home → west ≡ old.west → (let f : FarmParts K S = record old { requests = requests } in f) ≡ (let f : FarmParts K S = record old { home = home; west = west; requests = requests } in f)
    same_farm p q i = record old { home = sym p i; west = sym q i; requests = requests }

    changed : (r : Region) (after : S) → region_at r home west ≡ (let p : RegionParts S = record (region_at r old.home old.west) { cache = Some after } in p) → region_at (other_region r) home west ≡ region_at (other_region r) old.home old.west
        → (let f : FarmParts K S = record (with_region_cache r after old) { requests = requests } in f) ≡ (let f : FarmParts K S = record old { home = home; west = west; requests = requests } in f)
    changed Home after p q i = record old { home = sym p i; west = sym q i; requests = requests }
    changed West after p q i = record old { home = sym q i; west = sym p i; requests = requests }

    Leads : Answer → Type 0
    Leads said = (w : World) × LeadsTo content faults cache_of old (record old { home = home; west = west; requests = requests }) (Step.Store id) (One (Some said)) v w

    receipts : (r q : Region) (event : Stored) (purge : ℕ) → receipt_at q (row_at old.ledger.rows purge) ≡ receipt_in (site q (with_faults (faults old.keeper) (without_request id (Rattle.wiki_model.specs.World.with_event r (Kept event) v)))).events purge
    receipts Home Home event purge = a.receipts Home purge
    receipts Home West event purge = a.receipts West purge
    receipts West Home event purge = a.receipts Home purge
    receipts West West event purge = a.receipts West purge

    ends : (said : Answer) (view : OpenView) (floor : Floor) (s : world.Snapshot) → home ≡ old.home → west ≡ old.west → request_at v id ≡ Some (world.ViewSnapped (open_view_of view) floor s) → Places old.requests requests id None
        → CountsFaults v.faults (faults old.keeper) (One (Some said)) → Stores id (open_view_of view, floor, s) v (Some said) (without_request id v)
        → (w : World) × LeadsTo content faults cache_of old (record old { home = home; west = west; requests = requests }) (Step.Store id) (One (Some said)) v w
    ends said view floor s p q there places counts row =
        let w : World = with_faults (faults old.keeper) (without_request id v) in
        let quiet : IsQuietly v w = record { history = refl; setting = refl; messages = refl; home = refl; west = refl; markup = refl } in (
          w,
          record {
            takes = at_point (steps.snapped_view (request_at v id)) (open_view_of view, floor, s) id v (Some said) (without_request id v) (λ y. Stores id y v (Some said) (without_request id v)) (ap steps.snapped_view there) row;
            counts = counts;
            later = omega arith;
            agrees = subst (λ (f : FarmParts K S). Agrees content faults cache_of f w) (same_farm p q) (calm_agrees content faults cache_of old requests v w (record { quiet = quiet; count = refl; all = closed v w old.requests requests id (quiet-follows v w quiet) refl places a.requests }) a);
          },
        )

    shows : (view : OpenView) (floor : Floor) (snapped : Snapped) (text : Bytes) (n : PutNote) (before after : S) → request_at v id ≡ Some (world.ViewSnapped (open_view_of view) floor (snapshot_of snapped)) → Places old.requests requests id None
        → HasPage v view.ask.title snapped.snapshot → snapped.snapshot.page ≡ Some text
        → (region_at view.region old.home old.west).cache ≡ Some before
        → region_at view.region home west ≡ (let p : RegionParts S = record (region_at view.region old.home old.west) { cache = Some after } in p) → region_at (other_region view.region) home west ≡ region_at (other_region view.region) old.home old.west
        → IsCache (cache_of after)
        → StoresBy (set_rule snapped.snapshot.lag (moment view.region v - snapped.snapshot.since) snapped.pending v.setting.bounds.read_lag) (cache_of before) (cache_of after) view.ask.title snapped.snapshot (rendered v.markup view.ask.title text snapped.snapshot) (moment view.region v) v.markup n
        → (w : World) × LeadsTo content faults cache_of old (record old { home = home; west = west; requests = requests }) (Step.Store id) (One (Some (model.Page (replica_answer view.ask.title snapped n (rendered v.markup view.ask.title text snapped.snapshot))))) v w
    shows view floor snapped text n before after there places has text_is before_is after_is other is_cache stores =
        let r = view.region in
        let title = view.ask.title in
        let s = snapshot_of snapped in
        let page = rendered v.markup title text snapped.snapshot in
        let parked : IsParked v floor s = fits.requests id (world.ViewSnapped (open_view_of view) floor s) there in
        let shown : html v.history snapped.snapshot.upto title v.markup ≡ Some page = has.page v.markup ∙ ap (option_map (λ t. rendered v.markup title t snapped.snapshot)) text_is in
        let p : PageAnswer = answer_of_replica title s parked.chosen.0 n page in
        let event : Stored = record { title = title; at = moment r v; source = snapped.snapshot.upto; note = n; markup = v.markup } in
        let w : World = with_faults (faults old.keeper) (without_request id (kept v r p n)) in
        let happens : Happens v w r (Kept event) = record { history = refl; setting = refl; markup = refl; home = refl; west = refl } in
        let s_in = site_of content faults cache_of old v a r in
        let stands : CacheStands v r (cache_of before) = subst (λ (o : Option S). IfSome o (λ c. CacheStands v r (cache_of c))) before_is s_in.cache in
        let both = stored_by v w r (cache_of before) (cache_of after) title snapped page n stands is_cache has shown parked.lag (happens-event v w r (Kept event) happens)
        (set_rule snapped.snapshot.lag (moment r v - snapped.snapshot.since) snapped.pending v.setting.bounds.read_lag) refl stores in
        let row = store-allowed id (open_view_of view) floor s v n page parked shown both.0 in
        let follows : Follows v w = record { more = []; history = sym (append-nil v.history); setting = refl; issued = λ purge t q i. i } in
        subst (λ (y : PageAnswer). (u : World) × LeadsTo content faults cache_of old (record old { home = home; west = west; requests = requests }) (Step.Store id) (One (Some (model.Page y))) v u) (answer_same title page snapped n parked.chosen.0 parked.chosen.1) (
          w,
          record {
            takes = at_point (steps.snapped_view (request_at v id)) (open_view_of view, floor, s) id v (Some (model.Page p)) (without_request id (kept v r p n)) (λ y. Stores id y v (Some (model.Page p)) (without_request id (kept v r p n))) (ap steps.snapped_view there) row;
            counts = a.counted;
            later = omega arith;
            agrees = subst (λ (f : FarmParts K S). Agrees content faults cache_of f w) (changed r after after_is other)
                (agrees-happened content faults cache_of old old.keeper old.ledger requests after v w r (Kept event) happens refl (omega arith) a.messages (λ q purge. receipts r q event purge) (closed v w old.requests requests id follows refl places a.requests) both.1 a);
          },
        )

    same_parts : (parts : RegionParts S) (before after : S) → parts.cache ≡ Some before → after ≡ before → (let p : RegionParts S = record parts { cache = Some after } in p) ≡ parts
    same_parts parts before after is same i = record parts { cache = (ap Some same ∙ sym is) i }

    by_answer : (view : OpenView) (floor : Floor) (snapped : Snapped) (said : Answer) (before after : S) → request_at v id ≡ Some (world.ViewSnapped (open_view_of view) floor (snapshot_of snapped)) → Places old.requests requests id None
        → HasPage v view.ask.title snapped.snapshot → region_at (other_region view.region) home west ≡ region_at (other_region view.region) old.home old.west
        → (region_at view.region old.home old.west).cache ≡ Some before → region_at view.region home west ≡ (let p : RegionParts S = record (region_at view.region old.home old.west) { cache = Some after } in p)
        → StoresAt cache_of before after view.ask.title snapped (moment view.region v) v.setting.bounds.read_lag v.markup said
        → (w : World) × LeadsTo content faults cache_of old (record old { home = home; west = west; requests = requests }) (Step.Store id) (One (Some said)) v w
    by_answer view floor snapped (model.Page p) before after there places has other before_is after_is (text, text_is, n, p_is, is_cache, stores) =
        subst (λ (y : PageAnswer). (u : World) × LeadsTo content faults cache_of old (record old { home = home; west = west; requests = requests }) (Step.Store id) (One (Some (model.Page y))) v u) (sym p_is)
        (shows view floor snapped text n before after there places has text_is before_is after_is other is_cache stores)
    by_answer view floor snapped (model.NoPage source) before after there places has other before_is after_is (none, source_is, same) =
        let sides = kept_region view.region (after_is ∙ same_parts (region_at view.region old.home old.west) before after before_is same) other in
        let parked : IsParked v floor (snapshot_of snapped) = fits.requests id (world.ViewSnapped (open_view_of view) floor (snapshot_of snapped)) there in
        subst (λ k. (u : World) × LeadsTo content faults cache_of old (record old { home = home; west = west; requests = requests }) (Step.Store id) (One (Some (model.NoPage k))) v u) (sym source_is)
        (ends (model.NoPage snapped.snapshot.upto) view floor (snapshot_of snapped) sides.0 sides.1 there places a.counted (no_page-allowed id (open_view_of view) floor (snapshot_of snapped) v parked (has.text ∙ none)))
    by_answer view floor snapped model.NoMemory before after there places has other before_is after_is same =
        let sides = kept_region view.region (after_is ∙ same_parts (region_at view.region old.home old.west) before after before_is same) other in
        ends model.NoMemory view floor (snapshot_of snapped) sides.0 sides.1 there places a.counted refl
    by_answer view floor snapped _ before after there places has other before_is after_is no_such = absurd no_such

    by : (found : Option (OpenView × Snapped)) → snapped_view (open_at old.requests id) ≡ found → StoresTo cache_of old.home old.west home west old.moments id old.requests requests answer found
        → (w : World) × LeadsTo content faults cache_of old (record old { home = home; west = west; requests = requests }) (Step.Store id) (One (Some answer)) v w
    by None is did =
        subst (λ (f : FarmParts K S). (w : World) × LeadsTo content faults cache_of old f (Step.Store id) (One (Some answer)) v w) (same_farm did.1 did.2)
        (none_goes content faults cache_of old requests id (Some answer) v (Step.Store id) did.0 a
        (no_point (steps.snapped_view (request_at v id)) id v v (λ y. Stores id y v (Some (model.NotOpen id)) v) (no_snapped v (open_at old.requests id) (request_at v id) (a.requests id) is) refl))
    by (Some (view, snapped)) is did =
        let at = is_snapped v (open_at old.requests id) (request_at v id) view snapped (a.requests id) is in
        let now = moment_is content faults cache_of old v a view.region in
        let parts = region_at view.region old.home old.west in
        let s_in = site_of content faults cache_of old v a view.region in
        let stores = did.1 in
        let at_now = subst (λ n. StoresAt cache_of stores.0 stores.1 view.ask.title snapped n parts.config.read_lag parts.markup answer) now stores.4 in
        let at_lag = subst (λ n. StoresAt cache_of stores.0 stores.1 view.ask.title snapped (moment view.region v) n parts.markup answer) (ap (λ (c : RegionConfig). c.read_lag) s_in.config) at_now in
        let at_markup = subst (λ n. StoresAt cache_of stores.0 stores.1 view.ask.title snapped (moment view.region v) v.setting.bounds.read_lag n answer) s_in.markup at_lag in
        by_answer view at.0 snapped answer stores.0 stores.1 at.1 did.0 at.2 did.2 stores.2 stores.3 at_markup
