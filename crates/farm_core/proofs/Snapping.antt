-- The step snap goes on with every run.
use Rattle.std.proofs.Common.{◌≡◌, ℕ, zero, suc, ◌-◌, Bool, true, false, List, [], ◌∷◌, ◌++◌, length, map, take, drop, Option, Some, None, Result, Ok, Err, refl, sym, ap, subst, ◌∙◌, arith}
use Rattle.std.specs.Prelude.{option_map, slice_get, zip, IsTrue, ◌↔◌, IfOk}
use Rattle.std.proofs.lemmas.Option.{slice_get-map}
use Rattle.wiki_model.specs.declared.Region.{Region}
use Rattle.wiki_model.specs.declared.Region.TheVariants.{Home, West}
use Rattle.wiki_model.specs.Bytes.{Bytes}
use Rattle.wiki_model.specs.Titles.{Title}
use Rattle.wiki_model.specs.History.{Entry, Edit, stamp_at}
use Rattle.wiki_model.specs.Balance.{Row, IsChoice}
use Rattle.wiki_model.specs.Cache.{CacheMap}
use Rattle.wiki_model.specs.World as world
use Rattle.wiki_model.specs.World.{World, moment, weights, request_at, with_request, without_request, Floor}
use Rattle.wiki_model.specs.Answers as model
use Rattle.wiki_model.specs.Answers.{Answer, NotOpen, NoMemory, ChosenReplica, IsPending}
use Rattle.wiki_model.specs.Steps as steps
use Rattle.wiki_model.specs.Steps.{Step, Snaps}
use Rattle.wiki_model.specs.Runs.{One, with_faults}
use Rattle.wiki_model.proofs.HistoryGrowth.{stamp-grows}
use Rattle.farm_base.specs.declared.memory.Memory.{Memory}
use Rattle.replica_apply.specs.declared.snapshot.Snapshot.{Snapshot}
use Rattle.replica_apply.specs.Replica.{ReplicaState, IsPrefixOf}
use Rattle.replica_apply.specs.Snapshot.{IsOf}
use Rattle.region_state.specs.declared.open_view.OpenView.{OpenView}
use Rattle.region_state.specs.declared.snap_view.Snapped.{Snapped}
use Rattle.farm_steps.specs.declared.open_request.OpenRequest.{OpenRequest}
use Rattle.farm_steps.specs.declared.open_request.OpenRequest.TheVariants as point
use Rattle.region_state.specs.AsModel.{open_view_of, snapshot_of, choice_of}
use Rattle.region_state.specs.StoreView.{rendered}
use Rattle.farm_steps.specs.RequestMap.{Entries, open_at, looked_view, HasPage, AgreeAt}
use Rattle.farm_core.specs.FarmParts.{FarmParts}
use Rattle.region_state.specs.RegionState.{RegionParts, RegionConfig}
use Rattle.region_state.specs.SnapView.{seen_rows, SnapsIn}
use Rattle.farm_core.specs.Agreement.{RegionStands, weights_of}
use Rattle.farm_core.specs.Runs.{GoesFrom, LeadsTo}
use Rattle.farm_steps.specs.ViewSteps.{SnapsTo, SnapsView, HasBegun, IsPendingIn, region_at}
use Rattle.farm_core.proofs.Points.{placed, closed, at_point, no_point, no_looked, is_looked}
use Rattle.farm_core.proofs.Quiet.{IsQuiet, quiet-follows}
use Rattle.farm_core.proofs.Waiting.{site_of, moment_is, calm_agrees, none_goes}
use Rattle.farm_core.proofs.Keeping.{NoMoreBegun, no_more, none_begun, same_begun}

-- a prefix's stamp is that of the history at its length

take-drop-is : (h : List Entry) (n : ℕ) → take n h ++ drop n h ≡ h
take-drop-is h zero = refl
take-drop-is [] (suc n) = refl
take-drop-is (e ∷ h) (suc n) = ap (λ xs. e ∷ xs) (take-drop-is h n)

prefix_stamp : (h : List Entry) (k : ReplicaState) → IsPrefixOf h k → k.stamp ≡ stamp_at h k.applied
prefix_stamp h k f =
    let n = length (take k.applied h) in
    f.stamp ∙ sym (stamp-grows (take k.applied h) (drop k.applied h) n (omega arith)) ∙ ap (λ (xs : List Entry). stamp_at xs n) (take-drop-is h k.applied) ∙ ap (stamp_at h) (sym f.applied)

-- the rows that the region sees are those of the world

rows_same : (now : ℕ) (h : List Entry) (ws : List ℕ) (ks : List ReplicaState) (row : ℕ × ℕ → Row) → ((w n : ℕ) → row (w, n) ≡ (let r : Row = record { weight = w; lag = now - stamp_at h n; applied = n } in r))
    → ((i : ℕ) (k : ReplicaState) → slice_get ks i ≡ Some k → k.stamp ≡ stamp_at h k.applied) → seen_rows now ws ks ≡ map row (zip ws (map (λ k. k.applied) ks))
rows_same now h [] ks row says prefixes = refl
rows_same now h (w ∷ ws) [] row says prefixes = refl
rows_same now h (w ∷ ws) (k ∷ ks) row says prefixes =
    ap (λ n. (let r : Row = record { weight = w; lag = now - n; applied = k.applied } in r) ∷ seen_rows now ws ks) (prefixes 0 k refl)
    ∙ ap (λ r. r ∷ seen_rows now ws ks) (sym (says w k.applied)) ∙ ap (λ rs. row (w, k.applied) ∷ rs) (rows_same now h ws ks row says (λ i. prefixes (suc i)))

weights_are : (v : World) (r : Region) → weights_of v.setting r ≡ weights r v
weights_are v Home = refl
weights_are v West = refl

world_rows : {S : Type 0} (cache_of : S → CacheMap Bytes) (parts : RegionParts S) (v : World) (r : Region) → RegionStands cache_of parts v r → seen_rows (moment r v) parts.config.weights parts.replicas ≡ model.rows_of v r
world_rows cache_of parts v r s =
    ap (λ (c : RegionConfig). seen_rows (moment r v) c.weights parts.replicas) s.config ∙ ap (λ ws. seen_rows (moment r v) ws parts.replicas) (weights_are v r)
    ∙ rows_same (moment r v) v.history (weights r v) parts.replicas (model.row_of v r) (λ w n. refl) (λ i k at. prefix_stamp v.history k (s.prefixes i k at))
    ∙ ap (λ applied. map (model.row_of v r) (zip (weights r v) applied)) s.applied

chosen : (i : ℕ) (lagged : Bool) → ChosenReplica (choice_of i lagged) i
chosen i true = refl
chosen i false = refl

-- a begun edit of the title is there exactly where the world has one

begun_there : (v : World) (entries : Entries) (title : Title) → ((id : ℕ) → AgreeAt v (open_at entries id) (request_at v id)) → HasBegun entries title → IsPending v Home title
begun_there v entries title all (id, begun, at, named) =
    let agree = subst (λ o. AgreeAt v o (request_at v id)) at (all id) in go (request_at v id) refl agree
  where
    go : (q : Option world.Request) → request_at v id ≡ q → AgreeAt v (Some (point.EditBegun begun)) q → IsPending v Home title
    go None e a = absurd a
    go (Some q) e (edit, purge, is, b) = (id, edit, purge, e ∙ ap Some is, sym (ap (λ (x : Edit). x.title) b.ask) ∙ named)

begun_here : (v : World) (entries : Entries) (title : Title) → ((id : ℕ) → AgreeAt v (open_at entries id) (request_at v id)) → IsPending v Home title → HasBegun entries title
begun_here v entries title all (id, edit, purge, at, named) = go (open_at entries id) refl (subst (λ q. AgreeAt v (open_at entries id) q) at (all id))
  where
    go : (o : Option OpenRequest) → open_at entries id ≡ o → AgreeAt v o (Some (world.EditBegun edit purge)) → HasBegun entries title
    go None e a = absurd a
    go (Some (point.EditBegun begun)) e (d, p, is, b) =
        let same : edit ≡ d = cc in
        (id, begun, e, ap (λ (x : Edit). x.title) b.ask ∙ ap (λ (x : Edit). x.title) (sym same) ∙ named)
    go (Some (point.EditArrived ask)) e a = let no : ⊥ = cc in absurd no
    go (Some (point.ViewArrived view)) e a = let no : ⊥ = cc in absurd no
    go (Some (point.ViewWaited view need)) e a = let no : ⊥ = (let is = a.1 in cc) in absurd no
    go (Some (point.ViewLooked view need)) e a = let no : ⊥ = (let is = a.1 in cc) in absurd no
    go (Some (point.ViewSnapped view snapped)) e a = let no : ⊥ = (let is = a.1 in cc) in absurd no
    go (Some point.Taken) e a = absurd a

pending_is : (v : World) (entries : Entries) (title : Title) (r : Region) (pending : Bool) → ((id : ℕ) → AgreeAt v (open_at entries id) (request_at v id)) → IsPendingIn r entries title pending → IsTrue pending ↔ IsPending v r title
pending_is v entries title Home pending all is = (λ yes. begun_there v entries title all (is.0 yes), λ there. is.1 (begun_here v entries title all there))
pending_is v entries title West pending all is = (λ yes. let no : ⊥ = cc in no, λ no. absurd no)

-- the snapshot is one of the world, and has its page

pub page_of_prefix : (v : World) (title : Title) (s : Snapshot) (reading : ℕ) → IsOf v.history title reading s → HasPage v title s
unfolding rendered
page_of_prefix v title s reading of = record { within = of.within; stamp = of.stamp; page = of.page; text = sym of.text }

pub snapshot_is : {S : Type 0} (cache_of : S → CacheMap Bytes) (parts : RegionParts S) (v : World) (r : Region) (entries : Entries) (title : Title) (need least word : ℕ) (pending : Bool) (s : Snapped)
    → RegionStands cache_of parts v r → ((id : ℕ) → AgreeAt v (open_at entries id) (request_at v id)) → IsPendingIn r entries title pending → need ≡ least → SnapsIn parts title need word pending (moment r v) s
    → model.IsSnapshot v r title least word (snapshot_of s)
snapshot_is cache_of parts v r entries title need least word pending s stands all is_pending same snaps = record {
  choice = subst (λ rows. IsChoice rows least word (choice_of s.replica s.lagged)) (world_rows cache_of parts v r stands) (subst (λ n. IsChoice (seen_rows (moment r v) parts.config.weights parts.replicas) n word (choice_of s.replica s.lagged)) same snaps.choice);
  replica = (
    s.replica,
    chosen s.replica s.lagged,
    ap (λ xs. slice_get xs s.replica) (sym stands.applied) ∙ slice_get-map (λ (k : ReplicaState). k.applied) parts.replicas s.replica ∙ ap (option_map (λ (k : ReplicaState). k.applied)) snaps.there ∙ ap Some (sym snaps.snapshot.upto),
  );
  since = snaps.snapshot.since;
  lag = snaps.snapshot.lag ∙ ap (λ n. moment r v - n) (prefix_stamp v.history snaps.replica (stands.prefixes s.replica snaps.replica snaps.there) ∙ ap (stamp_at v.history) (sym snaps.snapshot.upto));
  pending = subst (λ b. IsTrue b ↔ IsPending v r title) (sym snaps.pending) (pending_is v entries title r pending all is_pending);
}

pub snap_goes : {K S : Type 0} (content : K → Option (List Entry)) (faults : K → ℕ) (cache_of : S → CacheMap Bytes) (old : FarmParts K S) (requests : Entries) (id : ℕ) (answer : Option Answer)
    → SnapsTo old.home old.west old.moments id old.requests requests answer (looked_view (open_at old.requests id))
    → GoesFrom content faults cache_of old (record old { requests = requests }) (Step.Snap id) (One answer)
snap_goes {K} {S} content faults cache_of old requests id answer did v fits a = by (looked_view (open_at old.requests id)) refl did
  where
    Goes : Option Answer → Type 0
    Goes said = (w : World) × LeadsTo content faults cache_of old (record old { requests = requests }) (Step.Snap id) (One said) v w

    go : (view : OpenView) (need : ℕ) (floor : Floor) → request_at v id ≡ Some (world.ViewLooked (open_view_of view) floor) → need ≡ floor.need → (pending : Bool) → IsPendingIn view.region old.requests view.ask.title pending
        → (made : Result Snapped Memory) → IfOk made (λ s. SnapsIn (region_at view.region old.home old.west) view.ask.title need view.ask.word pending (moment view.region v) s) → SnapsView id view old.requests requests answer made → Goes answer
    go view need floor there same pending is_pending (Ok s) snaps (said, places) =
        let ov = open_view_of view in
        let request : world.Request = world.ViewSnapped ov floor (snapshot_of s) in
        let w : World = with_faults (faults old.keeper) (with_request id request v) in
        let q : IsQuiet v w = record { history = refl; setting = refl; messages = refl; home = refl; west = refl; markup = refl } in
        let parts = region_at view.region old.home old.west in
        let stands = site_of content faults cache_of old v a view.region in
        let page = page_of_prefix v view.ask.title s.snapshot (moment view.region v) (snaps.of v.history (stands.prefixes s.replica snaps.replica snaps.there)) in
        let row : Snaps id (ov, floor) v None (with_request id request v) =
        (snapshot_of s, snapshot_is cache_of parts v view.region old.requests view.ask.title need floor.need view.ask.word pending s stands a.requests is_pending same snaps, refl) in
        subst Goes (sym said) (
          w,
          record {
            takes = at_point (steps.looked_view (request_at v id)) (ov, floor) id v None (with_request id request v) (λ y. Snaps id y v None (with_request id request v)) (ap steps.looked_view there) row;
            counts = a.counted;
            later = omega arith;
            agrees = calm_agrees content faults cache_of old requests v w (record { quiet = q; count = refl; all = placed v w old.requests requests id (point.ViewSnapped view s) request (quiet-follows v w q) refl places (floor, refl, record { within = page.within; stamp = page.stamp; page = page.page; text = page.text }) a.requests }) a;
          },
        )
    go view need floor there same pending is_pending (Err want) snaps (said, places) =
        let ov = open_view_of view in
        let w : World = with_faults (faults old.keeper) (without_request id v) in
        let q : IsQuiet v w = record { history = refl; setting = refl; messages = refl; home = refl; west = refl; markup = refl } in
        subst Goes (sym said) (
          w,
          record {
            takes = at_point (steps.looked_view (request_at v id)) (ov, floor) id v (Some NoMemory) (without_request id v) (λ y. Snaps id y v (Some NoMemory) (without_request id v)) (ap steps.looked_view there) refl;
            counts = a.counted;
            later = omega arith;
            agrees = calm_agrees content faults cache_of old requests v w (record { quiet = q; count = refl; all = closed v w old.requests requests id (quiet-follows v w q) refl places a.requests }) a;
          },
        )

    by : (found : Option (OpenView × ℕ)) → looked_view (open_at old.requests id) ≡ found → SnapsTo old.home old.west old.moments id old.requests requests answer found → Goes answer
    by None is none =
        none_goes content faults cache_of old requests id answer v (Step.Snap id) none a
        (no_point (steps.looked_view (request_at v id)) id v v (λ y. Snaps id y v (Some (NotOpen id)) v) (no_looked v (open_at old.requests id) (request_at v id) (a.requests id) is) refl)
    by (Some (view, need)) is t =
        let there = is_looked v (open_at old.requests id) (request_at v id) view need (a.requests id) is in
        let now = moment_is content faults cache_of old v a view.region in
        go view need there.0 there.1 there.2 t.pending t.is_pending t.made
        (subst (λ n. IfOk t.made (λ s. SnapsIn (region_at view.region old.home old.west) view.ask.title need view.ask.word t.pending n s)) now t.snaps) t.ends

snapped_begun : (id : ℕ) (view : OpenView) (old new : Entries) (answer : Option Answer) (made : Result Snapped Memory) → SnapsView id view old new answer made → NoMoreBegun old new
snapped_begun id view old new answer (Ok s) did = no_more old new id (Some (point.ViewSnapped view s)) did.1 (λ begun is. cc)
snapped_begun id view old new answer (Err want) did = none_begun old new id did.1

pub snap_begun : {S : Type 0} (home west : RegionParts S) (at : Rattle.wiki_model.specs.declared.Readings.Readings) (id : ℕ) (old new : Entries) (answer : Option Answer) (found : Option (OpenView × ℕ)) → SnapsTo home west at id old new answer found → NoMoreBegun old new
snap_begun home west at id old new answer None none = same_begun old new none.1
snap_begun home west at id old new answer (Some (view, need)) t = snapped_begun id view old new answer t.made t.ends
