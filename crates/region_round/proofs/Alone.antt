-- What the caller of a round does on the cache is what the model lets a round of one worker do, in every world
-- with which the farm agrees. The farm's own lemmas say that a snapshot which the region takes is one of the world, and
-- that what is rendered from it is the page of its prefix; all jobs have one moment, so a snapshot has no age.
use Rattle.std.proofs.Common.{◌≡◌, ◌≢◌, ℕ, ◌+◌, ◌-◌, inl, inr, ◌⊎◌, Bool, true, false, List, [], ◌∷◌, map, Option, Some, None, refl, sym, ap, subst, ◌∙◌, arith}
use Rattle.std.specs.Prelude.{option_map}
use Rattle.wiki_model.specs.declared.Region.{Region}
use Rattle.wiki_model.specs.declared.SetRule.{SetRule}
use Rattle.wiki_model.specs.declared.SetRule.TheVariants as rule
use Rattle.wiki_model.specs.declared.Put.{Put}
use Rattle.wiki_model.specs.declared.Put.TheVariants as put
use Rattle.wiki_model.specs.declared.PutNote.{PutNote}
use Rattle.wiki_model.specs.declared.PutNote.TheVariants as note
use Rattle.wiki_model.specs.declared.Origin.TheVariants as via
use Rattle.wiki_model.specs.Bytes.{Bytes}
use Rattle.wiki_model.specs.Titles.{Title}
use Rattle.wiki_model.specs.Html.{html}
use Rattle.wiki_model.specs.Limits.{life_whole, life_lagged}
use Rattle.wiki_model.specs.Cache.{CacheMap, Cached, Found, Hit, Interim, Missed, IsCache, Puts, set_rule, look}
use Rattle.wiki_model.specs.CacheCalls.{IsNoteOf, ask_of, answer_from, answer_of_replica, look_answer, value_of_snapshot}
use Rattle.wiki_model.specs.World as world
use Rattle.wiki_model.specs.World.{World, moment, request_at}
use Rattle.wiki_model.specs.Answers as model
use Rattle.wiki_model.specs.Answers.{Answer, IsSnapshot, ChosenReplica}
use Rattle.wiki_model.specs.OneWorker as one
use Rattle.wan_value.specs.declared.Value.{Value}
use Rattle.wan_value.specs.AsModel.{value_of}
use Rattle.wan_cache.specs.declared.region_store.Look.{Look}
use Rattle.wan_cache.specs.declared.region_store.Look.TheVariants as looked
use Rattle.wan_cache.specs.Rules.{IsFound}
use Rattle.slot_cache.specs.AsModel.{map_of}
use Rattle.replica_apply.specs.declared.snapshot.Snapshot.{Snapshot}
use Rattle.region_state.specs.declared.snap_view.Snapped.{Snapped}
use Rattle.region_state.specs.declared.store_view.PageRules.{PageRules}
use Rattle.region_state.specs.AsModel.{choice_of, snapshot_of}
use Rattle.region_state.specs.RegionState.{RegionParts, with_cache}
use Rattle.region_state.specs.SnapView.{SnapsIn}
use Rattle.region_state.specs.StoreView.{NotesPut, rendered, replica_answer, rule_at, value_from}
use Rattle.farm_steps.specs.RequestMap.{Entries, AgreeAt, HasPage, open_at}
use Rattle.farm_steps.specs.ViewSteps.{IsPendingIn}
use Rattle.farm_core.specs.Agreement.{RegionStands}
use Rattle.farm_core.proofs.Snapping.{page_of_prefix, snapshot_is}
use Rattle.farm_core.proofs.Storing.{answer_same}
use Rattle.region_round.specs.declared.job.ViewJob.{ViewJob}
use Rattle.region_round.specs.declared.prepare_view.ViewTerms.{ViewTerms}
use Rattle.region_round.specs.declared.lent_cache.RoundTerms.{RoundTerms}
use Rattle.region_round.specs.Alone.{Kept, LooksAlone, PutsAlone}
use Rattle.region_round.specs.Views.{AnswersLook, DoesView, IsPutBy, Makes, PutsBy, PutsValue, Renders, Shows, ask_by}
use Rattle.region_round.specs.Jobs.{terms_of}

-- what a round in this world goes by
abbrev pub world_terms : World → Region → RoundTerms
world_terms v r = record {
  at = moment r v;
  epoch = v.setting.epoch;
  rules = record { read_lag = v.setting.bounds.read_lag; markup = v.markup };
}

pub chosen : (i : ℕ) (lagged : Bool) → ChosenReplica (choice_of i lagged) i
chosen i true = refl
chosen i false = refl

-- the note of a put that was granted

note_is : (answer : Put) (lagged : Bool) (n : PutNote) → answer ≢ put.Memory → ((holder : ℕ) → answer ≢ put.Busy holder) → NotesPut answer lagged n → IsNoteOf answer lagged n
note_is put.Main lagged n granted alone is = is
note_is put.Interim lagged n granted alone is = is
note_is (put.Held until) lagged n granted alone is = is
note_is (put.Busy holder) lagged n granted alone is = absurd (alone holder refl)
note_is put.Memory lagged n granted alone is = absurd (granted refl)

never_memory : (answer : Put) (lagged : Bool) (n : PutNote) → answer ≢ put.Memory → IsNoteOf answer lagged n → n ≢ note.Memory
never_memory put.Main false note.Whole granted is e = cc
never_memory put.Main true note.Lagged granted is e = cc
never_memory put.Interim lagged note.Interim granted is e = cc
never_memory (put.Held until) lagged note.Held granted is e = cc
never_memory put.Memory lagged n granted is e = absurd (granted refl)
never_memory _ _ _ granted is e = absurd is

-- a put does not meet another worker's claim
not_busy : (old new : CacheMap Bytes) (title : Title) (value : Cached Bytes) (answer : Put) → Puts old new title value answer → (holder : ℕ) → answer ≢ put.Busy holder
not_busy old new title value answer puts holder e = subst (λ a. Rattle.wiki_model.specs.Cache.Places old new title value a) e puts.placed

-- a value with the stamp of its prefix
stamped : (v : World) (title : Title) (s : Snapshot) (page : Bytes) (now life : ℕ) (lagged : Bool) (markup : ℕ) → HasPage v title s
    → value_from s page now life lagged markup ≡ value_of_snapshot v.history page s.upto now life lagged markup
stamped v title s page now life lagged markup has = ap (λ stamp. let c : Cached Bytes = record { page = page; upto = s.upto; stamp = stamp; set_at = now; life = life; lagged = lagged; version = markup } in c) has.stamp

put_one : (v : World) (title : Title) (s : Snapshot) (page : Bytes) (old new : Kept) (life : ℕ) (lagged : Bool) (n : PutNote) (now markup : ℕ) → HasPage v title s
    → (value : Value Bytes) (answer : Put) → value_of value ≡ value_from s page now life lagged markup → PutsAlone old new title value answer → NotesPut answer lagged n
    → one.PutsValue title (value_of_snapshot v.history page s.upto now life lagged markup) n (map_of old) (map_of new)
put_one v title s page old new life lagged n now markup has value answer is alone noted =
    let same = is ∙ stamped v title s page now life lagged markup has in
    let puts = subst (λ (c : Cached Bytes). Puts (map_of old) (map_of new) title c answer) same alone.puts in
    let free = not_busy (map_of old) (map_of new) title (value_of value) answer alone.puts in
    let of = note_is answer lagged n alone.granted free noted in
    (answer, puts, of, never_memory answer lagged n alone.granted of)

kept_page : (v : World) (r : Region) (title : Title) (s : Snapped) (page : Bytes) (old new : Kept) (n : PutNote) → HasPage v title s.snapshot → (of : SetRule)
    → PutsBy PutsAlone of old new title s.snapshot page (moment r v) v.markup n
    → one.KeepsPage of v r title (snapshot_of s) page n (map_of old) (map_of new)
kept_page v r title s page old new n has rule.Whole (value, answer, is, alone, noted) = put_one v title s.snapshot page old new life_whole false n (moment r v) v.markup has value answer is alone noted
kept_page v r title s page old new n has rule.Lagged (value, answer, is, alone, noted) = put_one v title s.snapshot page old new life_lagged true n (moment r v) v.markup has value answer is alone noted
kept_page v r title s page old new n has rule.NoPending (is, same) = (is, ap map_of same)
kept_page v r title s page old new n has rule.NoOld (is, same) = (is, ap map_of same)
kept_page v r title s page old new n has rule.NoMedium (is, same) = (is, ap map_of same)

-- a snapshot that is taken now has no age
ageless : (s : Snapped) (now read_lag : ℕ) → s.snapshot.since ≡ now → rule_at s now read_lag ≡ set_rule s.snapshot.lag 0 s.pending read_lag
ageless s now read_lag since =
    let none : now - s.snapshot.since ≡ 0 = omega (arith, since) in ap (λ age. set_rule s.snapshot.lag age s.pending read_lag) none

rendered_as : (v : World) (r : Region) (view : ViewJob) (pending : Bool) (s : Snapped) (answer : Answer) (old new : Kept) → HasPage v view.title s.snapshot → s.snapshot.since ≡ moment r v
    → Renders PutsAlone old new view.title s (terms_of (world_terms v r) pending) answer
    → ((answer ≡ model.NoMemory) × (map_of new ≡ map_of old)) ⊎ one.Renders v r view.title (snapshot_of s) answer (map_of old) (map_of new) (html v.history s.snapshot.upto view.title v.markup)
rendered_as v r view pending s (model.Page p) old new has since (text, text_is, n, p_is, puts) =
    let page = rendered v.markup view.title text s.snapshot in
    let shown : html v.history s.snapshot.upto view.title v.markup ≡ Some page = has.page v.markup ∙ ap (option_map (λ t. rendered v.markup view.title t s.snapshot)) text_is in
    let at = chosen s.replica s.lagged in
    let said : model.Page p ≡ model.Page (answer_of_replica view.title (snapshot_of s) s.replica n page) = ap model.Page (p_is ∙ sym (answer_same view.title page s n s.replica at)) in
    let fresh = subst (λ of. PutsBy PutsAlone of old new view.title s.snapshot page (moment r v) v.markup n) (ageless s (moment r v) v.setting.bounds.read_lag since) puts in
    inr (subst (λ o. one.Renders v r view.title (snapshot_of s) (model.Page p) (map_of old) (map_of new) o) (sym shown)
    (s.replica, at, n, said, kept_page v r view.title s page old new n has (set_rule s.snapshot.lag 0 s.pending v.setting.bounds.read_lag) fresh))
rendered_as v r view pending s (model.NoPage source) old new has since (none, source_is, same) =
    let shown : html v.history s.snapshot.upto view.title v.markup ≡ None = has.page v.markup ∙ ap (option_map (λ t. rendered v.markup view.title t s.snapshot)) none in
    inr (subst (λ o. one.Renders v r view.title (snapshot_of s) (model.NoPage source) (map_of old) (map_of new) o) (sym shown) (ap model.NoPage source_is, ap map_of same))
rendered_as v r view pending s model.NoMemory old new has since same = inl (refl, ap map_of same)
rendered_as v r view pending s _ old new has since wrong = absurd wrong

module _ {S : Type 0} where
  -- a region takes its snapshots wherever its cache is
  pub snaps_there : (parts : RegionParts S) (away : Option S) (title : Title) (need word : ℕ) (pending : Bool) (now : ℕ) (s : Snapped) → SnapsIn (with_cache away parts) title need word pending now s → SnapsIn parts title need word pending now s
  snaps_there parts away title need word pending now s snaps = record { replica = snaps.replica; there = snaps.there; choice = snaps.choice; snapshot = snaps.snapshot; of = snaps.of; pending = snaps.pending }

  -- A view on the cache itself is one of the model.
  pub viewed : (cache_of : S → CacheMap Bytes) (parts : RegionParts S) (away : Option S) (v : World) (r : Region) (requests : Entries) (view : ViewJob) (pending : Bool) (old new : Kept) (answer : Answer)
      → RegionStands cache_of parts v r → ((id : ℕ) → AgreeAt v (open_at requests id) (request_at v id)) → IsPendingIn r requests view.title pending
      → DoesView LooksAlone PutsAlone (with_cache away parts) view (terms_of (world_terms v r) pending) old new answer
      → one.AnswersView v r view.title view.need view.word answer (map_of old) (map_of new)
  viewed cache_of parts away v r requests view pending old new answer stands all is_pending does = by does.found does.looked does.answers
    where
      shown : (mid : Kept) (page : model.PageAnswer) (f : Found Bytes) → mid ≡ old → new ≡ mid → look_answer view.title f ≡ model.Page page → look (map_of old) view.title (moment r v) (ask_of v view.need) ≡ f
          → (model.Page page ≡ look_answer view.title f → map_of new ≡ map_of old → one.AnswersFound v r view.title view.need view.word (model.Page page) (map_of old) (map_of new) f)
          → Shows page answer → one.AnswersView v r view.title view.need view.word answer (map_of old) (map_of new)
      shown mid page f mid_is new_is said found make (inl none) = inl (none, ap map_of (new_is ∙ mid_is))
      shown mid page f mid_is new_is said found make (inr is) =
          subst (λ (a : Answer). one.AnswersView v r view.title view.need view.word a (map_of old) (map_of new)) (sym is)
          (inr (subst (λ (x : Found Bytes). one.AnswersFound v r view.title view.need view.word (model.Page page) (map_of old) (map_of new) x) (sym found) (make (sym said) (ap map_of (new_is ∙ mid_is)))))

      made : (mid : Kept) → mid ≡ old → (why : _) → look (map_of old) view.title (moment r v) (ask_of v view.need) ≡ Missed why → Makes PutsAlone (with_cache away parts) mid new view (terms_of (world_terms v r) pending) answer
          → one.AnswersView v r view.title view.need view.word answer (map_of old) (map_of new)
      made mid mid_is why found (inl (none, same)) = inl (none, ap map_of (same ∙ mid_is))
      made mid mid_is why found (inr (s, snaps, renders)) =
          let has = page_of_prefix v view.title s.snapshot (moment r v) (snaps.of v.history (stands.prefixes s.replica snaps.replica snaps.there)) in
          let is = snapshot_is cache_of parts v r requests view.title view.need view.need view.word pending s stands all is_pending refl (snaps_there parts away view.title view.need view.word pending (moment r v) s snaps) in
          let on_old = subst (λ (k : Kept). Renders PutsAlone k new view.title s (terms_of (world_terms v r) pending) answer) mid_is renders in
          go s is found (rendered_as v r view pending s answer old new has snaps.snapshot.since on_old)
        where
          go : (s : Snapped) → IsSnapshot v r view.title view.need view.word (snapshot_of s) → look (map_of old) view.title (moment r v) (ask_of v view.need) ≡ Missed why
              → ((answer ≡ model.NoMemory) × (map_of new ≡ map_of old)) ⊎ one.Renders v r view.title (snapshot_of s) answer (map_of old) (map_of new) (html v.history s.snapshot.upto view.title v.markup)
              → one.AnswersView v r view.title view.need view.word answer (map_of old) (map_of new)
          go s is found (inl none) = inl none
          go s is found (inr renders) = inr (subst (λ (x : Found Bytes). one.AnswersFound v r view.title view.need view.word answer (map_of old) (map_of new) x) (sym found) (snapshot_of s, is, renders))

      by : (found : Look Bytes) → LooksAlone old does.mid view.title (moment r v) (ask_of v view.need) found → AnswersLook PutsAlone (with_cache away parts) does.mid new view (terms_of (world_terms v r) pending) answer found
          → one.AnswersView v r view.title view.need view.word answer (map_of old) (map_of new)
      by (looked.Hit value) (mid_is, found) (same, shows) = shown does.mid (answer_from view.title via.Hit (value_of value)) (Hit (value_of value)) mid_is same refl found (λ said kept. (said, kept)) shows
      by (looked.Interim value) (mid_is, found) (same, shows) = shown does.mid (answer_from view.title via.Interim (value_of value)) (Interim (value_of value)) mid_is same refl found (λ said kept. (said, kept)) shows
      by (looked.Miss why) (mid_is, found) makes = made does.mid mid_is why found makes
      by looked.Memory (mid_is, found) (same, none) = inl (none, ap map_of (same ∙ mid_is))
