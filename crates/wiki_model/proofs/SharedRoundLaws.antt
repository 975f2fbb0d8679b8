-- A round of several workers is allowed, and the cache that is given back as agreed stands for the world after it.
use Rattle.std.proofs.Common.{◌≡◌, ℕ, ◌-◌, ◌<◌, ◌⊎◌, max, List, [], ◌∷◌, ◌++◌, true, false, Some, None, Option, IfSome, refl, sym, ap, arith, subst, inl, inr}
use Rattle.std.specs.List.{AllByRecursion}
use Rattle.wiki_model.specs.declared.Region.{Region}
use Rattle.wiki_model.specs.declared.PutNote.{PutNote}
use Rattle.wiki_model.specs.declared.SetRule.{SetRule}
use Rattle.wiki_model.specs.declared.Origin.{Origin}
use Rattle.wiki_model.specs.Bytes.{Bytes}
use Rattle.wiki_model.specs.Titles.{Title}
use Rattle.wiki_model.specs.Html.{html}
use Rattle.wiki_model.specs.Cache.{CacheMap, Cached, Found, Hit, Interim, Missed, found, is_held, set_rule}
use Rattle.wiki_model.specs.World.{World, Setting, moment, Job}
use Rattle.wiki_model.specs.World.Job.{ViewJob, ReceiptJob}
use Rattle.wiki_model.specs.Reuse.{IsQuiet, IsNote}
use Rattle.wiki_model.specs.Answers.{Answer, HasMaker}
use Rattle.wiki_model.specs.Answers.Answer.{Page}
use Rattle.wiki_model.specs.Caches.{CacheStands, IsTrueIn}
use Rattle.wiki_model.specs.Rounds.{MakesRound, AnswersJobs, IsJobAnswer, IsBusy, IsProperJob, rounded, batch, floor_for}
use Rattle.wiki_model.specs.Consistent.{IsConsistent}
use Rattle.wiki_model.specs.Lent.{IsGivenBack}
use Rattle.wiki_model.specs.CacheCalls.{ask_of, answer_from}
use Rattle.wiki_model.specs.Shares.{IsMainTrue}
use Rattle.wiki_model.specs.SharedRounds.{Seen, IsLow, IsSeen, IsSharedNote, RendersShared, AnswersSeen, AnswersShared, DoesShared}
use Rattle.wiki_model.proofs.ChoiceLaws.{snapshot-reaches}
use Rattle.wiki_model.proofs.HeadlineLaws.{round-stands_of_proper}
use Rattle.wiki_model.proofs.StepLaws.{proper-jobs}
use Rattle.wiki_model.proofs.OneWorkerLaws.{rendered-sound, no-page, round-gathers}
use Rattle.wiki_model.proofs.ShareLaws.{share-hit, share-interim, share-not_quiet}
use Rattle.wiki_model.proofs.HoldOffLaws.{found-hit}
use Rattle.wiki_model.proofs.LookLaws.{found-interim}

-- the answer of what was seen is sound
seen-sound : (v w : World) (r : Region) (old new : CacheMap Bytes) (title : Title) (need word : ℕ) (answer : Answer) (s : Seen) → IsConsistent v → CacheStands v r old → CacheStands w r new → moment r w ≡ moment r v
    → IsSeen v w r old new title s → AnswersSeen title answer (found old.hold_off s.floor (max s.template s.message) (moment r v) (ask_of v need) s.main s.interim) → IsJobAnswer v w r title need word answer
seen-sound v w r old new title need word answer s fits stood stands now is answers = by (found old.hold_off s.floor (max s.template s.message) (moment r v) (ask_of v need) s.main s.interim) refl answers
  where
    hit : (o : Option (Cached Bytes)) (x : Cached Bytes) → IfSome o (λ value. IsMainTrue v r title value × HasMaker w r title value)
        → found old.hold_off s.floor (max s.template s.message) (moment r v) (ask_of v need) o s.interim ≡ Hit x → IsJobAnswer v w r title need word (Page (answer_from title Origin.Hit x))
    hit None x is_true e = let h = found-hit old.hold_off s.floor (max s.template s.message) (moment r v) (ask_of v need) None s.interim x e in let no : None ≡ Some x = h.1 in let none : ⊥ = cc in absurd none
    hit (Some value) x is_true e = inl (share-hit v w r old title (floor_for need) s.floor s.template s.message value x s.interim fits stood is.loaded is_true.0 is_true.1 (omega arith) e)

    shown : (o : Option (Cached Bytes)) (x : Cached Bytes) → IfSome o (λ value. IsTrueIn v r title value × (value.lagged ≡ false) × HasMaker w r title value)
        → found old.hold_off s.floor (max s.template s.message) (moment r v) (ask_of v need) s.main o ≡ Interim x → IsJobAnswer v w r title need word (Page (answer_from title Origin.Interim x))
    shown None x is_true e = let h = found-interim old.hold_off s.floor (max s.template s.message) (moment r v) (ask_of v need) s.main None x e in let no : None ≡ Some x = h.1 in let none : ⊥ = cc in absurd none
    shown (Some value) x is_true e = inl (share-interim v w r new title (floor_for need) old.hold_off s.floor s.template s.message value x s.main fits stands now is.low.floor is.low.template is.low.message is_true.0 is_true.1 is_true.2 (omega arith) e)

    by : (f : Found Bytes) → found old.hold_off s.floor (max s.template s.message) (moment r v) (ask_of v need) s.main s.interim ≡ f → AnswersSeen title answer f → IsJobAnswer v w r title need word answer
    by (Hit x) e answered = subst (IsJobAnswer v w r title need word) (sym answered) (hit s.main x is.main e)
    by (Interim x) e answered = subst (IsJobAnswer v w r title need word) (sym answered) (shown s.interim x is.interim e)
    by (Missed why) e answered = absurd answered

-- the note is one of a job
note-allowed : (v w : World) (r : Region) (new : CacheMap Bytes) (title : Title) (of : SetRule) (n : PutNote) → CacheStands w r new → moment r w ≡ moment r v → IsSharedNote v r new title of n
    → (IsNote (IsQuiet w r title) of n × (n ≡ PutNote.Memory → ⊥)) ⊎ (IsNote (IsQuiet w r title) of PutNote.Memory × IsBusy v.setting.workers n)
note-allowed v w r new title of n stands now is = by of is
  where
    held : (s : Seen) → IsLow new title s → is_held s.floor (max s.template s.message) (moment r v) ≡ true → IsQuiet w r title → ⊥
    held s low h = share-not_quiet w r new title s.floor s.template s.message stands low.floor low.template low.message (subst (λ (t : ℕ). is_held s.floor (max s.template s.message) t ≡ true) (sym now) h)

    by : (of : SetRule) → IsSharedNote v r new title of n → (IsNote (IsQuiet w r title) of n × (n ≡ PutNote.Memory → ⊥)) ⊎ (IsNote (IsQuiet w r title) of PutNote.Memory × IsBusy v.setting.workers n)
    by SetRule.Whole (inl e) = inl (subst (λ (m : PutNote). IsNote (IsQuiet w r title) SetRule.Whole m × (m ≡ PutNote.Memory → ⊥)) (sym e) (tt, λ no. cc))
    by SetRule.Whole (inr (inl x)) = inl (subst (λ (m : PutNote). IsNote (IsQuiet w r title) SetRule.Whole m × (m ≡ PutNote.Memory → ⊥)) (sym x.0) (held x.1 x.2 x.3, λ no. cc))
    by SetRule.Whole (inr (inr busy)) = inr (tt, busy)
    by SetRule.Lagged (inl e) = inl (subst (λ (m : PutNote). IsNote (IsQuiet w r title) SetRule.Lagged m × (m ≡ PutNote.Memory → ⊥)) (sym e) (tt, λ no. cc))
    by SetRule.Lagged (inr (inl x)) = inl (subst (λ (m : PutNote). IsNote (IsQuiet w r title) SetRule.Lagged m × (m ≡ PutNote.Memory → ⊥)) (sym x.0) (held x.1 x.2 x.3, λ no. cc))
    by SetRule.Lagged (inr (inr busy)) = inr (tt, busy)
    by SetRule.NoPending e = inl (subst (λ (m : PutNote). IsNote (IsQuiet w r title) SetRule.NoPending m × (m ≡ PutNote.Memory → ⊥)) (sym e) (tt, λ no. cc))
    by SetRule.NoOld e = inl (subst (λ (m : PutNote). IsNote (IsQuiet w r title) SetRule.NoOld m × (m ≡ PutNote.Memory → ⊥)) (sym e) (tt, λ no. cc))
    by SetRule.NoMedium e = inl (subst (λ (m : PutNote). IsNote (IsQuiet w r title) SetRule.NoMedium m × (m ≡ PutNote.Memory → ⊥)) (sym e) (tt, λ no. cc))

shared-sound : (v w : World) (r : Region) (old new : CacheMap Bytes) (title : Title) (need word : ℕ) (answer : Answer) → IsConsistent v → CacheStands v r old → CacheStands w r new → w.setting ≡ v.setting → moment r w ≡ moment r v
    → AnswersShared v w r old new title need word answer → IsJobAnswer v w r title need word answer
shared-sound v w r old new title need word answer fits stood stands setting now (inl wanting) = subst (IsJobAnswer v w r title need word) (sym wanting) tt
shared-sound v w r old new title need word answer fits stood stands setting now (inr (inl (s, is, answers))) = seen-sound v w r old new title need word answer s fits stood stands now is answers
shared-sound v w r old new title need word answer fits stood stands setting now (inr (inr (s, shot, renders))) = by (html v.history s.upto title v.markup) refl renders
  where
    by : (o : Option Bytes) → html v.history s.upto title v.markup ≡ o → RendersShared v r new title s answer o → IsJobAnswer v w r title need word answer
    by None none is = subst (IsJobAnswer v w r title need word) (sym is) (
      s,
      shot,
      record {
        within = (fits.sites r).applied shot.replica.0 s.upto shot.replica.2;
        none = no-page v.history s.upto title v.markup none;
        reaches = record { need = snapshot-reaches v r title need word s shot; own = omega arith };
        of_snapshot = refl;
      },
    )
    by (Some page) shown (i, chosen, n, is, noted) =
        let no_age : 0 ≡ s.since - s.since = omega arith in
        let read : v.setting.bounds.read_lag ≡ w.setting.bounds.read_lag = ap (λ (x : Setting). x.bounds.read_lag) (sym setting) in
        let F : ℕ → ℕ → Type 0 = λ age lag. (IsNote (IsQuiet w r title) (set_rule s.lag age s.pending lag) n × (n ≡ PutNote.Memory → ⊥)) ⊎ (IsNote (IsQuiet w r title) (set_rule s.lag age s.pending lag) PutNote.Memory × IsBusy v.setting.workers n) in
        subst (IsJobAnswer v w r title need word) (sym is) (inr (
          s,
          shot,
          rendered-sound v r title need word s n page i fits shot chosen shown,
          n,
          refl,
          subst (λ (lag : ℕ). F (s.since - s.since) lag) read (subst (λ (age : ℕ). F age v.setting.bounds.read_lag) no_age (note-allowed v w r new title (set_rule s.lag 0 s.pending v.setting.bounds.read_lag) n stands now noted)),
        ))

shared-answers : (v w : World) (r : Region) (old new : CacheMap Bytes) (earlier jobs : List Job) (answers : List Answer) → IsConsistent v → CacheStands v r old → CacheStands w r new → w.setting ≡ v.setting → moment r w ≡ moment r v
    → 1 < v.setting.workers → DoesShared v w r old new jobs answers → AnswersJobs v w r earlier jobs answers
shared-answers v w r old new earlier [] [] fits stood stands setting now many does = tt
shared-answers v w r old new earlier [] (answer ∷ answers) fits stood stands setting now many does = absurd does
shared-answers v w r old new earlier (ReceiptJob purge ∷ jobs) answers fits stood stands setting now many does = shared-answers v w r old new (earlier ++ ReceiptJob purge ∷ []) jobs answers fits stood stands setting now many does
shared-answers v w r old new earlier (ViewJob title need word ∷ jobs) [] fits stood stands setting now many does = absurd does
shared-answers v w r old new earlier (ViewJob title need word ∷ jobs) (answer ∷ answers) fits stood stands setting now many does = (
  shared-sound v w r old new title need word answer fits stood stands setting now does.0,
  λ one all. let no : ⊥ = omega (arith, one, many) in absurd no,
  shared-answers v w r old new (earlier ++ ViewJob title need word ∷ []) jobs answers fits stood stands setting now many does.1,
)

-- A round of several workers is allowed, and its cache stands for the world after it.
pub shared-round : (v : World) (r : Region) (jobs : List Job) (answers : List Answer) (old new : CacheMap Bytes) → IsConsistent v → AllByRecursion (IsProperJob v r) jobs → CacheStands v r old → 1 < v.setting.workers
    → DoesShared v (rounded r jobs false answers v) r old new jobs answers → IsGivenBack v r jobs false (batch v r jobs false answers).rendered old new
    → MakesRound r jobs v (Some answers) (rounded r jobs false answers v) × CacheStands (rounded r jobs false answers v) r new
shared-round v r jobs answers old new fits proper stood many does back =
    let stands = round-stands_of_proper v r jobs false answers old new fits proper stood back in
    let gathers = round-gathers v r jobs answers (proper-jobs v r fits jobs proper) in
    ((proper, shared-answers v (rounded r jobs false answers v) r old new [] jobs answers fits stood stands (gathers.setting) (gathers.moments) many does, refl), stands)
