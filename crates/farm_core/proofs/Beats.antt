-- A beat goes on with every run.
use Rattle.std.proofs.Common.{◌≡◌, ℕ, zero, suc, ◌≤◌, List, [], ◌∷◌, ◌++◌, length, drop, Option, Some, None, option_map, IfSome, refl, sym, ap, subst, ◌∙◌, arith}
use Rattle.wiki_model.specs.declared.Region.{Region}
use Rattle.wiki_model.specs.declared.Region.TheVariants.{Home, West}
use Rattle.wiki_model.specs.Bytes.{Bytes}
use Rattle.wiki_model.specs.History.{Entry, Beat, Committed, IsHistory, stamp_at}
use Rattle.wiki_model.specs.Cache.{CacheMap}
use Rattle.wiki_model.specs.World.{World, site, moment, with_entry, request_at}
use Rattle.wiki_model.specs.Answers.{Answer, StoreFault, NoMemory}
use Rattle.wiki_model.specs.Steps.{MakeBeat}
use Rattle.wiki_model.specs.Runs.{One, with_faults}
use Rattle.wiki_model.proofs.HistoryLaws.{history-push_beat, stamp-last, length-push}
use Rattle.purge_relay.specs.LedgerRow.{receipt_at}
use Rattle.purge_relay.specs.Ledger.{row_at}
use Rattle.farm_steps.specs.RequestMap.{open_at}
use Rattle.farm_core.specs.FarmParts.{FarmParts}
use Rattle.farm_core.specs.Agreement.{Agrees, receipt_in, last_beat_in}
use Rattle.farm_core.specs.Runs.{GoesFrom}
use Rattle.farm_core.specs.AppendBeat.{Beats}
use Rattle.farm_core.proofs.Following.{Follows, agree-later}
use Rattle.farm_core.proofs.Standing.{stands-entry}
use Rattle.farm_core.proofs.Quiet.{IsQuiet, agrees-quiet, quiet-follows}

pub drop-more : (h : List Entry) (e : Entry) (n : ℕ) → n ≤ length h → drop n (h ++ e ∷ []) ≡ drop n h ++ e ∷ []
drop-more h e zero within = refl
drop-more [] e (suc n) within = let no : ⊥ = omega (arith, within) in absurd no
drop-more (x ∷ h) e (suc n) within = drop-more h e n (omega (arith, within))

last-beat : (h : List Entry) (stamp : ℕ) (last : Option ℕ) → last_beat_in (h ++ Beat stamp ∷ []) last ≡ Some stamp
last-beat [] stamp last = refl
last-beat (Beat s ∷ h) stamp last = last-beat h stamp (Some s)
last-beat (Committed c ∷ h) stamp last = last-beat h stamp last

-- the condition of an append, and that it is met again after it
pub may_append : (told : Option (List Entry)) (now : ℕ) → IfSome told IsHistory → IfSome told (λ h. stamp_at h (length h) ≤ now) → now ≤ 4_000_000_000_000_000 → IfSome told (λ h. IsHistory (h ++ Beat now ∷ []))
may_append None now is later small = tt
may_append (Some h) now is later small = history-push_beat h now is later small

stamped : (told : Option (List Entry)) (now : ℕ) → IfSome (option_map (λ h. h ++ Beat now ∷ []) told) (λ h. stamp_at h (length h) ≤ now)
stamped None now = tt
stamped (Some h) now = let e = ap (stamp_at (h ++ Beat now ∷ [])) (length-push h (Beat now)) ∙ stamp-last h now in omega (arith, e)

-- the last stamp is not after now
pub still_stamped : (told now : Option (List Entry)) (before after : ℕ) (old_beat new_beat : Option ℕ) (stamp : ℕ) (answer : Option Answer) → Beats told now before after old_beat new_beat stamp answer
    → IfSome told (λ h. stamp_at h (length h) ≤ stamp) → IfSome now (λ h. stamp_at h (length h) ≤ stamp)
still_stamped told now before after old_beat new_beat stamp None did later = subst (λ o. IfSome o (λ h. stamp_at h (length h) ≤ stamp)) (sym did.0) (stamped told stamp)
still_stamped told now before after old_beat new_beat stamp (Some StoreFault) did later = subst (λ o. IfSome o (λ h. stamp_at h (length h) ≤ stamp)) (sym did.0) later
still_stamped told now before after old_beat new_beat stamp (Some NoMemory) did later = subst (λ o. IfSome o (λ h. stamp_at h (length h) ≤ stamp)) (sym did.0) later
still_stamped told now before after old_beat new_beat stamp (Some _) did later = absurd did

pub beat_goes : {K S : Type 0} (content : K → Option (List Entry)) (faults : K → ℕ) (cache_of : S → CacheMap Bytes) (old : FarmParts K S) (keeper : K) (beat : Option ℕ) (answer : Option Answer)
    → Beats (content old.keeper) (content keeper) (faults old.keeper) (faults keeper) old.last_beat beat old.moments.home answer
    → GoesFrom content faults cache_of old (record old { keeper = keeper; last_beat = beat }) MakeBeat (One answer)
beat_goes content faults cache_of old keeper beat None did v fits a =
    let w : World = with_faults (faults keeper) (with_entry (Beat (moment Home v)) v) in
    let now = a.home_moment in
    let fewer = a.counted in
    let count = did.1 in (
      w,
      record {
        takes = refl;
        counts = omega (arith, fewer, count);
        later = count;
        agrees = record {
          plan = a.plan;
          opened = let h = a.opened in let long = length-push v.history (Beat (moment Home v)) in omega (arith, h, long);
          history = did.0 ∙ ap (option_map (λ h. h ++ Beat old.moments.home ∷ [])) a.history ∙ ap (λ n. Some (v.history ++ Beat n ∷ [])) now;
          counted = omega arith;
          messages = a.messages;
          receipts = receipts v w a.receipts;
          requests = λ id. agree-later v w (follows v w) (open_at old.requests id) (request_at v id) (a.requests id);
          home_moment = now;
          west_moment = a.west_moment;
          beat = did.2 ∙ ap Some now ∙ sym (ap (λ h. last_beat_in h None) (drop-more v.history (Beat (moment Home v)) v.setting.opened a.opened) ∙ last-beat (drop v.setting.opened v.history) (moment Home v) None);
          home = stands-entry cache_of old.home v w Home (Beat (moment Home v)) fits (record { history = refl; setting = refl; markup = refl; up = omega arith; applied = refl; heard = refl; events = refl }) a.home;
          west = stands-entry cache_of old.west v w West (Beat (moment Home v)) fits (record { history = refl; setting = refl; markup = refl; up = omega arith; applied = refl; heard = refl; events = refl }) a.west;
        };
      },
    )
  where
    receipts : (v w : World) → ((r : Region) (purge : ℕ) → receipt_at r (row_at old.ledger.rows purge) ≡ receipt_in (site r v).events purge) → (r : Region) (purge : ℕ) → receipt_at r (row_at old.ledger.rows purge) ≡ receipt_in (site r (with_faults (faults keeper) (with_entry (Beat (moment Home v)) v))).events purge
    receipts v w all Home purge = all Home purge
    receipts v w all West purge = all West purge

    follows : (v w : World) → Follows v (with_faults (faults keeper) (with_entry (Beat (moment Home v)) v))
    follows v w = record { more = Beat (moment Home v) ∷ []; history = refl; setting = refl; issued = λ purge t q i. i }
beat_goes content faults cache_of old keeper beat (Some StoreFault) did v fits a =
    let w : World = with_faults (faults keeper) v in
    let fewer = a.counted in let rose = did.1 in let count = did.2 in
    let q : IsQuiet v w = record { history = refl; setting = refl; messages = refl; home = refl; west = refl; markup = refl } in
    let same = did.3 in (
      w,
      record {
        takes = refl;
        counts = omega (arith, fewer, rose);
        later = count;
        agrees = subst (λ (b : Option ℕ). Agrees content faults cache_of (record old { keeper = keeper; last_beat = b }) w) (sym same)
            (agrees-quiet content faults cache_of old keeper old.requests v w q did.0 (omega arith) (λ id. agree-later v w (quiet-follows v w q) (open_at old.requests id) (request_at v id) (a.requests id)) a);
      },
    )
beat_goes content faults cache_of old keeper beat (Some NoMemory) did v fits a =
    let w : World = with_faults (faults keeper) v in
    let fewer = a.counted in let count = did.1 in
    let q : IsQuiet v w = record { history = refl; setting = refl; messages = refl; home = refl; west = refl; markup = refl } in
    let same = did.2 in (
      w,
      record {
        takes = refl;
        counts = omega (arith, fewer, count);
        later = count;
        agrees = subst (λ (b : Option ℕ). Agrees content faults cache_of (record old { keeper = keeper; last_beat = b }) w) (sym same)
            (agrees-quiet content faults cache_of old keeper old.requests v w q did.0 (omega arith) (λ id. agree-later v w (quiet-follows v w q) (open_at old.requests id) (request_at v id) (a.requests id)) a);
      },
    )
beat_goes content faults cache_of old keeper beat (Some _) did v fits a = absurd did
