-- Carrying a message goes on with every run.
use Rattle.std.proofs.Common.{◌≡◌, ℕ, ◌+◌, inl, inr, Bool, true, false, List, [], ◌∷◌, Option, Some, None, IfSome, refl, sym, ap, subst, ◌∙◌, arith, append-nil}
use Rattle.std.specs.Prelude.{option_map}
use Rattle.wiki_model.specs.declared.Region.{Region}
use Rattle.wiki_model.specs.declared.Region.TheVariants.{Home, West}
use Rattle.wiki_model.specs.Bytes.{Bytes}
use Rattle.wiki_model.specs.History.{Entry, Commit, commit_at}
use Rattle.wiki_model.specs.Cache.{CacheMap, IsCache}
use Rattle.wiki_model.specs.CacheCalls.{TakesPurge}
use Rattle.wiki_model.specs.World as world
use Rattle.wiki_model.specs.World.{World, Setting, Site, Event, site, moment, message_at, request_at, receives, hears}
use Rattle.wiki_model.specs.World.Event.{Received}
use Rattle.wiki_model.specs.Answers.{Answer, Unknown, Gone, NoMemory}
use Rattle.wiki_model.specs.Steps.{Step, Carries as MayCarry, IsCarriable, Shows}
use Rattle.wiki_model.specs.Runs.{One, with_faults}
use Rattle.wiki_model.specs.Consistent.{HasNumber, IsOfCommit}
use Rattle.wiki_model.specs.Caches.{CacheStands}
use Rattle.wiki_model.proofs.FrameLaws.{stands-grown, if_map}
use Rattle.wiki_model.proofs.RowsLaws.{rows-hear}
use Rattle.wiki_model.proofs.PurgeLaws.{purge-stands}
use Rattle.purge_relay.specs.declared.message.Body.{Body}
use Rattle.purge_relay.specs.declared.message.Body.TheVariants.{Purge, Position}
use Rattle.purge_relay.specs.declared.ledger_row.LedgerRow.{LedgerRow}
use Rattle.purge_relay.specs.LedgerRow.{receipt_at, with_receipt}
use Rattle.purge_relay.specs.Ledger.{LedgerState, row_at, changed_at}
use Rattle.purge_relay.specs.AsModel.{body_of}
use Rattle.chronology_store.specs.PositionRow.{with_told}
use Rattle.chronology_store.specs.ChronologyStore.{Positions, Changes}
use Rattle.purge_relay.specs.AsModel.{row_message}
use Rattle.farm_steps.specs.RequestMap.{open_at}
use Rattle.farm_core.specs.FarmParts.{FarmParts}
use Rattle.region_state.specs.RegionState.{RegionParts}
use Rattle.farm_core.specs.Agreement.{Agrees, RegionStands, receipt_in}
use Rattle.farm_steps.specs.RelaySteps.{Carries, CarriesIf, CarriesShown, CarriesBody, shows, TakesRow, TakesBody, Hears}
use Rattle.farm_core.specs.Runs.{GoesFrom, LeadsTo}
use Rattle.farm_core.proofs.Following.{Follows, agree-later}
use Rattle.farm_core.proofs.Standing.{IsStill, stands-still}
use Rattle.farm_core.proofs.Quiet.{IsQuiet, agrees-quiet, quiet-follows}
use Rattle.farm_core.proofs.Happening.{Happens, happens-event, agrees-happened}
use Rattle.chronology_store.specs.AsModel.{rows_in}
use Rattle.chronology_store.proofs.ModelRows.{tells_row}
use Rattle.purge_relay.specs.Body.{is_same_body}
use Rattle.purge_relay.proofs.SameBody.{same_says}
use Rattle.farm_core.proofs.Ledgers.{message_is, receipts_leave, receipts_more, events_after}

-- a body that is shown is the same

same_one : (a b : world.Body) → is_same_body a b ≡ true → a ≡ b
same_one a b is = (same_says a b).0 is

itself : (a : world.Body) → is_same_body a a ≡ true
itself a = (same_says a a).1 refl

shown_so : (shown : Option world.Body) (body : world.Body) → shows shown body ≡ true → Shows shown body
shown_so None body is = tt
shown_so (Some a) body is = same_one a body is

not_shown : (shown : Option world.Body) (body : world.Body) → shows shown body ≡ false → Shows shown body → ⊥
not_shown None body is s = let no : ⊥ = cc in no
not_shown (Some a) body is s = let one : is_same_body a body ≡ true = subst (λ (b : world.Body). is_same_body a b ≡ true) s (itself a) in let no : ⊥ = cc in no

-- west hears the position of a commit
hears_site : {S : Type 0} (cache_of : S → CacheMap Bytes) (parts : RegionParts S) (rows : Positions) (v w : World) (n : ℕ) (commit : Commit) → Rattle.wiki_model.specs.History.IsHistory v.history → commit_at v.history n ≡ Some commit
    → w.history ≡ v.history → w.setting ≡ v.setting → w.markup ≡ v.markup → w.west ≡ (let s : Site = record v.west { heard = n ∷ v.west.heard } in s)
    → Changes commit.edit.client (with_told (record { index = commit.index; position = n; expires = commit.stamp + 60_000 })) parts.positions rows
    → RegionStands cache_of parts v West → RegionStands cache_of (record parts { positions = rows }) w West
hears_site cache_of parts rows v w n commit is at history setting markup west changes s = record {
  config = s.config ∙ ap (λ (t : Setting). Rattle.farm_core.specs.Agreement.config_of t West) (sym setting);
  markup = s.markup ∙ sym markup;
  applied = s.applied ∙ sym (ap (λ (t : Site). t.applied) west);
  prefixes = subst (λ (h : List Entry). Rattle.farm_core.specs.Agreement.ArePrefixes h parts.replicas) (sym history) s.prefixes;
  positions = rows-hear v w West n commit (rows_in parts.positions) (rows_in rows) is at history (ap (λ (t : Site). t.heard) west) (let e = ap (λ (t : Site). t.moment) west in omega (arith, e))
      (tells_row commit.edit.client (record { index = commit.index; position = n; expires = commit.stamp + 60_000 }) parts.positions rows changes) s.positions;
  there = s.there;
  cache = if_map (λ c. CacheStands v West (cache_of c)) (λ c. CacheStands w West (cache_of c)) parts.cache
      (λ c. stands-grown v w West (cache_of c) (record { more = []; history = history ∙ sym (append-nil v.history); setting = setting; events = ap (λ (t : Site). t.events) west; moment = let e = ap (λ (t : Site). t.moment) west in omega (arith, e) })) s.cache;
}

pub carry_goes : {K S : Type 0} (content : K → Option (List Entry)) (faults : K → ℕ) (cache_of : S → CacheMap Bytes) (old : FarmParts K S) (ledger_now : LedgerState) (west : RegionParts S) (number : ℕ) (shown : Option world.Body) (answer : Option Answer)
    → Carries cache_of old.west west old.ledger ledger_now number old.moments.west shown answer (row_at old.ledger.rows number)
    → GoesFrom content faults cache_of old (record old { ledger = ledger_now; west = west }) (Step.Carry number shown) (One answer)
carry_goes {K} {S} content faults cache_of old ledger_now west number shown answer did v fits a = by (row_at old.ledger.rows number) refl did
  where
    at : message_at v number ≡ option_map row_message (row_at old.ledger.rows number)
    at = message_is old.ledger.rows v.messages v number a.messages refl

    quietly : IsQuiet v (with_faults (faults old.keeper) v)
    quietly = record { history = refl; setting = refl; messages = refl; home = refl; west = refl; markup = refl }

    same : (said : Option Answer) → answer ≡ said → ledger_now ≡ old.ledger → west ≡ old.west → Rattle.wiki_model.specs.Runs.CountsFaults v.faults (faults old.keeper) (One said) → MayCarry number shown v said v
        → (w : World) × LeadsTo content faults cache_of old (record old { ledger = ledger_now; west = west }) (Step.Carry number shown) (One answer) v w
    same said is books sides counts row =
        let w : World = with_faults (faults old.keeper) v in
        subst (λ (x : Option Answer). (u : World) × LeadsTo content faults cache_of old (record old { ledger = ledger_now; west = west }) (Step.Carry number shown) (One x) v u) (sym is) (
          w,
          record {
            takes = row;
            counts = counts;
            later = omega arith;
            agrees = subst (λ (f : FarmParts K S). Agrees content faults cache_of f w) (λ i. record old { ledger = sym books i; west = sym sides i })
                (agrees-quiet content faults cache_of old old.keeper old.requests v w quietly refl (omega arith) (λ id. agree-later v w (quiet-follows v w quietly) (open_at old.requests id) (request_at v id) (a.requests id)) a);
          },
        )

    unknown : (answer ≡ Some (Unknown number)) × (ledger_now ≡ old.ledger) × (west ≡ old.west) → ((m : world.Message) → IsCarriable v number shown m → ⊥)
        → (w : World) × LeadsTo content faults cache_of old (record old { ledger = ledger_now; west = west }) (Step.Carry number shown) (One answer) v w
    unknown d none = same (Some (Unknown number)) d.0 d.1 d.2 a.counted (refl, none, refl)

    purges : (row : LedgerRow) (title : Bytes) (issued : ℕ) (before after : S) → row_at old.ledger.rows number ≡ Some row → row.message.body ≡ Purge number title issued → Shows shown (body_of row.message.body) → row.dropped ≡ false → answer ≡ None
        → ledger_now ≡ changed_at (with_receipt West old.moments.west) number old.ledger → old.west.cache ≡ Some before → west ≡ (let p : RegionParts S = record old.west { cache = Some after } in p) → IsCache (cache_of after)
        → TakesPurge (cache_of before) (cache_of after) title old.moments.west
        → (w : World) × LeadsTo content faults cache_of old (record old { ledger = ledger_now; west = west }) (Step.Carry number shown) (One answer) v w
    purges row title issued before after there body shows kept is books before_is after_is is_cache takes =
        let w : World = with_faults (faults old.keeper) (receives West number title v) in
        let now = a.west_moment in
        let event : Event = Received number title (moment West v) in
        let happens : Happens v w West event = record { history = refl; setting = refl; markup = refl; home = refl; west = refl } in
        let stands : CacheStands v West (cache_of before) = subst (λ (o : Option S). IfSome o (λ c. CacheStands v West (cache_of c))) before_is a.west.cache in
        let taken = subst (λ n. TakesPurge (cache_of before) (cache_of after) title n) now takes in
        let stood = purge-stands v w West (cache_of before) (cache_of after) number title stands is_cache taken (happens-event v w West event happens) in
        let m : world.Message = row_message row in
        let m_is : message_at v number ≡ Some m = at ∙ ap (option_map row_message) there in
        let row_ok : MayCarry number shown v None (receives West number title v) = (m, (m_is, shows), kept, ap (λ b. Rattle.wiki_model.specs.Steps.carried (body_of b) v) (sym body)) in
        let follows : Follows v w = record { more = []; history = sym (append-nil v.history); setting = refl; issued = λ purge t q i. i } in
        let ledger_is : ledger_now ≡ changed_at (with_receipt West (moment West v)) number old.ledger = books ∙ ap (λ n. changed_at (with_receipt West n) number old.ledger) now in
        let told = receipts_more old.ledger West (moment West v) number title issued row there body (λ q. (site q v).events) a.receipts in
        subst (λ (x : Option Answer). (u : World) × LeadsTo content faults cache_of old (record old { ledger = ledger_now; west = west }) (Step.Carry number shown) (One x) v u) (sym is) (
          w,
          record {
            takes = row_ok;
            counts = a.counted;
            later = omega arith;
            agrees = subst (λ (f : FarmParts K S). Agrees content faults cache_of f w) (λ i. record old { ledger = sym ledger_is i; west = sym after_is i })
                (agrees-happened content faults cache_of old old.keeper (changed_at (with_receipt West (moment West v)) number old.ledger) old.requests after v w West event happens refl (omega arith)
                (receipts_leave West (moment West v) number old.ledger ∙ a.messages)
                (on_region told) (λ id. agree-later v w follows (open_at old.requests id) (request_at v id) (a.requests id)) stood a);
          },
        )
      where
        on_region : ((q : Region) (n : ℕ) → receipt_at q (row_at (changed_at (with_receipt West (moment West v)) number old.ledger).rows n) ≡ receipt_in (events_after West q (Received number title (moment West v)) (site q v).events) n)
            → (q : Region) (n : ℕ) → receipt_at q (row_at (changed_at (with_receipt West (moment West v)) number old.ledger).rows n) ≡ receipt_in (site q (with_faults (faults old.keeper) (receives West number title v))).events n
        on_region told Home n = told Home n
        on_region told West n = told West n

    heard : (row : LedgerRow) (client : List ℕ) (index entry stamp : ℕ) → row_at old.ledger.rows number ≡ Some row → row.message.body ≡ Position client index entry stamp → Shows shown (body_of row.message.body) → row.dropped ≡ false → answer ≡ None
        → ledger_now ≡ old.ledger → Hears old.west west client index entry stamp
        → (w : World) × LeadsTo content faults cache_of old (record old { ledger = ledger_now; west = west }) (Step.Carry number shown) (One answer) v w
    heard row client index entry stamp there body shows kept is same_ledger h =
        let w : World = with_faults (faults old.keeper) (hears West entry v) in
        let m : world.Message = row_message row in
        let m_is : message_at v number ≡ Some m = at ∙ ap (option_map row_message) there in
        let of : IsOfCommit v.history (world.Position client index entry stamp) = subst (λ b. IsOfCommit v.history (body_of b)) body (fits.positions number m m_is) in
        let commit = of.0 in
        let row_ok : MayCarry number shown v None (hears West entry v) = (m, (m_is, shows), kept, ap (λ b. Rattle.wiki_model.specs.Steps.carried (body_of b) v) (sym body)) in
        let follows : Follows v w = record { more = []; history = sym (append-nil v.history); setting = refl; issued = λ purge t q i. i } in
        let of_client = subst (λ x. Changes x (with_told (record { index = index; position = entry; expires = stamp + 60_000 })) old.west.positions h.after) of.2 h.changes in
        let of_index = subst (λ n. Changes commit.edit.client (with_told (record { index = n; position = entry; expires = stamp + 60_000 })) old.west.positions h.after) of.3 of_client in
        let of_stamp = subst (λ n. Changes commit.edit.client (with_told (record { index = commit.index; position = entry; expires = n + 60_000 })) old.west.positions h.after) of.4 of_index in
        let home_still : IsStill v w Home = record { history = refl; setting = refl; markup = refl; up = omega arith; applied = refl; heard = refl; events = refl } in
        subst (λ (x : Option Answer). (u : World) × LeadsTo content faults cache_of old (record old { ledger = ledger_now; west = west }) (Step.Carry number shown) (One x) v u) (sym is) (
          w,
          record {
            takes = row_ok;
            counts = a.counted;
            later = omega arith;
            agrees = subst (λ (f : FarmParts K S). Agrees content faults cache_of f w) (λ i. record old { ledger = sym same_ledger i; west = sym h.rest i })
                (record {
                  plan = a.plan;
                  opened = a.opened;
                  history = a.history;
                  counted = omega arith;
                  messages = a.messages;
                  receipts = on_region;
                  requests = λ id. agree-later v w follows (open_at old.requests id) (request_at v id) (a.requests id);
                  home_moment = a.home_moment;
                  west_moment = a.west_moment;
                  beat = a.beat;
                  home = stands-still cache_of old.home v w Home home_still a.home;
                  west = hears_site cache_of old.west h.after v w entry commit fits.history of.1 refl refl refl refl of_stamp a.west;
                });
          },
        )
      where
        on_region : (q : Region) (n : ℕ) → receipt_at q (row_at old.ledger.rows n) ≡ receipt_in (site q (with_faults (faults old.keeper) (hears West entry v))).events n
        on_region Home n = a.receipts Home n
        on_region West n = a.receipts West n

    carries : (row : LedgerRow) → row_at old.ledger.rows number ≡ Some row → Shows shown (body_of row.message.body) → row.dropped ≡ false → (body : Body) → row.message.body ≡ body → CarriesBody cache_of old.west west old.ledger ledger_now number old.moments.west answer body
        → (w : World) × LeadsTo content faults cache_of old (record old { ledger = ledger_now; west = west }) (Step.Carry number shown) (One answer) v w
    carries row there shows kept (Purge purge title issued) body (is, r) =
        let m_is : message_at v number ≡ Some (row_message row) = at ∙ ap (option_map row_message) there in
        let named : purge ≡ number = subst (λ b. HasNumber number (body_of b)) body (fits.messages number (row_message row) m_is) in
        let own : row.message.body ≡ Purge number title issued = body ∙ ap (λ n. Purge n title issued) named in
        let took = subst (λ (o : Option LedgerRow). TakesRow cache_of old.west west old.moments.west o) there r.1 in
        let taken = subst (λ b. TakesBody cache_of old.west west old.moments.west b) body took in
        purges row title issued taken.before taken.after there own shows kept is r.0 taken.there taken.rest taken.is_cache taken.changes
    carries row there shows kept (Position client index entry stamp) body (books, inl (is, hears)) = heard row client index entry stamp there body shows kept is books hears
    carries row there shows kept (Position client index entry stamp) body (books, inr (is, sides)) =
        let m_is : message_at v number ≡ Some (row_message row) = at ∙ ap (option_map row_message) there in
        same (Some NoMemory) is books sides a.counted ((row_message row, (m_is, shows), kept, subst (λ b. Rattle.wiki_model.specs.Steps.IsPosition (body_of b)) (sym body) tt), refl)

    showing : (row : LedgerRow) → row_at old.ledger.rows number ≡ Some row → Shows shown (body_of row.message.body) → (b : Bool) → row.dropped ≡ b → CarriesShown cache_of old.west west old.ledger ledger_now number old.moments.west shown answer row b
        → (w : World) × LeadsTo content faults cache_of old (record old { ledger = ledger_now; west = west }) (Step.Carry number shown) (One answer) v w
    showing row there shows true gone d =
        same (Some (Gone number)) d.0 d.1 d.2 a.counted (refl, (row_message row, (at ∙ ap (option_map row_message) there, shows), gone), refl)
    showing row there shows false kept d = carries row there shows kept row.message.body refl d

    if_shown : (row : LedgerRow) → row_at old.ledger.rows number ≡ Some row → (b : Bool) → shows shown (body_of row.message.body) ≡ b → CarriesIf cache_of old.west west old.ledger ledger_now number old.moments.west shown answer row b
        → (w : World) × LeadsTo content faults cache_of old (record old { ledger = ledger_now; west = west }) (Step.Carry number shown) (One answer) v w
    if_shown row there true is d = showing row there (shown_so shown (body_of row.message.body) is) row.dropped refl d
    if_shown row there false is d = unknown d (λ m c.
        let both : Some m ≡ Some (row_message row) = sym c.0 ∙ at ∙ ap (option_map row_message) there in
        let one : m ≡ row_message row = cc in not_shown shown (body_of row.message.body) is (subst (λ (x : world.Message). Shows shown x.body) one c.1))

    by : (o : Option LedgerRow) → row_at old.ledger.rows number ≡ o → Carries cache_of old.west west old.ledger ledger_now number old.moments.west shown answer o
        → (w : World) × LeadsTo content faults cache_of old (record old { ledger = ledger_now; west = west }) (Step.Carry number shown) (One answer) v w
    by None none d = unknown d (λ m c. let e : Some m ≡ None = sym c.0 ∙ at ∙ ap (option_map row_message) none in let no : ⊥ = cc in no)
    by (Some row) there d = if_shown row there (shows shown (body_of row.message.body)) refl d
