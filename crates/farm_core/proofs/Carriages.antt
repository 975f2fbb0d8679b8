-- What becomes of a message that is carried, and what a farm keeps of it.
use Rattle.std.proofs.Common.{◌≡◌, ℕ, ◌≤◌, inl, inr, Bool, true, false, cond, List, Option, Some, None, refl, sym, ap, subst, arith}
use Rattle.std.specs.Prelude.{option_map}
use Rattle.wiki_model.specs.Bytes.{Bytes}
use Rattle.wiki_model.specs.History.{Entry, is_shared_title}
use Rattle.wiki_model.specs.Cache.{CacheMap}
use Rattle.wiki_model.specs.CacheCalls.{TakesPurge}
use Rattle.wiki_model.specs.World as world
use Rattle.wiki_model.specs.Answers.{Answer}
use Rattle.purge_relay.specs.declared.message.Body.{Body}
use Rattle.purge_relay.specs.declared.message.Body.TheVariants.{Purge, Position}
use Rattle.purge_relay.specs.declared.ledger_row.LedgerRow.{LedgerRow}
use Rattle.purge_relay.specs.LedgerRow.{is_dropped_row}
use Rattle.purge_relay.specs.Ledger.{LedgerState, row_at}
use Rattle.purge_relay.specs.AsModel.{body_of}
use Rattle.farm_steps.specs.declared.relay_steps.Carriage.{Carriage}
use Rattle.farm_steps.specs.declared.relay_steps.Carriage.TheVariants as carriage
use Rattle.farm_core.specs.FarmParts.{FarmParts, IsFarm}
use Rattle.region_state.specs.RegionState.{RegionParts, IsBefore}
use Rattle.farm_steps.specs.RelaySteps.{Carries, CarriesIf, CarriesShown, CarriesBody, CarriesAs, TakesRow, TakesBody, carriage_of, carriage_in, shows}

-- the two ways to say what is carried
pub carries_as : {S : Type 0} (cache_of : S → CacheMap Bytes) (before after : RegionParts S) (old new : LedgerState) (number now : ℕ) (shown : Option world.Body) (answer : Option Answer) (found : Option LedgerRow)
    → CarriesAs cache_of before after old new number now answer (carriage_of shown (option_map (λ row. row.message) found) (is_dropped_row found)) → Carries cache_of before after old new number now shown answer found
carries_as cache_of before after old new number now shown answer None did = did
carries_as cache_of before after old new number now shown answer (Some row) did = by (shows shown (body_of row.message.body)) did
  where
    in_body : (body : Body) → CarriesAs cache_of before after old new number now answer (carriage_in body) → CarriesBody cache_of before after old new number now answer body
    in_body (Purge purge title issued) did = did
    in_body (Position client index entry stamp) did = did

    by_dropped : (b : Bool) → CarriesAs cache_of before after old new number now answer (cond b carriage.Gone (carriage_in row.message.body)) → CarriesShown cache_of before after old new number now shown answer row b
    by_dropped true did = did
    by_dropped false did = in_body row.message.body did

    by : (b : Bool) → CarriesAs cache_of before after old new number now answer (cond b (cond row.dropped carriage.Gone (carriage_in row.message.body)) carriage.Unknown) → CarriesIf cache_of before after old new number now shown answer row b
    by true did = by_dropped row.dropped did
    by false did = did

pub taken_before : (old new : CacheMap Bytes) (title : Bytes) (now : ℕ) → TakesPurge old new title now → new.greatest ≤ now
taken_before old new title now t = by (is_shared_title title) refl
  where
    by : (b : Bool) → is_shared_title title ≡ b → new.greatest ≤ now
    by true shared = let g = (t.touches shared).greatest in omega (arith, g)
    by false plain = let same = ap (λ (c : CacheMap Bytes). c.greatest) (t.stays plain) in let g = t.purges.greatest in omega (arith, same, g)

-- a region's cache was given no later moment
pub row_before : {S : Type 0} (cache_of : S → CacheMap Bytes) (before after : RegionParts S) (now : ℕ) (found : Option LedgerRow) → TakesRow cache_of before after now found → IsBefore cache_of before now → IsBefore cache_of after now
row_before {S} cache_of before after now None same le = subst (λ (p : RegionParts S). IsBefore cache_of p now) (sym same) le
row_before {S} cache_of before after now (Some row) took le = by row.message.body took
  where
    by : (body : Body) → TakesBody cache_of before after now body → IsBefore cache_of after now
    by (Purge purge title issued) t = subst (λ (p : RegionParts S). IsBefore cache_of p now) (sym t.rest) (taken_before (cache_of t.before) (cache_of t.after) title now t.changes)
    by (Position client index entry stamp) same = subst (λ (p : RegionParts S). IsBefore cache_of p now) (sym same) le

pub carry_kept : {K S : Type 0} (content : K → Option (List Entry)) (cache_of : S → CacheMap Bytes) (old : FarmParts K S) (ledger_now : LedgerState) (west : RegionParts S) (number : ℕ) (answer : Option Answer) (c : Carriage)
    → CarriesAs cache_of old.west west old.ledger ledger_now number old.moments.west answer c → IsFarm content cache_of old → IsFarm content cache_of (record old { ledger = ledger_now; west = west })
carry_kept {K} {S} content cache_of old ledger_now west number answer c did k = by c did
  where
    kept : ledger_now.spare ≡ old.ledger.spare → IsBefore cache_of west old.moments.west → IsFarm content cache_of (record old { ledger = ledger_now; west = west })
    kept spare before = record {
      home_small = k.home_small;
      west_small = k.west_small;
      delay = k.delay;
      stamps = k.stamps;
      home_before = k.home_before;
      west_before = before;
      room = let all = k.room in omega (arith, spare, all);
      reserved = k.reserved;
    }

    same_spare : ledger_now ≡ old.ledger → ledger_now.spare ≡ old.ledger.spare
    same_spare same = ap (λ (b : LedgerState). b.spare) same

    side : west ≡ old.west → IsBefore cache_of west old.moments.west
    side same = subst (λ (p : RegionParts S). IsBefore cache_of p old.moments.west) (sym same) k.west_before

    by : (x : Carriage) → CarriesAs cache_of old.west west old.ledger ledger_now number old.moments.west answer x → IsFarm content cache_of (record old { ledger = ledger_now; west = west })
    by carriage.Unknown d = kept (same_spare d.1) (side d.2)
    by carriage.Gone d = kept (same_spare d.1) (side d.2)
    by carriage.Purge d = kept (ap (λ (b : LedgerState). b.spare) d.1.0) (row_before cache_of old.west west old.moments.west (row_at old.ledger.rows number) d.1.1 k.west_before)
    by (carriage.Position client index entry stamp) (same, inl d) = kept (same_spare same) (subst (λ (p : RegionParts S). IsBefore cache_of p old.moments.west) (sym d.1.rest) k.west_before)
    by (carriage.Position client index entry stamp) (same, inr d) = kept (same_spare same) (side d.1)
