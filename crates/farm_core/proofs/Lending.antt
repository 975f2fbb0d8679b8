-- What holds of a farm at every moment holds while a cache is lent, and after it was given back.
use Rattle.std.proofs.Common.{◌≡◌, ℕ, ◌≤◌, List, [], ◌∷◌, Option, refl, arith}
use Rattle.wiki_model.specs.declared.Region.{Region}
use Rattle.wiki_model.specs.declared.Region.TheVariants.{Home, West}
use Rattle.wiki_model.specs.Bytes.{Bytes}
use Rattle.wiki_model.specs.History.{Entry}
use Rattle.wiki_model.specs.Cache.{CacheMap}
use Rattle.purge_relay.specs.LedgerRow.{with_receipt}
use Rattle.purge_relay.specs.Ledger.{LedgerState, changed_at}
use Rattle.farm_core.specs.FarmParts.{FarmParts, IsFarm}
use Rattle.farm_steps.specs.Moments.{moment_of}
use Rattle.farm_core.specs.LendCache.{without_cache, with_given}
use Rattle.farm_steps.specs.RelaySteps.{received_all}

pub lent_kept : {K S : Type 0} (content : K → Option (List Entry)) (cache_of : S → CacheMap Bytes) (r : Region) (old : FarmParts K S) → IsFarm content cache_of old → IsFarm content cache_of (without_cache r old)
lent_kept content cache_of Home old k = record {
  home_small = k.home_small;
  west_small = k.west_small;
  delay = k.delay;
  stamps = k.stamps;
  home_before = tt;
  west_before = k.west_before;
  room = k.room;
  reserved = k.reserved;
}
lent_kept content cache_of West old k = record {
  home_small = k.home_small;
  west_small = k.west_small;
  delay = k.delay;
  stamps = k.stamps;
  home_before = k.home_before;
  west_before = tt;
  room = k.room;
  reserved = k.reserved;
}

-- receipts reserve no room
spare_all : (r : Region) (at : ℕ) (purges : List ℕ) (ledger_now : LedgerState) → (received_all r at purges ledger_now).spare ≡ ledger_now.spare
spare_all r at [] ledger_now = refl
spare_all r at (purge ∷ purges) ledger_now = spare_all r at purges (changed_at (with_receipt r at) purge ledger_now)

pub given_kept : {K S : Type 0} (content : K → Option (List Entry)) (cache_of : S → CacheMap Bytes) (r : Region) (cache : S) (at : ℕ) (purges : List ℕ) (old : FarmParts K S) → (cache_of cache).greatest ≤ moment_of r old.moments → IsFarm content cache_of old
    → IsFarm content cache_of (with_given r cache at purges old)
given_kept content cache_of Home cache at purges old early k = record {
  home_small = k.home_small;
  west_small = k.west_small;
  delay = k.delay;
  stamps = k.stamps;
  home_before = early;
  west_before = k.west_before;
  room = (let all = k.room in let same = spare_all Home at purges old.ledger in omega (arith, all, same));
  reserved = k.reserved;
}
given_kept content cache_of West cache at purges old early k = record {
  home_small = k.home_small;
  west_small = k.west_small;
  delay = k.delay;
  stamps = k.stamps;
  home_before = k.home_before;
  west_before = early;
  room = (let all = k.room in let same = spare_all West at purges old.ledger in omega (arith, all, same));
  reserved = k.reserved;
}
