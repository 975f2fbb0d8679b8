use Rattle.std.proofs.Common.{arith, ◌≡◌, ◌<◌, ◌≤◌, ◌⊎◌, inl, inr, ℕ, None, Some, List, subst, ap}
use Rattle.std.specs.BTreeMap.{btree_map_len}
use Rattle.wan_cache.specs.RecentUses.{key_in}
use Rattle.wan_cache.specs.MapCache.{row_at, used_at}
use Rattle.wan_cache.proofs.Claimed.{known_new, known_last, claims_last, room_last, room_same, no_use, some_is}
use Rattle.wan_cache.proofs.Orders.{unchanged}
use Rattle.wan_cache.proofs.claim_row.claim_new.Goals as goal

pub returns-in_err-add-clause-known : goal.returns-in_err-add-clause-known
returns-in_err-add-clause-known g c = let e = c.in_err-add.ensures in
    unchanged (used_at c.args.rows.now) (used_at c.add.new.rows) (key_in c.args.uses.now.keys) (key_in c.add.new.uses.keys) c.args.uses.now.next c.args.key.now c.requires.known
    (λ q. ap (λ (es : List (List ℕ × Rattle.wan_cache.specs.declared.cache_row.CacheRow.CacheRow g.row.P.Denot)). Rattle.wan_cache.specs.MapCache.used_in es q) e.err) e.err_uses

pub returns-in-Some-clause-known : goal.returns-in-Some-clause-known
returns-in-Some-clause-known g c = let e = c.in_ok-add.ensures in let t = some_is (key_in c.args.uses.now.keys c.in-Some.number) c.in-Some.ensures.there in
    known_last (row_at c.args.rows.now) (row_at c.add.new.rows) (key_in c.args.uses.now.keys) (key_in c.add.new.uses.keys) c.args.uses.now.next c.args.key.now c.requires.known e.uses.free e.key e.others
    (row_at c.evict.new.rows) (key_in c.evict.new.uses.keys) c.in-Some.number t.0 c.requires.absent e.uses.newest e.uses.others t.1 c.evict.ensures.rows c.evict.ensures.uses.left c.evict.ensures.uses.others

pub returns-in-Some-clause-ok : goal.returns-in-Some-clause-ok
returns-in-Some-clause-ok g c = let e = c.in_ok-add.ensures in let t = some_is (key_in c.args.uses.now.keys c.in-Some.number) c.in-Some.ensures.there in
    claims_last (row_at c.args.rows.now) (row_at c.add.new.rows) (key_in c.args.uses.now.keys) (key_in c.add.new.uses.keys) c.args.uses.now.next c.args.key.now c.requires.known e.uses.free e.key e.others
    (row_at c.evict.new.rows) (key_in c.evict.new.uses.keys) c.in-Some.number t.0 c.requires.absent e.uses.newest e.uses.others t.1 c.evict.ensures.rows c.evict.ensures.uses.left c.evict.ensures.uses.others
    c.evict.result c.evict.ensures.floor

pub returns-in-Some-clause-oldest : goal.returns-in-Some-clause-oldest
returns-in-Some-clause-oldest g c = let e = c.in_ok-add.ensures in let t = some_is (key_in c.args.uses.now.keys c.in-Some.number) c.in-Some.ensures.there in
    room_last (row_at c.args.rows.now) (row_at c.add.new.rows) (key_in c.args.uses.now.keys) (key_in c.add.new.uses.keys) c.args.uses.now.next c.args.key.now c.requires.known e.uses.free e.key e.others
    (row_at c.evict.new.rows) (key_in c.evict.new.uses.keys) c.in-Some.number t.0 c.requires.absent e.uses.newest e.uses.others t.1 c.evict.ensures.rows c.evict.ensures.uses.left c.evict.ensures.uses.others
    (btree_map_len c.args.rows.now) c.args.capacity (subst (λ n. c.args.capacity ≤ n) c.len.ensures.len c.in-Some.ensures.full) c.in-Some.ensures.first

pub returns-in-None-clause-known : goal.returns-in-None-clause-known
returns-in-None-clause-known g c = let e = c.in_ok-add.ensures in
    known_new (row_at c.args.rows.now) (row_at c.add.new.rows) (key_in c.args.uses.now.keys) (key_in c.add.new.uses.keys) c.args.uses.now.next c.args.key.now c.requires.known e.uses.free e.key e.others c.requires.absent e.uses.newest e.uses.others

pub returns-in-None-clause-fits : goal.returns-in-None-clause-fits
returns-in-None-clause-fits g c = by c.in-None.ensures.none
  where
    by : (c.len.result < c.args.capacity) ⊎ ((p : ℕ) → key_in c.args.uses.now.keys p ≡ None) → btree_map_len c.add.new.rows ≤ c.args.capacity
    by (inl few) = let l = c.in_ok-add.ensures.len in let m = c.len.ensures.len in omega (arith, few, l, m)
    by (inr none) = let l = c.in_ok-add.ensures.len in let n = no_use c.args.rows.now (key_in c.args.uses.now.keys) c.requires.known none in let r = c.requires.room in omega (arith, l, n, r)

pub returns-in-None-clause-oldest : goal.returns-in-None-clause-oldest
returns-in-None-clause-oldest g c = let e = c.in_ok-add.ensures in
    room_same (row_at c.args.rows.now) (row_at c.add.new.rows) (key_in c.args.uses.now.keys) (key_in c.add.new.uses.keys) c.args.uses.now.next c.args.key.now c.requires.known e.uses.free e.key e.others
    (btree_map_len c.args.rows.now) c.args.capacity (λ q absent full old. by q old.number old.there full (known_there q old.number old.there) c.in-None.ensures.none)
  where
    known_there : (q : List ℕ) (p : ℕ) → used_at c.args.rows.now q ≡ Some p → key_in c.args.uses.now.keys p ≡ Some q
    known_there q p e = c.requires.known.there q p e

    by : {A : Type 0} (q : List ℕ) (p : ℕ) → used_at c.args.rows.now q ≡ Some p → c.args.capacity ≤ btree_map_len c.args.rows.now → key_in c.args.uses.now.keys p ≡ Some q
        → (c.len.result < c.args.capacity) ⊎ ((p : ℕ) → key_in c.args.uses.now.keys p ≡ None) → A
    by q p u full k (inl few) = let m = c.len.ensures.len in absurd (omega (arith, few, full, m))
    by q p u full k (inr none) = let n = none p in absurd cc
