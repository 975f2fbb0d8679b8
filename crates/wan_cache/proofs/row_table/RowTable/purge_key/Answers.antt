use Rattle.std.proofs.Common.{inl}
use Rattle.std.specs.BTreeMap.{btree_map_len}
use Rattle.wan_cache.specs.MapCache.{row_at, used_at}
use Rattle.wan_cache.proofs.Claimed.{room_after, same_table}
use Rattle.wan_cache.proofs.Puts.{raised_uses, dropped_uses}
use Rattle.wan_cache.proofs.row_table.RowTable.purge_key.Goals as goal

pub returns-in-Ok-clause-known : goal.returns-in-Ok-clause-known
returns-in-Ok-clause-known g c =
    let m = c.make_newest.new.self in
    same_table m.rows.entries c.raise_at.new.rows.entries m.uses.keys m.capacity c.make_newest.ensures.known
    (raised_uses (row_at m.rows) (row_at c.raise_at.new.rows) c.args.key.now c.args.until c.raise_at.ensures.key c.raise_at.ensures.others)
    c.raise_at.ensures.len

pub returns-in-Err-clause-known : goal.returns-in-Err-clause-known
returns-in-Err-clause-known g c =
    let m = c.make_newest.new.self in
    same_table m.rows.entries c.drop_main_at.new.rows.entries m.uses.keys m.capacity c.make_newest.ensures.known
    (dropped_uses (row_at m.rows) (row_at c.drop_main_at.new.rows) c.args.key.now c.drop_main_at.ensures.key c.drop_main_at.ensures.others)
    c.drop_main_at.ensures.len

pub returns-in-Ok-clause-does : goal.returns-in-Ok-clause-does
returns-in-Ok-clause-does g c =
    let old = c.args.self.now in
    let m = c.make_newest.new.self in
    inl (
      record { middle = row_at m.rows; used = c.in-Ok.ensures.used; others = c.raise_at.ensures.others; itself = c.raise_at.ensures.key },
      room_after (used_at old.rows) (used_at m.rows) (used_at c.raise_at.new.rows) c.args.key.now (btree_map_len old.rows) old.capacity c.in-Ok.ensures.oldest
          (raised_uses (row_at m.rows) (row_at c.raise_at.new.rows) c.args.key.now c.args.until c.raise_at.ensures.key c.raise_at.ensures.others),
    )
