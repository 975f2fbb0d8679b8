use Rattle.wan_value.specs.AsModel.{value_of}
use Rattle.wan_cache.specs.MapCache.{row_at}
use Rattle.wan_cache.proofs.Claimed.{same_table}
use Rattle.wan_cache.proofs.Puts.{stored_uses}
use Rattle.wan_cache.proofs.row_table.RowTable.put_value.Goals as goal

pub returns-in-Ok-clause-known : goal.returns-in-Ok-clause-known
returns-in-Ok-clause-known g c =
    let m = c.make_newest.new.self in
    same_table m.rows.entries c.store_at.new.rows.entries m.uses.keys m.capacity c.make_newest.ensures.known
    (stored_uses (row_at m.rows) (row_at c.store_at.new.rows) c.args.key.now m.base c.args.check (value_of c.args.value) c.store_at.result c.store_at.ensures.key c.store_at.ensures.others)
    c.store_at.ensures.len
