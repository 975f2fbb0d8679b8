use Rattle.slot_cache.proofs.Rows.{stored_in}
use Rattle.slot_cache.proofs.slot_cache.put_at.Goals as goal

pub returns-clause-stores : goal.returns-clause-stores
returns-clause-stores g c = stored_in c.args.rows.now c.index-rows-slot.result c.deref_mut.result.now c.put.new.self c.args.slot c.args.key.now c.args.value c.put.result c.requires c.deref_mut.ensures.value c.put.ensures.stores
