use Rattle.slot_cache.specs.AsModel.{map_of}
use Rattle.wiki_serve.proofs.Houses.{beat_made, beat_left}
use Rattle.wiki_serve.proofs.housework.beat_if_due.Goals as goal

pub returns-then-is_due : goal.returns-then-is_due
returns-then-is_due g c = beat_made g.K.Keeper.content g.K.Keeper.faults map_of c.args.farm.now c.beat_once.new.farm c.args.at.now c.is_due.result c.is_due.ensures c.if-is_due.true c.beat_once.ensures

pub returns-else-is_due : goal.returns-else-is_due
returns-else-is_due g c = beat_left g.K.Keeper.content g.K.Keeper.faults map_of c.args.farm.now c.args.at.now c.is_due.result c.is_due.ensures c.if-is_due.false
