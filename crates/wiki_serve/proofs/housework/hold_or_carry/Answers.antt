use Rattle.std.proofs.Common.{length}
use Rattle.slot_cache.specs.AsModel.{map_of}
use Rattle.wiki_serve.specs.HoldingBack.{taken_of, held_of, is_held}
use Rattle.wiki_serve.proofs.Holding.{one_held, one_carried}
use Rattle.wiki_serve.proofs.housework.hold_or_carry.Goals as goal

pub returns-then-is_to_hold-clause-takes : goal.returns-then-is_to_hold-clause-takes
returns-then-is_to_hold-clause-takes g c =
    one_held g.K.Keeper.content g.K.Keeper.faults map_of c.args.farm.now c.args.at.now (taken_of c.args.message) (held_of c.args.held.now) (held_of c.hold.new.held)
    (is_held c.args.farm.now.ledger.rows c.args.held.now.room (length c.args.held.now.messages.items) (taken_of c.args.message)) c.is_to_hold.result c.is_to_hold.ensures c.if-is_to_hold.true c.hold.ensures.held

pub returns-else-is_to_hold-clause-takes : goal.returns-else-is_to_hold-clause-takes
returns-else-is_to_hold-clause-takes g c =
    one_carried g.K.Keeper.content g.K.Keeper.faults map_of c.args.farm.now c.carry_one.new.farm c.args.at.now (taken_of c.args.message) (held_of c.args.held.now)
    (is_held c.args.farm.now.ledger.rows c.args.held.now.room (length c.args.held.now.messages.items) (taken_of c.args.message)) c.is_to_hold.result c.is_to_hold.ensures c.if-is_to_hold.false c.carry_one.ensures
