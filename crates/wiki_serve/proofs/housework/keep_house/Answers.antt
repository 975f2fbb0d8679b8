use Rattle.std.proofs.Common.{subst, length}
use Rattle.region_state.specs.declared.plan.FarmPlan.{FarmPlan}
use Rattle.wiki_model.specs.declared.Region.TheVariants.{Home, West}
use Rattle.slot_cache.specs.AsModel.{map_of}
use Rattle.wiki_serve.specs.Housework.{wire_seen, AppliesTo}
use Rattle.wiki_serve.specs.HoldingBack.{held_of}
use Rattle.wiki_serve.proofs.Houses.{house_kept}
use Rattle.wiki_serve.proofs.housework.keep_house.Goals as goal

pub returns-clause-keeps : goal.returns-clause-keeps
returns-clause-keeps g c =
    let f1 = c.carry_taken.new.farm in
    let f2 = c.beat_if_due.new.farm in
    let f3 = c.apply_region.new.farm in
    house_kept g.K.Keeper.content g.K.Keeper.faults map_of c.args.served.now.farm f1 f2 f3 c.apply_region-2.new.farm c.args.at.now c.args.served.now.sent c.send_unsent.new.sent
    (wire_seen (g.W.Wire.carried c.args.wire.now) (g.W.Wire.refused c.args.wire.now) (g.W.Wire.empty c.args.wire.now)) (wire_seen (g.W.Wire.carried c.send_unsent.new.wire) (g.W.Wire.refused c.send_unsent.new.wire) (g.W.Wire.empty c.send_unsent.new.wire)) (wire_seen (g.W.Wire.carried c.carry_taken.new.wire) (g.W.Wire.refused c.carry_taken.new.wire) (g.W.Wire.empty c.carry_taken.new.wire))
    c.args.held.now.room (held_of c.carry_taken.new.held) c.send_unsent.ensures c.carry_taken.ensures.takes c.beat_if_due.ensures
    (subst (λ (plan : FarmPlan). AppliesTo g.K.Keeper.content g.K.Keeper.faults map_of f2 f3 c.args.at.now Home plan.pace (length f2.home.replicas)) c.plan.ensures c.apply_region.ensures)
    (subst (λ (plan : FarmPlan). AppliesTo g.K.Keeper.content g.K.Keeper.faults map_of f3 c.apply_region-2.new.farm c.args.at.now West plan.pace (length f3.west.replicas)) c.plan.ensures c.apply_region-2.ensures)
