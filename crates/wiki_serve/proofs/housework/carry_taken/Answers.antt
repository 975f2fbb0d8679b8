use Rattle.std.proofs.Common.{◌∙◌, ℕ, refl, ap, subst, arith, length, Ok, option_map}
use Rattle.purge_relay.specs.AsModel.{maybe_taken, empty_after}
use Rattle.slot_cache.specs.AsModel.{map_of}
use Rattle.wiki_serve.specs.Housework.{wire_seen}
use Rattle.wiki_serve.specs.HoldingBack.{taken_of, held_of, is_held, TakesOne}
use Rattle.wiki_serve.proofs.Houses.{taken_one}
use Rattle.wiki_serve.proofs.Holding.{room_empty, takes_none, takes_more}
use Rattle.wiki_serve.proofs.housework.carry_taken.Goals as goal

pub taking-init : goal.taking-init
taking-init g c = record {
  few = omega arith;
  room = room_empty c.args.held.now c.requires.empty;
  same = refl;
  takes =
      takes_none g.K.Keeper.content g.K.Keeper.faults map_of c.args.farm.now c.args.at.now (wire_seen (g.W.Wire.carried c.args.wire.now) (g.W.Wire.refused c.args.wire.now) (g.W.Wire.empty c.args.wire.now)) c.args.held.now.room c.args.held.now.messages.items c.requires.empty.none;
}

pub taking-preserved : goal.taking-preserved
taking-preserved g c = record {
  few = let small = c.taking-test.true in omega (arith, small);
  room = c.hold_or_carry.ensures.room;
  same = c.hold_or_carry.ensures.same ∙ c.taking.invariant.same;
  takes =
      takes_more g.K.Keeper.content g.K.Keeper.faults map_of c.args.farm.now c.taking.farm c.hold_or_carry.new.farm c.args.at.now
      (wire_seen (g.W.Wire.carried c.args.wire.now) (g.W.Wire.refused c.args.wire.now) (g.W.Wire.empty c.args.wire.now)) (wire_seen (g.W.Wire.carried c.taking.wire) (g.W.Wire.refused c.taking.wire) (g.W.Wire.empty c.taking.wire)) (wire_seen (g.W.Wire.carried c.take.new.self) (g.W.Wire.refused c.take.new.self) (g.W.Wire.empty c.take.new.self))
      c.args.held.now.room c.taking.count (taken_of c.in-Ok-Some.message) c.taking.held.messages.items c.hold_or_carry.new.held.messages.items c.taking.invariant.takes
      (c.in-Ok-Some.ensures.taken ∙ ap (λ m. option_map (maybe_taken m) (g.W.Wire.carried c.taking.wire)) c.in-Ok-Some.field-0-is ∙ taken_one (g.W.Wire.carried c.taking.wire) c.in-Ok-Some.message)
      c.take.ensures.sends
      (c.take.ensures.counted ∙ ap (λ r. empty_after r (g.W.Wire.empty c.taking.wire)) (c.in-Ok-Some.is ∙ ap (λ m. Ok m) c.in-Ok-Some.field-0-is))
      (subst (λ (n : ℕ). TakesOne g.K.Keeper.content g.K.Keeper.faults map_of (is_held c.taking.farm.ledger.rows n (length c.taking.held.messages.items) (taken_of c.in-Ok-Some.message)) c.taking.farm c.hold_or_carry.new.farm c.args.at.now (taken_of c.in-Ok-Some.message) (held_of c.taking.held) (held_of c.hold_or_carry.new.held))
      c.taking.invariant.same c.hold_or_carry.ensures.takes);
}
