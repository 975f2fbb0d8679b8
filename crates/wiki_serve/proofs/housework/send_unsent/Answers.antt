use Rattle.std.proofs.Common.{◌∙◌, arith}
use Rattle.wiki_serve.specs.Housework.{wire_seen}
use Rattle.wiki_serve.specs.HoldingBack.{taken_of}
use Rattle.wiki_serve.proofs.Houses.{sent_one, sends_more}
use Rattle.wiki_serve.proofs.housework.send_unsent.Goals as goal

pub overflow_add-sent : goal.overflow_add-sent
overflow_add-sent g c = let small = c.in-Some.ensures.small in omega (arith, small)

pub sending-preserved : goal.sending-preserved
sending-preserved g c =
    sends_more c.args.farm.now.ledger.rows c.args.sent.now c.sending.sent
    (wire_seen (g.W.Wire.carried c.args.wire.now) (g.W.Wire.refused c.args.wire.now) (g.W.Wire.empty c.args.wire.now)) (wire_seen (g.W.Wire.carried c.sending.wire) (g.W.Wire.refused c.sending.wire) (g.W.Wire.empty c.sending.wire)) (wire_seen (g.W.Wire.carried c.send.new.self) (g.W.Wire.refused c.send.new.self) (g.W.Wire.empty c.send.new.self))
    (taken_of c.in-Some.message.now) c.sending.invariant c.in-Some.ensures.some.1 c.in-Some.ensures.some.0
    (c.in-Ok.ensures.sent ∙ sent_one (g.W.Wire.carried c.sending.wire) c.in-Some.message.now) c.in-Ok.ensures.accepted c.send.ensures.takes
