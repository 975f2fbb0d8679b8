use Rattle.purge_relay.proofs.Kept.{keeps_sent}
use Rattle.purge_relay.proofs.farm_wire.FarmWireWire.send.Goals as goal

pub invariant_of-self : goal.invariant_of-self
invariant_of-self c =
    let i = c.self.inside in
    keeps_sent i.script c.keep.new.script i.waiting.items c.keep.new.waiting.items i.sent.messages c.with-self-inside.result.messages i.taken.messages
    c.args.message.now c.self.invariant c.in-Ok.ensures.named c.in-Ok.ensures.waits c.with-self-inside.ensures
