use Rattle.std.proofs.Common.{rules, ◌≡◌, Some, Ok}
use Rattle.purge_relay.proofs.Kept.{keeps_given, takes_given}
use Rattle.purge_relay.proofs.farm_wire.FarmWireWire.take.Goals as goal

pub invariant_of-self : goal.invariant_of-self
invariant_of-self c =
    let i = c.self.inside in
    let t = c.take_next-result in
    let m = c.in-Ok-Some.message in
    let is : t.result ≡ Ok (Some m) = search rules in
    keeps_given i.script t.new.script i.waiting.items t.new.waiting.items i.sent.messages i.taken.messages c.with-self-inside.result.messages t.result m
    c.self.invariant t.ensures is c.with-self-inside.ensures

pub returns-in-Ok-Some-clause-exact : goal.returns-in-Ok-Some-clause-exact
returns-in-Ok-Some-clause-exact c =
    let i = c.self.inside in
    let t = c.take_next-result in
    let m = c.in-Ok-Some.message in
    let is : t.result ≡ Ok (Some m) = search rules in
    takes_given i.script t.new.script i.waiting.items t.new.waiting.items i.sent.messages i.taken.messages c.with-self-inside.result.messages t.result m
    i.faults i.refused i.empty c.args.self.now c.self.invariant t.ensures is c.with-self-inside.ensures c.self.view_is
