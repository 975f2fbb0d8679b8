use Rattle.std.proofs.Common.{[], refl, sym, subst, ◌∙◌, arith}
use Rattle.slot_cache.specs.AsModel.{map_of}
use Rattle.wiki_serve.specs.Exchanges.{heard_seen}
use Rattle.wiki_serve.specs.Connections.{conn_seen}
use Rattle.wiki_serve.specs.Served.{seen_at, MayServeOn}
use Rattle.wiki_serve.specs.Turns.{StandsSent, unsent_of}
use Rattle.wiki_serve.specs.Reactions.{desk_of}
use Rattle.wiki_serve.proofs.Steps.{same_shape, shapes}
use Rattle.wiki_serve.proofs.ServedLaws.{served_nothing}
use Rattle.wiki_serve.proofs.Looping.{Next, turn_whole}
use Rattle.wiki_serve.proofs.connection.serve_conn.Goals as goal

pub requests-init : goal.requests-init
requests-init g c =
    let farm = c.args.served.now.farm in
    let desk = desk_of (g.X.Conn.peer c.args.conn.now) farm in
    let a = seen_at (conn_seen (g.X.Conn.peer c.args.conn.now) (g.X.Source.left c.args.conn.now) (g.X.Sink.written c.args.conn.now) (g.X.Source.faults c.args.conn.now) (g.X.Sink.faults c.args.conn.now)) []
    (heard_seen (g.C.Clock.exposed c.args.clock.now) (g.L.Lots.exposed c.args.lots.now) (g.W.Wire.carried c.args.wire.now) (g.W.Wire.refused c.args.wire.now) (g.W.Wire.empty c.args.wire.now)) (unsent_of farm c.args.served.now.sent) in
    let Stood = StandsSent g.K.Keeper.content g.K.Keeper.faults map_of farm c.args.served.now.sent in
    record {
      few = omega arith;
      served = subst (λ k. MayServeOn desk a (seen_at a.conn k a.heard a.unsent) Stood Stood 0) (sym c.new-kept.ensures.items) (served_nothing desk a Stood refl);
      peer = refl;
      shape = same_shape farm;
      free = c.requires.free;
      counts = omega arith;
    }

pub returns-in-Some-clause-served : goal.returns-in-Some-clause-served
returns-in-Some-clause-served g c =
    let farm = c.args.served.now.farm in
    let desk = desk_of (g.X.Conn.peer c.args.conn.now) farm in
    let a = seen_at (conn_seen (g.X.Conn.peer c.args.conn.now) (g.X.Source.left c.args.conn.now) (g.X.Sink.written c.args.conn.now) (g.X.Source.faults c.args.conn.now) (g.X.Sink.faults c.args.conn.now)) []
    (heard_seen (g.C.Clock.exposed c.args.clock.now) (g.L.Lots.exposed c.args.lots.now) (g.W.Wire.carried c.args.wire.now) (g.W.Wire.refused c.args.wire.now) (g.W.Wire.empty c.args.wire.now)) (unsent_of farm c.args.served.now.sent) in
    let Stood = StandsSent g.K.Keeper.content g.K.Keeper.faults map_of farm c.args.served.now.sent in
    let old = c.requests.served.farm in
    let new = c.serve_arrival-reaction.new.served.farm in
    let before = (heard_seen (g.C.Clock.exposed c.requests.clock) (g.L.Lots.exposed c.requests.lots) (g.W.Wire.carried c.requests.wire) (g.W.Wire.refused c.requests.wire) (g.W.Wire.empty c.requests.wire)) in
    let now = (heard_seen (g.C.Clock.exposed c.serve_arrival-reaction.new.clock) (g.L.Lots.exposed c.serve_arrival-reaction.new.lots) (g.W.Wire.carried c.serve_arrival-reaction.new.wire) (g.W.Wire.refused c.serve_arrival-reaction.new.wire) (g.W.Wire.empty c.serve_arrival-reaction.new.wire)) in
    let b = seen_at (conn_seen (g.X.Conn.peer c.requests.conn) (g.X.Source.left c.requests.conn) (g.X.Sink.written c.requests.conn) (g.X.Source.faults c.requests.conn) (g.X.Sink.faults c.requests.conn)) c.requests.kept.items before (unsent_of old c.requests.served.sent) in
    let mid = (conn_seen (g.X.Conn.peer c.read_arrival-arrival.new.conn) (g.X.Source.left c.read_arrival-arrival.new.conn) (g.X.Sink.written c.read_arrival-arrival.new.conn) (g.X.Source.faults c.read_arrival-arrival.new.conn) (g.X.Sink.faults c.read_arrival-arrival.new.conn)) in
    let conn = (conn_seen (g.X.Conn.peer c.answer.new.conn) (g.X.Source.left c.answer.new.conn) (g.X.Sink.written c.answer.new.conn) (g.X.Source.faults c.answer.new.conn) (g.X.Sink.faults c.answer.new.conn)) in
    let kept = c.read_arrival-arrival.new.kept.items in
    let next =
    turn_whole g.K.Keeper.content g.K.Keeper.faults map_of (g.X.Conn.peer c.args.conn.now) farm a b mid conn kept old new c.requests.served.sent c.serve_arrival-reaction.new.served.sent before now Stood c.requests.answered
    c.read_arrival-arrival.result c.serve_arrival-reaction.result c.answer.result
    (c.read_arrival-arrival.ensures.peer ∙ c.requests.invariant.peer) c.requests.invariant.shape.plan refl refl c.requests.invariant.served
    c.read_arrival-arrival.ensures.arrives (c.serve_arrival-reaction.ensures.reacts (g.X.Conn.peer c.read_arrival-arrival.new.conn)) c.answer.ensures.responds in
    let Later = StandsSent g.K.Keeper.content g.K.Keeper.faults map_of new c.serve_arrival-reaction.new.served.sent in
    subst (Next desk a conn kept now (unsent_of new c.serve_arrival-reaction.new.served.sent) Stood Later c.requests.answered) c.in-Some.is next

pub requests-preserved : goal.requests-preserved
requests-preserved g c =
    let farm = c.args.served.now.farm in
    let desk = desk_of (g.X.Conn.peer c.args.conn.now) farm in
    let a = seen_at (conn_seen (g.X.Conn.peer c.args.conn.now) (g.X.Source.left c.args.conn.now) (g.X.Sink.written c.args.conn.now) (g.X.Source.faults c.args.conn.now) (g.X.Sink.faults c.args.conn.now)) []
    (heard_seen (g.C.Clock.exposed c.args.clock.now) (g.L.Lots.exposed c.args.lots.now) (g.W.Wire.carried c.args.wire.now) (g.W.Wire.refused c.args.wire.now) (g.W.Wire.empty c.args.wire.now)) (unsent_of farm c.args.served.now.sent) in
    let Stood = StandsSent g.K.Keeper.content g.K.Keeper.faults map_of farm c.args.served.now.sent in
    let old = c.requests.served.farm in
    let new = c.serve_arrival-reaction.new.served.farm in
    let before = (heard_seen (g.C.Clock.exposed c.requests.clock) (g.L.Lots.exposed c.requests.lots) (g.W.Wire.carried c.requests.wire) (g.W.Wire.refused c.requests.wire) (g.W.Wire.empty c.requests.wire)) in
    let now = (heard_seen (g.C.Clock.exposed c.serve_arrival-reaction.new.clock) (g.L.Lots.exposed c.serve_arrival-reaction.new.lots) (g.W.Wire.carried c.serve_arrival-reaction.new.wire) (g.W.Wire.refused c.serve_arrival-reaction.new.wire) (g.W.Wire.empty c.serve_arrival-reaction.new.wire)) in
    let b = seen_at (conn_seen (g.X.Conn.peer c.requests.conn) (g.X.Source.left c.requests.conn) (g.X.Sink.written c.requests.conn) (g.X.Source.faults c.requests.conn) (g.X.Sink.faults c.requests.conn)) c.requests.kept.items before (unsent_of old c.requests.served.sent) in
    let mid = (conn_seen (g.X.Conn.peer c.read_arrival-arrival.new.conn) (g.X.Source.left c.read_arrival-arrival.new.conn) (g.X.Sink.written c.read_arrival-arrival.new.conn) (g.X.Source.faults c.read_arrival-arrival.new.conn) (g.X.Sink.faults c.read_arrival-arrival.new.conn)) in
    let conn = (conn_seen (g.X.Conn.peer c.answer.new.conn) (g.X.Source.left c.answer.new.conn) (g.X.Sink.written c.answer.new.conn) (g.X.Source.faults c.answer.new.conn) (g.X.Sink.faults c.answer.new.conn)) in
    let kept = c.read_arrival-arrival.new.kept.items in
    let next =
    turn_whole g.K.Keeper.content g.K.Keeper.faults map_of (g.X.Conn.peer c.args.conn.now) farm a b mid conn kept old new c.requests.served.sent c.serve_arrival-reaction.new.served.sent before now Stood c.requests.answered
    c.read_arrival-arrival.result c.serve_arrival-reaction.result c.answer.result
    (c.read_arrival-arrival.ensures.peer ∙ c.requests.invariant.peer) c.requests.invariant.shape.plan refl refl c.requests.invariant.served
    c.read_arrival-arrival.ensures.arrives (c.serve_arrival-reaction.ensures.reacts (g.X.Conn.peer c.read_arrival-arrival.new.conn)) c.answer.ensures.responds in
    let Later = StandsSent g.K.Keeper.content g.K.Keeper.faults map_of new c.serve_arrival-reaction.new.served.sent in
    let may = subst (Next desk a conn kept now (unsent_of new c.serve_arrival-reaction.new.served.sent) Stood Later c.requests.answered) c.in_default.is next in
    let small = may.may_go_on.1 in
    let number = may.number in
    let x = c.requests.invariant.counts in
    let y = c.serve_arrival-reaction.ensures.counts in
    record {
      few = omega (arith, small, number);
      served = may;
      peer = c.answer.ensures.peer ∙ c.read_arrival-arrival.ensures.peer ∙ c.requests.invariant.peer;
      shape = shapes farm old new c.requests.invariant.shape c.serve_arrival-reaction.ensures.shape;
      free = c.serve_arrival-reaction.ensures.free;
      counts = omega (arith, x, y);
    }
