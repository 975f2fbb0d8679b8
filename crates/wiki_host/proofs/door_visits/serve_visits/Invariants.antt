use Rattle.std.proofs.Common.{◌≡◌, ◌≤◌, None}
use Rattle.farm_core.specs.FarmParts.{IsWhole, SameShape}
use Rattle.farm_steps.specs.RequestMap.{open_at}
use Rattle.slot_cache.specs.AsModel.{map_of}
use Rattle.wiki_serve.specs.Connections.{conn_seen}
use Rattle.wiki_serve.specs.Exchanges.{heard_seen}
use Rattle.wiki_serve.specs.Turns.{StandsSent, unsent_of}
use Rattle.wiki_host.specs.Visits.{door_seen, HasVisited}
use Rattle.wiki_host.proofs.door_visits.serve_visits.Given as goal

abbrev pub invariant-loop-connections : goal.invariant-loop-connections
invariant-loop-connections g l =
    HasVisited
    (λ conn. conn_seen (g.D.C.Conn.peer conn) (g.D.C.Source.left conn) (g.D.C.Sink.written conn)
    (g.D.C.Source.faults conn) (g.D.C.Sink.faults conn))
    l.fn.host.served.farm.plan.pace
    (door_seen (g.D.Door.offered l.fn.door) (g.D.Door.faults l.fn.door) (g.D.Door.nones l.fn.door))
    (door_seen (g.D.Door.offered l.door) (g.D.Door.faults l.door) (g.D.Door.nones l.door))
    (heard_seen (g.C.Clock.exposed l.fn.clock) (g.L.Lots.exposed l.fn.lots) (g.W.Wire.carried l.fn.wire)
    (g.W.Wire.refused l.fn.wire) (g.W.Wire.empty l.fn.wire))
    (heard_seen (g.C.Clock.exposed l.clock) (g.L.Lots.exposed l.lots) (g.W.Wire.carried l.wire)
    (g.W.Wire.refused l.wire) (g.W.Wire.empty l.wire))
    (unsent_of l.fn.host.served.farm l.fn.host.served.sent) (unsent_of l.host.served.farm l.host.served.sent)
    (StandsSent g.K.Keeper.content g.K.Keeper.faults map_of l.fn.host.served.farm l.fn.host.served.sent)
    (StandsSent g.K.Keeper.content g.K.Keeper.faults map_of l.host.served.farm l.host.served.sent)
    l.connections
    × (g.D.Door.nones l.door ≡ g.D.Door.nones l.fn.door)
    × IsWhole l.host.served.farm
    × (open_at l.host.served.farm.requests 0 ≡ None)
    × SameShape l.fn.host.served.farm l.host.served.farm
    × (g.K.Keeper.faults l.fn.host.served.farm.keeper ≤ g.K.Keeper.faults l.host.served.farm.keeper)
    × (l.host.wanted ≡ l.fn.host.wanted)
