use Rattle.std.proofs.Common.{◌≡◌, ◌≤◌, ◌<◌, ◌-◌, [], None}
use Rattle.farm_steps.specs.RequestMap.{open_at}
use Rattle.farm_core.specs.FarmParts.{SameShape}
use Rattle.slot_cache.specs.AsModel.{map_of}
use Rattle.wiki_serve.specs.Exchanges.{heard_seen}
use Rattle.wiki_serve.specs.Connections.{conn_seen}
use Rattle.wiki_serve.specs.Served.{seen_at, MayServeOn}
use Rattle.wiki_serve.specs.Turns.{StandsSent, unsent_of}
use Rattle.wiki_serve.specs.Reactions.{desk_of}
use Rattle.wiki_serve.proofs.connection.serve_conn.Given as goal

abbrev pub invariant-requests : goal.invariant-requests
invariant-requests g l = record {
  few : l.answered < 1_000;
  served : MayServeOn (desk_of (g.X.Conn.peer l.fn.conn) l.fn.served.farm)
      (seen_at (conn_seen (g.X.Conn.peer l.fn.conn) (g.X.Source.left l.fn.conn) (g.X.Sink.written l.fn.conn) (g.X.Source.faults l.fn.conn) (g.X.Sink.faults l.fn.conn)) []
      (heard_seen (g.C.Clock.exposed l.fn.clock) (g.L.Lots.exposed l.fn.lots) (g.W.Wire.carried l.fn.wire) (g.W.Wire.refused l.fn.wire) (g.W.Wire.empty l.fn.wire))
      (unsent_of l.fn.served.farm l.fn.served.sent))
      (seen_at (conn_seen (g.X.Conn.peer l.conn) (g.X.Source.left l.conn) (g.X.Sink.written l.conn) (g.X.Source.faults l.conn) (g.X.Sink.faults l.conn)) l.kept.items
      (heard_seen (g.C.Clock.exposed l.clock) (g.L.Lots.exposed l.lots) (g.W.Wire.carried l.wire) (g.W.Wire.refused l.wire) (g.W.Wire.empty l.wire))
      (unsent_of l.served.farm l.served.sent))
      (StandsSent g.K.Keeper.content g.K.Keeper.faults map_of l.fn.served.farm l.fn.served.sent)
      (StandsSent g.K.Keeper.content g.K.Keeper.faults map_of l.served.farm l.served.sent) l.answered;
  peer : g.X.Conn.peer l.conn ≡ g.X.Conn.peer l.fn.conn;
  shape : SameShape l.fn.served.farm l.served.farm;
  free : open_at l.served.farm.requests 0 ≡ None;
  counts : g.K.Keeper.faults l.fn.served.farm.keeper ≤ g.K.Keeper.faults l.served.farm.keeper;
}

abbrev pub decreases-requests : goal.decreases-requests
decreases-requests g l = 1_000 - l.answered
