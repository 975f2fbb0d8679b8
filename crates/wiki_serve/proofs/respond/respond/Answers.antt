use Rattle.std.proofs.Common.{sym, subst, ◌∙◌}
use Rattle.std.specs.Prelude.{◌==◌, ◌||◌}
use Rattle.wiki_model.specs.Limits.{requests_max}
use Rattle.wiki_serve.specs.Connections.{conn_seen}
use Rattle.wiki_serve.specs.Reactions.{reaction_bytes, WritesResponse}
use Rattle.wiki_serve.proofs.Writing.{responds_so}
use Rattle.wiki_serve.proofs.respond.respond.Goals as goal

pub returns-in-None-clause-responds : goal.returns-in-None-clause-responds
returns-in-None-clause-responds g c =
    let before = (conn_seen (g.X.Conn.peer c.args.conn.now) (g.X.Source.left c.args.conn.now) (g.X.Sink.written c.args.conn.now) (g.X.Source.faults c.args.conn.now) (g.X.Sink.faults c.args.conn.now)) in
    let now = (conn_seen (g.X.Conn.peer c.write_response.new.conn) (g.X.Source.left c.write_response.new.conn) (g.X.Sink.written c.write_response.new.conn) (g.X.Source.faults c.write_response.new.conn) (g.X.Sink.faults c.write_response.new.conn)) in
    responds_so before now c.args.reaction.now c.args.number c.write_response.result (sym c.ended.ensures ∙ c.in-None.is)
    (subst (λ b. WritesResponse before now (reaction_bytes c.args.reaction.now (b || (c.args.number == requests_max))) b c.args.number c.write_response.result) c.closes.ensures c.write_response.ensures.writes)
