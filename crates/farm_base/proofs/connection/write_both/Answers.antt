use Rattle.std.proofs.Common.{◌++◌}
use Rattle.farm_base.proofs.Chains.{prefix_turn}
use Rattle.farm_base.proofs.connection.write_both.Goals as goal

pub returns-clause-prefix : goal.returns-clause-prefix
returns-clause-prefix g c = prefix_turn (g.X.Sink.written c.args.conn.now) (g.X.Sink.written c.write_two.new.self) (g.X.Sink.written c.write_rest.new.conn) (c.args.first.now ++ c.args.second.now) c.in_ok-done.done c.in_ok-done.ensures.bound c.in_ok-done.ensures.bytes c.write_rest.ensures.prefix
