use Rattle.script_runner.proofs.Reported.{whole_then}
use Rattle.script_runner.proofs.report_state.write_parts.Goals as goal

pub returns-in-Whole : goal.returns-in-Whole
returns-in-Whole g c =
    whole_then c.write_part.result c.write_part-in-Whole.result (g.O.Sink.written c.args.sink.now) (g.O.Sink.written c.write_part.new.sink) (g.O.Sink.written c.write_part-in-Whole.new.sink)
    (g.O.Sink.faults c.args.sink.now) (g.O.Sink.faults c.write_part.new.sink) (g.O.Sink.faults c.write_part-in-Whole.new.sink) c.args.head.now c.args.page.now
    c.in-Whole.is c.write_part.ensures c.write_part-in-Whole.ensures
