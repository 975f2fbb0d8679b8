use Rattle.std.proofs.Common.{◌∙◌}
use Rattle.wiki_cli.proofs.Texts.{text_counts}
use Rattle.wiki_cli.proofs.run_farm.write_summary.Goals as goal

pub returns-in-Ok : goal.returns-in-Ok
returns-in-Ok g c =
    text_counts (g.O.Sink.written c.args.sink.now) (g.O.Sink.written c.write_text.new.sink) (g.O.Sink.faults c.args.sink.now) (g.O.Sink.faults c.write_text.new.sink) c.args.steps c.args.entries c.args.summary c.deref.result.now c.write_text.result
    (λ answers of. c.deref.ensures.value ∙ c.in-Ok.ensures answers of) c.write_text.ensures
