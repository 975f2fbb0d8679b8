use Rattle.std.proofs.Common.{subst, ◌∙◌}
use Rattle.wiki_cli.specs.RunFarm.{WritesLast}
use Rattle.wiki_cli.proofs.Texts.{text_last}
use Rattle.wiki_cli.proofs.run_farm.write_end.Goals as goal

pub returns-in-Ok : goal.returns-in-Ok
returns-in-Ok g c =
    let before = g.O.Sink.written c.args.sink.now in
    let after = g.O.Sink.written c.write_text.new.sink in
    let f = g.O.Sink.faults c.args.sink.now in
    let h = g.O.Sink.faults c.write_text.new.sink in
    subst (λ text. WritesLast c.args.told.state before after f h text c.write_text.result) (c.deref.ensures.value ∙ c.in-Ok.ensures)
    (text_last c.args.told.state before after f h c.deref.result.now c.write_text.result c.in-Whole.is c.write_text.ensures)
