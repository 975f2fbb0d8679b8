use Rattle.std.proofs.Common.{sym, subst, ◌∙◌}
use Rattle.wiki_model.specs.Steps.{Rose}
use Rattle.wiki_cli.specs.Ends.{IsWritten, Says}
use Rattle.wiki_cli.proofs.refuse.refuse_not_empty.Goals as goal

pub returns-in-Ok-clause-says : goal.returns-in-Ok-clause-says
returns-in-Ok-clause-says g c =
    let failed = Rose (g.O.Sink.faults c.args.sink.now) (g.O.Sink.faults c.refuse.new.sink) in
    let before = g.O.Sink.written c.args.sink.now in
    let after = g.O.Sink.written c.refuse.new.sink in
    subst (λ s. Says failed before after s) (sym c.refuse.ensures.status)
    (subst (λ text. IsWritten failed before after text) (c.as_bytes.ensures.value ∙ c.in-Ok.ensures) c.refuse.ensures.written)
