use Rattle.std.proofs.Common.{refl, sym, subst, ◌∙◌}
use Rattle.wiki_model.specs.Steps.{Rose}
use Rattle.wiki_cli.specs.Ends.{IsWritten}
use Rattle.wiki_cli.specs.Serving.{RefusesLayout}
use Rattle.wiki_cli.proofs.serve_wiki.refuse_layout.Goals as goal

pub returns-in-Ok : goal.returns-in-Ok
returns-in-Ok g c =
    let b = g.O.Sink.faults c.args.sink.now in
    let n = g.O.Sink.faults c.refuse.new.sink in
    let before = g.O.Sink.written c.args.sink.now in
    let after = g.O.Sink.written c.refuse.new.sink in
    subst (λ s. RefusesLayout c.args.rule before after b n s) (sym c.refuse.ensures.status)
    (refl, subst (λ text. IsWritten (Rose b n) before after text) (c.as_bytes.ensures.value ∙ c.in-Ok.ensures) c.refuse.ensures.written)
