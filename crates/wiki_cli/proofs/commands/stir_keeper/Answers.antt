use Rattle.std.proofs.Common.{sym, subst, ◌∙◌}
use Rattle.wiki_model.specs.Steps.{Rose}
use Rattle.wiki_model.specs.Script.{IsScript}
use Rattle.wiki_model.proofs.GeneratorLaws.{makes-scripts}
use Rattle.wiki_cli.specs.RunFarm.{kept_by}
use Rattle.wiki_cli.specs.Commands.{CountsScript}
use Rattle.wiki_cli.proofs.commands.stir_keeper.Goals as goal

pub stir_bytes-requires : goal.stir_bytes-requires
stir_bytes-requires g c =
    let made = makes-scripts c.args.seed c.args.steps c.requires.seed c.requires.steps in
    record { script = (made.0, subst (λ b. IsScript made.0 b) (sym (c.deref.ensures.value ∙ c.in-Ok.ensures)) made.1) }

pub returns-clause-stirs : goal.returns-clause-stirs
returns-clause-stirs g c = λ empty.
    subst (λ b. CountsScript b c.args.steps (g.K.Keeper.faults c.args.keeper) (kept_by g.K.Keeper.content g.K.Keeper.faults c.stir_bytes.result.keeper) (Rose (g.O.Sink.faults c.args.sink.now) (g.O.Sink.faults c.stir_bytes.new.sink)) (g.O.Sink.written c.args.sink.now) (g.O.Sink.written c.stir_bytes.new.sink) c.stir_bytes.result.status)
    (c.deref.ensures.value ∙ c.in-Ok.ensures) (c.stir_bytes.ensures.stirs empty)
