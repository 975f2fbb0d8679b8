use Rattle.edit_core.specs.AsModel.{edit_of}
use Rattle.edit_core.proofs.Found.{decided_via}
use Rattle.edit_core.proofs.decide.decide.Goals as goal

pub returns-in-Ok-clause-value : goal.returns-in-Ok-clause-value
returns-in-Ok-clause-value g c =
    decided_via (g.K.Keeper.content c.args.keeper.now) (g.K.Keeper.content c.by_token.new.self) (edit_of c.args.ask.now) c.in-Ok-Some.field-0 c.in-Ok-Some.n c.in-Ok.decided c.by_token.ensures.content c.in-Ok-Some.field-0-is c.in-Ok-Some.ensures.value c.in-Ok.ensures.value
