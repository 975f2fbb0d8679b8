use Rattle.wiki_cli.proofs.Serving.{serves_before}
use Rattle.wiki_cli.proofs.serve_wiki.serve_wiki.Goals as goal

pub returns-in-Ok-clause-serves : goal.returns-in-Ok-clause-serves
returns-in-Ok-clause-serves g c =
    serves_before _ _ (g.I.Source.left c.args.outside.now.source) _ _ (g.K.Keeper.content c.args.keeper) (g.K.Keeper.content c.start.new.self) (g.K.Keeper.faults c.args.keeper) (g.K.Keeper.faults c.start.new.self) _ _ _ _ c.serve_ready.result.status
    c.start.ensures.content c.start.ensures.cause.later c.serve_ready.ensures.serves
