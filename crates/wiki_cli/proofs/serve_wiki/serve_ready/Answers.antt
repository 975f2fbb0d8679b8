use Rattle.wiki_cli.proofs.Serving.{serves_input}
use Rattle.wiki_cli.proofs.serve_wiki.serve_ready.Goals as goal

pub returns-in-Ok-clause-serves : goal.returns-in-Ok-clause-serves
returns-in-Ok-clause-serves g c =
    serves_input _ _ (g.I.Source.left c.args.outside.now.source) _ c.in-Ok.layout.items _ _ _ _ _ c.serve_bytes.result.status c.in-Ok.ensures.all c.serve_bytes.ensures.serves
