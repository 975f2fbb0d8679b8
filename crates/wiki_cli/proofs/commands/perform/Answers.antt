use Rattle.std.proofs.Common.{sym, ◌∙◌}
use Rattle.wiki_cli.proofs.CommandWords.{same_serve}
use Rattle.wiki_cli.proofs.commands.perform.Goals as goal

pub returns-in-Serve-clause-serves : goal.returns-in-Serve-clause-serves
returns-in-Serve-clause-serves g c = λ wanted is. rw (same_serve c.in-Serve.connections wanted (sym c.in-Serve.is ∙ is)) c.serve_wiki.ensures.serves
