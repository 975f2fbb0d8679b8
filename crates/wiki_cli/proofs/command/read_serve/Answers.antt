use Rattle.std.proofs.Common.{◌∙◌}
use Rattle.wiki_layout.specs.AsModel.{options_of}
use Rattle.wiki_cli.specs.Command.{word_texts}
use Rattle.wiki_cli.proofs.CommandWords.{served_none, served_link, served_found}
use Rattle.wiki_cli.proofs.command.read_serve.Goals as goal

pub returns-in_err-options : goal.returns-in_err-options
returns-in_err-options c = c.from_residual.ensures ∙ served_none (word_texts c.args.words.now) c.in_err-options.ensures

pub returns-then-options : goal.returns-then-options
returns-then-options c = served_link (word_texts c.args.words.now) (options_of c.in_ok-options.options) c.in_ok-options.ensures c.if-options.true

pub returns : goal.returns
returns c = served_found (word_texts c.args.words.now) (options_of c.in_ok-options.options) c.in_ok-options.ensures c.if-options.false
