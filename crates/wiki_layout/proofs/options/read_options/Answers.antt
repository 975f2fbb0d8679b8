use Rattle.std.proofs.Common.{subst, sym}
use Rattle.wiki_layout.specs.Options.{OptionsAre}
use Rattle.wiki_layout.specs.AsModel.{texts_of}
use Rattle.wiki_layout.proofs.AtMostOnce.{read_exact}
use Rattle.wiki_layout.proofs.options.read_options.Goals as goal

pub returns : goal.returns
returns c =
    subst (OptionsAre (texts_of c.args.words.now)) (sym c.options_in.ensures) (read_exact (texts_of c.args.words.now))
