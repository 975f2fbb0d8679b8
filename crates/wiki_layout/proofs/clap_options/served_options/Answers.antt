use Rattle.wiki_layout.specs.AsModel.{texts_of}
use Rattle.wiki_layout.proofs.ClapWalk.{clap_reads}
use Rattle.wiki_layout.proofs.clap_options.served_options.Goals as goal

pub returns : goal.returns
returns c =
    λ options no are. c.in-Err.ensures (c.is_memory.ensures c.if-is_memory.false)
    (clap_reads (texts_of c.args.words.now) options no are).0
