use Rattle.wiki_layout.proofs.Settings.{reads_settings}
use Rattle.wiki_layout.proofs.layout.layout_of.Goals as goal

pub returns-clause-setting : goal.returns-clause-setting
returns-clause-setting c = reads_settings c.args.bytes.now c.read_layout.result c.read_layout.ensures.reads
