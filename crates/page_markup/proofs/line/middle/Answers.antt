use Rattle.page_markup.proofs.LineKinds.{cut_prefix, cut_end}
use Rattle.page_markup.proofs.line.middle.Goals as goal

pub part-requires-clause-first : goal.part-requires-clause-first
part-requires-clause-first c = cut_prefix c.args.line.now c.args.level c.utf8.line c.requires.level c.requires.some

pub part-requires-clause-last : goal.part-requires-clause-last
part-requires-clause-last c = cut_end c.args.line.now c.args.level c.requires.level c.requires.some
