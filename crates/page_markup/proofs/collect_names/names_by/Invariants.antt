use Rattle.std.proofs.Common.{◌<◌, ◌+◌, length}
use Rattle.std.specs.Prelude.{codes}
use Rattle.page_markup.specs.Mark.{Remembers}
use Rattle.page_markup.specs.Names.{AreRecent}
use Rattle.page_markup.proofs.Named.{HasNames}
use Rattle.page_markup.proofs.collect_names.names_by.Given as goal

abbrev pub invariant-loop-at : goal.invariant-loop-at
invariant-loop-at l =
    HasNames l.lines l.text l.at l.found.titles.items
    × (0 < length l.found.recent.items)
    × AreRecent l.lines l.text l.found.titles.items l.found.recent.items
    × Remembers (codes "}}") l.text (l.at + 2) l.known
