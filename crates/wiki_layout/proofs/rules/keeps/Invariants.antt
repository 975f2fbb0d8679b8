use Rattle.std.proofs.Common.{◌≡◌}
use Rattle.toml.specs.View.{members_view, table_view}
use Rattle.wiki_layout.specs.Layout.{keeps}
use Rattle.wiki_layout.proofs.rules.keeps.Given as goal

abbrev pub invariant-loop-name : goal.invariant-loop-name
invariant-loop-name l = keeps l.fn.rule (members_view l.name-iterator) ≡ keeps l.fn.rule (table_view l.fn.document)
