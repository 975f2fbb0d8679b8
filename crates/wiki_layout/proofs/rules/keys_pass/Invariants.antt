use Rattle.std.proofs.Common.{◌≡◌}
use Rattle.toml.specs.View.{members_view, table_view}
use Rattle.wiki_layout.specs.Layout.{all_members, key_passes}
use Rattle.wiki_layout.proofs.rules.keys_pass.Given as goal

abbrev pub invariant-loop-key : goal.invariant-loop-key
invariant-loop-key l =
    all_members (key_passes l.fn.rule l.fn.name) (members_view l.key-iterator)
    ≡ all_members (key_passes l.fn.rule l.fn.name) (table_view l.fn.table)
