use Rattle.std.proofs.Common.{◌≡◌, drop}
use Rattle.toml.specs.View.{items_view}
use Rattle.wiki_layout.specs.Layout.{all_items, is_whole_number}
use Rattle.wiki_layout.proofs.rules.are_numbers.Given as goal

abbrev pub invariant-loop-item : goal.invariant-loop-item
invariant-loop-item l =
    all_items is_whole_number (items_view (drop l.item-index l.fn.items))
    ≡ all_items is_whole_number (items_view l.fn.items)
