use Rattle.std.proofs.Common.{◌≡◌, drop}
use Rattle.toml.specs.View.{items_view}
use Rattle.wiki_layout.specs.Layout.{all_items, is_weight}
use Rattle.wiki_layout.proofs.rules.are_small.Given as goal

abbrev pub invariant-loop-item : goal.invariant-loop-item
invariant-loop-item l =
    all_items is_weight (items_view (drop l.item-index l.fn.items)) ≡ all_items is_weight (items_view l.fn.items)
