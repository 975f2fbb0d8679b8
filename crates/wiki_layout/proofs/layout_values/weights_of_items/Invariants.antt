use Rattle.std.proofs.Common.{◌≡◌, ◌++◌, drop, true}
use Rattle.toml.specs.View.{items_view}
use Rattle.wiki_layout.specs.Layout.{numbers_of_items, all_items, is_weight}
use Rattle.wiki_layout.proofs.layout_values.weights_of_items.Given as goal

abbrev pub invariant-loop-item : goal.invariant-loop-item
invariant-loop-item l =
    (l.weights.items ++ numbers_of_items (items_view (drop l.item-index l.fn.items))
    ≡ numbers_of_items (items_view l.fn.items))
    × (all_items is_weight (items_view (drop l.item-index l.fn.items)) ≡ true)
