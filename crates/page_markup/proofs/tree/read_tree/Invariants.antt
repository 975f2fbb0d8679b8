use Rattle.std.proofs.Common.{◌≡◌, ◌<◌, ◌-◌, ◌++◌, length, drop}
use Rattle.std.specs.Str.{IsCharBoundary}
use Rattle.page_markup.specs.Tree.{tree_from}
use Rattle.page_markup.proofs.tree.read_tree.Given as goal

abbrev pub invariant-loop-at : goal.invariant-loop-at
invariant-loop-at l = (l.at < length l.text → IsCharBoundary l.text l.at) × (l.blocks.items ++ tree_from (drop l.at l.text) ≡ tree_from l.text)

abbrev pub decreases-loop-at : goal.decreases-loop-at
decreases-loop-at l = length l.text - l.at
