use Rattle.std.proofs.Common.{◌≡◌, ◌≤◌, ◌<◌, ◌+◌, ◌-◌, length, drop}
use Rattle.std.specs.Str.{IsCharBoundary}
use Rattle.page_markup.specs.Runs.{lines_from, items_then}
use Rattle.page_markup.proofs.tree.read_items.Given as goal

abbrev pub invariant-loop-end : goal.invariant-loop-end
invariant-loop-end l = record {
  order : l.fn.end ≤ l.end;
  within : l.end ≤ length l.text;
  next : l.end < length l.text → IsCharBoundary l.text (l.end + 1);
  items : items_then l.items.items (lines_from (drop (l.end + 1) l.text)) ≡ items_then l.fn.items.items (lines_from (drop (l.fn.end + 1) l.text));
}

abbrev pub decreases-loop-end : goal.decreases-loop-end
decreases-loop-end l = length l.text - l.end
