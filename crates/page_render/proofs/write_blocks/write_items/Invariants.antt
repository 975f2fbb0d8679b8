use Rattle.std.proofs.Common.{◌≡◌, ◌≤◌, ◌<◌, ◌+◌, ◌-◌, length, drop}
use Rattle.std.specs.Str.{IsCharBoundary}
use Rattle.page_render.specs.Blocks.{with_list}
use Rattle.page_render.proofs.write_blocks.write_items.Given as goal

abbrev pub invariant-loop-end : goal.invariant-loop-end
invariant-loop-end l = record {
  order : l.fn.end ≤ l.end;
  within : l.end ≤ length l.text;
  cut : l.end < length l.text → IsCharBoundary l.text (l.end + 1);
  html : with_list l.writer l.depth (drop (l.end + 1) l.text) ≡ with_list l.fn.writer l.depth (drop (l.fn.end + 1) l.text);
}

abbrev pub decreases-loop-end : goal.decreases-loop-end
decreases-loop-end l = length l.text - l.end
