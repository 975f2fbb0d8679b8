use Rattle.std.proofs.Common.{◌≡◌, ◌<◌, ◌-◌, length, drop}
use Rattle.std.specs.Str.{IsCharBoundary}
use Rattle.page_render.specs.Blocks.{with_blocks}
use Rattle.page_render.proofs.write_blocks.write_blocks.Given as goal

abbrev pub invariant-loop-at : goal.invariant-loop-at
invariant-loop-at l = record {
  cut : l.at < length l.text → IsCharBoundary l.text l.at;
  html : with_blocks l.writer l.depth (drop l.at l.text) ≡ with_blocks l.fn.writer l.depth l.text;
}

abbrev pub decreases-loop-at : goal.decreases-loop-at
decreases-loop-at l = length l.text - l.at
