use Rattle.std.proofs.Common.{◌≡◌, ◌*◌, ◌+◌, ◌-◌, ◌≤◌, length}
use Rattle.page_markup.specs.Mark.{IsKnown}
use Rattle.page_markup.specs.ClosingPlaces.{between}
use Rattle.page_render.specs.Draft.{with_text}
use Rattle.page_render.specs.Use.{place_after}
use Rattle.page_render.proofs.writer.Writer.+texts.Given as goal

abbrev pub decreases-write_text : goal.decreases-write_text
decreases-write_text l = 5 * (l.depth * 65537 + (l.to - l.from)) + 2

abbrev pub decreases-write_place : goal.decreases-write_place
decreases-write_place l = 5 * (l.depth * 65537 + (l.to - l.at)) + 1

abbrev pub decreases-write_used : goal.decreases-write_used
decreases-write_used l = 5 * (l.depth * 65537 + (place_after l.at l.used.now - l.at))

abbrev pub decreases-write_whole : goal.decreases-write_whole
decreases-write_whole l = 5 * (l.depth * 65537 + length l.text.now) + 3

abbrev pub decreases-write_line : goal.decreases-write_line
decreases-write_line l = 5 * (l.depth * 65537 + length l.text.now) + 4

abbrev pub invariant-write_text-loop-at : goal.invariant-write_text-loop-at
invariant-write_text-loop-at l = record {
  past : l.fn.from ≤ l.at;
  within : l.at ≤ l.to;
  known : IsKnown l.text l.at l.known;
  text : with_text l.self l.depth (between l.at l.to l.text) ≡ with_text l.fn.self l.depth (between l.fn.from l.to l.text);
}

abbrev pub decreases-write_text-loop-at : goal.decreases-write_text-loop-at
decreases-write_text-loop-at l = l.to - l.at
