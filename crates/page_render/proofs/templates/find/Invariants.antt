use Rattle.std.proofs.Common.{◌≤◌, ◌-◌, length}
use Rattle.page_render.specs.Templates.{title_wanted}
use Rattle.page_render.proofs.Lookups.{AllBelow, AllAbove}
use Rattle.page_render.proofs.templates.find.Given as goal

abbrev pub invariant-loop-low : goal.invariant-loop-low
invariant-loop-low l = record {
  order : l.low ≤ l.high;
  within : l.high ≤ length l.pages;
  below : AllBelow l.pages (title_wanted l.wanted) l.low;
  above : AllAbove l.pages (title_wanted l.wanted) l.high;
}

abbrev pub decreases-loop-low : goal.decreases-loop-low
decreases-loop-low l = l.high - l.low
