use Rattle.std.proofs.Common.{◌≡◌, ◌≤◌, ◌-◌, true}
use Rattle.std.specs.List.{list_all}
use Rattle.page_markup.specs.ClosingPlaces.{between}
use Rattle.page_render.specs.Use.{is_bare}
use Rattle.page_render.proofs.writer.run_end.Given as goal

abbrev pub invariant-loop-at : goal.invariant-loop-at
invariant-loop-at l = (l.from ≤ l.at) × (l.at ≤ l.to) × (list_all is_bare (between l.from l.at l.text) ≡ true)

abbrev pub decreases-loop-at : goal.decreases-loop-at
decreases-loop-at l = l.to - l.at
