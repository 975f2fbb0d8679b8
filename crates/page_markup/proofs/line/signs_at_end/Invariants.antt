use Rattle.std.proofs.Common.{◌≡◌, ◌≤◌, ◌+◌, ◌-◌, length, reverse, drop}
use Rattle.wiki_model.specs.Bytes.{run_of}
use Rattle.page_markup.proofs.line.signs_at_end.Given as goal

abbrev pub invariant-loop-count : goal.invariant-loop-count
invariant-loop-count l = (l.count ≤ length l.line) × (run_of 61 (reverse l.line) ≡ l.count + run_of 61 (drop l.count (reverse l.line)))

abbrev pub decreases-loop-count : goal.decreases-loop-count
decreases-loop-count l = length l.line - l.count
