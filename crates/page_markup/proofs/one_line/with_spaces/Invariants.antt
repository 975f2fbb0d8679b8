use Rattle.std.proofs.Common.{length, ◌-◌, ◌≡◌, ◌<◌, ◌++◌, drop}
use Rattle.std.specs.String.{string_bytes}
use Rattle.std.specs.Str.{IsCharBoundary}
use Rattle.wiki_model.specs.Bytes.{replaced, line_feed, space}
use Rattle.page_markup.proofs.one_line.with_spaces.Given as goal

abbrev pub invariant-loop-at : goal.invariant-loop-at
invariant-loop-at l = (l.at < length l.text → IsCharBoundary l.text l.at) × (string_bytes l.made ++ replaced line_feed space (drop l.at l.text) ≡ replaced line_feed space l.text)

abbrev pub decreases-loop-at : goal.decreases-loop-at
decreases-loop-at l = length l.text - l.at
