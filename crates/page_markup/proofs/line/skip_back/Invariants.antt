use Rattle.std.proofs.Common.{◌≡◌, ◌≤◌, length, reverse}
use denote.Text.{Utf8}
use denote.Shadow.{shadow}
use Rattle.wiki_model.specs.Bytes.{skip_spaces}
use Rattle.page_markup.proofs.line.skip_back.Given as goal

abbrev pub invariant-loop-shorter : goal.invariant-loop-shorter
invariant-loop-shorter l = shadow (Utf8 l.rest) × (reverse (skip_spaces (reverse l.rest)) ≡ reverse (skip_spaces (reverse l.text))) × (length l.rest ≤ length l.text)

abbrev pub decreases-loop-shorter : goal.decreases-loop-shorter
decreases-loop-shorter l = length l.rest
