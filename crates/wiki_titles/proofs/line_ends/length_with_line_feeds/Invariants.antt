use Rattle.std.proofs.Common.{◌≡◌, ◌≤◌, ◌+◌, length, drop}
use Rattle.wiki_model.specs.Titles.{with_line_feeds, line_feeds_after}
use Rattle.wiki_titles.proofs.line_ends.length_with_line_feeds.Given as goal

-- the count so far, and what is still to come
abbrev pub invariant-loop-byte : goal.invariant-loop-byte
invariant-loop-byte l = record {
  few : l.length ≤ l.byte-index;
  all : l.length + length (line_feeds_after l.previous (drop l.byte-index l.bytes)) ≡ length (with_line_feeds l.bytes);
}
