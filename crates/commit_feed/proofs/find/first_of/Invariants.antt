use Rattle.std.proofs.Common.{◌≡◌, ◌+◌, drop, map}
use Rattle.commit_feed.specs.AsModel.{entry_of}
use Rattle.commit_feed.specs.Feed.{first_number}
use Rattle.commit_feed.specs.Wanted.{test_of}
use Rattle.commit_feed.proofs.find.first_of.Given as goal

-- none before it passes
abbrev pub invariant-loop-i : goal.invariant-loop-i
invariant-loop-i l = first_number (test_of l.wanted) (l.i + 1) (map entry_of (drop l.i l.entries)) ≡ first_number (test_of l.wanted) 1 (map entry_of l.entries)
