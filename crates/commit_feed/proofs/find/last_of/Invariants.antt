use Rattle.std.proofs.Common.{◌≡◌, ◌+◌, drop, map}
use Rattle.wiki_model.specs.Html.{or_else}
use Rattle.commit_feed.specs.AsModel.{entry_of}
use Rattle.commit_feed.specs.Feed.{last_number}
use Rattle.commit_feed.specs.Wanted.{test_of}
use Rattle.commit_feed.proofs.find.last_of.Given as goal

-- what is left, over what was found
abbrev pub invariant-loop-i : goal.invariant-loop-i
invariant-loop-i l = or_else (last_number (test_of l.wanted) (l.i + 1) (map entry_of (drop l.i l.entries))) l.last ≡ last_number (test_of l.wanted) 1 (map entry_of l.entries)
