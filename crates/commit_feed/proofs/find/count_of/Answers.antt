use Rattle.std.proofs.Common.{◌∙◌}
use Rattle.commit_feed.specs.Wanted.{test_of}
use Rattle.commit_feed.proofs.Turns.{count_is}
use Rattle.commit_feed.proofs.find.count_of.Goals as goal

pub returns : goal.returns
returns c = c.count_wanted.ensures ∙ count_is (test_of c.args.wanted) 1 c.args.entries.now
