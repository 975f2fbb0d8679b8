use Rattle.std.proofs.Common.{true, false, sym, ◌∙◌}
use Rattle.std.proofs.Common.{map}
use Rattle.commit_feed.specs.AsModel.{entry_of}
use Rattle.commit_feed.specs.Feed.{last_number}
use Rattle.commit_feed.specs.Wanted.{test_of}
use Rattle.commit_feed.proofs.Turns.{last_more}
use Rattle.commit_feed.proofs.find.last_of.Goals as goal
use Rattle.commit_feed.proofs.find.last_of.Goals.{then-is_wanted, else-is_wanted}

pub loop-i-preserved : goal.loop-i-preserved
loop-i-preserved c = elim c.if-is_wanted.branch [
  | then-is_wanted w ↦ last_more (test_of c.args.wanted) c.loop-i.i c.args.entries.now c.index-entries-i.result c.loop-i.last c.if-is_wanted.last (last_number (test_of c.args.wanted) 1 (map entry_of c.args.entries.now)) true c.loop-i-test.true c.index-entries-i.is (sym c.is_wanted.ensures ∙ w.if-is_wanted.true) w.last-is c.loop-i.invariant
  | else-is_wanted w ↦ last_more (test_of c.args.wanted) c.loop-i.i c.args.entries.now c.index-entries-i.result c.loop-i.last c.if-is_wanted.last (last_number (test_of c.args.wanted) 1 (map entry_of c.args.entries.now)) false c.loop-i-test.true c.index-entries-i.is (sym c.is_wanted.ensures ∙ w.if-is_wanted.false) w.last-is c.loop-i.invariant
]
