use Rattle.std.proofs.Common.{◌<◌, ◌∙◌, arith}
use Rattle.std.proofs.lemmas.Bool.Decides.{nat_tests}
use Rattle.region_state.proofs.GatheringCommits.{gathered_more}
use Rattle.region_state.proofs.gather_commits.gather.Goals as goal

pub loop-n-preserved : goal.loop-n-preserved
loop-n-preserved g c =
    let less : c.loop-n.n < c.args.len = grind (arith, nat_tests, c.loop-n-test.true) in
    let before = c.loop-n.invariant.later in
    let now = c.gather_one.ensures.cause.later in
    record {
      within = omega (arith, less);
      same = c.gather_one.ensures.content ∙ c.loop-n.invariant.same;
      later = omega (arith, before, now);
      small = c.in-Ok.ensures.small c.loop-n.invariant.small;
      rows = λ h is len none. gathered_more c.args.now c.loop-n.n h c.loop-n.commits.items c.gather_one.new.commits.items (omega (arith, less, len)) (c.loop-n.invariant.rows h is len none) (c.in-Ok.ensures.added h (c.loop-n.invariant.same ∙ is));
    }
