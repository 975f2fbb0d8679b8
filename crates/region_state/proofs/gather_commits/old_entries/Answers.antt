use Rattle.std.proofs.Common.{◌∙◌, List, Option, subst, arith}
use Rattle.std.specs.Prelude.{IfSome}
use Rattle.wiki_model.specs.History.{Entry, IsHistory}
use Rattle.region_state.proofs.GatheringCommits.{old_before}
use Rattle.region_state.proofs.gather_commits.old_entries.Goals as goal

pub returns-in-Ok-false-clause-none : goal.returns-in-Ok-false-clause-none
returns-in-Ok-false-clause-none g c = λ h is len.
    let history = subst (λ (o : Option (List Entry)). IfSome o IsHistory) is c.known.ensures.history in
    let within = c.loop-old.invariant.within in
    old_before c.args.now c.loop-old.old h c.in-Ok-false.field-0 history c.loop-old-test.true (omega (arith, within, len))
    (c.in-Ok-false.ensures.value h (c.loop-old.invariant.same ∙ is)) c.in-Ok-false.field-0-test
