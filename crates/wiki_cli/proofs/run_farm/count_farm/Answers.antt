use Rattle.std.proofs.Common.{◌≤◌, subst, ap, ◌∙◌, arith}
use Rattle.revision_keeper.specs.Causes.{HasFault}
use Rattle.revision_keeper.specs.Keeper.{IsLength}
use Rattle.drill_script.specs.ReadScript.{lines_of}
use Rattle.wiki_cli.proofs.Closing.{summary_ends}
use Rattle.wiki_cli.proofs.RunEnds.{summary_end, summary_risen}
use Rattle.wiki_cli.proofs.run_farm.count_farm.Goals as goal

pub returns-clause-ends : goal.returns-clause-ends
returns-clause-ends g c =
    let content = g.K.Keeper.content in
    let faults = g.K.Keeper.faults in
    summary_ends content faults g.S.RegionStore.cache c.args.farm c.count_script-summary.new.farm (lines_of c.args.lines) c.len-entries.new.self
    (c.len-entries.ensures.content ∙ ap content c.close-keeper.ensures.keeper) c.count_script-summary.ensures.counts.counts
    c.args.steps c.count_script-summary.result c.len-entries.result (g.O.Sink.written c.args.sink.now) (g.O.Sink.written c.close_summary-status.new.sink)
    (g.O.Sink.faults c.args.sink.now) (g.O.Sink.faults c.close_summary-status.new.sink) c.close_summary-status.result
    c.count_script-summary.ensures.counts (subst (λ k. IsLength (content k) c.len-entries.result) c.close-keeper.ensures.keeper c.len-entries.ensures.value)
    (subst (λ k. HasFault (faults k) (faults c.len-entries.new.self) c.len-entries.result) c.close-keeper.ensures.keeper c.len-entries.ensures.cause) c.close_summary-status.ensures

pub returns-clause-end : goal.returns-clause-end
returns-clause-end g c =
    summary_end c.args.steps c.count_script-summary.result c.len-entries.result (g.O.Sink.written c.args.sink.now) (g.O.Sink.written c.close_summary-status.new.sink)
    (g.O.Sink.faults c.args.sink.now) (g.O.Sink.faults c.close_summary-status.new.sink) c.close_summary-status.result c.close_summary-status.ensures

pub returns-clause-cause : goal.returns-clause-cause
returns-clause-cause g c =
    let faults = g.K.Keeper.faults in
    summary_risen c.args.steps c.count_script-summary.result c.len-entries.result (g.O.Sink.written c.args.sink.now) (g.O.Sink.written c.close_summary-status.new.sink)
    (g.O.Sink.faults c.args.sink.now) (g.O.Sink.faults c.close_summary-status.new.sink) c.close_summary-status.result
    (faults c.args.farm.keeper) (faults c.count_script-summary.new.farm.keeper) (faults c.len-entries.new.self) c.count_script-summary.ensures.counts.counts
    (subst (λ k. HasFault (faults k) (faults c.len-entries.new.self) c.len-entries.result) c.close-keeper.ensures.keeper c.len-entries.ensures.cause) c.close_summary-status.ensures

pub returns-clause-counts : goal.returns-clause-counts
returns-clause-counts g c =
    let faults = g.K.Keeper.faults in
    let up = c.count_script-summary.ensures.counts.counts in
    let on = subst (λ k. faults k ≤ faults c.len-entries.new.self) c.close-keeper.ensures.keeper c.len-entries.ensures.cause.later in
    omega (arith, up, on)
