use Rattle.std.proofs.Common.{◌≤◌, subst, ap, ◌∙◌, arith}
use Rattle.revision_keeper.specs.Causes.{HasFault}
use Rattle.revision_keeper.specs.Keeper.{IsLength}
use Rattle.drill_script.specs.ReadScript.{lines_of}
use Rattle.wiki_cli.proofs.Closing.{report_ends}
use Rattle.wiki_cli.proofs.RunEnds.{report_end, report_risen}
use Rattle.wiki_cli.proofs.run_farm.report_farm.Goals as goal

pub returns-clause-ends : goal.returns-clause-ends
returns-clause-ends g c =
    let content = g.K.Keeper.content in
    let faults = g.K.Keeper.faults in
    report_ends content faults g.S.RegionStore.cache c.args.farm c.report_script-told.new.farm (lines_of c.args.lines) c.len-entries.new.self
    (c.len-entries.ensures.content ∙ ap content c.close-keeper.ensures.keeper) c.report_script-told.ensures.reports.counts
    c.report_script-told.result c.len-entries.result (g.O.Sink.written c.args.sink.now) (g.O.Sink.written c.report_script-told.new.sink) (g.O.Sink.written c.close_report-status.new.sink)
    (g.O.Sink.faults c.args.sink.now) (g.O.Sink.faults c.report_script-told.new.sink) (g.O.Sink.faults c.close_report-status.new.sink) c.close_report-status.result
    c.report_script-told.ensures.reports (subst (λ k. IsLength (content k) c.len-entries.result) c.close-keeper.ensures.keeper c.len-entries.ensures.value)
    (subst (λ k. HasFault (faults k) (faults c.len-entries.new.self) c.len-entries.result) c.close-keeper.ensures.keeper c.len-entries.ensures.cause) c.close_report-status.ensures

pub returns-clause-end : goal.returns-clause-end
returns-clause-end g c =
    report_end c.report_script-told.result c.len-entries.result (g.O.Sink.written c.report_script-told.new.sink) (g.O.Sink.written c.close_report-status.new.sink)
    (g.O.Sink.faults c.report_script-told.new.sink) (g.O.Sink.faults c.close_report-status.new.sink) c.close_report-status.result c.close_report-status.ensures

pub returns-clause-cause : goal.returns-clause-cause
returns-clause-cause g c =
    let faults = g.K.Keeper.faults in
    let r = c.report_script-told.ensures.reports in
    report_risen c.report_script-told.result c.len-entries.result (g.O.Sink.written c.args.sink.now) (g.O.Sink.written c.report_script-told.new.sink) (g.O.Sink.written c.close_report-status.new.sink)
    (g.O.Sink.faults c.args.sink.now) (g.O.Sink.faults c.report_script-told.new.sink) (g.O.Sink.faults c.close_report-status.new.sink) r.text c.close_report-status.result
    (faults c.args.farm.keeper) (faults c.report_script-told.new.farm.keeper) (faults c.len-entries.new.self) r.counts r.reported
    (subst (λ k. HasFault (faults k) (faults c.len-entries.new.self) c.len-entries.result) c.close-keeper.ensures.keeper c.len-entries.ensures.cause) c.close_report-status.ensures

pub returns-clause-counts : goal.returns-clause-counts
returns-clause-counts g c =
    let faults = g.K.Keeper.faults in
    let up = c.report_script-told.ensures.reports.counts in
    let on = subst (λ k. faults k ≤ faults c.len-entries.new.self) c.close-keeper.ensures.keeper c.len-entries.ensures.cause.later in
    omega (arith, up, on)
