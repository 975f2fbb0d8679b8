use Rattle.std.proofs.Common.{◌≡◌, [], Some, sym, subst, ◌∙◌}
use Rattle.wiki_model.specs.Steps.{Rose}
use Rattle.wiki_cli.specs.Ends.{Stirs, IsSummaryOf}
use Rattle.wiki_cli.specs.RunFarm.{kept_by}
use Rattle.wiki_cli.specs.Commands.{IsCommandEnd, OfKeepers}
use Rattle.wiki_cli.specs.declared.command.Command.{Command}
use Rattle.wiki_cli.specs.declared.command.ScriptCommand.TheVariants.{Drill, Stir}
use Rattle.wiki_cli.proofs.CommandWords.{not_none, one_script, one_serve}
use Rattle.wiki_cli.proofs.Complete.{drill_ends_well, stir_ends_well, serve_ends_well, no_usage}
use Rattle.wiki_cli.proofs.Serving.{refused_layout}
use Rattle.wiki_cli.proofs.outside.run.Goals as goal

pub returns-in_default-clause-stir : goal.returns-in_default-clause-stir
returns-in_default-clause-stir g c = λ seed steps are. absurd (c.in_default.ensures.0 (Stir seed steps) are)

pub returns-in_default-clause-complete_drill : goal.returns-in_default-clause-complete_drill
returns-in_default-clause-complete_drill g c = λ are script calm reading writing. absurd (c.in_default.ensures.0 Drill are)

pub returns-in_default-clause-complete_stir : goal.returns-in_default-clause-complete_stir
returns-in_default-clause-complete_stir g c = λ seed steps are calm writing. absurd (c.in_default.ensures.0 (Stir seed steps) are)

pub returns-clause-stir : goal.returns-clause-stir
returns-clause-stir g c = λ seed steps are.
    let is = one_script c.args.words.now c.in-Some.command (Stir seed steps) c.in-Some.ensures are in
    subst (λ k. OfKeepers k (Some c.perform-ended.result.keeper) (λ before after. g.K.Keeper.content before ≡ Some [] → Stirs seed steps (g.K.Keeper.faults before) (kept_by g.K.Keeper.content g.K.Keeper.faults after) (Rose (g.O.Sink.faults c.args.outside.now.sink) (g.O.Sink.faults c.perform-ended.new.outside.sink)) (g.O.Sink.written c.args.outside.now.sink) (g.O.Sink.written c.perform-ended.new.outside.sink) c.perform-ended.result.status))
    (sym (sym c.take.ensures.value ∙ c.unwrap-keeper.ensures)) (c.perform-ended.ensures.stirs seed steps is)

pub returns-clause-complete_drill : goal.returns-clause-complete_drill
returns-clause-complete_drill g c = λ are script calm reading writing.
    let e = c.perform-ended.ensures in
    let is = one_script c.args.words.now c.in-Some.command Drill c.in-Some.ensures are in
    let content = g.K.Keeper.content in
    let faults = g.K.Keeper.faults in
    let there = sym c.take.ensures.value ∙ c.unwrap-keeper.ensures in
    drill_ends_well content faults (Rose (g.O.Sink.faults c.args.outside.now.sink) (g.O.Sink.faults c.perform-ended.new.outside.sink)) c.perform-ended.result.status (g.I.Source.left c.args.outside.now.source) (Some c.unwrap-keeper.result) (Some c.perform-ended.result.keeper)
    (subst (λ (d : Command). IsCommandEnd d c.perform-ended.result.status) is e.end) script e.refused (λ fault. reading (e.read fault)) writing
    (subst (λ k. OfKeepers k (Some c.perform-ended.result.keeper) (λ before after. (content before ≡ Some []) × (Rose (faults before) (faults after) → ⊥))) there calm) e.entries e.cause

pub returns-clause-complete_stir : goal.returns-clause-complete_stir
returns-clause-complete_stir g c = λ seed steps are calm writing.
    let e = c.perform-ended.ensures in
    let content = g.K.Keeper.content in
    let faults = g.K.Keeper.faults in
    let there = sym c.take.ensures.value ∙ c.unwrap-keeper.ensures in
    let is = one_script c.args.words.now c.in-Some.command (Stir seed steps) c.in-Some.ensures are in
    stir_ends_well content faults (Rose (g.O.Sink.faults c.args.outside.now.sink) (g.O.Sink.faults c.perform-ended.new.outside.sink)) c.perform-ended.result.status (Some c.unwrap-keeper.result) (Some c.perform-ended.result.keeper)
    (λ before after. IsSummaryOf seed steps (faults before) (kept_by content faults after)) (g.O.Sink.written c.args.outside.now.sink) (g.O.Sink.written c.perform-ended.new.outside.sink) writing
    (subst (λ k. OfKeepers k (Some c.perform-ended.result.keeper) (λ before after. (content before ≡ Some []) × (Rose (faults before) (faults after) → ⊥))) there calm) (e.stirs seed steps is) e.cause

pub returns-in_default-clause-serve : goal.returns-in_default-clause-serve
returns-in_default-clause-serve g c = λ wanted are. absurd (c.in_default.ensures.1 wanted are)

pub returns-clause-words : goal.returns-clause-words
returns-clause-words g c = (
  (λ usage. absurd (no_usage c.in-Some.command c.perform-ended.result.status c.perform-ended.ensures.end usage)),
  (λ none. absurd (not_none c.args.words.now c.in-Some.command c.in-Some.ensures none)),
)

pub returns-clause-serve : goal.returns-clause-serve
returns-clause-serve g c = λ wanted are.
    let is = one_serve c.args.words.now c.in-Some.command wanted c.in-Some.ensures are in
    rw (sym c.take.ensures.value ∙ c.unwrap-keeper.ensures) (c.perform-ended.ensures.serves wanted is)

pub returns-in_default-clause-complete_serve : goal.returns-in_default-clause-complete_serve
returns-in_default-clause-complete_serve g c = λ wanted are layout calm reading writing door. absurd (c.in_default.ensures.1 wanted are)

pub returns-clause-complete_serve : goal.returns-clause-complete_serve
returns-clause-complete_serve g c = λ wanted are layout calm reading writing door.
    let e = c.perform-ended.ensures in
    let content = g.K.Keeper.content in
    let faults = g.K.Keeper.faults in
    let left = g.I.Source.left c.args.outside.now.source in
    let there = sym c.take.ensures.value ∙ c.unwrap-keeper.ensures in
    let is = one_serve c.args.words.now c.in-Some.command wanted c.in-Some.ensures are in
    serve_ends_well content faults (Rose (g.O.Sink.faults c.args.outside.now.sink) (g.O.Sink.faults c.perform-ended.new.outside.sink)) c.perform-ended.result.status left (Some c.unwrap-keeper.result) (Some c.perform-ended.result.keeper)
    (subst (λ (d : Command). IsCommandEnd d c.perform-ended.result.status) is e.end) layout (refused_layout _ wanted left _ _ _ _ _ c.perform-ended.result.status (e.serves wanted is)) (λ fault. reading (e.read fault)) (λ fault. door (e.door fault)) writing
    (subst (λ k. OfKeepers k (Some c.perform-ended.result.keeper) (λ before after. Rose (faults before) (faults after) → ⊥)) there calm) e.cause
