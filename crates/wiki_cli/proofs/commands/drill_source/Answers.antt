use Rattle.std.proofs.Common.{◌≡◌, [], Some, sym, subst}
use Rattle.wiki_model.specs.Steps.{Rose}
use Rattle.wiki_cli.specs.Ends.{Says, Drills, IsRefusedBy}
use Rattle.wiki_cli.specs.RunFarm.{kept_by}
use Rattle.wiki_cli.proofs.Scripts.{drills_input, refused_input}
use Rattle.wiki_cli.proofs.commands.drill_source.Goals as goal

pub returns-in-Ok-clause-drills : goal.returns-in-Ok-clause-drills
returns-in-Ok-clause-drills g c =
    let content = g.K.Keeper.content in
    let faults = g.K.Keeper.faults in
    let kept = kept_by content faults c.drill_bytes.result.keeper in
    let failed = Rose (g.O.Sink.faults c.args.sink.now) (g.O.Sink.faults c.drill_bytes.new.sink) in
    let before = g.O.Sink.written c.args.sink.now in
    let after = g.O.Sink.written c.drill_bytes.new.sink in
    drills_input (g.I.Source.left c.args.source.now) (g.I.Source.left c.read_all.new.source) c.in-Ok.bytes.items (content c.args.keeper ≡ Some []) (faults c.args.keeper) kept failed before after c.drill_bytes.result.status c.in-Ok.ensures.all
    (λ empty. subst (λ b. Drills b (faults c.args.keeper) kept failed before after c.drill_bytes.result.status) c.deref.ensures.value (c.drill_bytes.ensures.drills empty))

pub returns-in-Ok-clause-refused : goal.returns-in-Ok-clause-refused
returns-in-Ok-clause-refused g c =
    refused_input (g.I.Source.left c.args.source.now) (g.I.Source.left c.read_all.new.source) c.in-Ok.bytes.items c.drill_bytes.result.status c.in-Ok.ensures.all
    (subst (λ b. IsRefusedBy b c.drill_bytes.result.status) c.deref.ensures.value c.drill_bytes.ensures.refused)

pub returns-in-Err-Failed-clause-says : goal.returns-in-Err-Failed-clause-says
returns-in-Err-Failed-clause-says g c =
    subst (λ s. Says (Rose (g.O.Sink.faults c.args.sink.now) (g.O.Sink.faults c.refuse.new.sink)) (g.O.Sink.written c.args.sink.now) (g.O.Sink.written c.refuse.new.sink) s) (sym c.refuse.ensures.status) c.refuse.ensures.written
