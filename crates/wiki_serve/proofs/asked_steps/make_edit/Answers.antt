use Rattle.std.proofs.Common.{sym, ◌∙◌}
use Rattle.slot_cache.specs.AsModel.{map_of}
use Rattle.wiki_serve.proofs.Asked.{edit_refused, edit_decided, edit_made}
use Rattle.wiki_serve.proofs.asked_steps.make_edit.Goals as goal

pub returns-then-is_some : goal.returns-then-is_some
returns-then-is_some g c = edit_refused g.K.Keeper.content g.K.Keeper.faults map_of c.args.farm.now c.arrive-opened.new.self c.args.at.now c.args.ask c.of_edit.result c.arrive-opened.result c.of_edit.ensures (sym c.if-is_some.true ∙ c.is_some.ensures) c.arrive-opened.ensures

pub returns-then-is_some-2 : goal.returns-then-is_some-2
returns-then-is_some-2 g c = edit_decided g.K.Keeper.content g.K.Keeper.faults map_of c.args.farm.now c.arrive-opened.new.self c.begin-begun.new.self c.args.at.now c.args.ask c.of_edit.result c.arrive-opened.result c.begin-begun.result c.of_edit.ensures
    (sym c.if-is_some.false ∙ c.is_some.ensures) (sym c.if-is_some-2.true ∙ c.is_some-2.ensures) c.arrive-opened.ensures c.begin-begun.ensures

pub returns : goal.returns
returns g c = edit_made g.K.Keeper.content g.K.Keeper.faults map_of c.args.farm.now c.arrive-opened.new.self c.begin-begun.new.self c.commit.new.self c.args.at.now c.args.ask c.of_edit.result c.arrive-opened.result c.begin-begun.result c.commit.result c.of_edit.ensures
    (sym c.if-is_some.false ∙ c.is_some.ensures) (sym c.if-is_some-2.false ∙ c.is_some-2.ensures) c.arrive-opened.ensures c.begin-begun.ensures c.commit.ensures
