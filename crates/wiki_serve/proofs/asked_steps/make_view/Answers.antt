use Rattle.std.proofs.Common.{◌≡◌, false, true, sym, ◌∙◌}
use Rattle.slot_cache.specs.AsModel.{map_of}
use Rattle.wiki_serve.proofs.Asked.{view_refused, view_lags, view_waited, view_hits, view_is_refused, view_made}
use Rattle.wiki_serve.proofs.asked_steps.make_view.Goals as goal

pub returns-then-is_some : goal.returns-then-is_some
returns-then-is_some g c = view_refused g.K.Keeper.content g.K.Keeper.faults map_of c.args.farm.now c.arrive-opened.new.self c.args.at.now c.args.ask c.of_view.result c.arrive-opened.result c.of_view.ensures (sym c.if-is_some.true ∙ c.is_some.ensures) c.arrive-opened.ensures

pub returns-then-is_some-2 : goal.returns-then-is_some-2
returns-then-is_some-2 g c = view_lags g.K.Keeper.content g.K.Keeper.faults map_of c.args.farm.now c.arrive-opened.new.self c.wait-waited.new.self c.args.at.now c.args.ask c.of_view.result c.arrive-opened.result c.wait-waited.result c.of_view.ensures
    (sym c.if-is_some.false ∙ c.is_some.ensures) (sym c.if-is_some-2.true ∙ c.is_some-2.ensures) c.arrive-opened.ensures c.wait-waited.ensures

pub returns-then-not-has_missed : goal.returns-then-not-has_missed
returns-then-not-has_missed g c = view_hits g.K.Keeper.content g.K.Keeper.faults map_of c.args.farm.now c.arrive-opened.new.self c.wait-waited.new.self c.look-looked.new.self c.args.at.now c.args.ask c.look-looked.result
    (view_waited g.K.Keeper.content g.K.Keeper.faults map_of c.args.farm.now c.arrive-opened.new.self c.wait-waited.new.self c.args.at.now c.args.ask c.of_view.result c.arrive-opened.result c.wait-waited.result c.of_view.ensures (sym c.if-is_some.false ∙ c.is_some.ensures) (sym c.if-is_some-2.false ∙ c.is_some-2.ensures) c.arrive-opened.ensures c.wait-waited.ensures)
    (λ m. let both : false ≡ true = sym c.if-not-has_missed.true ∙ c.has_missed.ensures.1 m in let never : ⊥ = cc in never) c.look-looked.ensures

pub returns-then-is_some-3 : goal.returns-then-is_some-3
returns-then-is_some-3 g c = view_is_refused g.K.Keeper.content g.K.Keeper.faults map_of c.args.farm.now c.arrive-opened.new.self c.wait-waited.new.self c.look-looked.new.self c.snap-snapped.new.self c.args.at.now c.args.ask c.look-looked.result c.snap-snapped.result
    (view_waited g.K.Keeper.content g.K.Keeper.faults map_of c.args.farm.now c.arrive-opened.new.self c.wait-waited.new.self c.args.at.now c.args.ask c.of_view.result c.arrive-opened.result c.wait-waited.result c.of_view.ensures (sym c.if-is_some.false ∙ c.is_some.ensures) (sym c.if-is_some-2.false ∙ c.is_some-2.ensures) c.arrive-opened.ensures c.wait-waited.ensures)
    (c.has_missed.ensures.0 c.if-not-has_missed.false) (sym c.if-is_some-3.true ∙ c.is_some-3.ensures) c.look-looked.ensures c.snap-snapped.ensures

pub returns : goal.returns
returns g c = view_made g.K.Keeper.content g.K.Keeper.faults map_of c.args.farm.now c.arrive-opened.new.self c.wait-waited.new.self c.look-looked.new.self c.snap-snapped.new.self c.store.new.self c.args.at.now c.args.ask c.look-looked.result c.snap-snapped.result c.store.result
    (view_waited g.K.Keeper.content g.K.Keeper.faults map_of c.args.farm.now c.arrive-opened.new.self c.wait-waited.new.self c.args.at.now c.args.ask c.of_view.result c.arrive-opened.result c.wait-waited.result c.of_view.ensures (sym c.if-is_some.false ∙ c.is_some.ensures) (sym c.if-is_some-2.false ∙ c.is_some-2.ensures) c.arrive-opened.ensures c.wait-waited.ensures)
    (c.has_missed.ensures.0 c.if-not-has_missed.false) (sym c.if-is_some-3.false ∙ c.is_some-3.ensures) c.look-looked.ensures c.snap-snapped.ensures c.store.ensures
