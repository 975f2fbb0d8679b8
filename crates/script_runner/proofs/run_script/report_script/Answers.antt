use Rattle.std.proofs.Common.{◌+◌, length, option_map, refl, sym, ap, ◌∙◌, arith}
use Rattle.std.specs.Vec.Iter.{into_iter_items, into_iter_len}
use Rattle.region_state.specs.AsModel.{answer_of}
use Rattle.script_runner.specs.declared.report_state.LinePlace.{LinePlace}
use Rattle.script_runner.proofs.Loops.{left_length, finds_ready, finds_free, telling_none, telling_more}
use Rattle.script_runner.proofs.run_script.report_script.Goals as goal

pub loop-line-init : goal.loop-line-init
loop-line-init g c =
    let gives = c.into_iter-line-iterator.ensures.into_iter_gives in (
      tt,
      tt,
      gives.1 ∙ (let fits = c.into_vec-line-items.result.ok in omega (arith, fits)) ∙ ap length (sym gives.0),
      telling_none g.K.Keeper.content g.K.Keeper.faults g.S.RegionStore.cache c.args.farm.now c.no_readings-at.result c.args.lines (into_iter_items c.into_iter-line-iterator.result) 0 _ (g.O.Sink.written c.args.sink.now) (g.O.Sink.faults c.args.sink.now)
          c.requires.runnable c.no_readings-at.ensures (gives.0 ∙ c.into_vec-line-items.ensures) refl refl,
    )

pub make_next-said-requires-clause-free : goal.make_next-said-requires-clause-free
make_next-said-requires-clause-free g c =
    let i = c.loop-line.invariant.3 in
    finds_free g.K.Keeper.content g.K.Keeper.faults g.S.RegionStore.cache c.args.farm.now c.loop-line.farm c.loop-line.at c.args.lines c.loop-line.yielded (into_iter_items c.next.new.self) (into_iter_items c.loop-line.line-iterator) c.in-Some.line i.text i.answers
    c.requires.runnable c.in-Some.ensures.steps.0 i.all_is i.under_way

pub make_next-said-requires-clause-ready : goal.make_next-said-requires-clause-ready
make_next-said-requires-clause-ready g c =
    let i = c.loop-line.invariant.3 in
    finds_ready g.K.Keeper.content g.K.Keeper.faults g.S.RegionStore.cache c.args.farm.now c.loop-line.farm c.loop-line.at c.args.lines c.loop-line.yielded (into_iter_items c.next.new.self) (into_iter_items c.loop-line.line-iterator) c.in-Some.line i.text i.answers
    c.requires.runnable c.in-Some.ensures.steps.0 i.all_is i.under_way

pub loop-line-preserved : goal.loop-line-preserved
loop-line-preserved g c =
    let i = c.loop-line.invariant.3 in (
      tt,
      tt,
      left_length (into_iter_len c.loop-line.line-iterator) (into_iter_len c.next.new.self) (into_iter_items c.loop-line.line-iterator) (into_iter_items c.next.new.self) c.in-Some.line c.loop-line.invariant.2 c.in-Some.ensures.steps,
      telling_more g.K.Keeper.content g.K.Keeper.faults g.S.RegionStore.cache c.args.farm.now c.loop-line.farm c.make_next-said.new.farm c.loop-line.at c.make_next-said.new.at c.args.lines c.loop-line.yielded (into_iter_items c.next.new.self) (into_iter_items c.loop-line.line-iterator) c.in-Some.line c.loop-line.number (c.loop-line.number + 1) (record { number = c.loop-line.number + 1; composite = c.is_composite.result }) c.loop-line.told c.tell-told.result (option_map answer_of c.make_next-said.result)
          (g.O.Sink.written c.args.sink.now) (g.O.Sink.written c.loop-line.sink) (g.O.Sink.written c.tell-told.new.sink) (g.O.Sink.faults c.args.sink.now) (g.O.Sink.faults c.loop-line.sink) (g.O.Sink.faults c.tell-told.new.sink)
          c.requires.runnable c.in-Some.ensures.steps.0 i refl (ap (λ b. let p : LinePlace = record { number = c.loop-line.number + 1; composite = b } in p) c.is_composite.ensures) c.make_next-said.ensures.at c.make_next-said.ensures.made c.tell-told.ensures,
    )
