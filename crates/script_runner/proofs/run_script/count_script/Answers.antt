use Rattle.std.proofs.Common.{length, option_map, sym, ap, ◌∙◌, arith}
use Rattle.std.specs.Vec.Iter.{into_iter_items, into_iter_len}
use Rattle.region_state.specs.AsModel.{answer_of}
use Rattle.script_runner.proofs.Loops.{left_length, finds_ready, finds_free, counting_none, counting_more}
use Rattle.script_runner.proofs.run_script.count_script.Goals as goal

pub loop-line-init : goal.loop-line-init
loop-line-init g c =
    let gives = c.into_iter-line-iterator.ensures.into_iter_gives in (
      tt,
      tt,
      gives.1 ∙ (let fits = c.into_vec-line-items.result.ok in omega (arith, fits)) ∙ ap length (sym gives.0),
      counting_none g.K.Keeper.content g.K.Keeper.faults g.S.RegionStore.cache c.args.farm.now c.no_readings-at.result c.args.lines (into_iter_items c.into_iter-line-iterator.result) c.new-summary.result
          c.requires.runnable c.no_readings-at.ensures (gives.0 ∙ c.into_vec-line-items.ensures) c.new-summary.ensures.none c.new-summary.ensures.ordered,
    )

pub make_next-said-requires-clause-free : goal.make_next-said-requires-clause-free
make_next-said-requires-clause-free g c =
    let i = c.loop-line.invariant.3 in
    finds_free g.K.Keeper.content g.K.Keeper.faults g.S.RegionStore.cache c.args.farm.now c.loop-line.farm c.loop-line.at c.args.lines c.loop-line.yielded (into_iter_items c.next.new.self) (into_iter_items c.loop-line.line-iterator) c.in-Some.line i.text i.answers
    c.requires.runnable c.in-Some.ensures.steps.0 i.all_is i.under_way

pub make_next-said-requires-clause-ready : goal.make_next-said-requires-clause-ready
make_next-said-requires-clause-ready g c =
    let i = c.loop-line.invariant.3 in
    finds_ready g.K.Keeper.content g.K.Keeper.faults g.S.RegionStore.cache c.args.farm.now c.loop-line.farm c.loop-line.at c.args.lines c.loop-line.yielded (into_iter_items c.next.new.self) (into_iter_items c.loop-line.line-iterator) c.in-Some.line i.text i.answers
    c.requires.runnable c.in-Some.ensures.steps.0 i.all_is i.under_way

pub loop-line-preserved : goal.loop-line-preserved
loop-line-preserved g c =
    let i = c.loop-line.invariant.3 in (
      tt,
      tt,
      left_length (into_iter_len c.loop-line.line-iterator) (into_iter_len c.next.new.self) (into_iter_items c.loop-line.line-iterator) (into_iter_items c.next.new.self) c.in-Some.line c.loop-line.invariant.2 c.in-Some.ensures.steps,
      counting_more g.K.Keeper.content g.K.Keeper.faults g.S.RegionStore.cache c.args.farm.now c.loop-line.farm c.make_next-said.new.farm c.loop-line.at c.make_next-said.new.at c.args.lines c.loop-line.yielded (into_iter_items c.next.new.self) (into_iter_items c.loop-line.line-iterator) c.in-Some.line c.loop-line.summary c.count.new.summary (option_map answer_of c.make_next-said.result)
          c.requires.runnable c.in-Some.ensures.steps.0 i c.make_next-said.ensures.at c.make_next-said.ensures.made c.count.ensures.counted c.count.ensures.ordered,
    )
