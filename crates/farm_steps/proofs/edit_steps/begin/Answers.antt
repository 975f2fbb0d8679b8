use Rattle.std.proofs.Common.{Option, option_map, sym, subst, ◌∙◌}
use Rattle.edit_core.specs.declared.edit_ask.EditAsk.{EditAsk}
use Rattle.region_state.specs.AsModel.{answer_of}
use Rattle.region_state.specs.RegionState.{RegionParts}
use Rattle.farm_steps.specs.EditSteps.{EndsBegin, BeginsTo}
use Rattle.farm_steps.proofs.Twice.{ends_twice}
use Rattle.farm_steps.proofs.edit_steps.begin.Goals as goal

pub returns : goal.returns
returns g c =
    let cache_of = g.S.RegionStore.cache in
    let said = option_map answer_of c.end_begin.result in
    let old = c.args.requests.now.entries in
    let new = c.end_begin.new.requests.entries in
    let begins = c.begin-begun.ensures.begins in
    subst (λ (o : Option EditAsk). BeginsTo cache_of (g.K.Keeper.content c.args.keeper.now) (g.K.Keeper.content c.begin-begun.new.keeper) (g.K.Keeper.faults c.args.keeper.now) (g.K.Keeper.faults c.begin-begun.new.keeper) c.args.home.now c.end_begin.new.home c.args.ledger.now c.end_begin.new.ledger c.args.term.now c.args.term.delay c.args.id old new said o)
    (sym c.in-Some.is ∙ c.take_arrived_edit.ensures.value)
    (record {
      result = c.begin-begun.result;
      cause = c.begin-begun.ensures.cause;
      mid = c.begin-begun.new.ledger;
      positions = begins.after;
      begins = begins.changes;
      ends = ends_twice cache_of _ c.end_begin.new.home c.begin-begun.new.ledger c.end_begin.new.ledger c.args.term.now c.args.id old c.take_arrived_edit.new.requests.entries new said c.begin-begun.result c.in-Some.ensures.taken
          (subst (λ (h : RegionParts g.row.S.Denot). EndsBegin cache_of h c.end_begin.new.home c.begin-begun.new.ledger c.end_begin.new.ledger c.args.term.now c.args.id c.take_arrived_edit.new.requests.entries new said c.begin-begun.result) begins.rest c.end_begin.ensures);
    })
