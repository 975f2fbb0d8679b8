use Rattle.wiki_host.specs.Opening.{keeper_seen}
use Rattle.wiki_host.specs.Refusals.{breaks_none}
use Rattle.wiki_host.proofs.WholeHosting.{new_refused}
use Rattle.wiki_host.proofs.opening.open_plan.Goals as goal

pub returns-in-Err-open_farm-clause-refused : goal.returns-in-Err-open_farm-clause-refused
returns-in-Err-open_farm-clause-refused g c =
    new_refused breaks_none (keeper_seen (g.K.Keeper.content c.args.keeper) (g.K.Keeper.faults c.args.keeper))
    (keeper_seen (g.K.Keeper.content c.in-Err-open_farm.keeper) (g.K.Keeper.faults c.in-Err-open_farm.keeper))
    (g.C.Clock.exposed c.args.clock.now) (g.C.Clock.exposed c.readings-at.new.self) c.readings-at.result
    c.in-Err-open_farm.fault c.new_end.result c.new_end.ensures c.in-Err-open_farm.ensures.cause
    c.in-Err-open_farm.ensures.back c.readings-at.ensures.value
