use Rattle.std.specs.Prelude.{map}
use Rattle.slot_cache.specs.AsModel.{map_of}
use Rattle.region_state.specs.AsModel.{answer_of, view_of}
use Rattle.region_round.specs.AsModel.{answers_of}
use Rattle.wiki_serve.specs.BatchSteps.{pair_of}
use Rattle.wiki_serve.specs.HoldingBack.{held_of}
use Rattle.wiki_serve.proofs.Receiving.{jobs_few, jobs_proper, beside_same}
use Rattle.wiki_serve.proofs.Batching.{batch_listed, batch_lost, batch_ended}
use Rattle.wiki_serve.proofs.serve_batch.make_batch.Goals as goal

pub round-requires-clause-few : goal.round-requires-clause-few
round-requires-clause-few g c = λ κs within.
    jobs_few c.find_need.new.farm.ledger.rows c.in-Ok.need c.region_of-region.result c.args.ask.drawn.items c.args.ask.held.messages.items c.view_jobs-views.result.items c.with_receipts-jobs.result.items c.view_jobs-views.ensures.jobs c.with_receipts-jobs.ensures c.requires.jobs.few
    (beside_same c.region_of-region.result c.args.ask c.region_of-region.ensures c.requires.held)

pub round-requires-clause-proper : goal.round-requires-clause-proper
round-requires-clause-proper g c = λ κs within.
    jobs_proper c.find_need.new.farm.ledger.rows c.in-Ok.need c.region_of-region.result c.args.ask.drawn.items c.args.ask.held.messages.items c.view_jobs-views.result.items c.with_receipts-jobs.result.items c.view_jobs-views.ensures.jobs c.with_receipts-jobs.ensures
    (beside_same c.region_of-region.result c.args.ask c.region_of-region.ensures c.requires.held)

pub returns-in-Ok-round : goal.returns-in-Ok-round
returns-in-Ok-round g c =
    batch_listed g.K.Keeper.content g.K.Keeper.faults map_of c.args.farm.now c.find_need.new.farm c.round.new.farm c.args.at.now (view_of c.args.ask.view) c.in-Ok.need c.args.ask.drawn.items (held_of c.args.ask.held) c.view_jobs-views.result.items c.with_receipts-jobs.result.items c.region_of-region.result (answers_of c.in-Ok-round.answers.items)
    c.view_jobs-views.ensures.jobs c.with_receipts-jobs.ensures c.region_of-region.ensures c.in-Ok.ensures c.in-Ok-round.ensures.done.steps

pub returns-in-Err-round : goal.returns-in-Err-round
returns-in-Err-round g c =
    batch_lost g.K.Keeper.content g.K.Keeper.faults map_of c.args.farm.now c.find_need.new.farm c.round.new.farm c.args.at.now (view_of c.args.ask.view) c.in-Ok.need c.args.ask.drawn.items (held_of c.args.ask.held) c.view_jobs-views.result.items c.with_receipts-jobs.result.items c.region_of-region.result
    c.view_jobs-views.ensures.jobs c.with_receipts-jobs.ensures c.region_of-region.ensures c.in-Ok.ensures c.in-Err-round.ensures.lost.steps

pub returns-in-Err : goal.returns-in-Err
returns-in-Err g c =
    batch_ended g.K.Keeper.content g.K.Keeper.faults map_of c.args.farm.now c.find_need.new.farm c.carry_held.new.farm c.args.at.now (view_of c.args.ask.view) (map pair_of c.args.ask.drawn.items) (held_of c.args.ask.held) (answer_of c.in-Err.answer) c.in-Err.ensures c.carry_held.ensures
