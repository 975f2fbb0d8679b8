use Rattle.slot_cache.specs.AsModel.{map_of}
use Rattle.wiki_serve.proofs.Batching.{need_refused, need_lags, need_known}
use Rattle.wiki_serve.proofs.serve_batch.find_need.Goals as goal

pub returns-in-Some : goal.returns-in-Some
returns-in-Some g c = need_refused g.K.Keeper.content g.K.Keeper.faults map_of c.args.farm.now c.arrive-opened.new.self c.args.at.now c.args.view c.of_view.result c.arrive-opened.result c.in-Some.answer c.of_view.ensures c.in-Some.is c.arrive-opened.ensures

pub returns-in-Some-waited : goal.returns-in-Some-waited
returns-in-Some-waited g c = need_lags g.K.Keeper.content g.K.Keeper.faults map_of c.args.farm.now c.arrive-opened.new.self c.wait-waited.new.self c.args.at.now c.args.view c.of_view.result c.arrive-opened.result c.wait-waited.result c.in-Some-waited.answer
    c.of_view.ensures c.in_default.is c.in-Some-waited.is c.arrive-opened.ensures c.wait-waited.ensures

pub returns : goal.returns
returns g c = need_known g.K.Keeper.content g.K.Keeper.faults map_of c.args.farm.now c.arrive-opened.new.self c.wait-waited.new.self c.need.new.self c.args.at.now c.args.view c.of_view.result c.arrive-opened.result c.wait-waited.result c.need.result c.in-Some-need.need
    c.of_view.ensures c.in_default.is c.in_default-waited.is c.in-Some-need.is c.arrive-opened.ensures c.wait-waited.ensures c.need.ensures
