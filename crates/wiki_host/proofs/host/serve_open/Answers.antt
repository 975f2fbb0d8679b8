use Rattle.slot_cache.specs.AsModel.{map_of}
use Rattle.wiki_host.proofs.WholeHosting.{closed}
use Rattle.wiki_host.proofs.host.serve_open.Goals as goal

pub returns-clause-visits : goal.returns-clause-visits
returns-clause-visits g c =
    closed _ _ _ _ _ _ _ _ _ _ g.K.Keeper.content g.K.Keeper.faults map_of c.serve_visits-visited.new.host.served.farm
    c.serve_visits-visited.new.host.served.sent c.close-keeper.result.0 c.serve_visits-visited.result
    c.visits_end.result c.serve_visits-visited.ensures.visits c.close-keeper.ensures.keeper c.visits_end.ensures
