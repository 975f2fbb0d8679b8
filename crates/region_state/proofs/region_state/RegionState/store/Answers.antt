use Rattle.std.proofs.Common.{subst}
use Rattle.region_state.specs.AsModel.{answer_of}
use Rattle.region_state.specs.RegionState.{RegionParts, with_cache}
use Rattle.region_state.specs.StoreView.{StoresIn}
use Rattle.region_state.proofs.StoringPages.{region_stores}
use Rattle.region_state.proofs.region_state.RegionState.store.Goals as goal

pub returns-clause-stores : goal.returns-clause-stores
returns-clause-stores g c =
    let cache_of = g.S.RegionStore.cache in
    let old : RegionParts g.row.S.Denot = record { config = record { weights = c.self.inside.weights.items; epoch = c.self.inside.epoch; read_lag = c.self.inside.read_lag }; markup = c.self.inside.markup; replicas = c.self.inside.replicas.items; positions = c.self.inside.positions; swept = c.self.inside.swept_rows; cache = c.self.inside.cache } in
    let said = answer_of c.store_into.result in
    subst (λ (p : RegionParts g.row.S.Denot). StoresIn cache_of p (with_cache c.store_into.new.cache old) c.args.title.now c.args.snapped.now c.args.now said) c.self.view_is
    (region_stores cache_of old c.store_into.new.cache c.args.title.now c.args.snapped.now c.args.now said c.store_into.ensures.stores)
