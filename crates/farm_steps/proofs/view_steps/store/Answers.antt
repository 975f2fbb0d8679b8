use Rattle.std.proofs.Common.{◌≡◌, None, Option, refl, sym, subst, ◌∙◌}
use Rattle.wiki_model.specs.declared.Region.{Region}
use Rattle.region_state.specs.declared.open_view.OpenView.{OpenView}
use Rattle.region_state.specs.declared.snap_view.Snapped.{Snapped}
use Rattle.region_state.specs.AsModel.{answer_of}
use Rattle.farm_steps.specs.Moments.{moment_of}
use Rattle.region_state.specs.StoreView.{StoresIn}
use Rattle.farm_steps.specs.ViewSteps.{StoresTo, region_at, other_region}
use Rattle.farm_steps.proofs.Twice.{placed_twice}
use Rattle.farm_steps.proofs.view_steps.store.Goals as goal

pub returns-in-Home : goal.returns-in-Home
returns-in-Home g c =
    let cache_of = g.S.RegionStore.cache in
    let said = answer_of c.store.result in
    let old = c.args.requests.now.entries in
    let new = c.close.new.requests.entries in
    let view = c.in-Some.view in
    subst (λ (o : Option (OpenView × Snapped)). StoresTo cache_of c.args.home.now c.args.west.now c.store.new.self c.args.west.now c.args.at c.args.id old new said o) (sym c.in-Some.is ∙ c.take_snapped_view.ensures.value) (
      placed_twice old c.take_snapped_view.new.requests.entries new c.args.id None c.in-Some.ensures.taken c.close.ensures,
      subst (λ (r : Region). StoresIn cache_of (region_at r c.args.home.now c.args.west.now) (region_at r c.store.new.self c.args.west.now) view.ask.title c.in-Some.snapped (moment_of r c.args.at) said) (sym c.in-Home.is) c.store.ensures.stores,
      subst (λ (r : Region). region_at (other_region r) c.store.new.self c.args.west.now ≡ region_at (other_region r) c.args.home.now c.args.west.now) (sym c.in-Home.is) refl,
    )

pub returns : goal.returns
returns g c =
    let cache_of = g.S.RegionStore.cache in
    let said = answer_of c.store-in-West.result in
    let old = c.args.requests.now.entries in
    let new = c.close.new.requests.entries in
    let view = c.in-Some.view in
    subst (λ (o : Option (OpenView × Snapped)). StoresTo cache_of c.args.home.now c.args.west.now c.args.home.now c.store-in-West.new.self c.args.at c.args.id old new said o) (sym c.in-Some.is ∙ c.take_snapped_view.ensures.value) (
      placed_twice old c.take_snapped_view.new.requests.entries new c.args.id None c.in-Some.ensures.taken c.close.ensures,
      subst (λ (r : Region). StoresIn cache_of (region_at r c.args.home.now c.args.west.now) (region_at r c.args.home.now c.store-in-West.new.self) view.ask.title c.in-Some.snapped (moment_of r c.args.at) said) (sym c.in-West.is) c.store-in-West.ensures.stores,
      subst (λ (r : Region). region_at (other_region r) c.args.home.now c.store-in-West.new.self ≡ region_at (other_region r) c.args.home.now c.args.west.now) (sym c.in-West.is) refl,
    )
