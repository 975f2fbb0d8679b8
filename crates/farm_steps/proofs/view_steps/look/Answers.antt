use Rattle.std.proofs.Common.{ℕ, Option, option_map, sym, subst, ◌∙◌}
use Rattle.wiki_model.specs.Cache.{look}
use Rattle.wiki_model.proofs.FrameLaws.{if_map}
use Rattle.wan_cache.specs.Rules.{IsFound}
use Rattle.region_state.specs.declared.open_view.OpenView.{OpenView}
use Rattle.region_state.specs.AsModel.{answer_of}
use Rattle.farm_steps.specs.Moments.{moment_of}
use Rattle.region_state.specs.SnapView.{ask_for}
use Rattle.farm_steps.specs.ViewSteps.{Looks, LooksTo, region_at}
use Rattle.farm_steps.proofs.Twice.{looks_twice}
use Rattle.farm_steps.proofs.view_steps.look.Goals as goal

pub returns : goal.returns
returns g c =
    let cache_of = g.S.RegionStore.cache in
    let said = option_map answer_of c.looked.result in
    let old = c.args.requests.now.entries in
    let new = c.looked.new.requests.entries in
    let view = c.in-Some.view in
    let need = c.in-Some.need in
    let parts = region_at view.region c.args.home.now c.args.west.now in
    subst (λ (o : Option (OpenView × ℕ)). Looks cache_of c.args.home.now c.args.west.now c.args.at c.args.id old new said o) (sym c.in-Some.is ∙ c.take_waited_view.ensures.value)
    (if_map (λ s. IsFound c.look_in-found.result (look (cache_of s) view.ask.title (moment_of view.region c.args.at) (ask_for parts need)))
    (λ s. LooksTo c.args.id view need old new said (look (cache_of s) view.ask.title (moment_of view.region c.args.at) (ask_for parts need))) parts.cache
    (λ s is. looks_twice c.args.id view need old c.take_waited_view.new.requests.entries new said (look (cache_of s) view.ask.title (moment_of view.region c.args.at) (ask_for parts need)) c.in-Some.ensures.taken
    (c.looked.ensures (look (cache_of s) view.ask.title (moment_of view.region c.args.at) (ask_for parts need)) is))
    c.look_in-found.ensures)
