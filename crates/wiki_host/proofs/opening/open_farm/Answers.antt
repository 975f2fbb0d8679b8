use Rattle.std.proofs.Common.{refl}
use Rattle.wiki_host.proofs.OpenedFarm.{opened}
use Rattle.wiki_host.proofs.opening.open_farm.Goals as goal

pub returns-in-Ok-clause-opened : goal.returns-in-Ok-clause-opened
returns-in-Ok-clause-opened g c =
    opened g.K.Keeper.content g.K.Keeper.faults g.S.RegionStore.cache c.args.plan c.requires.plan c.args.keeper
    c.args.caches.home c.args.caches.west c.args.at.now c.in-Ok.farm c.set_markup.new.self c.requires.home
    c.requires.west c.in-Ok.ensures.fresh c.in-Ok.ensures.opens c.in-Ok.ensures.counts c.set_markup.ensures 0 refl
