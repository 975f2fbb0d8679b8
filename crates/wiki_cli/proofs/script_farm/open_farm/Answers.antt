use Rattle.wiki_cli.specs.Ends.{together}
use Rattle.script_runner.proofs.Opened.{home_some, home_few, west_some, west_few, delay_few}
use Rattle.wiki_cli.proofs.Farms.{opened}
use Rattle.wiki_cli.proofs.script_farm.open_farm.Goals as goal

pub new-requires-clause-home_some : goal.new-requires-clause-home_some
new-requires-clause-home_some g c = home_some c.args.plan c.requires.plan.0 c.requires.plan.1 together

pub new-requires-clause-home_few : goal.new-requires-clause-home_few
new-requires-clause-home_few g c = home_few c.args.plan c.requires.plan.0 c.requires.plan.1 together

pub new-requires-clause-west_some : goal.new-requires-clause-west_some
new-requires-clause-west_some g c = west_some c.args.plan c.requires.plan.0 c.requires.plan.1 together

pub new-requires-clause-west_few : goal.new-requires-clause-west_few
new-requires-clause-west_few g c = west_few c.args.plan c.requires.plan.0 c.requires.plan.1 together

pub new-requires-clause-delay : goal.new-requires-clause-delay
new-requires-clause-delay g c = delay_few c.args.plan c.requires.plan.0 c.requires.plan.1 together

pub returns-clause-starts : goal.returns-clause-starts
returns-clause-starts g c =
    opened g.K.Keeper.content g.K.Keeper.faults g.S.RegionStore.cache c.args.plan c.args.keeper c.args.caches.home c.args.caches.west c.no_readings.result c.new.result c.no_readings.ensures
    c.requires.home c.requires.west c.new.ensures.fresh c.new.ensures.opens
