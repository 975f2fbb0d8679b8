use Rattle.std.proofs.Common.{arith}
use Rattle.slot_cache.specs.AsModel.{map_of}
use Rattle.wiki_cli.specs.Ends.{together}
use Rattle.script_runner.proofs.Opened.{held_some, held_short}
use Rattle.wiki_cli.proofs.Farms.{slot_fits}
use Rattle.wiki_cli.proofs.script_farm.new_cache.Goals as goal

pub new-requires-clause-holds : goal.new-requires-clause-holds
new-requires-clause-holds c = let held = held_some c.args.plan.now c.requires.plan.0 c.requires.plan.1 together in let is = c.hold_off.ensures in omega (arith, held, is)

pub new-requires-clause-short : goal.new-requires-clause-short
new-requires-clause-short c = let short = held_short c.args.plan.now c.requires.plan.0 c.requires.plan.1 together in let is = c.hold_off.ensures in omega (arith, short, is)

pub returns : goal.returns
returns c = slot_fits map_of c.args.plan.now c.hold_off.result c.args.slots c.new.result c.hold_off.ensures c.requires.slots c.new.ensures.empty c.new.ensures.hold_off c.new.ensures.together
