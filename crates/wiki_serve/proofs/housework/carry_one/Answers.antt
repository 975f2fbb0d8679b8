use Rattle.std.specs.Prelude.{option_map, Some}
use Rattle.wiki_model.specs.Steps.{Step}
use Rattle.purge_relay.specs.AsModel.{body_of}
use Rattle.region_state.specs.AsModel.{answer_of}
use Rattle.slot_cache.specs.AsModel.{map_of}
use Rattle.wiki_serve.proofs.Steps.{step_made}
use Rattle.wiki_serve.proofs.housework.carry_one.Goals as goal

pub returns : goal.returns
returns g c = step_made g.K.Keeper.content g.K.Keeper.faults map_of c.args.farm.now c.carry.new.self c.args.at.now (Step.Carry c.args.message.number (Some (body_of c.args.message.body))) (option_map answer_of c.carry.result) c.carry.ensures
