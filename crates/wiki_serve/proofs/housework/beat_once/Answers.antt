use Rattle.std.specs.Prelude.{option_map}
use Rattle.wiki_model.specs.Steps.{Step}
use Rattle.region_state.specs.AsModel.{answer_of}
use Rattle.slot_cache.specs.AsModel.{map_of}
use Rattle.wiki_serve.proofs.Steps.{step_made}
use Rattle.wiki_serve.proofs.housework.beat_once.Goals as goal

pub returns : goal.returns
returns g c = step_made g.K.Keeper.content g.K.Keeper.faults map_of c.args.farm.now c.beat.new.self c.args.at.now Step.MakeBeat (option_map answer_of c.beat.result) c.beat.ensures
