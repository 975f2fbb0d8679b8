use Rattle.wiki_model.specs.World.Asked.{AskedEdit}
use Rattle.edit_core.specs.AsModel.{edit_of}
use Rattle.slot_cache.specs.AsModel.{map_of}
use Rattle.wiki_serve.specs.Housework.{wire_seen}
use Rattle.wiki_serve.proofs.CallKinds.{serves_after}
use Rattle.wiki_serve.proofs.serve_arrival.serve_edit.Goals as goal

pub returns : goal.returns
returns g c =
    serves_after g.K.Keeper.content g.K.Keeper.faults map_of c.args.served.now.farm c.keep_house.new.served.farm c.make_edit.new.farm c.args.served.now.sent c.keep_house.new.served.sent c.args.at.now
    (wire_seen (g.W.Wire.carried c.args.wire.now) (g.W.Wire.refused c.args.wire.now) (g.W.Wire.empty c.args.wire.now)) (wire_seen (g.W.Wire.carried c.keep_house.new.wire) (g.W.Wire.refused c.keep_house.new.wire) (g.W.Wire.empty c.keep_house.new.wire)) (AskedEdit (edit_of c.args.ask)) c.none_held-held.result.room c.keep_house.new.held.messages.items c.make_edit.result c.in-Some.answer c.in-Some.is c.none_held-held.ensures.room c.keep_house.ensures.few c.keep_house.ensures.keeps c.make_edit.ensures
