use Rattle.std.proofs.Common.{ℕ, ◌∙◌, ap, subst, sym}
use Rattle.std.proofs.lemmas.List.{length-map}
use Rattle.wiki_model.specs.Steps.{region_of}
use Rattle.wiki_model.specs.Serving.{room_beside}
use Rattle.slot_cache.specs.AsModel.{map_of}
use Rattle.region_state.specs.AsModel.{view_of}
use Rattle.wiki_serve.specs.BatchSteps.{pair_of}
use Rattle.wiki_serve.specs.Housework.{wire_seen, DoesHousework}
use Rattle.wiki_serve.specs.HoldingBack.{held_of}
use Rattle.wiki_serve.proofs.serve_batch.serve_batch.Goals as goal

pub returns : goal.returns
returns g c = record {
  middle = c.keep_house.new.served.farm;
  held = held_of c.keep_house.new.held;
  housework = subst
      (λ (n : ℕ). DoesHousework g.K.Keeper.content g.K.Keeper.faults map_of c.args.served.now.farm c.keep_house.new.served.farm c.args.served.now.sent c.keep_house.new.served.sent c.args.at.now
      (wire_seen (g.W.Wire.carried c.args.wire.now) (g.W.Wire.refused c.args.wire.now) (g.W.Wire.empty c.args.wire.now)) (wire_seen (g.W.Wire.carried c.keep_house.new.wire) (g.W.Wire.refused c.keep_house.new.wire) (g.W.Wire.empty c.keep_house.new.wire)) n (held_of c.keep_house.new.held))
      (c.requires.beside ∙ ap (room_beside (region_of (view_of c.args.ask.view))) (sym (length-map c.args.ask.drawn.items pair_of))) c.keep_house.ensures.keeps;
  own = c.make_batch.ensures;
}
