use Rattle.std.proofs.Common.{◌∙◌, sym, ap, length, arith}
use Rattle.std.specs.Vec.Iter.{into_iter_items, into_iter_len}
use Rattle.slot_cache.specs.AsModel.{map_of}
use Rattle.wiki_serve.proofs.Drawing.{left_length}
use Rattle.wiki_serve.proofs.Holding.{carrying_none, carrying_more}
use Rattle.wiki_serve.proofs.housework.carry_held.Goals as goal

pub loop-message-init : goal.loop-message-init
loop-message-init g c =
    let gives = c.into_iter-message-iterator.ensures.into_iter_gives in (
      tt,
      tt,
      gives.1 ∙ (let fits = c.args.messages.ok in omega (arith, fits)) ∙ ap length (sym gives.0),
      carrying_none g.K.Keeper.content g.K.Keeper.faults map_of c.args.farm.now c.args.at.now c.args.messages.items (into_iter_items c.into_iter-message-iterator.result) gives.0,
    )

pub loop-message-preserved : goal.loop-message-preserved
loop-message-preserved g c = (
  tt,
  tt,
  left_length (into_iter_len c.loop-message.message-iterator) (into_iter_len c.next.new.self) (into_iter_items c.loop-message.message-iterator) (into_iter_items c.next.new.self) c.in-Some.message c.loop-message.invariant.2 c.in-Some.ensures.steps,
  carrying_more g.K.Keeper.content g.K.Keeper.faults map_of c.args.farm.now c.loop-message.farm c.carry_one.new.farm c.args.at.now c.args.messages.items (into_iter_items c.loop-message.message-iterator) (into_iter_items c.next.new.self) c.in-Some.message
      c.in-Some.ensures.steps.0 c.loop-message.invariant.3 c.carry_one.ensures,
)
