use Rattle.std.proofs.Common.{arith}
use Rattle.slot_cache.specs.AsModel.{map_of}
use Rattle.wiki_serve.proofs.Houses.{applies_none, applies_next}
use Rattle.wiki_serve.proofs.housework.apply_region.Goals as goal

pub applying-init : goal.applying-init
applying-init g c = record {
  within = omega arith;
  applies = applies_none g.K.Keeper.content g.K.Keeper.faults map_of c.args.farm.now c.args.at.now c.args.region c.args.pace;
}

pub applying-preserved : goal.applying-preserved
applying-preserved g c = record {
  within = let less = c.applying-test.true in omega (arith, less);
  applies = applies_next g.K.Keeper.content g.K.Keeper.faults map_of c.args.farm.now c.applying.farm c.apply_one.new.farm c.args.at.now c.args.region c.args.pace c.applying.replica c.applying.invariant.applies c.apply_one.ensures;
}
