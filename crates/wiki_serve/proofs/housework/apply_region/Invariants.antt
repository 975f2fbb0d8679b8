use Rattle.std.proofs.Common.{◌-◌, ◌≤◌}
use Rattle.slot_cache.specs.AsModel.{map_of}
use Rattle.wiki_serve.specs.Housework.{AppliesTo}
use Rattle.wiki_serve.proofs.housework.apply_region.Given as goal

abbrev pub invariant-applying : goal.invariant-applying
invariant-applying g l = record {
  within : l.replica ≤ l.count;
  applies : AppliesTo g.K.Keeper.content g.K.Keeper.faults map_of l.fn.farm l.farm l.at l.region l.pace l.replica;
}

abbrev pub decreases-applying : goal.decreases-applying
decreases-applying g l = l.count - l.replica
