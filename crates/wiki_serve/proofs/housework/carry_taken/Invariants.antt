use Rattle.std.proofs.Common.{◌≡◌, ◌-◌, ◌≤◌}
use Rattle.slot_cache.specs.AsModel.{map_of}
use Rattle.wiki_serve.specs.Housework.{wire_seen, IsTaking}
use Rattle.wiki_serve.specs.HoldingBack.{HasRoom, held_of}
use Rattle.wiki_serve.proofs.housework.carry_taken.Given as goal

abbrev pub invariant-taking : goal.invariant-taking
invariant-taking g l = record {
  few : l.count ≤ 256;
  room : HasRoom l.held;
  same : l.held.room ≡ l.fn.held.room;
  takes : IsTaking g.K.Keeper.content g.K.Keeper.faults map_of l.fn.farm l.farm l.at
      (wire_seen (g.W.Wire.carried l.fn.wire) (g.W.Wire.refused l.fn.wire) (g.W.Wire.empty l.fn.wire))
      (wire_seen (g.W.Wire.carried l.wire) (g.W.Wire.refused l.wire) (g.W.Wire.empty l.wire)) l.fn.held.room (held_of l.held) l.count;
}

abbrev pub decreases-taking : goal.decreases-taking
decreases-taking g l = 256 - l.count
